-- `listing::put_book_lines` meets its contract.
use Rattle.std.proofs.Common.{rules}
use Rattle.text.proofs.Printing.{room-first, room_next, prints_next}
use Rattle.lines.proofs.Fronts.{windows_front, seats_front}
use Rattle.listing.specs.Listing.{book_lines}
use Rattle.listing.proofs.put_book_lines.Goals as goal

pub put_head_line-requires : goal.put_head_line-requires
unfolding book_lines
put_head_line-requires c = room-first _ _ (room-first _ _ c.requires.room)

pub put_window_lines-requires-clause-room : goal.put_window_lines-requires-clause-room
unfolding book_lines
put_window_lines-requires-clause-room c =
    rw (windows_front c.args.book.windows c.args.book.supplies c.args.sums.placed (search rules))
    (room_next _ _ (room-first _ _ c.requires.room) c.put_head_line.ensures)

pub put_seat_lines-requires-clause-room : goal.put_seat_lines-requires-clause-room
unfolding book_lines
put_seat_lines-requires-clause-room c =
    let windows = windows_front c.args.book.windows c.args.book.supplies c.args.sums.placed (search rules) in
    rw (seats_front c.args.book.seats c.args.book.classes c.args.sums.totals (search rules))
    (room_next _ _ c.requires.room (prints_next _ _ c.put_head_line.ensures (rw windows at c.put_window_lines.ensures)))

pub returns : goal.returns
unfolding book_lines
returns c =
    let windows = windows_front c.args.book.windows c.args.book.supplies c.args.sums.placed (search rules) in
    let seats = seats_front c.args.book.seats c.args.book.classes c.args.sums.totals (search rules) in
    prints_next _ _ (prints_next _ _ c.put_head_line.ensures (rw windows at c.put_window_lines.ensures))
    (rw seats at c.put_seat_lines.ensures)
