-- `listing::put_listing` meets its contract.
use borrow.Author.Rules.{rules}
use mir.Syntax.{w8, w16, w32}
use Rattle.std.proofs.Common.{arith, ap, length}
use Rattle.text.specs.Printing.{Room}
use Rattle.text.proofs.Printing.{room-first, room_next}
use Rattle.answers.specs.Answers.{result_in}
use Rattle.lines.proofs.Bounds.{below}
use Rattle.listing.specs.Listing.{listing_text}
use Rattle.listing.proofs.Bounds.{listing-le}
use Rattle.listing.proofs.put_listing.Goals.{After-printer-1}
use Rattle.listing.proofs.put_listing.Goals as goal

-- the buffer has room for the whole text
fits : (c : After-printer-1) →
    let a = c.args in
    Room c.new-printer.result
    (listing_text a.book.seats a.book.windows a.book.classes a.book.supplies a.sums.placed a.sums.totals (result_in a.res) a.moves.now)
fits c =
    let a = c.args in
    let classes = below w16 a.book.classes (λ i. search rules) in
    let supplies = below w16 a.book.supplies (λ i. search rules) in
    let placed = below w32 a.sums.placed (λ i. search rules) in
    let totals = below w32 a.sums.totals (λ i. search rules) in
    let moves = below w8 a.moves.now c.type_inv.moves in
    let book = listing-le a.book.seats a.book.windows _ _ _ _ (search rules) (search rules) classes supplies placed totals in
    let whole = book (result_in a.res) _ (search rules) (search rules) (search rules) moves c.requires.moves_bound.0 in
    record { fits = omega (arith, whole, ap length c.new-printer.ensures.kept) }

pub put_book_lines-requires-clause-room : goal.put_book_lines-requires-clause-room
unfolding listing_text
put_book_lines-requires-clause-room c = room-first _ _ (fits (goal.at.put_book_lines-requires-clause-room c).After-printer-1)

pub put_result_lines-requires-clause-room : goal.put_result_lines-requires-clause-room
unfolding listing_text
put_result_lines-requires-clause-room c =
    room_next _ _ (fits (goal.at.put_result_lines-requires-clause-room c).After-printer-1) c.put_book_lines.ensures
