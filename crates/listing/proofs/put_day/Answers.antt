-- `listing::put_day` meets its contract: what is in memory gives the listing of its book and sheet.
use Rattle.sheet.specs.Sheets.{grid_of}
use Rattle.answers.specs.Answers.{result_in}
use Rattle.dayfile.proofs.Used.{range-in}
use Rattle.listing.proofs.Memory.{in_memory}
use Rattle.listing.proofs.put_day.Goals as goal

pub put_listing-requires : goal.put_listing-requires
put_listing-requires c =
    let d = c.args.day in
    record {
      listing_max_in_bounds = c.requires.fit.1;
      seats_bound = range-in d.book (grid_of d.caps) c.requires.fit.0;
      moves_bound = c.requires.moves_bound;
    }

pub returns : goal.returns
returns c ms rest stand count =
    let d = c.args.day in
    let text = in_memory d.book (grid_of d.caps) d.sheet c.sums_of-sums.result.placed c.sums_of-sums.result.totals
    c.sums_of-sums.ensures.by_index c.sums_of-sums.ensures.by_index_2
    (result_in c.args.res) c.args.moves.now ms rest stand count in
    rw text at c.put_listing.ensures

pub sums_of-sums-requires : goal.sums_of-sums-requires
sums_of-sums-requires c =
    let d = c.args.day in
    range-in d.book (grid_of d.caps) c.requires.fit.0
