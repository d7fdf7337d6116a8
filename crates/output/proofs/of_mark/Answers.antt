-- `output::of_mark` meets its contract: the listing is there, whole.
use Rattle.std.proofs.Common.{rules, ◌≤◌, length}
use Rattle.listing.specs.Listing.{listing_max}
use Rattle.output.proofs.Printed.{lists-whole, lists-refused}
use Rattle.output.proofs.of_mark.Goals as goal

pub returns-in-Whole : goal.returns-in-Whole
returns-in-Whole c =
    let h = lists-whole _ _ _ _ _ c.listing.ensures c.in-Whole.is in record { lists = h.0; upper_bound = h.1 }

pub returns-in-Refused : goal.returns-in-Refused
returns-in-Refused c =
    let long : listing_max ≤ length c.args.out.now = search rules in
    absurd (lists-refused _ _ _ _ _ _ c.listing.ensures c.in-Refused.is long)
