-- `pair::second_is_higher` meets its contract: both profiles, and which of the two is higher.
use borrow.Author.Rules.{rules}
use Rattle.pair.proofs.Lists.{list_is}
use Rattle.pair.proofs.second_is_higher.Goals as goal

pub is_higher-requires : goal.is_higher-requires
is_higher-requires c =
    let seats = c.terms_of-terms.ensures.ranged.seats_most in
    let one = c.profile-one.ensures.bounded in
    let two = c.profile-two.ensures.bounded in
    search rules

pub returns : goal.returns
returns c caps =
    let first = list_is c.args.book _ caps (c.terms_of-terms.ensures.told caps) c.args.first _ c.profile-one.ensures in
    let second = list_is c.args.book _ caps (c.terms_of-terms.ensures.told caps) c.args.second _ c.profile-two.ensures in
    rw (← first, ← second) c.is_higher.ensures
