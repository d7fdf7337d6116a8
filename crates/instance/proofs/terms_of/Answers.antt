-- `instance::terms_of` meets its contract. Each turn works out one seat's weight, base and place.
use mathlib.Core.List.{List}
use mathlib.Core.Path.{refl, ◌∙◌, ap}
use Prim.Native.Nat.{ℕ, ◌-◌}
use native.Mathlib.Omega.{arith}
use lib.ListN.{get_or}
use Rattle.lists.proofs.Arrays.{filled-first, filled_next}
use Rattle.instance.proofs.Books.{seats_most, class-ranged, ranged, told}
use Rattle.instance.proofs.terms_of.Goals as goal

pub loop-i-init : goal.loop-i-init
loop-i-init c =
    let few = seats_most _ _ c.requires.1 in
    (filled-first refl few, filled-first refl few, filled-first refl few)

pub weight_in-requires : goal.weight_in-requires
weight_in-requires c =
    class-ranged c.args.book _ c.requires.1 c.loop-i.i c.loop-i-test.true

pub place-requires : goal.place-requires
place-requires c =
    let few = seats_most c.args.book _ c.requires.1 in
    let here = c.loop-i-test.true in
    (omega (arith, few), omega (arith, few, here))

pub loop-i-preserved : goal.loop-i-preserved
loop-i-preserved c =
    let inv = c.loop-i.invariant in
    let here = c.loop-i-test.true in
    let i = c.loop-i.i in
    let class = get_or c.args.book.classes i 0 in
    let weight = c.weight_in.ensures ∙ ap (λ (xs : List ℕ). get_or xs (class - 1) 0) c.weights-table.ensures in
    let base = c.wide.ensures ∙ ap (λ (xs : List ℕ). get_or xs i 0) c.balances-balances.ensures in
    (filled_next inv.0 here weight, filled_next inv.1 here base, filled_next inv.2 here c.place.ensures)

pub returns : goal.returns
returns c =
    let named = c.first_seat-first.ensures in
    let end = c.loop-i-test.false in record {
      ranged = ranged c.args.book c.loop-i.i _ _ _ _ _ _ _ end c.loop-i.invariant named _ c.requires.1;
      told = told c.args.book c.loop-i.i _ _ _ _ _ _ _ end c.loop-i.invariant named _ c.requires.1;
    }
