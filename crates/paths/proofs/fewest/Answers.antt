-- `paths::fewest` meets its contract.
use Prim.Native.Nat.{ℕ}
use mathlib.Core.Path.{◌≡◌, sym, ◌∙◌}
use mathlib.Core.Bool.{Bool}
use native.Mathlib.Omega.{arith}
use lib.Dec.{eqb}
use borrow.Author.Tests.{eqb-true, eqb-false}
use Rattle.std.proofs.Common.{rules, tests}
use Rattle.std.specs.List.{position}
use Rattle.std.proofs.lemmas.Iterator.{YieldsList-from_slice}
use Rattle.std.proofs.lemmas.Iterator.Search.{position_from_yields_List}
use Rattle.std.proofs.lemmas.List.Quantifiers.{position-Some}
use Rattle.masks.specs.Sets.{bit}
use Rattle.reach.proofs.Members.{out-zero}
use Rattle.paths.proofs.fewest.Goals as goal

pub returns : goal.returns
returns c =
    let sets = c.args.sets.now in
    let l = c.args.l in
    let test : ℕ → Bool = λ set. eqb (bit set l) 1 in
    let e : c.position.result ≡ position test sets =
    position_from_yields_List test _ _ _ c.position.ensures.ran (YieldsList-from_slice sets cc) (λ x b q k. search (rules, tests)) in
    let first = position-Some test sets c.unwrap.result 0 (sym e ∙ c.unwrap.ensures) in
    record {
      small = omega (arith, first.0);
      here = eqb-true _ _ first.1;
      least = λ q h. out-zero _ l (eqb-false _ _ (first.2 q h));
    }
