use mathlib.Core.Path.{ap₂, ◌∙◌, sym}
use Prim.Native.Nat.{ℕ, ◌*◌}
use native.Mathlib.Omega.{arith}
use lib.Dec.{eqb}
use Rattle.dayfile.specs.Table.{grid_right}
use Rattle.dayfile.proofs.Tests.{cond_yes, cond_no, within-as}
use Rattle.fields.proofs.Products.{small}
use Rattle.entries.proofs.grid_right.Goals as goal

pub overflow_mul-result : goal.overflow_mul-result
overflow_mul-result c = let p = small c.seats.ensures.1 c.windows.ensures.1 in omega arith

pub overflow_mul-result-then-within : goal.overflow_mul-result-then-within
overflow_mul-result-then-within c = let p = small c.seats.ensures.1 c.windows.ensures.1 in omega arith

pub returns-then-within : goal.returns-then-within
unfolding grid_right
returns-then-within c =
    let cells = ap₂ (λ (a b : ℕ). a * b) c.seats.ensures.0 c.windows.ensures.0 in
    let k = c.kind in
    let grid = within-as 3 4 k.result c.within.ensures k.ensures.0 in
    ap₂ (λ (a b : ℕ). eqb a (2 * b)) c.size.ensures.0 cells ∙ cond_yes _ _ (sym grid ∙ c.if-within.true)

pub returns-else-within : goal.returns-else-within
unfolding grid_right
returns-else-within c =
    let k = c.kind in
    let grid = within-as 3 4 k.result c.within.ensures k.ensures.0 in cond_no _ _ (sym grid ∙ c.if-within.false)
