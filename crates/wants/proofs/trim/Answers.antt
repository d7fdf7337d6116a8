-- `wants::trim` meets its contract: each turn makes one row.
use borrow.Author.Rules.{rules}
use mathlib.Core.Path.{refl, ◌∙◌}
use Prim.Native.Nat.{min}
use native.Mathlib.Omega.{arith}
use lib.ListN.{get_or}
use Rattle.lists.proofs.Arrays.{filled-first, filled_next}
use Rattle.model.specs.Book.{cell}
use Rattle.wants.proofs.Rows.{made-cell, trimmed-same}
use Rattle.wants.proofs.trim.Goals as goal

pub loop-i-init : goal.loop-i-init
loop-i-init c = filled-first refl (search rules)

pub loop-i-preserved : goal.loop-i-preserved
loop-i-preserved c =
    let a = c.args in
    let row = cell a.grid.now c.loop-i.i in
    filled_next c.loop-i.invariant (search rules)
    (λ j l.
    c.take_row-row.ensures j l
    ∙ trimmed-same (get_or a.wants c.loop-i.i 0) (λ k. min (row k) (row k)) row a.windows j l (λ k lk. omega arith))

pub returns : goal.returns
returns c = let at = c.loop-i in λ i j li lj. made-cell _ _ _ _ at.i _ at.invariant c.loop-i-test.false i j li lj
