use mathlib.Core.List.{[]}
use mathlib.Core.Path.{◌∙◌, ap, refl}
use Prim.Native.Nat.{ℕ, ◌*◌, ◌<◌}
use native.Mathlib.Nat.{mul-le-mul}
use native.Mathlib.Omega.{arith}
use lib.ListN.{length}
use Rattle.fairness.specs.Leximin.{table}
use Rattle.lists.proofs.Arrays.{filled-first, filled_next}
use Rattle.sheet.specs.declared.Row.{Row}
use Rattle.sheet.proofs.Cells.{set-row}
use Rattle.dayfile.specs.Layout.{grid_at}
use Rattle.dayfile.specs.Memory.{sized, sized_grid}
use Rattle.fields.proofs.Filling.{filled-blank, blank-rows}
use Rattle.fields.proofs.arrays.grid.Invariants.{row_of}
use Rattle.fields.proofs.arrays.grid.Goals as goal

-- a row's offset
near : (i m : ℕ) → i < 32 → m < 32768 → i * m < 1048576
near i m h k = let q = mul-le-mul {n₁ = i} {m₁ = m} {n₂ = 31} {m₂ = 32768} (omega arith) (omega arith) in omega arith

pub loop-i-init : goal.loop-i-init
unfolding sized_grid table
loop-i-init c = (filled-first (ap length c.no_grid-sheet.ensures) c.least-rows.ensures.1, c.least-rows.ensures)

pub overflow_mul-i : goal.overflow_mul-i
overflow_mul-i c =
    let q = near c.loop-i.i c.args.m (omega arith) (omega arith) in omega arith

pub overflow_mul-i-in-loop-i : goal.overflow_mul-i-in-loop-i
overflow_mul-i-in-loop-i c =
    let q = near c.loop-i.i c.args.m (omega arith) (omega arith) in omega arith

pub overflow_add-at : goal.overflow_add-at
overflow_add-at c =
    let q = near c.loop-i.i c.args.m (omega arith) (omega arith) in omega arith

pub array24-requires : goal.array24-requires
array24-requires c =
    let q = near c.loop-i.i c.args.m (omega arith) (omega arith) in
    (omega arith, omega arith)

pub loop-i-preserved : goal.loop-i-preserved
loop-i-preserved c =
    let l = c.loop-i in
    let row : Row = record { cells = c.array24.result } in
    (rw (set-row l.sheet l.i row) (filled_next l.invariant.0 c.loop-i-test.true c.array24.ensures), l.invariant.1)

pub returns : goal.returns
unfolding sized_grid grid_at
returns c =
    let v = c.loop-i.invariant in
    filled-blank (sized 24) [] (row_of _ _ _) _ refl (c.no_grid-sheet.ensures ∙ blank-rows) v.0 c.loop-i-test.false v.1
