use Rattle.sheet.proofs.Shapes.{shaped}
use mathlib.Core.Path.{sym, ◌∙◌, ap}
use Prim.Native.Nat.{ℕ, ◌*◌, ◌≤◌, zero-le}
use native.Mathlib.Nat.{mul-le-mul}
use native.Mathlib.Omega.{arith}
use Rattle.sheet.specs.Sheets.{grid_of}
use Rattle.dayfile.proofs.Answers.{at-line, no_line}
use Rattle.writer.proofs.Bounds.{rows, row-long, row_of, rows-first, rows_more, rows-found}
use Rattle.writer.proofs.lines.above_in.Goals as goal

-- a row's offset
few : (i m : ℕ) → i ≤ 32 → m ≤ 24 → i * m ≤ 768
few i m h k = mul-le-mul h k

pub loop-i-init : goal.loop-i-init
loop-i-init c = let a = c.args in (zero-le, rows-first 0 a.high a.at a.m (grid_of a.grid))

pub slice_bounds-outside_in-end : goal.slice_bounds-outside_in-end
slice_bounds-outside_in-end c =
    sym (row-long c.args.grid (shaped c.args.grid _ c.well_formed.0).shape c.loop-i.i (omega (arith, c.requires)))

pub overflow_mul-i : goal.overflow_mul-i
overflow_mul-i c =
    let q = few c.loop-i.i c.args.m (omega arith) (omega arith) in record { fits = omega arith }

pub overflow_mul-i-in-loop-i : goal.overflow_mul-i-in-loop-i
overflow_mul-i-in-loop-i c =
    let q = few c.loop-i.i c.args.m (omega arith) (omega arith) in record { fits = omega arith }

pub overflow_add-at : goal.overflow_add-at
overflow_add-at c =
    let q = few c.loop-i.i c.args.m (omega arith) (omega arith) in record { fits = omega arith }

pub outside_in-requires : goal.outside_in-requires
outside_in-requires c =
    let q = few c.loop-i.i c.args.m (omega arith) (omega arith) in omega arith

pub returns-in-At : goal.returns-in-At
returns-in-At c =
    let a = c.args in
    sym (rows-found 0 a.high a.at a.m (grid_of a.grid) c.loop-i.i a.n _ c.loop-i-test.true c.loop-i.invariant.1
    (at-line (c.outside_in.ensures ∙ row_of 0 a.high a.at a.m a.grid c.loop-i.i) c.in-At.is))

pub loop-i-preserved : goal.loop-i-preserved
loop-i-preserved c =
    let a = c.args in (
      omega arith,
      rows_more 0 a.high a.at a.m (grid_of a.grid) c.loop-i.i c.loop-i.invariant.1
          (no_line (c.outside_in.ensures ∙ row_of 0 a.high a.at a.m a.grid c.loop-i.i) c.in_default.is),
    )

pub returns : goal.returns
returns c =
    let a = c.args in
    sym (ap (rows 0 a.high a.at a.m (grid_of a.grid)) {x = a.n} {y = c.loop-i.i} (omega arith) ∙ c.loop-i.invariant.1)
