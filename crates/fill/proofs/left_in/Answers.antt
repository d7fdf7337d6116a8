-- `fill::left_in` meets its contract. Each turn takes one seat's cell off.
use Rattle.std.proofs.Common.{◌≡◌, ap, ℕ, suc, ◌+◌, ◌≤◌, ◌<◌, List, [], length, get_or, take, arith, add-one}
use Rattle.std.proofs.lemmas.List.{get_or-take, length-take}
use Rattle.fairness.specs.Sums.{sum}
use Rattle.fairness.proofs.Sums.{sum-zero, sum-suc, sum_mono}
use Rattle.model.specs.Book.{Grid, cell}
use Rattle.fill.proofs.left_in.Goals as goal

module _ (n k j left supply : ℕ) (g : Grid) (h : k < length (take n g)) where
  within : k < n
  within = omega (arith, length-take n g)

  -- the next row's cell is the grid's
  here : cell (take n g) k j ≡ cell g k j
  here = ap (λ (r : List ℕ). get_or r j 0) (get_or-take n g k [] within)

  -- and it is still left
  enough : sum k (λ i. cell g i j) + left ≡ supply → sum n (λ i. cell g i j) ≤ supply → cell (take n g) k j ≤ left
  enough e l = omega (arith, here, sum-suc k (λ i. cell g i j), sum_mono (suc k) n (λ i. cell g i j) within)

pub loop-row-init : goal.loop-row-init
loop-row-init c = omega (arith, sum-zero (λ i. cell c.args.grid.now i c.args.window))

pub overflow_sub-left : goal.overflow_sub-left
overflow_sub-left c =
    let a = c.args in
    enough a.seats c.loop-row.row-index a.window c.loop-row.left a.supply a.grid.now c.loop-row-test.true c.loop-row.invariant
    c.requires.window_bound

pub loop-row-preserved : goal.loop-row-preserved
loop-row-preserved c =
    let a = c.args in
    let k = c.loop-row.row-index in
    let more = sum-suc k (λ i. cell a.grid.now i a.window) in
    rw add-one (omega (arith, more, here a.seats k a.window 0 0 a.grid.now c.loop-row-test.true, overflow_sub-left c))
