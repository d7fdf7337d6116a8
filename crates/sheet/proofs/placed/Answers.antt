-- `sheet::placed` meets its contract. Each turn adds one seat's cells.
use borrow.Author.Rules.{rules}
use Prim.Native.Nat.{◌<◌, zero-le}
use mathlib.Core.Path.{◌≡◌, sym, ◌∙◌}
use native.Mathlib.Numerals.{add-one}
use native.Mathlib.Omega.{arith}
use Rattle.fairness.proofs.Sums.{sum-zero, sum-suc}
use Rattle.lists.proofs.Arrays.{zeros-at}
use Rattle.model.specs.Book.{cell}
use Rattle.sheet.proofs.placed.Goals as goal

pub loop-i-init : goal.loop-i-init
loop-i-init c = (zero-le, λ j l. (zeros-at 24 j ∙ sym (sum-zero _), omega (arith, zeros-at 24 j)))

pub add_row-next-requires : goal.add_row-next-requires
add_row-next-requires c =
    let l = c.loop-i in
    let few : l.i < 32 = omega (arith, c.loop-i-test.true, c.requires.0) in record {
      windows_bound = c.requires.1;
      by_index = λ j h. omega (arith, (l.invariant.1 j h).1);
    }

pub loop-i-preserved : goal.loop-i-preserved
loop-i-preserved c =
    let l = c.loop-i in
    let grid = c.args.grid.now in (
      search rules,
      λ j h.
          let more = sum-suc l.i (λ k. cell grid k j) in
          let a = c.add_row-next.ensures j h in
          let inv = l.invariant.1 j h in
          (rw (add-one l.i) (omega (arith, a.sum_is, inv.0, more)), omega (arith, a.most, inv.1)),
    )

pub returns : goal.returns
returns c j h =
    let l = c.loop-i in
    let e : l.i ≡ c.args.seats = omega (arith, l.invariant.0, c.loop-i-test.false) in
    rw (← e) (l.invariant.1 j h).0
