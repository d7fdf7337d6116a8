-- `exchange::graph_of` meets its contract. Each turn draws one seat: where it has room, and what it holds.
use borrow.Author.Rules.{rules}
use mathlib.Core.Path.{◌≡◌, refl}
use mathlib.Core.List.{[]}
use native.Mathlib.Omega.{arith}
use lib.ListN.{get_or, length-set}
use Rattle.model.specs.Book.{cell}
use Rattle.reach.proofs.Collect.{rows_none, rows_next}
use Rattle.exchange.proofs.Drawing.{held_first, held_next}
use Rattle.exchange.proofs.graph_of.Goals as goal

pub loop-i-init : goal.loop-i-init
loop-i-init c = (
  omega arith,
  (refl, rows_none _ 0 32 (λ i k l p. omega arith)),
  (refl, held_first (cell c.args.grid.now) _ 0 24 (λ k w l. absurd (omega arith))),
)

pub loop-i-preserved : goal.loop-i-preserved
loop-i-preserved c =
    let at = c.loop-i in
    let a = c.args in
    let long = at.invariant.1.0 in
    let rooms = rows_next _ at.i at.rooms at.invariant.1.1 (omega (arith, long)) in
    let held = held_next (cell a.grid.now) a.t.windows at.i at.holders c.with_holder-more.result in (
      search rules,
      (simp length-set long, rooms _ c.below.ensures),
      (search rules, held (get_or a.grid.now at.i []) at.invariant.2.1 (λ w. refl) c.with_holder-more.ensures),
    )

pub returns : goal.returns
returns c =
    let at = c.loop-i in
    let e : at.i ≡ c.args.t.seats = omega (arith, at.invariant.0) in
    record { rooms_are = rw e at at.invariant.1.1; holders_are = rw e at at.invariant.2.1 }
