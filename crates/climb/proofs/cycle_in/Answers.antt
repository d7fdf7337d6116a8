-- `climb::cycle_in` meets its contract.
use borrow.Author.Rules.{rules}
use native.Mathlib.Omega.{arith}
use mir.Val.{Fits}
use mir.Syntax.{w32}
use Rattle.masks.proofs.Laws.{in_small}
use Rattle.climb.proofs.Searching.{no-goal, goal-room, goal-closes}
use Rattle.climb.proofs.cycle_in.Goals as goal

pub union_over-requires : goal.union_over-requires
union_over-requires c =
    let fits : Fits w32 c.reached-seats.result = search rules in
    λ i p. omega (arith, in_small _ i fits.fits p)

pub returns-then-windows-eq0 : goal.returns-then-windows-eq0
returns-then-windows-eq0 c =
    no-goal c.args.graph.now _ _ _ _ _ c.reached-seats.ensures c.union_over.ensures
    c.intersect-windows.ensures c.if-windows-eq0.true

pub closed_in-requires : goal.closed_in-requires
closed_in-requires c =
    let low = c.lowest.ensures in
    let room = goal-room c.args.graph.now _ _ _ _ _ c.reached-seats.ensures c.union_over.ensures
    c.intersect-windows.ensures _ low.here in record {
      giver_bound = (c.requires, low.small);
      by_index = λ l p. (c.reached-seats.ensures l).0 p;
      through = room;
    }

pub returns : goal.returns
returns c =
    goal-closes c.args.graph.now _ _ _ _ _ c.reached-seats.ensures c.union_over.ensures
    c.intersect-windows.ensures _ c.lowest.ensures.here _ c.closed_in.ensures
