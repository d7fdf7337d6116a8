-- `topmost::grown` meets its contract: each turn widens one set.
use borrow.Author.Rules.{rules}
use mathlib.Core.Path.{◌≡◌}
use mathlib.Core.Logic.{inl, inr, ⊎_elim}
use native.Mathlib.Omega.{arith}
use lib.ListN.{length}
use Rattle.lists.proofs.Arrays.{filled-first, filled_next, filled_at}
use Rattle.topmost.proofs.grown.Goals as goal

pub union_over-beyond-requires : goal.union_over-beyond-requires
union_over-beyond-requires c =
    let long : length c.args.sets ≡ 24 = search rules in
    λ w p. omega (arith, c.requires.by_index w p)

pub loop-w-init : goal.loop-w-init
loop-w-init c = filled-first (search rules) (search rules)

pub loop-w-preserved : goal.loop-w-preserved
loop-w-preserved c = filled_next c.loop-w.invariant (search rules) c.widened.ensures

pub returns : goal.returns
returns c =
    let at = c.loop-w in
    let union = c.union_over-beyond.ensures in
    λ w l v.
    let wide = filled_at at.invariant (search rules) w l v in (
      λ p. ⊎_elim inl (λ q. inr (q.0, union.sound v q.1)) (wide.0 p),
      λ p. wide.1 (⊎_elim inl (λ q. inr (q.0, union.whole v q.1)) p),
    )
