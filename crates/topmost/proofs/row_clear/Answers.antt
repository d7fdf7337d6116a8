-- `topmost::row_clear` meets its contract: each turn looks at one window.
use borrow.Author.Rules.{rules}
use mathlib.Core.Path.{◌≡◌, sym}
use mathlib.Core.Bool.{true≢false}
use native.Mathlib.Omega.{arith}
use Rattle.reach.proofs.Members.{has-out}
use Rattle.topmost.proofs.Sets.{clear_first, clear_next, none_after}
use Rattle.topmost.proofs.row_clear.Goals.{then-has+else-intersect-ne0, else-has}
use Rattle.topmost.proofs.row_clear.Goals as goal

pub loop-j-init : goal.loop-j-init
loop-j-init c = (search rules, clear_first c.args.sets c.args.rooms c.args.holds)

pub loop-j-preserved : goal.loop-j-preserved
loop-j-preserved c =
    let at = c.loop-j in
    let next = clear_next at.j c.args.sets c.args.rooms c.args.holds at.invariant.1 in (
      search rules,
      next (λ r w l m. elim c.if-has.branch [
        | then-has+else-intersect-ne0 x ↦ none_after _ _ at.j _ _ _ x.full.ensures x.minus-after.ensures x.intersect.ensures
            x.if-intersect-ne0.false w l m
        | else-has x ↦ absurd (has-out _ _ _ c.has.ensures x.if-has.false r)
      ]),
    )

pub returns-then-intersect-ne0 : goal.returns-then-intersect-ne0
returns-then-intersect-ne0 c = λ e. absurd (true≢false (sym e))

pub returns : goal.returns
returns c =
    let at = c.loop-j in
    let e : at.j ≡ c.args.windows = omega (arith, at.invariant.0) in
    λ t. rw e at at.invariant.1
