use mathlib.Core.Path.{◌∙◌, sym}
use native.Mathlib.Omega.{arith}
use borrow.Author.Tests.{eq-eqb, ne_eqb}
use Rattle.dayfile.specs.Layout.{entry_of}
use Rattle.dayfile.proofs.Search.{search-first, search-on, search-hit, search-end}
use Rattle.fields.proofs.entry_of.Goals as goal

pub loop-e-init : goal.loop-e-init
loop-e-init c = search-first c.count-n.ensures.0

pub returns-then-kind-k : goal.returns-then-kind-k
unfolding entry_of
returns-then-kind-k c =
    let here = eq-eqb _ _ (sym c.kind.ensures.0 ∙ c.if-kind-k.true) in
    (search-hit c.loop-e.invariant (omega arith) here, omega arith)

pub loop-e-preserved : goal.loop-e-preserved
loop-e-preserved c =
    let i = c.loop-e.invariant in
    let other = ne_eqb _ _ (λ q. c.if-kind-k.false (c.kind.ensures.0 ∙ q)) in search-on i (omega arith) other

pub returns : goal.returns
unfolding entry_of
returns c = (search-end c.loop-e.invariant (omega arith), tt)
