-- `pair::same_book` meets its contract: classes and supplies, then caps.
use mathlib.Core.Path.{sym, ◌∙◌}
use mathlib.Core.Bool.{true≢false}
use Rattle.pair.proofs.Books.{seen}
use Rattle.pair.proofs.same_book.Goals as goal

pub returns-then-not-same_lists : goal.returns-then-not-same_lists
returns-then-not-same_lists c =
    let lists = c.same_lists.ensures in
    seen _ _ _ _ _ (λ e. absurd (true≢false (sym e)), λ h. absurd (true≢false (sym (lists.1 h.0) ∙ c.if-not-same_lists.true)))

pub returns : goal.returns
returns c =
    let lists = c.same_lists.ensures.0 c.if-not-same_lists.false in
    seen _ _ _ _ _ (λ e. (lists, c.same_cells.ensures.0 e), λ h. c.same_cells.ensures.1 h.1)
