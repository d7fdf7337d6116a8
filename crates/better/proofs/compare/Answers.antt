-- `better::compare` meets its contract: line 17, and then the higher list.
use mathlib.Core.Bool.{Bool, true, true≢false}
use mathlib.Core.Path.{◌≡◌, refl, sym, ◌∙◌}
use Rattle.dayfile.proofs.Used.{range-in}
use Rattle.better.proofs.Choosing.{lists-seen}
use Rattle.better.proofs.compare.Goals as goal

one-book : {a b : Bool} → a ≡ b → a ≡ true → b ≡ true
one-book is e = sym is ∙ e

pub same_book-requires : goal.same_book-requires
same_book-requires c = range-in _ _ c.requires

pub returns-then-not-same_book : goal.returns-then-not-same_book
returns-then-not-same_book c = (sym c.same_book.ensures ∙ c.if-not-same_book.true, (refl, (refl, refl)))

pub returns-then-second_is_higher : goal.returns-then-second_is_higher
returns-then-second_is_higher c =
    let days = c.args in
    let same = one-book c.same_book.ensures c.if-not-same_book.false in
    (same, (lists-seen days.first days.second same (c.second_is_higher.ensures _)).0 c.if-second_is_higher.true)

pub returns : goal.returns
returns c =
    let days = c.args in
    let same = one-book c.same_book.ensures c.if-not-same_book.false in
    let lists = lists-seen days.first days.second same (c.second_is_higher.ensures _) in
    (same, λ h. true≢false (sym (lists.1 h) ∙ c.if-second_is_higher.false))

pub second_is_higher-requires : goal.second_is_higher-requires
second_is_higher-requires c = (_, c.requires)
