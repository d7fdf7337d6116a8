-- `store::put_options` meets its contract: the first seat, the balances, then the weights; what is missing has no fields.
use mathlib.Core.Bool.{Bool}
use mathlib.Core.List.{List, [], ◌∷◌}
use mathlib.Core.Path.{◌≡◌, sym, ◌∙◌, ap}
use Prim.Native.Nat.{ℕ}
use Rattle.dayfile.specs.Memory.{sized}
use Rattle.dayfile.specs.declared.Book.{Book}
use Rattle.store.specs.Stores.{size_if, fields_if}
use Rattle.store.proofs.Storing.{begun_first, begun-room, begun-next, begun-end, put_as, room_as, list-if, one-if}
use Rattle.store.proofs.bodies.put_options.Goals as goal

-- the fields of each by how many there are
one-fields : (b : Book) {k : ℕ} → k ≡ size_if b.has_first 1 → sized k (b.first ∷ []) ≡ fields_if b.has_first (b.first ∷ [])
one-fields b e = ap (λ (n : ℕ). sized n (b.first ∷ [])) e ∙ one-if b.has_first b.first

list-fields : (t : Bool) (n : ℕ) (xs : List ℕ) {k : ℕ} → k ≡ size_if t n → sized k xs ≡ fields_if t (sized n xs)
list-fields t n xs e = ap (λ (i : ℕ). sized i xs) e ∙ list-if t n xs

pub put_all-p-requires : goal.put_all-p-requires
put_all-p-requires c =
    room_as (sym (one-fields c.args.book c.size_if.ensures.0)) (begun-room (begun_first _ c.requires))

pub put_all-p-requires-2 : goal.put_all-p-requires-2
put_all-p-requires-2 c =
    let b = c.args.book in
    let first = put_as (one-fields b c.size_if.ensures.0) c.put_all-p.ensures in
    room_as (sym (list-fields b.has_balances b.seats b.balances c.size_if-2.ensures.0))
    (begun-room (begun-next (begun_first _ c.requires) first))

pub put_all-requires : goal.put_all-requires
put_all-requires c =
    let b = c.args.book in
    let first = put_as (one-fields b c.size_if.ensures.0) c.put_all-p.ensures in
    let each = put_as (list-fields b.has_balances b.seats b.balances c.size_if-2.ensures.0) c.put_all-p-2.ensures in
    room_as (sym (list-fields b.has_weights 8 b.weights c.size_if-3.ensures.0))
    (begun-room (begun-next (begun-next (begun_first _ c.requires) first) each))

pub returns : goal.returns
returns c =
    let b = c.args.book in
    let first = put_as (one-fields b c.size_if.ensures.0) c.put_all-p.ensures in
    let each = put_as (list-fields b.has_balances b.seats b.balances c.size_if-2.ensures.0) c.put_all-p-2.ensures in
    let eight = put_as (list-fields b.has_weights 8 b.weights c.size_if-3.ensures.0) c.put_all.ensures in
    begun-end (begun-next (begun-next (begun-next (begun_first _ c.requires) first) each) eight)
