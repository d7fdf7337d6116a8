-- Fields stored into a buffer, and the contents of a file by slots: one for each part that a file can have, in the order of their kinds.
use Rattle.std.specs.Prelude.{Bool, true, false, List, [], ◌∷◌, ◌++◌, ℕ, ◌+◌, ◌*◌, ◌≤◌, length}
use Rattle.lists.specs.Buffers.{Stored}
use Rattle.dayfile.specs.Layout.{contents_end}
use Rattle.dayfile.specs.File.{bytes_of, flat}
use Rattle.dayfile.specs.Memory.{sized}
use Rattle.dayfile.specs.declared.Book as Memory
use Rattle.dayfile.specs.declared.Day.{Day}
use Rattle.store.specs.declared.contents.Slot.{Slot}

-- a buffer has room for fields from an offset on
pub record Room (buf : List ℕ) (at : ℕ) (fields : List ℕ) : Type 0 where
  pub fits : at + 2 * length fields ≤ length buf

-- fields were stored into a buffer from an offset on: the offset behind them, and the buffer afterwards
pub record Put (buf : List ℕ) (at : ℕ) (fields : List ℕ) (next : ℕ) (end : List ℕ) : Type 0 where
  pub bytes : Stored buf at (bytes_of fields) end next

-- ---- a slot: a part that may be missing

abbrev pub size_if : Bool → ℕ → ℕ
size_if true n = n
size_if false n = 0

abbrev pub fields_if : Bool → List ℕ → List ℕ
fields_if true ws = ws
fields_if false ws = []

-- how many entries it has, and how many fields its body
abbrev pub count : Slot → ℕ
count s = size_if s.there 1

abbrev pub size : Slot → ℕ
size s = size_if s.there s.fields

-- its entry, where its body starts at `at`
abbrev pub entry : Slot → ℕ → List ℕ
entry s at = fields_if s.there (s.kind ∷ at ∷ 2 * s.fields ∷ [])

-- ---- all slots, by one step for each

unfoldable pub total : (Slot → ℕ) → List Slot → ℕ
total f [] = 0
total f (s ∷ ss) = f s + total f ss

-- the number of entries, and the fields of all bodies
abbrev pub entries : List Slot → ℕ
entries ss = total count ss

abbrev pub sizes : List Slot → ℕ
sizes ss = total size ss

-- the entries, where the first body starts at `at`
unfoldable pub entries_at : ℕ → List Slot → List ℕ
entries_at at [] = []
entries_at at (s ∷ ss) = entry s at ++ entries_at (at + 2 * size s) ss

-- the number of entries and the entries
unfoldable pub head : List Slot → List ℕ
head ss = entries ss ∷ entries_at (contents_end (entries ss)) ss

-- ---- a day

abbrev pub slot : ℕ → Bool → ℕ → Slot
slot kind there fields = record { kind = kind; there = there; fields = fields }

-- its slots, as many as kinds are known: a further kind is one more
unfoldable pub slots_of : Memory.Book → Bool → List Slot
slots_of b has_sheet =
    slot 1 true b.seats
    ∷ slot 2 true b.windows
    ∷ slot 3 true (b.seats * b.windows)
    ∷ slot 4 has_sheet (b.seats * b.windows)
    ∷ slot 5 b.has_first 1
    ∷ slot 6 b.has_balances b.seats
    ∷ slot 7 b.has_weights 8
    ∷ []

abbrev pub slots_in : Day → List Slot
slots_in d = slots_of d.book d.has_sheet

-- the bodies that are plain lists, one after another: the classes and the supplies
abbrev pub list_fields : Memory.Book → List ℕ
list_fields b = flat (sized b.seats b.classes ∷ sized b.windows b.supplies ∷ [])

-- the bodies that may be missing and are no grids, where they are there: the first seat, the balances and the weights
abbrev pub option_fields : Memory.Book → List ℕ
option_fields b =
    flat (
    fields_if b.has_first (b.first ∷ [])
    ∷ fields_if b.has_balances (sized b.seats b.balances)
    ∷ fields_if b.has_weights (sized 8 b.weights)
    ∷ []
    )
