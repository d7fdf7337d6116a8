-- From wanted totals to a sheet: document 000's cap of a group, what C is told, and what stands in the buffer. Assumes nothing.
use mathlib.Core.Path.{◌≡◌, refl, sym, ap, subst, ◌∙◌}
use mathlib.Core.List.{List}
use mathlib.Core.Logic.{◌↔◌}
use Prim.Native.Nat.{ℕ, ◌+◌, ◌*◌}
use native.Mathlib.Decide.{ℕ_discrete}
use native.Mathlib.Omega.{arith}
use lib.ListN.{length, take}
use lib.Seq.{ext_get_or}
use Rattle.fairness.specs.Sums.{keep}
use Rattle.fairness.specs.Instance.{Instance, group_capacity}
use Rattle.fairness.proofs.Sums.{sum-eq, sum-le}
use Rattle.fairness.proofs.Decide.{keep-most}
use Rattle.masks.specs.Sets.{bit}
use Rattle.model.specs.Book.{Grid, Shaped, instance_of}
use Rattle.dayfile.specs.File.{bytes_of, flat}
use Rattle.dayfile.specs.Layout.{field, book_of, seats_in, windows_in, fields_at, grid_at}
use Rattle.dayfile.specs.Table.{fulfil_lines}
use Rattle.dayfile.specs.Outcome.{NoneHolds}
use Rattle.dayfile.proofs.Accepted.{seats_are, windows_are}
use Rattle.dayfile.proofs.Answers.{answer-none}
use Rattle.dayfile.proofs.Fields.{length-bytes, field-bytes, fields-length, fields-at}
use Rattle.dayfile.proofs.Grids.{flat-length, grid-there}
use Rattle.reply.specs.declared.Reply.{Reply}
use Rattle.reply.specs.declared.Reply.TheVariants.{Refused, Sheet, Group}
use Rattle.reply.specs.Numbers.{fulfil_numbers}
use Rattle.wants.specs.Wanted.{want, Gives, Fulfillable}
use Rattle.wants.proofs.Theorems.{not_empty}
use Rattle.fulfil.specs.Fulfilling.{a_sheet, a_group, Fulfils}
use Rattle.demands.specs.Demands.{document_cap}
use Rattle.demands.proofs.Files.{taken}

-- ---- document 000's cap

pub is_document_cap : (I : Instance) (group : ℕ) → group_capacity I (λ a. ℕ_discrete (bit group a) 1) ≡ document_cap I group
is_document_cap I group =
    sum-eq I.windows _ _
    (λ b lb.
    let all = sum-le I.seats (λ a. keep (ℕ_discrete (bit group a) 1) (I.cap a b)) (λ a. I.cap a b)
    (λ a la. keep-most (ℕ_discrete (bit group a) 1) (I.cap a b)) in
    omega (arith, all))

-- ---- what is told

module _ (file row before after : List ℕ) where
  pub told_apart : (r : Reply) → Fulfils file row before after r → NoneHolds (fulfil_lines file row (length before)) →
      ((fulfil_numbers r).group ≡ 0) ↔ Fulfillable (book_of file) (want row)
  told_apart (Refused n p) h free =
      absurd (let x = h.gives free in let z : ◌≡◌ {A = ℕ} 0 1 = (let e = x.1.0 in cc) in omega arith)
  told_apart (Sheet n) h free = let exactly = (answer-none h (a_sheet n) refl).1.1 in (λ e. exactly.0 tt, λ s. refl)
  told_apart (Group g) h free =
      let told = (answer-none h (a_group g) refl).1 in (
        λ e. absurd (not_empty (instance_of (book_of file)) (want row) (rw e at told.0.0)),
        λ s. absurd (told.1.1 s),
      )

  pub kept : (g : ℕ) → Fulfils file row before after (Group g) → after ≡ before
  kept g h = (answer-none h (a_group g) refl).1.0.1

-- ---- what stands at the buffer's front

-- fields written as bytes read back
fields_back : (ws : List ℕ) → fields_at (bytes_of ws) 0 (length ws) ≡ ws
fields_back ws =
    ext_get_or 0 (fields_at (bytes_of ws) 0 (length ws)) ws (fields-length (bytes_of ws) 0 (length ws))
    (λ k l.
    let inside = fields-length (bytes_of ws) 0 (length ws) in
    fields-at (bytes_of ws) 0 (length ws) k (omega arith)
    ∙ ap (field (bytes_of ws)) {x = 0 + 2 * k} {y = 2 * k} (omega arith) ∙ field-bytes ws k)

module _ (file row before after : List ℕ) (n : ℕ) (h : Fulfils file row before after (Sheet n)) where
  pub sheet-read : Gives (book_of file) (want row) (grid_at (take n after) 0 (seats_in file) (windows_in file))
  sheet-read =
      let told = (answer-none h (a_sheet n) refl).1.0 in
      let given = told.1 in
      let s : Grid = given.sheet in
      let p = given.gives.a_sheet in
      let shape : Shaped (seats_in file) (windows_in file) s =
      record {
        rows = p.rows ∙ seats_are file;
        row = λ i l. p.row i (omega (arith, seats_are file)) ∙ windows_are file;
      } in
      let long : n ≡ length (bytes_of (flat s)) =
      told.0 ∙ sym (length-bytes (flat s) ∙ ap (λ (k : ℕ). 2 * k) (flat-length (seats_in file) (windows_in file) s shape)) in
      let bytes : take n after ≡ bytes_of (flat s) = ap (take n) given.bytes ∙ taken (bytes_of (flat s)) before n long in
      let grid : grid_at (take n after) 0 (seats_in file) (windows_in file) ≡ s =
      ap (λ (f : List ℕ). grid_at f 0 (seats_in file) (windows_in file)) bytes
      ∙ grid-there (bytes_of (flat s)) 0 (seats_in file) (windows_in file) s shape (fields_back (flat s)) in
      subst (λ (g : Grid). Gives (book_of file) (want row) g) (sym grid) given.gives
