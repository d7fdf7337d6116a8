-- Where the sheet body of a file lies, and that it lies within it. Assumes nothing.
use mathlib.Core.Path.{◌≡◌, refl, ap, ◌∙◌}
use mathlib.Core.List.{List}
use Rattle.std.specs.Prelude.{None, Some}
use Prim.Native.Nat.{ℕ, ◌+◌, ◌-◌, ◌≤◌}
use native.Mathlib.Omega.{arith}
use lib.ListN.{length, take, drop}
use Rattle.dayfile.specs.Layout.{start, size, entry_of, sheet_body}
use Rattle.dayfile.specs.Table.{first_of, read_lines, marker_lines, sheet_lines}
use Rattle.dayfile.proofs.Lines.{none-parts}
use Rattle.dayfile.proofs.Sound.{sound}
use Rattle.dayfile.proofs.Bodies.{sheet-inside}
use Rattle.choice.specs.declared.Span.{Span}
use Rattle.choice.specs.Numbers.{span_of}

pub span-at : (f : List ℕ) {e at n : ℕ} → entry_of f 4 ≡ Some e → at ≡ start f e → n ≡ size f e →
    ◌≡◌ {A = Span} (record { start = at; length = n }) (span_of f)
span-at f entry p q = rw (p, q, entry) refl

pub no_span : (f : List ℕ) → entry_of f 4 ≡ None → ◌≡◌ {A = Span} (record { start = 0; length = 0 }) (span_of f)
no_span f entry = rw entry refl

pub span-inside : (f : List ℕ) (s : Span) → first_of (sheet_lines f) ≡ None → s ≡ span_of f → s.start + s.length ≤ length f
unfolding sheet_lines
span-inside f s passed e = rw e (sheet-inside f (sound f (none-parts (read_lines f) (marker_lines f) passed).0))

pub body_is : (f : List ℕ) (s : Span) → s ≡ span_of f → take (s.start + s.length - s.start) (drop s.start f) ≡ sheet_body f
unfolding sheet_body
body_is f s e =
    ap (λ (n : ℕ). take n (drop s.start f)) {x = s.start + s.length - s.start} {y = s.length} (omega arith)
    ∙ ap (λ (z : Span). take z.length (drop z.start f)) e
