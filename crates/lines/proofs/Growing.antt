-- Lines that are printed one after the other, and the turns of the loops that do so.
use Rattle.std.proofs.Common.{ℕ, zero, suc, ◌+◌, ◌<◌, ◌≤◌, List, length, arith, refl, sym, ap}
use Rattle.std.proofs.Common.{add-one, append-nil, length-append}
use Rattle.std.proofs.Math.Decide.{dec_lt}
use Rattle.text.specs.declared.Printer.{Printer}
use Rattle.text.specs.Printing.{Room, Prints, printed}
use Rattle.text.proofs.Printing.{room_next, prints_next}
use Rattle.lines.specs.Lines.{lines}

-- the first lines are no longer than all
lines-le : (line : ℕ → List ℕ) (j n : ℕ) → j ≤ n → length (lines j line) ≤ length (lines n line)
unfolding lines
lines-le line j zero h = omega (arith, ap (λ (k : ℕ). length (lines k line)) {x = j} {y = 0} (omega arith))
lines-le line j (suc n) h = go (dec_lt n j) (lines-le line j n)
  where
    go : Dec (n < j) → (j ≤ n → length (lines j line) ≤ length (lines n line)) → length (lines j line) ≤ length (lines (suc n) line)
    go (yes l) IH = omega (arith, ap (λ (k : ℕ). length (lines k line)) {x = j} {y = suc n} (omega arith))
    go (no l) IH = omega (arith, IH (omega arith), length-append (lines n line) (line n))

module _ {p : Printer} (line : ℕ → List ℕ) where
  pub lines_none : Prints p (lines 0 line) p
  unfolding lines
  lines_none = record { same_buffer = refl; size = refl; place = omega arith; front = sym (append-nil (printed p)); rest = refl }

  -- where there is room for n lines, there is for line j behind those before it
  pub lines_room : {q : Printer} (n j : ℕ) → j < n → Room p (lines n line) → Prints p (lines j line) q → Room q (line j)
  unfolding lines
  lines_room n j h r s =
      let fits : p.at + length (lines (suc j) line) ≤ length p.out.now = omega (arith, r.fits, lines-le line (suc j) n (omega arith)) in
      room_next (lines j line) (line j) (record { fits = fits }) s

  -- one line more
  pub lines_more : {q r : Printer} (j : ℕ) → Prints p (lines j line) q → Prints q (line j) r → Prints p (lines (j + 1) line) r
  unfolding lines
  lines_more j s t = rw (add-one j) (prints_next (lines j line) (line j) s t)

pub ruleset line_by_line = (lines_none, lines_room, lines_more)
