-- One text printed after another.
use Rattle.std.proofs.Common.{List, ◌++◌, ℕ, length, drop, arith, sym, ap, ◌∙◌, length-append, append_assoc}
use Rattle.std.proofs.lemmas.List.{drop-drop}
use Rattle.text.specs.declared.Printer.{Printer}
use Rattle.text.specs.Printing.{Room, Prints, left}

-- where there is room for two texts, there is for the first
pub room-first : {p : Printer} (xs ys : List ℕ) → Room p (xs ++ ys) → Room p xs
room-first xs ys r = record { fits = omega (arith, r.fits, length-append xs ys) }

-- .. and, when that is printed, for the second
pub room_next : {p q : Printer} (xs ys : List ℕ) → Room p (xs ++ ys) → Prints p xs q → Room q ys
room_next xs ys r s = record { fits = omega (arith, r.fits, length-append xs ys, s.place, s.size) }

-- text after text is one text
pub prints_next : {p q r : Printer} (xs ys : List ℕ) → Prints p xs q → Prints q ys r → Prints p (xs ++ ys) r
prints_next {p} xs ys s t =
    record {
      same_buffer = t.same_buffer ∙ s.same_buffer;
      size = t.size ∙ s.size;
      place = omega (arith, s.place, t.place, length-append xs ys);
      front = t.front ∙ ap (λ l. l ++ ys) s.front ∙ append_assoc _ xs ys;
      rest = t.rest ∙ ap (drop (length ys)) s.rest ∙ drop-drop (length ys) (length xs) (left p)
          ∙ ap (λ n. drop n (left p)) (sym (length-append xs ys));
    }

pub ruleset printing = (room-first, room_next, prints_next)
