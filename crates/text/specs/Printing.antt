-- What a printer does to its buffer.
use Rattle.std.specs.Prelude.{◌≡◌, List, ◌++◌, ℕ, ◌+◌, ◌≤◌, length, take, drop}
use Rattle.text.specs.declared.Printer.{Printer}

-- what is printed so far, and what of the buffer is left
abbrev pub printed : Printer → List ℕ
printed p = take p.at p.out.now

abbrev pub left : Printer → List ℕ
left p = drop p.at p.out.now

-- enough is left for a text
pub record Room (p : Printer) (text : List ℕ) : Type 0 where
  pub fits : p.at + length text ≤ length p.out.now

-- a text more is printed to the same buffer, and what is left behind it keeps its bytes
pub record Prints (old : Printer) (text : List ℕ) (new : Printer) : Type 0 where
  pub same_buffer : new.out.ghost_name ≡ old.out.ghost_name
  pub size : length new.out.now ≡ length old.out.now
  pub place : new.at ≡ old.at + length text
  pub front : printed new ≡ printed old ++ text
  pub rest : left new ≡ drop (length text) (left old)
