use mathlib.Core.Path.{◌≡◌}
use lib.ListN.{take}
use Rattle.paths.specs.Paths.{moves_of}
use Rattle.sheet.specs.Sheets.{credit}
use Rattle.settle.proofs.Playing.{Played}
use Rattle.settle.proofs.play_path.Given as goal

abbrev pub invariant-loop-m : goal.invariant-loop-m
invariant-loop-m l = record {
  items : l.m-items ≡ take l.path.count l.path.moves;
  played : Played (credit l.initial.after) (moves_of l.path) l.m-index (credit l.after);
}
