use mathlib.Core.Path.{refl}
use Rattle.fields.proofs.arrays.array32.Goals as goal

pub returns : goal.returns
returns c = c.fill.ensures 32 refl
