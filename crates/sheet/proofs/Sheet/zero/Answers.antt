-- `sheet::Sheet::zero` meets its contract.
use Rattle.sheet.proofs.Cells.{all-zero}
use Rattle.sheet.proofs.Sheet.zero.Goals as goal

pub returns : goal.returns
returns c = λ i j. all-zero 32 24 i j
