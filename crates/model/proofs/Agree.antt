-- A sheet is settled, and is the standard one, by its used cells alone. Assumes nothing.
use Rattle.fairness.specs.Instance.{Instance, Sheet}
use Rattle.fairness.specs.Exchange.{Settled}
use Rattle.fairness.specs.Standard.{Standard}
use Rattle.fairness.proofs.Alike.{alike-settled}
use Rattle.fairness.proofs.Standard.{alike-standard}
use Rattle.model.proofs.Grids.{Agree, agree-alike}

pub agree-settled : (I : Instance) (S T : Sheet) → Agree I S T → Settled I S → Settled I T
agree-settled I S T same = alike-settled I I S T (agree-alike I S T same)

pub agree-standard : (I : Instance) (S T : Sheet) → Agree I S T → Standard I S → Standard I T
agree-standard I S T same = alike-standard I I S T (agree-alike I S T same)
