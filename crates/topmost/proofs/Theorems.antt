-- What callers cite: a settled sheet of which each cell below its cap is blocked is the standard one. Assumes nothing.
use native.Mathlib.Omega.{arith}
use Rattle.fairness.specs.Instance.{Instance, Proper, Sheet}
use Rattle.fairness.specs.Exchange.{Settled}
use Rattle.fairness.specs.Standard.{Standard}
use Rattle.fairness.proofs.Standard.{blocked-standard}
use Rattle.masks.specs.Sets.{In}
use Rattle.topmost.specs.Sweep.{AllBlocked}

pub all-blocked-standard : (I : Instance) (S : Sheet) → Proper I → Settled I S → AllBlocked I S → Standard I S
all-blocked-standard I S proper s b =
    blocked-standard I proper S s (λ i j li lj r. let x = b i j (omega arith) li lj r in (λ w. In w x.mask, x.blocked))
