-- `receiver::Kind::has_donor` meets its contract.
use native.Mathlib.Omega.{arith}
use Rattle.receiver.proofs.Wanting.{apart}
use Rattle.receiver.proofs.Kind.has_donor.Goals as goal

pub reaches_any-requires : goal.reaches_any-requires
reaches_any-requires c = (omega arith, apart _ _ _ _ c.wanted_by.ensures)
