use mathlib.Core.Path.{sym}
use native.Mathlib.Omega.{arith}
use lib.ListN.{get_or-eq_default}
use Rattle.store.proofs.numbers.number.Goals as goal

pub returns-else-i-src : goal.returns-else-i-src
returns-else-i-src c = (sym (get_or-eq_default c.args.src.now 0 c.if-i-src.false), omega arith)
