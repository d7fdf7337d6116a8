use Rattle.std.proofs.Common.{◌<◌}
use Rattle.start.proofs.residual.Residual.best.Given as goal

abbrev pub invariant-loop : goal.invariant-loop
invariant-loop l = l.best < 32
