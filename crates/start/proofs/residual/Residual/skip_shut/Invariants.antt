use Rattle.start.specs.Windows.{InGrid}
use Rattle.start.proofs.residual.Residual.skip_shut.Given as goal

abbrev pub invariant-loop : goal.invariant-loop
invariant-loop l = InGrid l.rest
