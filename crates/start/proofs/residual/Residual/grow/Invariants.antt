use Rattle.std.proofs.Common.{◌<◌}
use Rattle.start.specs.Windows.{InGrid}
use Rattle.start.proofs.residual.Residual.grow.Given as goal

abbrev pub invariant-loop : goal.invariant-loop
invariant-loop l = record {
  window : l.window < 24;
  taker : l.taker < 32;
  shut : InGrid l.shut;
  rest : InGrid l.rest;
}
