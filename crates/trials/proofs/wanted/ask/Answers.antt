use Rattle.std.proofs.Common.{sym, length-take-le, rules}
use Rattle.trials.proofs.wanted.ask.Goals as goal

pub slice_bounds-fulfil-end-2 : goal.slice_bounds-fulfil-end-2
slice_bounds-fulfil-end-2 c = sym (length-take-le _ _ (search rules))
