use Rattle.std.proofs.Common.{sym, length-take-le, rules}
use Rattle.trials.proofs.calls.see_in.Goals as goal

pub slice_bounds-ask-end-2 : goal.slice_bounds-ask-end-2
slice_bounds-ask-end-2 c = sym (length-take-le _ _ (search rules))
