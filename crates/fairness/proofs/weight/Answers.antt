-- `fairness::weight` meets its contract: it reads paper 01's table at an index inside it.
use borrow.Author.Rules.{rules}
use mathlib.Core.Path.{◌≡◌}
use Prim.Native.Nat.{◌-◌}
use lib.ListN.{get_or}
use Rattle.fairness.specs.Classes.{class_weights, weight_of}
use Rattle.fairness.proofs.Weights.{weight-bounds, get_d-inside}
use Rattle.fairness.proofs.weight.Goals as goal

pub returns : goal.returns
unfolding weight_of
returns c =
    let e : get_or class_weights (c.args.class - 1) 0 ≡ weight_of c.args.class =
    get_d-inside class_weights 0 1 (c.args.class - 1) (search rules) in
    record { exact = e; least = rw e (weight-bounds c.args.class).0; most = rw e (weight-bounds c.args.class).1 }
