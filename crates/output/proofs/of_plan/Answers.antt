-- `output::of_plan` meets its contract: the planned file is there, or the line of its refusal.
use Rattle.output.proofs.Printed.{planned-fits, prints-planned, prints-refusal, printed-fits}
use Rattle.output.proofs.of_plan.Goals as goal

pub returns-in-Whole : goal.returns-in-Whole
returns-in-Whole c =
    record {
      prints_plan = prints-planned _ _ _ _ _ c.plan.ensures c.in-Whole.is;
      upper_bound = planned-fits _ _ _ _ (rw c.in-Whole.is at c.plan.ensures);
    }

pub returns-in-Refused : goal.returns-in-Refused
returns-in-Refused c =
    record {
      prints_plan = prints-refusal _ _ _ _ _ _ _ _ c.plan.ensures c.in-Refused.is c.put_refusal.ensures;
      upper_bound = printed-fits _ _ _ _ c.put_refusal.ensures;
    }
