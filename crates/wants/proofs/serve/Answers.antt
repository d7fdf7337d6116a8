-- `wants::serve` meets its contract: each turn serves one seat.
use borrow.Author.Rules.{rules}
use mathlib.Core.Path.{refl}
use mathlib.Core.List.{[]}
use lib.ListN.{get_or}
use Rattle.wants.proofs.Rows.{served-first, served-next, taken-less, served-feasible}
use Rattle.wants.proofs.serve.Goals as goal

pub loop-i-init : goal.loop-i-init
loop-i-init c = served-first _ refl

pub less_row-rest-requires : goal.less_row-rest-requires
less_row-rest-requires c =
    let a = c.args in record {
      windows_bound = search rules;
      by_index = λ j l.
          taken-less (get_or a.wants c.loop-i.i 0) c.loop-i.left (get_or a.caps.now c.loop-i.i []) j _
          (c.take_row-row.ensures j l);
    }

pub loop-i-preserved : goal.loop-i-preserved
loop-i-preserved c =
    let at = c.loop-i in
    served-next at.invariant (search rules) (search rules) c.take_row-row.result c.less_row-rest.result _ c.take_row-row.ensures
    c.less_row-rest.ensures

pub returns : goal.returns
returns c =
    let at = c.loop-i in
    let a = c.args in
    served-feasible a.t a.caps.now at.i at.left at.grid at.invariant c.loop-i-test.false
