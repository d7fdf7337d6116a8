-- `planner::planned_sheet` meets its contract: what the engine settles, made the standard sheet.
use Rattle.instance.specs.Terms.{Small}
use Rattle.instance.proofs.Told.{told_in, small-told}
use Rattle.sheet.proofs.Shapes.{is-grid}
use Rattle.planner.proofs.planned_sheet.Goals.{After-terms_of-terms}
use Rattle.planner.proofs.planned_sheet.Goals as goal

-- the terms of a book that fits are small
small-terms : (c : After-terms_of-terms) → Small c.terms_of-terms.result c.args.caps
small-terms c =
    let made = c.terms_of-terms.ensures in
    small-told _ c.terms_of-terms.result c.args.caps c.requires (made.told c.args.caps) made.ranged

pub settled-sheet-requires : goal.settled-sheet-requires
settled-sheet-requires c =
    small-terms (goal.at.settled-sheet-requires c).After-terms_of-terms

pub make_standard-requires : goal.make_standard-requires
make_standard-requires c =
    let settled = c.settled-sheet.ensures _ (told_in c.terms_of-terms.result c.args.caps) in
    record {
      small = small-terms (goal.at.make_standard-requires c).After-terms_of-terms;
      shaped = (is-grid _ _ c.settled-sheet.type_inv).shape;
      settled = settled;
    }

pub returns : goal.returns
returns c =
    c.make_standard.ensures _ (c.terms_of-terms.ensures.told c.args.caps)

pub terms_of-terms-requires : goal.terms_of-terms-requires
terms_of-terms-requires c = (_, c.requires)
