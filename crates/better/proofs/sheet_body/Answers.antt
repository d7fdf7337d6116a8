-- `better::sheet_body` meets its contract: the body lies within the file.
use borrow.Author.Rules.{rules}
use Prim.Native.Nat.{◌+◌, ◌≤◌}
use lib.ListN.{length}
use Rattle.better.proofs.Bodies.{span-inside, body_is}
use Rattle.better.proofs.sheet_body.Goals.{After-sheet_span-span}
use Rattle.better.proofs.sheet_body.Goals as goal

-- the span that the file gives ends within it
inside : (c : After-sheet_span-span) →
    c.sheet_span-span.result.start + c.sheet_span-span.result.length ≤ length c.args.file.now
inside c = span-inside _ _ c.requires c.sheet_span-span.ensures

pub overflow_add-end : goal.overflow_add-end
overflow_add-end c =
    let l = inside (goal.at.overflow_add-end c).After-sheet_span-span in
    search rules

pub slice_bounds-result-start : goal.slice_bounds-result-start
slice_bounds-result-start c =
    let l = inside (goal.at.slice_bounds-result-start c).After-sheet_span-span in
    search rules

pub slice_bounds-result-end : goal.slice_bounds-result-end
slice_bounds-result-end c =
    let l = inside (goal.at.slice_bounds-result-end c).After-sheet_span-span in
    search rules

pub returns : goal.returns
returns c =
    let f = c.args.file.now in
    body_is f _ c.sheet_span-span.ensures
