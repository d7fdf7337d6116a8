-- `standard::make_standard` meets its contract: the sweep shows it, or the exact pass does.
use Rattle.model.specs.Book.{cell}
use Rattle.instance.proofs.Told.{small-proper, shows-itself, shown-standard}
use Rattle.topmost.proofs.Theorems.{all-blocked-standard}
use Rattle.standard.proofs.make_standard.Goals as goal

pub returns-then-all_blocked : goal.returns-then-all_blocked
returns-then-all_blocked c =
    let t = c.args.t in
    let caps = c.args.caps.now in
    let grid = c.raise_settled.new.grid in
    let blocked = c.all_blocked.ensures c.if-all_blocked.true in
    let standard = all-blocked-standard _ _ (small-proper t caps c.requires.small) c.raise_settled.ensures blocked in
    λ I told. shown-standard t caps I told (cell grid) grid (shows-itself t grid) standard

pub returns : goal.returns
returns c =
    let t = c.args.t in
    let grid = c.climb.new.grid in
    λ I told. shown-standard t c.args.caps.now I told (cell grid) grid (shows-itself t grid) c.climb.ensures
