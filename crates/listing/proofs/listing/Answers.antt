-- `listing::listing` meets its contract: a buffer that is too short is refused, and else the text is written.
use borrow.Author.Rules.{rules}
use Rattle.listing.proofs.Listed.{refused-short, long-enough}
use Rattle.listing.proofs.listing.Goals as goal

pub returns-then-out-lt-LISTING_MAX : goal.returns-then-out-lt-LISTING_MAX
returns-then-out-lt-LISTING_MAX c = refused-short _ c.args.out.now (search rules)

pub returns : goal.returns
returns c = long-enough _ _ _ _ (search rules) c.put_text.ensures
