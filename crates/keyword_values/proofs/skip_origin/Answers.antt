-- `keyword_values::skip_origin` meets its contract: a case for each way out.
use borrow.Author.Tests.{lt-ltb, le-ltb}
use Rattle.keyword_rules.specs.Values.{origin_at}
use Rattle.keyword_values.proofs.skip_origin.Goals as goal

pub returns-then-version-lt3 : goal.returns-then-version-lt3
unfolding origin_at
returns-then-version-lt3 c = rw (lt-ltb _ 3 c.if-version-lt3.true) c.skip_each.ensures

pub returns-else-version-lt3 : goal.returns-else-version-lt3
unfolding origin_at
returns-else-version-lt3 c = rw (le-ltb _ 3 c.if-version-lt3.false)
