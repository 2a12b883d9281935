-- `keywords::walk_set` meets its contract: its calls compose as the definition says.
use Rattle.bytes_at.proofs.Stepped.{via}
use Rattle.keyword_rules.specs.Keywords.{walked_at}
use Rattle.keywords.proofs.walk_set.Goals as goal

pub returns : goal.returns
unfolding walked_at
returns c = rw (← c.between-c.ensures, ← c.between-p.ensures) (via _ c.enter_whole-b.ensures c.walk.ensures)
