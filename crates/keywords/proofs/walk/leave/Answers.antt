-- `keywords::walk::leave` meets its contract: a case for each way out.
use Rattle.keyword_rules.specs.TableRecord.{left_at}
use Rattle.keywords.proofs.walk.leave.Goals as goal

pub returns-in-Some : goal.returns-in-Some
unfolding left_at
returns-in-Some c = rw c.in-Some.is c.close.ensures

pub returns-in-None : goal.returns-in-None
unfolding left_at
returns-in-None c = rw c.in-None.is
