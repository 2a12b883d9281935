-- `keywords::search_set` meets its contract: a case for each way out.
use mathlib.Core.Path.{◌∙◌}
use Rattle.keyword_rules.proofs.Searches.{set_refused, set_clean}
use Rattle.keywords.proofs.search_set.Goals as goal

pub returns-then-w-ne0 : goal.returns-then-w-ne0
returns-then-w-ne0 c = set_refused _ _ _ _ c.walk_set-w.ensures c.if-w-ne0.true c.refusal.ensures

pub returns : goal.returns
returns c = c.ok_or.ensures.value ∙ set_clean _ _ _ _ c.walk_set-w.ensures c.if-w-ne0.false
