-- `lookup_question::tests::fresh` meets its contract: `==` says what `same_plan` says.
use mathlib.Core.Path.{◌∙◌}
use Rattle.lookup_rules.proofs.Plans.{same_plan_is}
use Rattle.lookup_question.proofs.tests.fresh.Goals as goal

pub returns-else-not-r : goal.returns-else-not-r
returns-else-not-r c = rw c.if-not-r.false (c.eq.ensures ∙ same_plan_is c.args.r.plan c.args.p)
