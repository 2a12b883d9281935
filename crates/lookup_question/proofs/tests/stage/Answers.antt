-- `lookup_question::tests::stage` meets its contract.
use Rattle.std.proofs.Common.{rules}
use Rattle.bytes_at.specs.Stages.{◌▷◌, or_at}
use Rattle.bytes_at.proofs.Stages.{blaming_none}
use Rattle.lookup_question.proofs.tests.stage.Goals as goal

pub returns-then-refused-ne0 : goal.returns-then-refused-ne0
unfolding ◌▷◌
returns-then-refused-ne0 c = search rules

pub returns-then-ok : goal.returns-then-ok
unfolding ◌▷◌ or_at
returns-then-ok c = search rules

pub returns-else-ok : goal.returns-else-ok
unfolding ◌▷◌ or_at
returns-else-ok c = search (rules, blaming_none)
