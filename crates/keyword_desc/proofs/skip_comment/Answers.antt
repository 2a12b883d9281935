-- `keyword_desc::skip_comment` meets its contract: a case for each way out.
use mathlib.Core.Path.{ap}
use borrow.Author.Tests.{eq-eqb, ne_eqb}
use Rattle.aipsio_rules.specs.declared.Text.{Text}
use Rattle.keyword_rules.specs.RecordDesc.{comment_at}
use Rattle.keyword_desc.proofs.skip_comment.Goals as goal

pub returns-then-version-eq2 : goal.returns-then-version-eq2
unfolding comment_at
returns-then-version-eq2 c = rw (eq-eqb _ 2 c.if-version-eq2.true) (ap (λ (t : Text). t.next) c.string.ensures.value)

pub returns-else-version-eq2 : goal.returns-else-version-eq2
unfolding comment_at
returns-else-version-eq2 c = rw (ne_eqb _ 2 c.if-version-eq2.false)
