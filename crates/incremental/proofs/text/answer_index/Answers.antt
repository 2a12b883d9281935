-- `incremental::text::answer_index` meets its contract, on either side of its test.
use Rattle.incremental.proofs.text.IndexLaws.{indexed_on, indexed_off}
use Rattle.incremental.proofs.text.answer_index.Goals as goal

pub returns-then-c-ne0 : goal.returns-then-c-ne0
returns-then-c-ne0 c = indexed_off _ _ _ _ _ c.if-c-ne0.true c.refusal.ensures

pub returns : goal.returns
returns c = indexed_on _ _ _ _ _ c.if-c-ne0.false
