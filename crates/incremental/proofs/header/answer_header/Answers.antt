-- `incremental::header::answer_header` meets its contract, on either side of its test.
use Rattle.incremental.proofs.header.HeaderLaws.{headed_on, headed_off}
use Rattle.incremental.proofs.header.answer_header.Goals as goal

pub returns-then-c-ne0 : goal.returns-then-c-ne0
returns-then-c-ne0 c = headed_off _ _ c.if-c-ne0.true c.refusal.ensures

pub returns : goal.returns
returns c = headed_on _ _ c.if-c-ne0.false
