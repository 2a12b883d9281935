-- `aipsio::numbers::sized` meets its contract: its branches are the definition's cases.
use mathlib.Core.Path.{sym}
use Rattle.aipsio_rules.proofs.Kept.{refused_reads, sized_reads}
use Rattle.aipsio_rules.proofs.Ways.{sized_short, sized_on}
use Rattle.aipsio.proofs.numbers.sized.Goals as goal

pub returns-then-c-ne0 : goal.returns-then-c-ne0
returns-then-c-ne0 c = sym (refused_reads (sized_reads _ _ _) c.if-c-ne0.true)

pub returns-then-left-size : goal.returns-then-left-size
returns-then-left-size c = sized_short _ _ c.if-c-ne0.false c.left.ensures c.bytes-size.ensures.0 c.if-left-size.true c.refuse-d.ensures

pub returns : goal.returns
returns c = sized_on _ _ c.if-c-ne0.false c.left.ensures c.bytes-size.ensures.0 c.if-left-size.false c.number.ensures
