-- `aipsio::strings::name` meets its contract: its branches are the definition's cases.
use Rattle.aipsio_rules.proofs.Ways.{name_kept, name_on, name_out}
use Rattle.aipsio.proofs.strings.name.Goals as goal

pub returns-then-t-ne0 : goal.returns-then-t-ne0
returns-then-t-ne0 c = name_kept _ _ c.any_string-t.ensures.value _ c.if-t-ne0.true

pub returns-then-is_at : goal.returns-then-is_at
returns-then-is_at c = name_on _ _ c.any_string-t.ensures.value _ c.if-t-ne0.false c.is_at.ensures c.if-is_at.true

pub returns : goal.returns
returns c = name_out _ _ c.any_string-t.ensures.value _ c.if-t-ne0.false c.is_at.ensures c.if-is_at.false c.refuse.ensures
