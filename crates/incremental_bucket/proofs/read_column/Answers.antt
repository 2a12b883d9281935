-- `incremental_bucket::read_column` meets its contract: a law for each way out.
use mathlib.Core.Path.{◌∙◌}
use native.Mathlib.Omega.{arith}
use Rattle.incremental_bucket.proofs.Heads.{column_kept, column_short, column_none, column_on}
use Rattle.incremental_bucket.proofs.read_column.Goals as goal

pub returns-then-c-ne0-clause-value : goal.returns-then-c-ne0-clause-value
returns-then-c-ne0-clause-value c = column_kept _ _ _ _ _ _ _ c.if-c-ne0.true

pub returns-then-left-lt4-clause-value : goal.returns-then-left-lt4-clause-value
returns-then-left-lt4-clause-value c = c.refuse.ensures ∙ column_short _ _ _ _ _ _ _ c.if-c-ne0.false c.left.ensures (omega arith)

pub returns-then-n-eq0-clause-value : goal.returns-then-n-eq0-clause-value
returns-then-n-eq0-clause-value c = c.refuse-then-n-eq0.ensures ∙ column_none _ _ _ _ _ _ _ c.if-c-ne0.false c.left.ensures (omega arith) c.uint_there-n.ensures.value c.if-n-eq0.true

pub returns-clause-value : goal.returns-clause-value
returns-clause-value c = column_on _ _ _ _ _ _ _ c.if-c-ne0.false c.left.ensures (omega arith) c.uint_there-n.ensures.value c.if-n-eq0.false c.read_starts-starts.ensures.value c.read_offsets.ensures.value
