-- `keyword_desc::skip_specific` meets its contract: a case for each way out.
use mathlib.Core.Path.{ap}
use borrow.Author.Tests.{eq-eqb, ne_eqb}
use Rattle.aipsio_rules.specs.declared.Text.{Text}
use Rattle.keyword_rules.specs.RecordDesc.{specific_at}
use Rattle.keyword_desc.proofs.skip_specific.Goals as goal

pub returns-then-is_array_type : goal.returns-then-is_array_type
unfolding specific_at
returns-then-is_array_type c = rw (← c.is_array_type.ensures, c.if-is_array_type.true) c.skip_shape.ensures

pub returns-then-number-eq-TABLE : goal.returns-then-number-eq-TABLE
unfolding specific_at
returns-then-number-eq-TABLE c = rw (← c.is_array_type.ensures, c.if-is_array_type.false, eq-eqb _ 12 c.if-number-eq-TABLE.true) (ap (λ (t : Text). t.next) c.string.ensures.value)

pub returns-else-number-eq-TABLE : goal.returns-else-number-eq-TABLE
unfolding specific_at
returns-else-number-eq-TABLE c = rw (← c.is_array_type.ensures, c.if-is_array_type.false, ne_eqb _ 12 c.if-number-eq-TABLE.false)
