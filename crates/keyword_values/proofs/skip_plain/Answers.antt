-- `keyword_values::skip_plain` meets its contract: a case for each way out.
use Rattle.keyword_rules.specs.Values.{plain_at}
use Rattle.keyword_values.proofs.skip_plain.Goals as goal

pub returns-then-is_array_type : goal.returns-then-is_array_type
unfolding plain_at
returns-then-is_array_type c = rw (← c.is_array_type.ensures, c.if-is_array_type.true, ← c.element_type.ensures) c.skip_array.ensures

pub returns-else-is_array_type : goal.returns-else-is_array_type
unfolding plain_at
returns-else-is_array_type c = rw (← c.is_array_type.ensures, c.if-is_array_type.false) c.skip_scalar.ensures
