-- `keyword_desc::skip_shape` meets its contract: a case for each way out.
use Rattle.keyword_rules.specs.RecordDesc.{shape_in_desc_at}
use Rattle.keyword_desc.proofs.skip_shape.Goals as goal

pub returns-then-is_iposition : goal.returns-then-is_iposition
unfolding shape_in_desc_at
returns-then-is_iposition c = rw (← c.is_iposition.ensures, c.if-is_iposition.true) c.iposition.ensures

pub returns-else-is_iposition : goal.returns-else-is_iposition
unfolding shape_in_desc_at
returns-else-is_iposition c = rw (← c.is_iposition.ensures, c.if-is_iposition.false) c.skip_counted.ensures
