-- `table_column_set::bindings::read_info` meets its contract: its calls compose as the definition says.
use Rattle.bytes_at.proofs.Stepped.{via}
use Rattle.table_rules.specs.ColumnSet.{info_at}
use Rattle.table_column_set.proofs.bindings.read_info.Goals as goal

pub returns : goal.returns
unfolding info_at
returns c = via _ c.any_string-t.ensures.value c.read_form.ensures
