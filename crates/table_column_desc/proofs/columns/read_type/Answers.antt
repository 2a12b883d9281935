-- `table_column_desc::columns::read_type` meets its contract: its calls compose as the definition says.
use Rattle.bytes_at.proofs.Stepped.{via}
use Rattle.table_rules.specs.ColumnDesc.{column_type_at}
use Rattle.table_column_desc.proofs.columns.read_type.Goals as goal

pub returns : goal.returns
unfolding column_type_at
returns c =
    via _ c.string-t.ensures.value (
    via _ c.part.ensures.value (
    via _ c.column_type-k.ensures (
    via _ (rw c.is_some.ensures at c.judge-d.ensures) (
    rw c.unwrap_or.ensures))))
