-- `table_column_desc::layout::read_dimensions` meets its contract: its calls compose as the definition says.
use Rattle.bytes_at.proofs.Stepped.{via}
use Rattle.table_rules.specs.ColumnDesc.{dimensions_at}
use Rattle.table_column_desc.proofs.layout.read_dimensions.Goals as goal

pub returns : goal.returns
unfolding dimensions_at
returns c =
    via _ c.uint-n.ensures.value (
    via _ c.dimensions_fit-ok.ensures (
    via _ c.judge-d.ensures c.settle.ensures.value))
