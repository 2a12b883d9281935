-- `table_column_desc::columns::read_head` meets its contract: its calls compose as the definition says.
use mathlib.Core.Path.{refl}
use Rattle.bytes_at.proofs.Stepped.{via}
use Rattle.table_rules.specs.ColumnDesc.{column_head_at}
use Rattle.table_column_desc.proofs.columns.read_head.Goals as goal

pub returns : goal.returns
unfolding column_head_at
returns c = record {
  value = via _ c.version-v.ensures (
      via _ c.read_type-t.ensures (
      via _ c.version-w.ensures (
      via _ c.string-name.ensures.value (
      refl))));
  bounded = c.string-name.ensures.bounded;
}
