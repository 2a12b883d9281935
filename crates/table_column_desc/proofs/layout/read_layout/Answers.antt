-- `table_column_desc::layout::read_layout` meets its contract: its calls compose as the definition says.
use mathlib.Core.Path.{refl}
use Rattle.bytes_at.proofs.Stepped.{via}
use Rattle.table_rules.specs.ColumnDesc.{layout_at}
use Rattle.table_column_desc.proofs.layout.read_layout.Goals as goal

pub returns : goal.returns
unfolding layout_at
returns c = record {
  value = via _ c.code-n.ensures.value (
      via _ c.read_options-o.ensures.value (
      via _ c.read_dimensions-d.ensures (
      via _ c.read_elements-e.ensures.value (
      refl))));
  bounded = (c.read_options-o.ensures.bounded, c.read_elements-e.ensures.bounded);
}
