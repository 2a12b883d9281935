-- `table_column_desc::columns::read_column` meets its contract: its calls compose as the definition says.
use mathlib.Core.Path.{refl}
use Rattle.bytes_at.proofs.Stepped.{via}
use Rattle.table_rules.specs.ColumnDesc.{column_rest_at}
use Rattle.table_column_desc.proofs.columns.read_column.Goals as goal

pub returns : goal.returns
unfolding column_rest_at
returns c =
    via _ c.skip_notes-notes.ensures (
    via _ c.read_layout-layout.ensures.value (
    via _ (rw c.element_bits-size.ensures.value at c.read_tail-maximum.ensures.value) (
    via _ c.cell_bits-bits.ensures.value (
    refl))))
