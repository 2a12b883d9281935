-- `table_column_set::bindings::read_ism` meets its contract: its calls compose as the definition says.
use mathlib.Core.Path.{refl}
use Rattle.bytes_at.proofs.Stepped.{via}
use Rattle.table_rules.specs.ColumnSet.{ism_at}
use Rattle.table_column_set.proofs.bindings.read_ism.Goals as goal

pub returns : goal.returns
unfolding ism_at
returns c =
    via _ c.mark-m.ensures (
    via _ c.open-o.ensures (
    via _ c.string-name.ensures.value (
    via _ c.close.ensures refl)))
