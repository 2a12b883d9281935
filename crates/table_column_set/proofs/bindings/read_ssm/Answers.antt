-- `table_column_set::bindings::read_ssm` meets its contract: its calls compose as the definition says.
use mathlib.Core.Path.{refl}
use Rattle.bytes_at.proofs.Stepped.{via}
use Rattle.table_rules.specs.ColumnSet.{ssm_at}
use Rattle.table_column_set.proofs.bindings.read_ssm.Goals as goal

pub returns : goal.returns
unfolding ssm_at
returns c =
    via _ c.mark-m.ensures (
    via _ c.open-o.ensures (
    via _ c.string-name.ensures.value (
    via _ c.block-offsets.ensures (
    via _ c.block-sets.ensures (
    via _ c.close-d.ensures (
    refl))))))
