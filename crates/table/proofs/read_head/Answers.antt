-- `table::read_head` meets its contract: its calls compose as the definition says.
use mathlib.Core.Path.{refl}
use Rattle.bytes_at.proofs.Stepped.{via}
use Rattle.table_rules.specs.Table.{table_head_at}
use Rattle.table.proofs.read_head.Goals as goal

pub returns : goal.returns
unfolding table_head_at
returns c =
    via _ c.uint-rows.ensures.value (
    via _ c.code-endian.ensures.value (
    via _ c.name-kind.ensures (
    refl)))
