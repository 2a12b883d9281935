-- `standard_index::text::read_set` meets its contract: its calls compose as the definition says.
use mathlib.Core.Path.{refl}
use Rattle.bytes_at.proofs.Stepped.{via}
use Rattle.standard_rules.specs.Index.{ssm_index_at}
use Rattle.standard_index.proofs.text.read_set.Goals as goal

pub returns : goal.returns
unfolding ssm_index_at
returns c =
    via _ c.mark-m.ensures (
    via _ c.open-o.ensures (
    via _ c.uint-entries.ensures.value (
    via _ c.number-per.ensures.value (
    via _ c.uint-columns.ensures.value (
    via _ c.map-free.ensures (
    via _ refl (
    via _ c.of_int-width.ensures (
    via _ c.row_block-lasts.ensures (
    via _ c.block-buckets.ensures (
    via _ c.close-next.ensures (
    refl)))))))))))
