-- `incremental::text::read_index` meets its contract: its calls compose as the definition says, and both lists lie in the file.
use mathlib.Core.Path.{refl}
use Rattle.bytes_at.proofs.Stepped.{via}
use Rattle.incremental_rules.specs.Index.{index_at}
use Rattle.incremental.proofs.text.IndexLaws.{index_answered}
use Rattle.incremental.proofs.text.read_index.Goals as goal

pub returns : goal.returns
unfolding index_at
returns c =
    index_answered _ _ _ (
    via _ c.mark-m.ensures (
    via _ c.open-o.ensures (
    via _ c.uint-n.ensures.value (
    via _ refl (
    via _ c.of_int-width.ensures (
    via _ c.row_block-firsts.ensures (
    via _ c.block-buckets.ensures (
    via _ c.close-e.ensures c.answer_index.ensures))))))))
