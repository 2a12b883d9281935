-- `aipsio::objects::row_block` meets its contract: its calls compose as the definition says.
use Rattle.bytes_at.proofs.Stepped.{via}
use Rattle.aipsio_rules.specs.Object.{row_block_at}
use Rattle.aipsio.proofs.objects.row_block.Goals as goal

pub returns : goal.returns
unfolding row_block_at
returns c =
    via _ c.block_head-k.ensures (
    via _ c.rows-e.ensures (
    via _ c.close-d.ensures c.settle.ensures.value))
