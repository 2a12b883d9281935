-- `aipsio::objects::block` meets its contract: its calls compose as the definition says.
use Rattle.bytes_at.proofs.Stepped.{via}
use Rattle.aipsio_rules.specs.Object.{block_at}
use Rattle.aipsio.proofs.objects.block.Goals as goal

pub returns : goal.returns
unfolding block_at
returns c =
    via _ c.block_head-k.ensures (
    via _ c.skip_each-e.ensures (
    via _ c.close-d.ensures c.settle.ensures.value))
