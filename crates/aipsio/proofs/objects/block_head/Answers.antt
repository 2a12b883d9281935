-- `aipsio::objects::block_head` meets its contract: its calls compose as the definition says.
use Rattle.bytes_at.proofs.Stepped.{via}
use Rattle.aipsio_rules.specs.Object.{block_head_at}
use Rattle.aipsio.proofs.objects.block_head.Goals as goal

pub returns : goal.returns
unfolding block_head_at
returns c =
    via _ c.open-o.ensures c.agree.ensures
