-- `aipsio::objects::open` meets its contract: its calls compose as the definition says.
use Rattle.bytes_at.proofs.Stepped.{via}
use Rattle.aipsio_rules.specs.Object.{opened}
use Rattle.aipsio.proofs.objects.open.Goals as goal

pub returns : goal.returns
unfolding opened
returns c =
    via _ c.uint-len.ensures.value (
    via _ c.name-d.ensures (
    via _ c.version-v.ensures (
    via _ c.enter-e.ensures c.settle.ensures.value)))
