-- `aipsio::objects::map` meets its contract: its calls compose as the definition says.
use Rattle.bytes_at.proofs.Stepped.{via}
use Rattle.aipsio_rules.specs.Object.{map_at}
use Rattle.aipsio.proofs.objects.map.Goals as goal

pub returns : goal.returns
unfolding map_at
returns c =
    via _ c.open-o.ensures (
    via _ c.uint-default.ensures.value (
    via _ c.uint-n.ensures.value (
    via _ c.uint-increment.ensures.value (
    via _ c.skip_each-e.ensures c.close.ensures))))
