-- `keyword_values::open_array` meets its contract: its calls compose as the definition says.
use Rattle.bytes_at.proofs.Stepped.{via}
use Rattle.keyword_rules.specs.Values.{array_opened}
use Rattle.keyword_values.proofs.open_array.Goals as goal

pub returns : goal.returns
unfolding array_opened
returns c =
    via _ c.uint-len.ensures.value (
    via _ c.array_name-d.ensures (
    via _ c.version-v.ensures (
    via _ c.enter-e.ensures c.settle.ensures.value)))
