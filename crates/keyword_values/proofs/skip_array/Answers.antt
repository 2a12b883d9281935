-- `keyword_values::skip_array` meets its contract: its calls compose as the definition says.
use Rattle.bytes_at.proofs.Stepped.{via}
use Rattle.keyword_rules.specs.Values.{array_at}
use Rattle.keyword_values.proofs.skip_array.Goals as goal

pub returns : goal.returns
unfolding array_at
returns c =
    via _ c.open_array-o.ensures (
    via _ c.uint-n.ensures.value (
    via _ c.skip_origin-d.ensures (
    via _ c.read_lengths-product.ensures (
    via _ c.skip_values-e.ensures c.close.ensures))))
