-- `keyword_desc::skip_counted` meets its contract: its calls compose as the definition says.
use Rattle.bytes_at.proofs.Stepped.{via}
use Rattle.keyword_rules.specs.RecordDesc.{counted_at}
use Rattle.keyword_desc.proofs.skip_counted.Goals as goal

pub returns : goal.returns
unfolding counted_at
returns c =
    via _ c.uint-n.ensures.value c.skip_each.ensures
