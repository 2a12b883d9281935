-- `keyword_desc::read_head` meets its contract: its calls compose as the definition says.
use mathlib.Core.Path.{refl}
use Rattle.bytes_at.proofs.Stepped.{via}
use Rattle.keyword_rules.specs.RecordDesc.{field_head_at}
use Rattle.keyword_desc.proofs.read_head.Goals as goal

pub returns : goal.returns
unfolding field_head_at
returns c =
    via _ c.string-name.ensures.value (
    via _ c.uint-t.ensures.value (
    via _ c.is_keyword_type-known.ensures (
    via _ c.judge-d.ensures (
    via _ c.may_hold-fits.ensures (
    via _ c.judge-e.ensures (
    via _ c.settle-v.ensures.value (
    refl)))))))
