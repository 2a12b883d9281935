-- `keywords::walk::enter_whole` meets its contract: its calls compose as the definition says.
use mathlib.Core.Path.{refl}
use Rattle.bytes_at.proofs.Stepped.{via}
use Rattle.keyword_rules.specs.TableRecord.{whole_at}
use Rattle.keywords.proofs.walk.enter_whole.Goals as goal

pub returns : goal.returns
unfolding whole_at
returns c =
    via _ c.open-t.ensures (
    via _ c.judge_type-e.ensures (
    via _ c.uint-kind.ensures.value (
    via _ c.open-o.ensures (
    via _ c.uint-n.ensures.value (
    refl)))))
