-- `keywords::table_keywords` meets its contract: its calls compose as the definition says.
use mathlib.Core.Path.{refl}
use Rattle.bytes_at.proofs.Stepped.{via}
use Rattle.keyword_rules.specs.Keywords.{table_keywords}
use Rattle.keywords.proofs.table_keywords.Goals as goal

pub returns : goal.returns
unfolding table_keywords
returns c =
    rw (← c.between-whole.ensures) (
    via _ c.judge-c.ensures (
    via _ c.mark-m.ensures (
    via _ c.open-t.ensures (
    via _ c.read_head-head.ensures (
    via _ c.open-o.ensures (
    via _ c.skip_notes-notes.ensures (
    refl)))))))
