-- `keywords::column_keywords` meets its contract: its calls compose as the definition says.
use mathlib.Core.Path.{refl}
use Rattle.bytes_at.proofs.Stepped.{via}
use Rattle.keyword_rules.specs.Keywords.{column_keywords}
use Rattle.keywords.proofs.column_keywords.Goals as goal

pub returns : goal.returns
unfolding column_keywords
returns c =
    rw (← c.between-c.ensures) (
    via _ c.skip-name.ensures (
    via _ c.skip_notes-notes.ensures (
    via _ c.read_layout-layout.ensures.value (
    via _ c.number-maximum.ensures.value (
    refl)))))
