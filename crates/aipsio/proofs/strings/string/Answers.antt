-- `aipsio::strings::string` meets its contract: its branches are the definition's cases, and a length above the range is refused.
use mathlib.Core.Path.{◌≡◌, ◌∙◌}
use mathlib.Core.Bool.{◌&&◌}
use lib.Dec.{leb}
use borrow.Author.Rules.{rules}
use Rattle.aipsio_rules.proofs.Ways.{string_kept, string_on, string_out}
use Rattle.aipsio_rules.proofs.Bounds.{long_at_most, string_le}
use Rattle.aipsio.proofs.strings.string.Goals as goal
use Rattle.aipsio.proofs.strings.string.Goals.{then-low-t, else-low-t}

pub returns-then-refused-ne0 : goal.returns-then-refused-ne0
returns-then-refused-ne0 c = long_at_most (string_le _ _ _ _) (string_kept _ _ c.any_string-t.ensures.value _ _ c.if-refused-ne0.true)

pub returns-then-ok : goal.returns-then-ok
returns-then-ok c =
    let ok : c.if-low-t.ok ≡ leb c.args.low c.any_string-t.result.len && leb c.any_string-t.result.len c.args.high =
    elim c.if-low-t.branch [ then-low-t w ↦ search rules | else-low-t w ↦ search rules ] in
    long_at_most (string_le _ _ _ _) (string_on _ _ c.any_string-t.ensures.value _ _ c.if-refused-ne0.false ok c.if-ok.true)

pub returns : goal.returns
returns c =
    let ok : c.if-low-t.ok ≡ leb c.args.low c.any_string-t.result.len && leb c.any_string-t.result.len c.args.high =
    elim c.if-low-t.branch [ then-low-t w ↦ search rules | else-low-t w ↦ search rules ] in
    long_at_most (string_le _ _ _ _) (c.no_text.ensures ∙ string_out _ _ c.any_string-t.ensures.value _ _ c.if-refused-ne0.false ok c.if-ok.false c.refuse-d.ensures)
