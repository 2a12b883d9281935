-- `aipsio::strings::any_string` meets its contract: its branches are the definition's cases.
use mathlib.Core.Path.{sym, ◌∙◌}
use borrow.Author.Rules.{rules}
use Rattle.aipsio_rules.proofs.Kept.{refused_text, any_string_reads}
use Rattle.aipsio_rules.proofs.Ways.{any_string_short, any_string_on}
use Rattle.aipsio.proofs.strings.any_string.Goals as goal

pub returns-then-c-ne0 : goal.returns-then-c-ne0
returns-then-c-ne0 c = record { value = c.no_text.ensures ∙ sym (refused_text (any_string_reads _ _) c.if-c-ne0.true); bounded = search rules }

pub returns-then-left-size : goal.returns-then-left-size
returns-then-left-size c = record { value = c.no_text-then-left-size.ensures ∙ any_string_short _ _ c.if-c-ne0.false c.left.ensures c.uint-len.ensures.value c.if-left-size.true c.refuse-d.ensures; bounded = search rules }

pub returns : goal.returns
returns c = record { value = any_string_on _ _ c.if-c-ne0.false c.left.ensures c.uint-len.ensures.value c.if-left-size.false; bounded = c.uint-len.ensures.bounded }
