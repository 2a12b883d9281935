-- `bytes_at::same` meets its contract: slices of unequal lengths differ, and `==` compares few bytes.
use mathlib.Core.Path.{sym, ◌∙◌}
use Rattle.bytes_at.proofs.Comparing.{same_pointwise, unequal_lengths}
use Rattle.bytes_at.proofs.same.Goals as goal

pub returns-then-a-b : goal.returns-then-a-b
returns-then-a-b c = sym (unequal_lengths c.args.a.now c.args.b.now c.if-a-b.true)

pub returns-in-0-to-3 : goal.returns-in-0-to-3
returns-in-0-to-3 c = c.eq.ensures ∙ same_pointwise c.args.a.now c.args.b.now
