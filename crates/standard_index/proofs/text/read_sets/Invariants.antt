-- `standard_index::text::read_sets` meets its contract. The loop's invariant: after i turns the sets are the definition's after i turns.
use mathlib.Core.Path.{◌≡◌}
use Rattle.bytes_at.specs.Steps.{after}
use Rattle.standard_rules.specs.declared.Sets.{Sets}
use Rattle.standard_rules.specs.Index.{set_into}
use Rattle.standard_index.proofs.text.read_sets.Given as goal

abbrev pub invariant-loop-i : goal.invariant-loop-i
invariant-loop-i l = ◌≡◌ {A = Sets} (record { sets = l.sets; next = l.next }) (after (set_into l.s) (record { sets = l.initial.sets; next = l.initial.next }) l.i)
