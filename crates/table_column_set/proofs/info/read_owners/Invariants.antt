-- `table_column_set::info::read_owners` meets its contract. The loop's invariant: after i turns the state is the definition's after i turns.
use mathlib.Core.Path.{◌≡◌}
use lib.ListN.{length}
use Rattle.bytes_at.specs.Steps.{after}
use Rattle.table_rules.specs.declared.Owners.{Owners}
use Rattle.table_rules.specs.ColumnSet.{owner_into}
use Rattle.table_column_set.proofs.info.read_owners.Given as goal

abbrev pub invariant-loop-i : goal.invariant-loop-i
invariant-loop-i l = ◌≡◌ {A = Owners} (record { owners = l.owners; counts = l.counts; next = l.next }) (after (owner_into l.s l.columns l.managers (length l.managers)) (record { owners = l.initial.owners; counts = l.initial.counts; next = l.initial.next }) l.i)
