-- `table_column_set::data_managers::read_managers` meets its contract. The loop's invariant: after i turns the state is the definition's after i turns.
use mathlib.Core.Path.{◌≡◌}
use Rattle.bytes_at.specs.Steps.{after}
use Rattle.table_rules.specs.declared.Managers.{Managers}
use Rattle.table_rules.specs.ColumnSet.{manager_into}
use Rattle.table_column_set.proofs.data_managers.read_managers.Given as goal

abbrev pub invariant-loop-i : goal.invariant-loop-i
invariant-loop-i l = ◌≡◌ {A = Managers} (record { managers = l.managers; next = l.next }) (after (manager_into l.s l.highest) (record { managers = l.initial.managers; next = l.initial.next }) l.i)
