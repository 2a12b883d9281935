-- `table_column_set::bindings::read_infos` meets its contract. The loop's invariant: after j turns the state is the definition's after j turns.
use mathlib.Core.Path.{◌≡◌}
use Rattle.bytes_at.specs.Steps.{after}
use Rattle.table_rules.specs.declared.Infos.{Infos}
use Rattle.table_rules.specs.ColumnSet.{info_into}
use Rattle.table_column_set.proofs.bindings.read_infos.Given as goal

abbrev pub invariant-loop-j : goal.invariant-loop-j
invariant-loop-j l = ◌≡◌ {A = Infos} (record { infos = l.infos; next = l.next }) (after (info_into l.s l.managers l.counts) (record { infos = l.initial.infos; next = l.initial.next }) l.j)
