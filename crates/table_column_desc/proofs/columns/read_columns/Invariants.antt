-- `table_column_desc::columns::read_columns` meets its contract. The loop's invariant: after i turns the state is the definition's after i turns.
use mathlib.Core.Path.{◌≡◌}
use Rattle.bytes_at.specs.Steps.{after}
use Rattle.table_rules.specs.declared.Columns.{Columns}
use Rattle.table_rules.specs.ColumnDesc.{column_into, no_columns}
use Rattle.table_column_desc.proofs.columns.read_columns.Given as goal

abbrev pub invariant-loop-i : goal.invariant-loop-i
invariant-loop-i l = ◌≡◌ {A = Columns} (record { columns = l.columns; next = l.next }) (after (column_into l.s) (no_columns l.initial.next) l.i)
