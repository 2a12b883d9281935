-- `table_column_set::bindings::bind` meets its contract. The loop's invariant: after i turns the list is the definition's after i turns.
use mathlib.Core.Path.{◌≡◌}
use mathlib.Core.List.{List}
use Prim.Native.Nat.{ℕ}
use lib.ListN.{set}
use Rattle.bytes_at.specs.Steps.{after}
use Rattle.table_rules.specs.declared.Binding.{Binding}
use Rattle.table_rules.specs.ColumnSet.{binding_at}
use Rattle.table_column_set.proofs.bindings.bind.Given as goal

abbrev pub invariant-loop-i : goal.invariant-loop-i
invariant-loop-i l = l.bindings ≡ after (λ (bs : List Binding) (k : ℕ). set bs k (binding_at l.s l.owners l.infos k)) l.initial.bindings l.i
