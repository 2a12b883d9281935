-- How many columns and managers a description has at most. Assumes nothing.
use mathlib.Core.Path.{◌≡◌}
use Prim.Native.Nat.{◌≤◌}
use Rattle.bytes_at.specs.declared.Refusal.{Refusal}
use native.Mathlib.Omega.{arith}
use Rattle.table_rules.specs.declared.Description.{Description}
use Rattle.table_rules.specs.Table.{refused_table}

abbrev pub Bounded : Description → Type 0
Bounded d = (d.column_count ≤ 64) × (d.manager_count ≤ 16)

pub refused_bounded : (why : Refusal) {d : Description} → d ≡ refused_table why → Bounded d
unfolding refused_table
refused_bounded why e = rw e (omega arith, omega arith)
