-- Column by name: its ways out. Assumes nothing.
use mathlib.Core.Path.{◌≡◌, refl}
use mathlib.Core.List.{List}
use mathlib.Core.Bool.{Bool, true, false, cond}
use Prim.Native.Nat.{ℕ, ◌≤◌}
use lib.Dec.{ltb}
use lib.ListN.{length, take}
use lib.Seq.{length-take-le}
use borrow.Author.Tests.{eq-eqb, ne_eqb}
use Rattle.std.specs.Prelude.{Option, Some, None, Err}
use Rattle.std.specs.Option.{ok_or}
use Rattle.std.specs.List.{position}
use Rattle.bytes_at.specs.Bytes.{same_bytes}
use Rattle.bytes_at.specs.Stages.{◌▷◌, or_at, or_no}
use Rattle.bytes_at.specs.Steps.{◌>>=◌}
use Rattle.table_rules.specs.ColumnDesc.{no_column, name_in, is_named, first_named}
use Rattle.table_rules.specs.declared.Column.{Column}
use Rattle.table_rules.specs.declared.Description.{Description}
use Rattle.table_rules.specs.Table.{described_as, position_or, column_named}
use Rattle.table_rules.proofs.Searches.{position_is, first_front}

pick : (b : Bool) (k : ℕ) → ok_or (cond b (Some k) None) (record { number = 8; byte = 0 }) ≡ position_or (or_no b 8) k
unfolding or_at
pick true k = refl
pick false k = refl

abbrev pub has_name : List ℕ → List ℕ → Column → Bool
has_name s name c = same_bytes (name_in s c) name

module _ (s name : List ℕ) (d : Description) (e : d ≡ described_as s) where
  pub not_described : (d.refused.number ≡ 0 → ⊥) → Err d.refused ≡ column_named s name
  unfolding column_named ◌>>=◌ ◌▷◌ or_at
  not_described h = rw (← e, ne_eqb d.refused.number 0 h, ne_eqb d.refused.number 0 h)

  pub sought : d.refused.number ≡ 0 → d.column_count ≤ length d.columns → {r : Option ℕ} → r ≡ position (has_name s name) (take d.column_count d.columns)
      → ok_or r (record { number = 8; byte = 0 }) ≡ column_named s name
  unfolding column_named ◌>>=◌ ◌▷◌ first_named is_named
  sought z h q =
      rw (
        ← e,
        eq-eqb d.refused.number 0 z,
        q,
        position_is (has_name s name) no_column (take d.column_count d.columns),
        length-take-le d.column_count d.columns h,
        first_front (has_name s name) no_column d.columns d.column_count,
      )
      (pick (ltb (first_named s d.columns d.column_count name) d.column_count) (first_named s d.columns d.column_count name))
