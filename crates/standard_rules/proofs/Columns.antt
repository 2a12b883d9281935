-- The columns of a map: those of the table, in stored order.
-- Assumes nothing.
use mathlib.Core.Path.{◌≡◌, refl, ap, ◌∙◌}
use mathlib.Core.List.{List}
use Prim.Native.Nat.{ℕ, zero, suc, ◌+◌, ◌<◌}
use native.Mathlib.Omega.{arith}
use lib.ListN.{length, get_or}
use lib.Dec.{T, eqb, eqb_refl}
use Rattle.table_rules.specs.declared.Column.{Column}
use Rattle.table_rules.specs.ColumnDesc.{no_column}
use Rattle.table_rules.specs.declared.Binding.{Binding}
use Rattle.table_rules.specs.ColumnSet.{no_binding}
use Rattle.table_rules.specs.declared.Description.{Description}
use Rattle.standard_rules.specs.Map.{no_map_column, column_at, Kept, map_column, columns_from, map_with, map_of}
use Rattle.table_rules.specs.Table.{binding_in}

module _ (sequence : ℕ) (cs : List Column) (bs : List Binding) where
  -- there are n
  columns_length : (n i : ℕ) → length (columns_from sequence cs bs n i) ≡ n
  unfolding columns_from
  columns_length zero i = refl
  columns_length (suc n) i = ap suc (columns_length n (suc i))

  -- the one at k is the table's column i + k with its binding
  columns_at_lem : (n i k : ℕ) → k < n
      → get_or (columns_from sequence cs bs n i) k no_map_column ≡ map_column sequence (get_or cs (i + k) no_column) (get_or bs (i + k) no_binding)
  unfolding columns_from
  columns_at_lem zero i k h = absurd (omega arith)
  columns_at_lem (suc n) i zero h = let e : i ≡ i + 0 = omega arith in ap (λ (j : ℕ). map_column sequence (get_or cs j no_column) (get_or bs j no_binding)) e
  columns_at_lem (suc n) i (suc k) h =
      let e : suc i + k ≡ i + suc k = omega arith in
      columns_at_lem n (suc i) k (omega arith) ∙ ap (λ (j : ℕ). map_column sequence (get_or cs j no_column) (get_or bs j no_binding)) e

-- a column that carries the sequence number is kept in the file
pub column_kept : (d : Description) (sequence : ℕ) (f : List ℕ) (c : ℕ) → c < d.column_count → (binding_in d c).sequence ≡ sequence
    → Kept (map_of d sequence f) c
unfolding map_with
column_kept d sequence f c h e =
    record {
      known = omega (arith, columns_length sequence d.columns d.bindings d.column_count 0);
      here = rw (columns_at_lem sequence d.columns d.bindings d.column_count 0 c h) (kept_zero (0 + c) (omega arith));
    }
  where
    kept_zero : (k : ℕ) → k ≡ c → T (eqb (binding_in d k).sequence sequence)
    kept_zero k q = rw (q, e) (eqb_refl sequence)

-- the map's column is the table's
pub column_same : (d : Description) (sequence : ℕ) (f : List ℕ) (c : ℕ) → c < d.column_count
    → column_at (map_of d sequence f) c ≡ map_column sequence (get_or d.columns c no_column) (binding_in d c)
unfolding map_with
column_same d sequence f c h = columns_at_lem sequence d.columns d.bindings d.column_count 0 c h ∙ from_zero (0 + c) (omega arith)
  where
    from_zero : (k : ℕ) → k ≡ c → map_column sequence (get_or d.columns k no_column) (binding_in d k) ≡ map_column sequence (get_or d.columns c no_column) (binding_in d c)
    from_zero k e = rw e

-- the rows of a map are the table's
pub map_rows : (d : Description) (sequence : ℕ) (f : List ℕ) → (map_of d sequence f).rows ≡ d.rows
unfolding map_with
map_rows d sequence f = refl
