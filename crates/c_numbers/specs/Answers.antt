-- What the functions for C give and write.
use Rattle.std.specs.Prelude.{ℕ, List, [], ◌∷◌, ◌++◌, cond, length, get_or, take, drop, ltb, Result}
use Rattle.bytes_at.specs.declared.Refusal.{Refusal}
use Rattle.bytes_at.specs.Stages.{◌▷◌, or_no}
use Rattle.table_rules.specs.declared.Column.{Column}
use Rattle.table_rules.specs.ColumnDesc.{no_column}
use Rattle.table_rules.specs.declared.Binding.{Binding}
use Rattle.table_rules.specs.declared.Manager.{Manager}
use Rattle.table_rules.specs.ColumnSet.{no_manager, no_binding}
use Rattle.table_rules.specs.declared.Description.{Description}
use Rattle.table_rules.specs.Table.{position_refusal, position_value}
use Rattle.c_numbers.specs.Numbers.{flag_of, with_byte, one_column, one_manager}

-- `out` afterwards: the first values, as many as it holds, then what stood behind them
unfoldable pub written : List ℕ → List ℕ → List ℕ
written values out = take (length out) values ++ drop (length values) out

-- the refusal so far, or 8 where there is no such position
unfoldable pub missing : Refusal → ℕ → ℕ → Refusal
missing refused position count = refused ▷ or_no (ltb position count) 8

abbrev pub summary_of : Description → List ℕ
summary_of d = with_byte (d.rows ∷ flag_of d.big ∷ d.column_count ∷ d.manager_count ∷ []) d.refused

abbrev pub column_refusal : Description → ℕ → Refusal
column_refusal d position = missing d.refused position d.column_count

abbrev pub manager_refusal : Description → ℕ → Refusal
manager_refusal d index = missing d.refused index d.manager_count

-- the one at a position below the count; else the one that stands for none
unfoldable pub picked : {A : Type 0} → List A → ℕ → ℕ → A → A
picked list count position none = cond (ltb position count) (get_or list position none) none

abbrev pub picked_column : List Column → ℕ → ℕ → Column
picked_column columns count position = picked columns count position no_column

abbrev pub picked_binding : List Binding → ℕ → ℕ → Binding
picked_binding bindings count position = picked bindings count position no_binding

abbrev pub picked_manager : List Manager → ℕ → ℕ → Manager
picked_manager managers count position = picked managers count position no_manager

abbrev pub column_numbers : Description → ℕ → List ℕ
column_numbers d position =
    with_byte
    (one_column (picked_column d.columns d.column_count position) (picked_binding d.bindings d.column_count position))
    (column_refusal d position)

abbrev pub manager_numbers : Description → ℕ → List ℕ
manager_numbers d index = with_byte (one_manager (picked_manager d.managers d.manager_count index)) (manager_refusal d index)

abbrev pub position_numbers : Result ℕ Refusal → List ℕ
position_numbers p = with_byte (position_value p ∷ []) (position_refusal p)

-- what is given for fewer than nine numbers, and for a plan
unfoldable pub if_nine : {A : Type 0} → List ℕ → A → A → A
if_nine plan short whole = cond (ltb (length plan) 9) short whole
