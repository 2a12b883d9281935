-- What holds of every description, refused ones too.
-- Assumes nothing.
use mathlib.Core.Path.{◌≡◌, refl, ◌∙◌}
use mathlib.Core.List.{List}
use mathlib.Core.Bool.{Bool, true, false, cond}
use Rattle.std.specs.Prelude.{Option}
use Prim.Native.Nat.{ℕ, zero, suc, ◌≤◌, zero-le}
use lib.Dec.{eqb}
use lib.ListN.{length, get_or, length-set, length-replicate}
use Rattle.bytes_at.specs.declared.Refusal.{Refusal}
use Rattle.bytes_at.specs.Stages.{OthersCarry0}
use Rattle.bytes_at.proofs.Stages.{others_none, others_blaming}
use Rattle.bytes_at.specs.Steps.{after, ◌>>=◌}
use Rattle.aipsio_rules.specs.declared.Cursor.{Cursor}
use Rattle.aipsio_rules.specs.Field.{refusal_in}
use Rattle.aipsio_rules.proofs.Bounds.{ranged_le}
use Rattle.table_rules.specs.ColumnDesc.{no_column, column_into, no_columns, columns_at}
use Rattle.table_rules.specs.declared.Owner.{Owner}
use Rattle.table_rules.specs.declared.Info.{Info}
use Rattle.table_rules.specs.ColumnSet.{most_rows, no_binding, column_set_head_at, bindings_at}
use Rattle.table_rules.specs.declared.Description.{Description}
use Rattle.table_rules.specs.Table.{table_desc_head_at, described_as, refused_table, EveryRowCount}
use Rattle.table_rules.proofs.WholeBytes.{Whole, no_columns_whole, columns_whole}

-- the loops that fill the columns and their bindings keep the 64 places
pub turns_long : (s : List ℕ) (c : Cursor) (n : ℕ) → length (after (column_into s) (no_columns c) n).columns ≡ 64
unfolding after column_into ◌>>=◌
turns_long s c zero = length-replicate 64 no_column
turns_long s c (suc n) = length-set (after (column_into s) (no_columns c) n).columns n _ ∙ turns_long s c n

columns_long : (s : List ℕ) (c : Cursor) (n : ℕ) → length (columns_at s c n).columns ≡ 64
unfolding columns_at
columns_long s c n = turns_long s c n

bindings_long : (s : List ℕ) (owners : List Owner) (infos : List (Option Info)) (n : ℕ) → length (bindings_at s owners infos n) ≡ 64
unfolding bindings_at after
bindings_long s owners infos zero = length-replicate 64 no_binding
bindings_long s owners infos (suc n) = length-set (bindings_at s owners infos n) n _ ∙ bindings_long s owners infos n

pub record Described (d : Description) : Type 0 where
  pub rows_most : d.rows ≤ most_rows
  pub columns_most : d.column_count ≤ 64
  pub columns_places : length d.columns ≡ 64
  pub bindings_places : length d.bindings ≡ 64
  pub columns_whole : (i : ℕ) → Whole (get_or d.columns i no_column)
  -- a byte other than 0 stands beside a refusal of 1 to 7 only
  pub others : OthersCarry0 d.refused

head_most : (s : List ℕ) (c : Cursor) (rows : ℕ) → (column_set_head_at s c rows).rows ≤ most_rows
unfolding column_set_head_at ◌>>=◌
head_most s c rows = ranged_le s _ _ 0 most_rows 3

pub count_most : (s : List ℕ) (c : Cursor) → (table_desc_head_at s c).count ≤ 64
unfolding table_desc_head_at ◌>>=◌
count_most s c = ranged_le s _ 4 1 64 3

either : (b : Bool) (x y : Description) → Described x → Described y → Described (cond b x y)
either true x y h k = h
either false x y h k = k

refused : (why : Refusal) → OthersCarry0 why → Described (refused_table why)
unfolding refused_table
refused why h = record {
  rows_most = zero-le;
  columns_most = zero-le;
  columns_places = length-replicate 64 no_column;
  bindings_places = length-replicate 64 no_binding;
  columns_whole = no_columns_whole;
  others = h;
}

-- a line of the definition
line : {A : Type 0} (a : A) (next : A → Description) → ((x : A) → x ≡ a → Described (next x)) → Described (a >>= next)
unfolding ◌>>=◌
line a next h = h a refl

pub described : (t : List ℕ) → Described (described_as t)
unfolding described_as
described t =
    line _ _ (λ c _. line _ _ (λ m _. line _ _ (λ u _. line _ _ (λ head _. line _ _ (λ o _. line _ _ (λ n k. line _ _ (λ cs x. line _ _ (λ end _. line _ _ (λ set e.
    line _ _ (λ ms _. line _ _ (λ os _. line _ _ (λ is _. line _ _ (λ d _. line _ _ (λ bs y.
    either (eqb d.refused 0) _ _
    (record {
      rows_most = rw e (head_most t end head.rows);
      columns_most = rw k (count_most t o.next);
      columns_places = rw x (columns_long t n.next n.count);
      bindings_places = rw y (bindings_long t os.owners is.infos n.count);
      columns_whole = rw x (columns_whole t n.next n.count);
      others = others_none;
    })
    (refused (refusal_in d) (others_blaming d.refused d.at))))))))))))))))

pub every_row_count : EveryRowCount
every_row_count t = (described t).rows_most
