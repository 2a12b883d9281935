-- What is read of a list's first elements is read of those alone.
-- Assumes nothing.
use mathlib.Core.Path.{◌≡◌, refl, ap, ◌∙◌}
use mathlib.Core.List.{List}
use mathlib.Core.Bool.{Bool}
use Prim.Native.Nat.{ℕ, zero, suc, ◌<◌}
use native.Mathlib.Omega.{arith}
use Rattle.std.proofs.Common.{take, get_or-take}
use Rattle.bytes_at.specs.Steps.{after, ◌>>=◌}
use Rattle.table_rules.specs.declared.Column.{Column}
use Rattle.table_rules.specs.ColumnDesc.{no_column}
use Rattle.table_rules.specs.declared.Binding.{Binding}
use Rattle.table_rules.specs.ColumnSet.{no_binding}
use Rattle.incremental_rules.specs.declared.Cells.{Cells}
use Rattle.incremental_rules.specs.declared.Found.{Found}
use Rattle.incremental_rules.specs.declared.Index.{Index}
use Rattle.incremental_rules.specs.Bucket.{cell_into, cells_in, column_part_into, column_parts_at, bucket_at}
use Rattle.incremental_rules.specs.Check.{bucket_into, nothing, search_of}
use Rattle.incremental_rules.specs.OneBucket.{own_bucket}

-- loops whose turns are the same
pub after_same : {A : Type 0} (f g : A → ℕ → A) (x : A) (n : ℕ) → ((y : A) (k : ℕ) → k < n → f y k ≡ g y k) → after f x n ≡ after g x n
unfolding after
after_same f g x zero h = refl
after_same f g x (suc n) h = ap (λ y. f y n) (after_same f g x n (λ y k l. h y k (omega arith))) ∙ h _ n (omega arith)

-- the columns of a file
pub cells_taken : (cs : List Column) (bs : List Binding) (n sequence position : ℕ) → cells_in (take n cs) (take n bs) n sequence position ≡ cells_in cs bs n sequence position
unfolding cells_in cell_into
cells_taken cs bs n sequence position = after_same _ _ _ n (λ y k l. rw (get_or-take n cs k no_column l, get_or-take n bs k no_binding l) refl)

-- a bucket
pub bucket_taken : (f : List ℕ) (at size : ℕ) (big : Bool) (rows row column : ℕ) (bytes : List ℕ) (n : ℕ)
    → bucket_at f at size big rows row column (take n bytes) n ≡ bucket_at f at size big rows row column bytes n
unfolding bucket_at column_parts_at column_part_into ◌>>=◌
bucket_taken f at size big rows row column bytes n = after_same _ _ _ n (λ y k l. rw (get_or-take n bytes k 0 l) refl)

-- columns, by the first elements of the list of their bytes
abbrev pub first_cells : Cells → Cells
first_cells cells = record { bytes = take cells.count cells.bytes; count = cells.count; column = cells.column }

-- an entry of the index, and the searches
module _ (big : Bool) (f : List ℕ) (size : ℕ) (x : Index) (cells : Cells) (row : ℕ) where
  turn_taken : (found : Found) (i : ℕ) → bucket_into big f size x (first_cells cells) row found i ≡ bucket_into big f size x cells row found i
  unfolding bucket_into ◌>>=◌
  turn_taken found i = rw (bucket_taken f _ size big _ _ cells.column cells.bytes cells.count) refl

  pub search_taken : search_of big f size x (first_cells cells) row ≡ search_of big f size x cells row
  unfolding search_of
  search_taken = after_same _ _ nothing x.count (λ y k l. turn_taken y k)

  pub own_taken : (rows : ℕ) → own_bucket rows big f size x (first_cells cells) row ≡ own_bucket rows big f size x cells row
  unfolding own_bucket
  own_taken rows = turn_taken _ _
