-- What refuses a file is the same for every cell that is asked for.
-- Assumes nothing.
use mathlib.Core.Path.{◌≡◌, refl, sym, ap, ◌∙◌}
use mathlib.Core.List.{List}
use mathlib.Core.Bool.{Bool}
use Prim.Native.Nat.{ℕ, zero, suc, ◌+◌, ◌-◌}
use native.Mathlib.Decide.{ℕ_discrete}
use lib.Dec.{ltb}
use lib.ListN.{get_or}
use borrow.Author.Tests.{eq-eqb, ne_eqb}
use Rattle.bytes_at.specs.Steps.{after, ◌>>=◌}
use Rattle.bytes_at.specs.declared.Refusal.{Refusal}
use Rattle.bytes_at.specs.Stages.{◌▷◌, or_no}
use Rattle.aipsio_rules.specs.Field.{refusal_in}
use Rattle.table_rules.specs.declared.Column.{Column}
use Rattle.table_rules.specs.declared.Binding.{Binding}
use Rattle.table_rules.specs.ColumnSet.{no_binding}
use Rattle.standard_rules.specs.Header.{bucket_start}
use Rattle.incremental_rules.specs.declared.Index.{Index}
use Rattle.incremental_rules.specs.Index.{first_row, bucket_number}
use Rattle.incremental_rules.specs.Bucket.{bucket_at, cell_into, cells_in}
use Rattle.incremental_rules.proofs.BucketAnyCell.{any_cell}
use Rattle.incremental_rules.specs.declared.Cells.{Cells}
use Rattle.incremental_rules.specs.declared.Found.{Found}
use Rattle.incremental_rules.specs.Check.{found_as, bucket_into, nothing, search_of}
use Rattle.incremental_rules.specs.Place.{entry_of}
use Rattle.incremental_rules.specs.OneBucket.{own_bucket}

-- the same columns, whichever is asked for
pub record SameCells (a b : Cells) : Type 0 where
  pub bytes : a.bytes ≡ b.bytes
  pub count : a.count ≡ b.count

module _ (cs : List Column) (bs : List Binding) (sequence position position' : ℕ) where
  cell_same : (a b : Cells) (k : ℕ) → SameCells a b → SameCells (cell_into cs bs sequence position a k) (cell_into cs bs sequence position' b k)
  unfolding cell_into
  cell_same a b k v =
      elim (ℕ_discrete (get_or bs k no_binding).sequence sequence) [
        | yes e ↦ rw (eq-eqb _ _ e) (record { bytes = rw (v.bytes, v.count); count = rw v.count })
        | no e ↦ rw (ne_eqb _ _ e) v
      ]

  pub cells_same : (n : ℕ) → SameCells (cells_in cs bs n sequence position) (cells_in cs bs n sequence position')
  unfolding cells_in after
  cells_same zero = record { bytes = refl; count = refl }
  cells_same (suc n) = cell_same _ _ n (cells_same n)

-- a refusal is kept as it is
pub found_refused : (refused : Refusal) (start offset : ℕ) → (found_as refused start offset).refused ≡ refused
unfolding found_as
found_refused refused start offset = refl

module _ (big : Bool) (f : List ℕ) (size : ℕ) (x : Index) where
  -- what bucket i of the index is refused with
  abbrev pub refused_in : Cells → ℕ → ℕ → Refusal
  refused_in cells row i =
      let first = first_row big f x i in
      refusal_in (bucket_at f (bucket_start size (bucket_number big f x i)) size big (first_row big f x (i + 1) - first) (row - first) cells.column cells.bytes cells.count).next

  pub turn_refused : (cells : Cells) (row : ℕ) (found : Found) (i : ℕ) → (bucket_into big f size x cells row found i).refused ≡ found.refused ▷ refused_in cells row i
  unfolding bucket_into ◌>>=◌
  turn_refused cells row found i = found_refused _ _ _

  same_refused : (a b : Cells) (row row' i : ℕ) → SameCells a b → refused_in a row i ≡ refused_in b row' i
  same_refused a b row row' i v =
      rw (v.bytes, v.count) (ap refusal_in (any_cell f _ size big _ _ _ a.column b.column b.bytes b.count))

  turns_same : (a b : Cells) (row row' : ℕ) → SameCells a b → (n : ℕ)
      → (after (bucket_into big f size x a row) nothing n).refused ≡ (after (bucket_into big f size x b row') nothing n).refused
  unfolding after
  turns_same a b row row' v zero = refl
  turns_same a b row row' v (suc n) =
      turn_refused a row _ n
      ∙ ap (λ (r : Refusal). r ▷ refused_in a row n) (turns_same a b row row' v n)
      ∙ ap (λ (r : Refusal). (after (bucket_into big f size x b row') nothing n).refused ▷ r) (same_refused a b row row' n v)
      ∙ sym (turn_refused b row' _ n)

  pub search_same : (a b : Cells) (row row' : ℕ) → SameCells a b → (search_of big f size x a row).refused ≡ (search_of big f size x b row').refused
  unfolding search_of
  search_same a b row row' v = turns_same a b row row' v x.count

  -- the row's own bucket, after the row
  pub own_refused : (rows : ℕ) (cells : Cells) (row : ℕ) → (own_bucket rows big f size x cells row).refused ≡ or_no (ltb row rows) 9 ▷ refused_in cells row (entry_of big f x row)
  unfolding own_bucket
  own_refused rows cells row = turn_refused cells row _ (entry_of big f x row)

  pub own_same : (rows : ℕ) (a b : Cells) (row : ℕ) → SameCells a b → (own_bucket rows big f size x a row).refused ≡ (own_bucket rows big f size x b row).refused
  own_same rows a b row v =
      own_refused rows a row ∙ ap (λ (r : Refusal). or_no (ltb row rows) 9 ▷ r) (same_refused a b row row (entry_of big f x row) v) ∙ sym (own_refused rows b row)
