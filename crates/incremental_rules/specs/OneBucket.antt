-- RULES.md 6.7: the check for one cell, which of the buckets looks at the row's own alone.
use Rattle.std.specs.Prelude.{◌≡◌, ◌↔◌, ℕ, ◌≤◌, ◌<◌, cond, Bool, ltb, List}
use Rattle.bytes_at.specs.declared.Refusal.{Refusal}
use Rattle.bytes_at.specs.Stages.{◌▷◌, or_no}
use Rattle.table_rules.specs.declared.Description.{Description}
use Rattle.incremental_rules.specs.declared.Header.{Header}
use Rattle.incremental_rules.specs.declared.Index.{Index}
use Rattle.incremental_rules.specs.declared.Cells.{Cells}
use Rattle.incremental_rules.specs.declared.Found.{Found}
use Rattle.incremental_rules.specs.declared.Checked.{Checked}
use Rattle.incremental_rules.specs.Header.{header_at}
use Rattle.incremental_rules.specs.Index.{index_of}
use Rattle.incremental_rules.specs.Bucket.{cells_of}
use Rattle.incremental_rules.specs.Check.{bucket_into, before_buckets, refusal_of, PartsAccepted, EntryAccepted, told, checked_as}
use Rattle.incremental_rules.specs.Place.{entry_of, place_of, Safe, Kept}

-- "row (9) ahead of the bucket", then "of the buckets only the row's own": that of the row's entry, whole
unfoldable pub own_bucket : ℕ → Bool → List ℕ → ℕ → Index → Cells → ℕ → Found
own_bucket rows big f size x cells row =
    bucket_into big f size x cells row (record { start = 0; offset = 0; refused = or_no (ltb row rows) 9 }) (entry_of big f x row)

-- "checks table, header, length, index, free chain, bucket numbers and first rows": the stages of the full check, and in place of all
-- buckets the row and its own. It is refused alike whatever column is asked for.
unfoldable pub own_refusal : Description → ℕ → List ℕ → Refusal → ℕ → Refusal
own_refusal d sequence f refused row =
    let h = header_at f d.big in
    before_buckets d.rows d.big f refused
    ▷ (own_bucket d.rows d.big f h.size (index_of f d.big h) (cells_of d sequence 0) row).refused

-- what it tells of the cell at a position and a row
unfoldable pub own_checked : Description → ℕ → List ℕ → Refusal → ℕ → ℕ → Checked
own_checked d sequence f refused position row =
    let h = header_at f d.big in
    told (own_refusal d sequence f refused row) h.size (own_bucket d.rows d.big f h.size (index_of f d.big h) (cells_of d sequence position) row)

-- either check: of the row's own bucket, or of all
unfoldable pub refusal_by : Bool → Description → ℕ → List ℕ → Refusal → ℕ → Refusal
refusal_by own d sequence f refused row = cond own (own_refusal d sequence f refused row) (refusal_of d sequence f refused)

unfoldable pub checked_by : Bool → Description → ℕ → List ℕ → Refusal → ℕ → ℕ → Checked
checked_by own d sequence f refused position row =
    cond own (own_checked d sequence f refused position row) (checked_as d sequence f refused position row)

-- The parts that are checked for a row, as facts.
pub record RowAccepted (d : Description) (sequence : ℕ) (f : List ℕ) (row : ℕ) (h : Header) (x : Index) : Type 0 where
  pub parts : PartsAccepted d.rows d.big f h x
  -- "row (9)"
  pub below : row < d.rows
  -- "only the row's own"
  pub bucket : EntryAccepted d sequence f h x (entry_of d.big f x row)

abbrev pub AcceptedFor : Description → ℕ → List ℕ → ℕ → Type 0
AcceptedFor d sequence f row = let h = header_at f d.big in RowAccepted d sequence f row h (index_of f d.big h)

-- Of every table, every file and every row: nothing refuses exactly when nothing was refused before and these parts are accepted.
abbrev pub OwnExactly : Type 0
OwnExactly =
    (d : Description) (sequence : ℕ) (f : List ℕ) (refused : Refusal) (row : ℕ)
    → ((own_refusal d sequence f refused row).number ≡ 0) ↔ ((refused.number ≡ 0) × AcceptedFor d sequence f row)

-- Of every row that is there: where the full check refuses nothing, neither does this one.
abbrev pub OwnWithin : Type 0
OwnWithin =
    (d : Description) (sequence : ℕ) (f : List ℕ) (refused : Refusal) (row : ℕ) → row < d.rows
    → (refusal_of d sequence f refused).number ≡ 0 → (own_refusal d sequence f refused row).number ≡ 0

-- Where it refuses nothing, the place of a cell of the row is as safe as in a file that is accepted whole.
abbrev pub OwnPlace : Type 0
OwnPlace =
    (d : Description) (sequence : ℕ) (f : List ℕ) (refused : Refusal) (position row : ℕ) → d.column_count ≤ 64
    → (own_refusal d sequence f refused row).number ≡ 0 → Kept d sequence position
    → Safe d.big f (header_at f d.big) (index_of f d.big (header_at f d.big)) (place_of d sequence f position row) row
