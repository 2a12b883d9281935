-- RULES.md 6.5: when a file is accepted.
use Rattle.std.specs.Prelude.{◌≡◌, ◌↔◌, ℕ, ◌+◌, ◌-◌, ◌*◌, ◌≤◌, ◌<◌, cond, Bool, T, eqb, leb, List, length}
use Rattle.incremental_rules.specs.declared.Found.{Found}
use Rattle.bytes_at.specs.declared.Refusal.{Refusal}
use Rattle.bytes_at.specs.Stages.{no_refusal, ◌▷◌, or_at, or_no}
use Rattle.aipsio_rules.specs.Field.{refusal_in}
use Rattle.bytes_at.specs.Steps.{◌>>=◌, after}
use Rattle.standard_rules.specs.Header.{bucket_start}
use Rattle.incremental_rules.specs.declared.Index.{Index}
use Rattle.incremental_rules.specs.Bucket.{bucket_at, cells_of, BucketAccepted}
use Rattle.incremental_rules.specs.declared.Cells.{Cells}
use Rattle.table_rules.specs.declared.Description.{Description}
use Rattle.standard_rules.specs.Index.{free_ok}
use Rattle.standard_rules.specs.Check.{long_enough}
use Rattle.incremental_rules.specs.declared.Header.{Header}
use Rattle.incremental_rules.specs.Header.{header_at}
use Rattle.incremental_rules.specs.Index.{first_row, bucket_number, index_fits, index_of, IndexAccepted}
use Rattle.incremental_rules.specs.declared.Checked.{Checked}

-- zeros and the refusal where a bucket is refused
unfoldable pub found_as : Refusal → ℕ → ℕ → Found
found_as refused start offset =
    let passes = eqb refused.number 0 in
    record { start = cond passes start 0; offset = cond passes offset 0; refused = refused }

-- bucket i of the index. The row's bucket is the last whose first row is not above it.
unfoldable pub bucket_into : Bool → List ℕ → ℕ → Index → Cells → ℕ → Found → ℕ → Found
bucket_into big f size x cells row found i = do
  b ← bucket_number big f x i
  first ← first_row big f x i
  past ← first_row big f x (i + 1)
  at ← bucket_start size b
  rows ← past - first
  local ← row - first
  one ← bucket_at f at size big rows local cells.column cells.bytes cells.count
  start ← cond (leb first row) at found.start
  offset ← cond (leb first row) one.value found.offset
  found_as (found.refused ▷ refusal_in one.next) start offset

-- nothing found, nothing refused
abbrev pub nothing : Found
nothing = record { start = 0; offset = 0; refused = no_refusal }

-- "buckets in index order"
unfoldable pub search_of : Bool → List ℕ → ℕ → Index → Cells → ℕ → Found
search_of big f size x cells row = after (bucket_into big f size x cells row) nothing x.count

-- "Order: header, length, index object, free chain, bucket numbers and first rows, buckets in index order." The parts before the
-- buckets, as stages, in a table of so many rows and this endianness; `refused` is the refusal so far. The question of one bucket
-- (OneBucket.antt) has the same ones.
unfoldable pub before_buckets : ℕ → Bool → List ℕ → Refusal → Refusal
before_buckets rows big f refused =
    let h = header_at f big in
    let x = index_of f big h in
    refused
    ▷ h.refused
    ▷ or_at (long_enough (length f) h.size h.count) 1 (length f)
    ▷ x.refused
    ▷ or_no (free_ok f h.size h.count h.free_count h.first_free) 10
    ▷ or_no (index_fits rows big f h x) 11

-- Those stages, and that of the buckets, which are refused alike whatever cell is asked for (proofs/AnyCell.antt).
unfoldable pub refusal_of : Description → ℕ → List ℕ → Refusal → Refusal
refusal_of d sequence f refused =
    let h = header_at f d.big in
    before_buckets d.rows d.big f refused
    ▷ (search_of d.big f h.size (index_of f d.big h) (cells_of d sequence 0) 0).refused

-- The chapter as facts, in the order of that sentence, of a file with header h and index x: the parts before the buckets.
pub record PartsAccepted (rows : ℕ) (big : Bool) (f : List ℕ) (h : Header) (x : Index) : Type 0 where
  -- "header"
  pub header : h.refused.number ≡ 0
  -- "length": 1 where "the file is shorter than 512 + buckets x bucket size"
  pub long : 512 + h.count * h.size ≤ length f
  -- "index object"
  pub index : x.refused.number ≡ 0
  -- "free chain"
  pub free : T (free_ok f h.size h.count h.free_count h.first_free)
  -- "bucket numbers and first rows"
  pub numbers : IndexAccepted rows big f h x

-- Bucket i of the index has the rows from its first row to the next one, and every column of the manager.
abbrev pub EntryAccepted : Description → ℕ → List ℕ → Header → Index → ℕ → Type 0
EntryAccepted d sequence f h x i =
    BucketAccepted f (bucket_start h.size (bucket_number d.big f x i)) h.size d.big (first_row d.big f x (i + 1) - first_row d.big f x i)
    (cells_of d sequence 0).bytes (cells_of d sequence 0).count

-- The parts and all buckets.
pub record FileAccepted (d : Description) (sequence : ℕ) (f : List ℕ) (h : Header) (x : Index) : Type 0 where
  pub parts : PartsAccepted d.rows d.big f h x
  -- "buckets in index order"
  pub buckets : (i : ℕ) → i < x.count → EntryAccepted d sequence f h x i

abbrev pub Accepted : Description → ℕ → List ℕ → Type 0
Accepted d sequence f = let h = header_at f d.big in FileAccepted d sequence f h (index_of f d.big h)

-- Of every table and every file: nothing refuses exactly when nothing was refused before and the file is accepted.
abbrev pub AcceptedExactly : Type 0
AcceptedExactly =
    (d : Description) (sequence : ℕ) (f : List ℕ) (refused : Refusal)
    → ((refusal_of d sequence f refused).number ≡ 0) ↔ ((refused.number ≡ 0) × Accepted d sequence f)

-- "each offset, counted from byte 4"
abbrev pub first_bit : Found → ℕ
first_bit found = 8 * (found.start + 4 + found.offset)

-- What a check tells: "A refusal carries its number and zeros", and beside them its byte; else the bucket size, and the first bit of
-- what its buckets' stage found.
unfoldable pub told : Refusal → ℕ → Found → Checked
told why size found =
    cond (eqb why.number 0)
    (record { refused = no_refusal; size = size; first = first_bit found })
    (record { refused = why; size = 0; first = 0 })

-- What the check of the manager's file tells, where the cell at a position and a row is asked for. A position without a column of the
-- file, or a row that is not there, has no cell, and gives some number.
unfoldable pub checked_as : Description → ℕ → List ℕ → Refusal → ℕ → ℕ → Checked
checked_as d sequence f refused position row =
    let h = header_at f d.big in
    told (refusal_of d sequence f refused) h.size (search_of d.big f h.size (index_of f d.big h) (cells_of d sequence position) row)
