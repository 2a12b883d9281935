-- What the code knows of what was read: a header, an index.
use Rattle.std.specs.Prelude.{◌≤◌, ◌<◌, ℕ, ◌+◌, ◌*◌, ◌≡◌, Bool, List, length}
use Rattle.bytes_at.specs.Number.{int_bytes}
use Rattle.incremental_rules.specs.declared.Header.{Header}
use Rattle.incremental_rules.specs.declared.Index.{Index}
use Rattle.standard_rules.specs.Header.{bucket_start}
use Rattle.incremental_rules.specs.Index.{bucket_number, IndexAccepted}
use Rattle.incremental_rules.specs.Header.{header_at}

-- what holds of the numbers of a header; the last where it is not refused
pub record HeaderBounds (h : Header) : Type 0 where
  pub size_most : h.size ≤ 1048576
  pub count_most : h.count ≤ 4096
  pub size_least : h.refused.number ≡ 0 → 16 ≤ h.size

-- the numbers without a range are uInts
pub record HeaderWords (h : Header) : Type 0 where
  pub free_count : h.free_count < 4294967296
  pub first_free : h.first_free < 4294967296

-- both lists lie in a file of len bytes
pub record IndexInside (len : ℕ) (x : Index) : Type 0 where
  pub firsts_inside : x.firsts + (x.count + 1) * int_bytes x.wide ≤ len
  pub buckets_inside : x.buckets + x.count * 4 ≤ len

-- the buckets of the index lie in the file
abbrev pub BucketsInside : Bool → List ℕ → ℕ → Index → Type 0
BucketsInside big f size x = (i : ℕ) → i < x.count → bucket_start size (bucket_number big f x i) + size ≤ length f

-- the numbers of the index are right
abbrev pub Numbered : ℕ → Bool → List ℕ → Index → Type 0
Numbered rows big f x = IndexAccepted rows big f (header_at f big) x
