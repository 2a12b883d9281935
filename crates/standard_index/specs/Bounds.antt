-- What the code knows of a header and of a set that were read.
use Rattle.std.specs.Prelude.{◌≤◌, ◌<◌, ℕ, ◌+◌, ◌*◌}
use Rattle.bytes_at.specs.Number.{int_bytes}
use Rattle.standard_rules.specs.declared.Header.{Header}
use Rattle.standard_rules.specs.declared.Set.{Set}

-- the numbers without a range are uInts
pub record HeaderWords (h : Header) : Type 0 where
  pub free_count : h.free_count < 4294967296
  pub first_free : h.first_free < 4294967296
  pub index_count : h.index_count < 4294967296
  pub first_index : h.first_index < 4294967296
  pub offset : h.offset < 4294967296

-- both lists of a set lie in a text of len bytes, and its rows per bucket are in range
pub record SetInside (len : ℕ) (x : Set) : Type 0 where
  pub lasts_inside : x.lasts + x.entries * int_bytes x.wide ≤ len
  pub buckets_inside : x.buckets + x.entries * 4 ≤ len
  pub per_least : 1 ≤ x.per
  pub per_most : x.per ≤ 8388608
