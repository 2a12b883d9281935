-- RULES.md 6.6, and Note 260, 3.4.3, Index Part: the place of a cell, read from the numbers of the index and of the
-- bucket's index part; and what holds of it in an accepted file.
use Rattle.std.specs.Prelude.{ℕ, ◌+◌, ◌*◌, zero, suc, ◌-◌, ◌≤◌, ◌<◌, List, Bool, cond, leb, eqb, get_or, length, ◌≡◌}
use Rattle.bytes_at.specs.declared.Refusal.{Refusal}
use Rattle.bytes_at.specs.Lists.{last_below}
use Rattle.incremental_rules.specs.declared.Index.{Index}
use Rattle.table_rules.specs.ColumnSet.{no_binding}
use Rattle.table_rules.specs.declared.Description.{Description}
use Rattle.standard_rules.specs.Header.{bucket_start}
use Rattle.incremental_rules.specs.declared.Header.{Header}
use Rattle.table_rules.specs.ColumnDesc.{no_column}
use Rattle.standard_rules.specs.Map.{ceil8}
use Rattle.standard_rules.specs.Place.{bucket_bits, Bits, header_bits}
use Rattle.incremental_rules.specs.Header.{header_at}
use Rattle.incremental_rules.specs.Index.{first_row, bucket_number, free_buckets, index_of}
use Rattle.standard_rules.specs.Demand.{Apart, Inside}
use Rattle.incremental_rules.specs.Bucket.{index_offset, start_bytes, values_in, start_in, offset_of_value, past_part}
use Rattle.incremental_rules.specs.Check.{refusal_of}

-- "The last start not above the local row", in a part whose starts have so many bytes
abbrev pub value_in : Bool → List ℕ → ℕ → ℕ → ℕ → ℕ
value_in big f width part row = last_below (λ (i : ℕ). leb (start_in big f width part i) row) (values_in big f part)

-- the offset of that value
abbrev pub offset_in : Bool → List ℕ → ℕ → ℕ → ℕ → ℕ
offset_in big f width part row = offset_of_value big f width part (value_in big f width part row)

-- the entry of a row: the last whose first row is not above it
abbrev pub entry_of : Bool → List ℕ → Index → ℕ → ℕ
entry_of big f x row = last_below (λ (i : ℕ). leb (first_row big f x i) row) x.count

-- whether the column at a position is bound to the manager with the sequence number
abbrev pub is_bound : Description → ℕ → ℕ → Bool
is_bound d sequence k = eqb (get_or d.bindings k no_binding).sequence sequence

-- where the part of the column at a position begins in an index part that begins at a place: those of the bound columns before it
-- come first
unfoldable pub part_at : Bool → List ℕ → ℕ → ℕ → (ℕ → Bool) → ℕ → ℕ
part_at big f width at bound zero = at
part_at big f width at bound (suc k) = let before = part_at big f width at bound k in cond (bound k) (past_part big f width before) before

-- the first bit of the value that a row has in the column at a position, in a file with this header and this index
unfoldable pub bit_of : Description → ℕ → List ℕ → Header → Index → ℕ → ℕ → ℕ
bit_of d sequence f h x position row =
    let e = entry_of d.big f x row in
    let start = bucket_start h.size (bucket_number d.big f x e) in
    let width = start_bytes d.big f start in
    let part = part_at d.big f width (start + index_offset d.big f start) (is_bound d sequence) position in
    8 * (start + 4 + offset_in d.big f width part (row - first_row d.big f x e))

-- "Cells take ceiling(bits / 8) x 8 bits"
abbrev pub whole_bits : Description → ℕ → ℕ
whole_bits d position = 8 * ceil8 (get_or d.columns position no_column).bits

-- the place of the cell at a position and a row, whether the file is accepted or not
unfoldable pub place_of : Description → ℕ → List ℕ → ℕ → ℕ → Bits
place_of d sequence f position row =
    let h = header_at f d.big in
    record { first = bit_of d sequence f h (index_of f d.big h) position row; count = whole_bits d position }

-- the bits of the data part of bucket b: from byte 4 to its index offset
abbrev pub data_bits : Bool → List ℕ → Header → ℕ → Bits
data_bits big f h b =
    record { first = 8 * (bucket_start h.size b + 4); count = 8 * (index_offset big f (bucket_start h.size b) - 4) }

-- the bits of the ISMIndex, and of all that stands after it
abbrev pub index_bits : List ℕ → Header → Bits
index_bits f h =
    record { first = 8 * bucket_start h.size h.count; count = 8 * (length f - bucket_start h.size h.count) }

-- What holds of the place p of a cell in a row, in a file with header h and index x.
pub record Safe (big : Bool) (f : List ℕ) (h : Header) (x : Index) (p : Bits) (row : ℕ) : Type 0 where
  -- the index has an entry for the row, and its bucket is one of the file's
  pub given : entry_of big f x row < x.count
  pub not_before : first_row big f x (entry_of big f x row) ≤ row
  pub not_after : row < first_row big f x (entry_of big f x row + 1)
  pub in_range : bucket_number big f x (entry_of big f x row) < h.count
  -- the cell lies in the data part of that bucket, and the data part in the bucket
  pub inside : Inside p (data_bits big f h (bucket_number big f x (entry_of big f x row)))
  pub inside_bucket : Inside (data_bits big f h (bucket_number big f x (entry_of big f x row))) (bucket_bits h.size (bucket_number big f x (entry_of big f x row)))
  pub off_header : Apart p header_bits
  pub off_free : (i : ℕ) → i < length (free_buckets f h) → Apart p (bucket_bits h.size (get_or (free_buckets f h) i 0))
  pub off_index : Apart p (index_bits f h)

-- The column at a position is one of the file's, and its cells have a place: it is no String.
pub record Kept (d : Description) (sequence position : ℕ) : Type 0 where
  pub known : position < d.column_count
  pub bound : (get_or d.bindings position no_binding).sequence ≡ sequence
  pub no_string : (get_or d.columns position no_column).datatype.number ≡ 11 → ⊥

-- Of every accepted file, every row and every column of it that is no String.
abbrev pub EveryPlace : Type 0
EveryPlace =
    (d : Description) (sequence : ℕ) (f : List ℕ) (refused : Refusal) → d.column_count ≤ 64 → (refusal_of d sequence f refused).number ≡ 0
    → (position row : ℕ) → Kept d sequence position → row < d.rows
    → Safe d.big f (header_at f d.big) (index_of f d.big (header_at f d.big)) (place_of d sequence f position row) row
