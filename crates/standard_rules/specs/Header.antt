-- RULES.md 5.1, and Note 260, 3.4.2, Header: its fields in file order.
use Rattle.std.specs.Prelude.{ℕ, ◌+◌, ◌*◌, ◌≤◌, cond, Bool, true, leb, eqb, ◌≡◌, List, length}
use Rattle.bytes_at.specs.Bytes.{bytes}
use Rattle.bytes_at.specs.Steps.{◌>>=◌}
use Rattle.bytes_at.specs.Stages.{no_refusal}
use Rattle.aipsio_rules.specs.declared.Cursor.{Cursor}
use Rattle.aipsio_rules.specs.Field.{refusal_in, judged, uint_at, number_at, flag_at, mark_at}
use Rattle.aipsio_rules.specs.Object.{opened, closed}
use Rattle.standard_rules.specs.declared.BucketFields.{BucketFields}
use Rattle.standard_rules.specs.declared.IndexFields.{IndexFields}
use Rattle.standard_rules.specs.declared.Header.{Header}

-- "inside the first 512 bytes": where the header's container ends in a file of len bytes
abbrev pub header_room : ℕ → ℕ
header_room len = cond (leb len 512) len 512

-- "its Bool equals the table's endianness"
abbrev pub same_endian : ℕ → Bool → Bool
same_endian flag big = cond big (eqb flag 1) (eqb flag 0)

-- "Header version 3", "its Bool equals the table's endianness" (else 6), "bucket size 16 to 1,048,576", "buckets 0 to 4,096",
-- cache size, number of free buckets, first free bucket
unfoldable pub bucket_fields_at : List ℕ → Cursor → BucketFields
bucket_fields_at s c = do
  o ← opened s c (bytes "StandardStMan") 3 4
  flag ← flag_at s o.next
  same ← same_endian flag.value c.big
  d ← judged flag.next o.next.at same 6
  size ← number_at s d 4 16 1048576
  count ← number_at s size.next 4 0 4096
  cache ← uint_at s count.next
  free ← uint_at s cache.next
  first ← uint_at s free.next
  record { size = size.value; count = count.value; free_count = free.value; first_free = first.value; next = first.next }

-- "with offset 0, a chain"; "With offset above 0: at least 8"
abbrev pub offset_fits : ℕ → Bool
offset_fits offset = cond (eqb offset 0) true (leb 8 offset)

-- number of index buckets, first index bucket, offset of the index ("else 4, at that field"), last heap bucket,
-- "index length 1 to 65,536", "indices 1 to 16"
unfoldable pub index_fields_at : List ℕ → Cursor → IndexFields
index_fields_at s c = do
  count ← uint_at s c
  first ← uint_at s count.next
  offset ← uint_at s first.next
  ok ← offset_fits offset.value
  d ← judged offset.next first.next.at ok 4
  heap ← uint_at s d
  len ← number_at s heap.next 4 1 65536
  sets ← number_at s len.next 4 1 16
  record {
    index_count = count.value;
    first_index = first.value;
    offset = offset.value;
    length = len.value;
    sets = sets.value;
    next = sets.next;
  }

-- "A refusal carries its number and zeros", and beside them its byte.
unfoldable pub headed : Cursor → BucketFields → IndexFields → Header
headed c b i =
    cond (eqb c.refused 0)
    (record {
      size = b.size;
      count = b.count;
      free_count = b.free_count;
      first_free = b.first_free;
      index_count = i.index_count;
      first_index = i.first_index;
      offset = i.offset;
      length = i.length;
      sets = i.sets;
      refused = no_refusal;
    })
    (record {
      size = 0;
      count = 0;
      free_count = 0;
      first_free = 0;
      index_count = 0;
      first_index = 0;
      offset = 0;
      length = 0;
      sets = 0;
      refused = refusal_in c;
    })

-- the header of a file: "In little endian tables the manager's header and the AipsIO objects of both indices are little endian
-- too", in big endian ones big endian
unfoldable pub header_at : List ℕ → Bool → Header
header_at s big = do
  room ← header_room (length s)
  m ← mark_at s (record { at = 0; end = room; big = big; refused = 0 })
  b ← bucket_fields_at s m
  i ← index_fields_at s b.next
  e ← closed i.next m
  headed e b i

-- "Bucket b starts at 512 + b x bucket size."
abbrev pub bucket_start : ℕ → ℕ → ℕ
bucket_start size b = 512 + b * size

-- What holds of the numbers of every header, refused or not; the last four facts where it is not refused.
pub record HeaderBounds (h : Header) : Type 0 where
  pub size_most : h.size ≤ 1048576
  pub count_most : h.count ≤ 4096
  pub length_most : h.length ≤ 65536
  pub sets_most : h.sets ≤ 16
  pub size_least : h.refused.number ≡ 0 → 16 ≤ h.size
  pub length_least : h.refused.number ≡ 0 → 1 ≤ h.length
  pub sets_least : h.refused.number ≡ 0 → 1 ≤ h.sets
  pub offset_least : h.refused.number ≡ 0 → (h.offset ≡ 0 → ⊥) → 8 ≤ h.offset
