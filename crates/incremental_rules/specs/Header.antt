-- RULES.md 6.1, and Note 260, 3.4.3, Header: its fields in file order.
use Rattle.std.specs.Prelude.{ℕ, List, Bool, cond, eqb, length}
use Rattle.bytes_at.specs.Bytes.{bytes}
use Rattle.bytes_at.specs.Steps.{◌>>=◌}
use Rattle.bytes_at.specs.Stages.{no_refusal}
use Rattle.aipsio_rules.specs.declared.Cursor.{Cursor}
use Rattle.aipsio_rules.specs.Field.{refusal_in, judged, uint_at, number_at, flag_at, mark_at}
use Rattle.aipsio_rules.specs.Object.{opened, closed}
use Rattle.standard_rules.specs.Header.{same_endian, header_room}
use Rattle.incremental_rules.specs.declared.HeaderFields.{HeaderFields}
use Rattle.incremental_rules.specs.declared.Header.{Header}

-- "Header version 5", "Bool as above" (else 6), "bucket size 16 to 1,048,576", "buckets 0 to 4,096", cache size, unique column
-- number, number of free buckets, first free bucket; "its line 'columns added' is no field"
unfoldable pub fields_at : List ℕ → Cursor → HeaderFields
fields_at s c = do
  o ← opened s c (bytes "IncrementalStMan") 5 5
  flag ← flag_at s o.next
  same ← same_endian flag.value c.big
  d ← judged flag.next o.next.at same 6
  size ← number_at s d 4 16 1048576
  count ← number_at s size.next 4 0 4096
  cache ← uint_at s count.next
  unique ← uint_at s cache.next
  free ← uint_at s unique.next
  first ← uint_at s free.next
  record { size = size.value; count = count.value; free_count = free.value; first_free = first.value; next = first.next }

-- "A refusal carries its number and zeros", and beside them its byte.
unfoldable pub headed : Cursor → HeaderFields → Header
headed c h =
    cond (eqb c.refused 0)
    (record { size = h.size; count = h.count; free_count = h.free_count; first_free = h.first_free; refused = no_refusal })
    (record { size = 0; count = 0; free_count = 0; first_free = 0; refused = refusal_in c })

-- the header of a file: "In little endian tables the manager's header and the AipsIO objects of both indices are little endian
-- too", in big endian ones big endian
unfoldable pub header_at : List ℕ → Bool → Header
header_at s big = do
  room ← header_room (length s)
  m ← mark_at s (record { at = 0; end = room; big = big; refused = 0 })
  h ← fields_at s m
  e ← closed h.next m
  headed e h
