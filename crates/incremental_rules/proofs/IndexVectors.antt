-- A header and an index object, read by the definitions; and what faults in them give.
-- Assumes nothing.
use mathlib.Core.Path.{◌≡◌, refl}
use mathlib.Core.List.{List, [], ◌∷◌, ◌++◌}
use mathlib.Core.Bool.{true, false}
use Prim.Native.Nat.{ℕ}
use lib.ListN.{take, set}
use Rattle.bytes_at.specs.Stages.{no_refusal, blaming}
use Rattle.bytes_at.specs.Number.{big_from, little_from, uint_of, big_bytes}
use Rattle.bytes_at.specs.Bytes.{same_bytes}
use Rattle.bytes_at.specs.Steps.{after, ◌>>=◌}
use Rattle.aipsio_rules.specs.Field.{skipped, skipped_each, judged, settled, sized_at, uint_at, ranged_at, agreed, mark_at, text_before, text_at, name_at}
use Rattle.aipsio_rules.specs.Object.{entered, opened, closed, block_head_at, block_at, rows_at, row_block_at}
use Rattle.incremental_rules.specs.Header.{fields_at, headed, header_at}
use Rattle.incremental_rules.specs.Index.{indexed, index_at}

-- the mark and the header object: big endian, 3 buckets of 64 bytes, bucket 2 free
abbrev pub header : List ℕ
header =
    big_bytes 16 0xbebebebe0000003500000010496e6372
    ++ big_bytes 16 0x656d656e74616c53744d616e00000005
    ++ big_bytes 16 0x01000000400000000300000001000000
    ++ big_bytes 9 0x000000000100000002

-- the mark and the index object: rows 0 to 2 in bucket 1, rows 3 to 6 in bucket 0
abbrev pub object : List ℕ
object =
    big_bytes 16 0xbebebebe000000560000000849534d49
    ++ big_bytes 16 0x6e646578000000010000000200000021
    ++ big_bytes 16 0x00000005426c6f636b00000001000000
    ++ big_bytes 16 0x03000000000000000300000007000000
    ++ big_bytes 16 0x1d00000005426c6f636b000000010000
    ++ big_bytes 10 0x00020000000100000000

pub header_read : header_at header true ≡ record { size = 64; count = 3; free_count = 1; first_free = 2; refused = no_refusal }
unfolding big_from uint_of same_bytes skipped judged settled sized_at uint_at ranged_at mark_at text_before text_at name_at entered opened closed fields_at headed header_at ◌>>=◌
header_read = refl

-- a file that ends in the header; the mark; version 4; a Bool of 2; a Bool of the other endianness; this header in a little endian
-- table; a bucket size of 15; an object that is longer than its fields
pub header_faults :
    ((header_at (take 56 header) true).refused ≡ blaming 1 4)
    × ((header_at (set header 3 0) true).refused ≡ blaming 2 0)
    × ((header_at (set header 31 4) true).refused ≡ blaming 3 28)
    × ((header_at (set header 32 2) true).refused ≡ blaming 5 32)
    × ((header_at (set header 32 0) true).refused ≡ blaming 6 32)
    × ((header_at (set header 32 0) false).refused ≡ blaming 1 8)
    × ((header_at (set header 36 15) true).refused ≡ blaming 4 33)
    × ((header_at (set header 7 54 ++ (0 ∷ [])) true).refused ≡ blaming 7 4)
unfolding big_from little_from uint_of same_bytes skipped judged settled sized_at uint_at ranged_at mark_at text_before text_at name_at entered opened closed fields_at headed header_at ◌>>=◌
header_faults = (refl, refl, refl, refl, refl, refl, refl, refl)

pub index_read : index_at (object ++ (0 ∷ [])) true 0 ≡ record { count = 2; wide = false; firsts = 49; buckets = 82; refused = no_refusal }
unfolding big_from uint_of same_bytes skipped skipped_each judged settled sized_at uint_at ranged_at agreed mark_at text_before text_at name_at entered opened closed block_head_at block_at rows_at row_block_at indexed index_at after ◌>>=◌
index_read = refl

-- a file that ends in the last Block; a place past its end; version 2, whose second first row passes the Block's end; version 3; a
-- count that the Blocks do not have; an object that is longer than its fields
pub index_faults :
    ((index_at (take 89 object) true 0).refused ≡ blaming 1 4)
    × ((index_at object true 91).refused ≡ blaming 1 91)
    × ((index_at (set object 23 2) true 0).refused ≡ blaming 1 57)
    × ((index_at (set object 23 3) true 0).refused ≡ blaming 3 20)
    × ((index_at (set object 27 3) true 0).refused ≡ blaming 6 45)
    × ((index_at (set object 7 87 ++ (0 ∷ [])) true 0).refused ≡ blaming 7 4)
unfolding big_from uint_of same_bytes skipped skipped_each judged settled sized_at uint_at ranged_at agreed mark_at text_before text_at name_at entered opened closed block_head_at block_at rows_at row_block_at indexed index_at after ◌>>=◌
index_faults = (refl, refl, refl, refl, refl, refl)

-- the same index with first rows of 8 bytes, version 2
abbrev pub wide_object : List ℕ
wide_object =
    big_bytes 16 0xbebebebe000000620000000849534d49
    ++ big_bytes 16 0x6e64657800000002000000020000002d
    ++ big_bytes 17 0x00000005426c6f636b0000000100000003
    ++ big_bytes 24 0x000000000000000000000000000000030000000000000007
    ++ big_bytes 17 0x0000001d00000005426c6f636b00000001
    ++ big_bytes 12 0x000000020000000100000000

-- it is read; a negative first row; a last one that passes the Block's end; both, of which the first in the file counts
pub wide_index :
    (index_at wide_object true 0 ≡ record { count = 2; wide = true; firsts = 49; buckets = 94; refused = no_refusal })
    × ((index_at (set wide_object 57 128) true 0).refused ≡ blaming 4 57)
    × ((index_at (set wide_object 31 44) true 0).refused ≡ blaming 1 65)
    × ((index_at (set (set wide_object 31 44) 57 128) true 0).refused ≡ blaming 4 57)
unfolding big_from uint_of same_bytes skipped skipped_each judged settled sized_at uint_at ranged_at agreed mark_at text_before text_at name_at entered opened closed block_head_at block_at rows_at row_block_at indexed index_at after ◌>>=◌
wide_index = (refl, refl, refl, refl)
