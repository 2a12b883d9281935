-- A small file, checked and placed by the definitions; and what faults in it give.
--     rows 0 to 2 in bucket 1, rows 3 to 6 in bucket 0, bucket 2 free; SCAN Int and FLAG Bool are kept in it, the column between
--     them is not
-- Assumes nothing.
use mathlib.Core.Path.{◌≡◌, refl}
use mathlib.Core.List.{List, [], ◌∷◌, ◌++◌}
use mathlib.Core.Bool.{Bool, true, false}
use Prim.Native.Nat.{ℕ}
use lib.ListN.{take, set, replicate}
use Rattle.bytes_at.specs.Number.{big_from, little_from, uint_of, numbers_at, big_bytes}
use Rattle.bytes_at.specs.Bytes.{same_bytes}
use Rattle.bytes_at.specs.Steps.{after, ◌>>=◌}
use Rattle.bytes_at.specs.Stages.{no_refusal, blaming, ◌▷◌, or_at}
use Rattle.bytes_at.specs.declared.Refusal.{Refusal}
use Rattle.aipsio_rules.specs.Field.{skipped, skipped_each, judged, settled, sized_at, uint_at, ranged_at, agreed, mark_at, text_before, text_at, name_at}
use Rattle.aipsio_rules.specs.Object.{entered, opened, closed, block_head_at, block_at, rows_at, row_block_at}
use Rattle.table_rules.specs.declared.Column.{Column}
use Rattle.table_rules.specs.ColumnDesc.{no_column}
use Rattle.table_rules.specs.declared.Binding.{Binding}
use Rattle.table_rules.specs.ColumnSet.{no_binding}
use Rattle.table_rules.specs.declared.Description.{Description}
use Rattle.standard_rules.specs.Index.{links, free_ok}
use Rattle.bytes_at.specs.Lists.{all, pairs, all_apart, last_below}
use Rattle.incremental_rules.specs.Header.{fields_at, headed, header_at}
use Rattle.incremental_rules.specs.Index.{indexed, index_at, rises_to, firsts_fit, index_fits}
use Rattle.incremental_rules.proofs.IndexVectors.{header, object, wide_object}
use Rattle.incremental_rules.specs.Bucket.{start_fits, started, start_into, starts_at, offset_into, offsets_at, begun, bucket_head_at, column_part_at, column_part_into, column_parts_at, bucket_at, cell_into, cells_in}
use Rattle.incremental_rules.specs.Check.{found_as, bucket_into, search_of, before_buckets, refusal_of, told, checked_as}
use Rattle.incremental_rules.specs.OneBucket.{own_bucket, own_refusal, own_checked}
use Rattle.incremental_rules.specs.Place.{part_at, bit_of, place_of}

-- bucket 0: index offset 10; SCAN has one value, FLAG two, from its rows 0 and 3 on
abbrev bucket0 : List ℕ
bucket0 =
    big_bytes 4 10 ++ replicate 6 0
    ++ big_bytes 12 0x000000010000000000000000
    ++ big_bytes 20 0x0000000200000000000000030000000400000005
    ++ replicate 22 0

-- bucket 1: index offset 13; SCAN has two values, from its rows 0 and 2 on, FLAG one
abbrev bucket1 : List ℕ
bucket1 =
    big_bytes 4 13 ++ replicate 9 0
    ++ big_bytes 20 0x0000000200000000000000020000000000000004
    ++ big_bytes 12 0x000000010000000000000008
    ++ replicate 19 0

-- bucket 2 ends the free list
abbrev bucket2 : List ℕ
bucket2 = big_bytes 4 0xffffffff ++ replicate 60 0

abbrev file : List ℕ
file = header ++ replicate 455 0 ++ bucket0 ++ bucket1 ++ bucket2 ++ object

abbrev column : ℕ → ℕ → Column
column number bits = record {
  start = 0;
  len = 0;
  datatype = record { number = number };
  array = false;
  options = 0;
  elements = 1;
  maximum = 0;
  bits = bits;
}

abbrev kept : ℕ → Binding
kept sequence = record { sequence = sequence; set = 0; offset = 0 }

abbrev table : Bool → Description
table big = record {
  refused = no_refusal;
  rows = 7;
  column_count = 3;
  manager_count = 0;
  columns = column 5 32 ∷ column 8 64 ∷ column 0 1 ∷ [];
  bindings = kept 0 ∷ kept 1 ∷ kept 0 ∷ [];
  managers = [];
  big = big;
}

abbrev refused : List ℕ → Refusal
refused f = refusal_of (table true) 0 f no_refusal

-- SCAN in rows 0, 2 and 6; FLAG in rows 5 and 6, a whole byte
pub places :
    (refused file ≡ no_refusal)
    × (place_of (table true) 0 file 0 0 ≡ record { first = 4640; count = 32 })
    × (place_of (table true) 0 file 0 2 ≡ record { first = 4672; count = 32 })
    × (place_of (table true) 0 file 0 6 ≡ record { first = 4128; count = 32 })
    × (place_of (table true) 0 file 2 5 ≡ record { first = 4160; count = 8 })
    × (place_of (table true) 0 file 2 6 ≡ record { first = 4168; count = 8 })
    × (checked_as (table true) 0 file no_refusal 2 6 ≡ record { refused = no_refusal; size = 64; first = 4168 })
    × (checked_as (table true) 0 file (blaming 8 0) 2 6 ≡ record { refused = blaming 8 0; size = 0; first = 0 })
unfolding big_from uint_of same_bytes skipped skipped_each judged settled sized_at uint_at ranged_at agreed mark_at text_before text_at name_at entered opened closed block_head_at block_at rows_at row_block_at fields_at headed header_at indexed index_at links free_ok numbers_at all pairs all_apart begun bucket_head_at start_fits started start_into starts_at offset_into offsets_at column_part_at column_part_into column_parts_at bucket_at last_below part_at bit_of place_of rises_to firsts_fit index_fits cell_into cells_in found_as bucket_into search_of before_buckets refusal_of told checked_as no_column no_binding ◌▷◌ or_at after ◌>>=◌
places = (refl, refl, refl, refl, refl, refl, refl, refl)

-- the same with an index of version 2, and with starts of 8 bytes in bucket 0, whose high byte is 255
abbrev wide_file : List ℕ
wide_file =
    header ++ replicate 455 0
    ++ (big_bytes 4 0xff00000a ++ replicate 6 0)
    ++ (big_bytes 4 1 ++ big_bytes 8 0 ++ big_bytes 4 0)
    ++ (big_bytes 4 2 ++ big_bytes 8 0 ++ big_bytes 8 3 ++ big_bytes 8 0x0000000400000005)
    ++ replicate 10 0
    ++ bucket1 ++ bucket2 ++ wide_object

-- the places are the same; a negative start
pub wide_places :
    (refused wide_file ≡ no_refusal)
    × (place_of (table true) 0 wide_file 0 2 ≡ record { first = 4672; count = 32 })
    × (place_of (table true) 0 wide_file 0 6 ≡ record { first = 4128; count = 32 })
    × (place_of (table true) 0 wide_file 2 5 ≡ record { first = 4160; count = 8 })
    × (place_of (table true) 0 wide_file 2 6 ≡ record { first = 4168; count = 8 })
    × (refused (set wide_file 550 128) ≡ blaming 11 0)
unfolding big_from uint_of same_bytes skipped skipped_each judged settled sized_at uint_at ranged_at agreed mark_at text_before text_at name_at entered opened closed block_head_at block_at rows_at row_block_at fields_at headed header_at indexed index_at links free_ok numbers_at all pairs all_apart begun bucket_head_at start_fits started start_into starts_at offset_into offsets_at column_part_at column_part_into column_parts_at bucket_at last_below part_at bit_of place_of rises_to firsts_fit index_fits cell_into cells_in found_as bucket_into search_of before_buckets refusal_of told checked_as no_column no_binding ◌▷◌ or_at after ◌>>=◌
wide_places = (refl, refl, refl, refl, refl, refl)

-- a file that ends in the last bucket; a little endian table; Blocks shorter than the count; a free list that does not end; a free
-- bucket in the index; a bucket out of range; first rows that end past the row count
pub file_faults :
    (refused (take 703 file) ≡ blaming 1 703)
    × (refusal_of (table false) 0 file no_refusal ≡ blaming 1 8)
    × (refused (set file 731 3) ≡ blaming 6 749)
    × (refused (set file 643 0) ≡ blaming 10 0)
    × (refused (set file 789 2) ≡ blaming 11 0)
    × (refused (set file 789 3) ≡ blaming 11 0)
    × (refused (set file 764 8) ≡ blaming 11 0)
unfolding big_from little_from uint_of same_bytes skipped skipped_each judged settled sized_at uint_at ranged_at agreed mark_at text_before text_at name_at entered opened closed block_head_at block_at rows_at row_block_at fields_at headed header_at indexed index_at links free_ok numbers_at all pairs all_apart begun bucket_head_at start_fits started start_into starts_at offset_into offsets_at column_part_at column_part_into column_parts_at bucket_at rises_to firsts_fit index_fits cell_into cells_in found_as bucket_into search_of before_buckets refusal_of no_column no_binding ◌▷◌ or_at after ◌>>=◌
file_faults = (refl, refl, refl, refl, refl, refl, refl)

-- in bucket 0, a high byte of 1, whose wider starts leave FLAG no value; an index offset of 3, of 65, and of 64, where the bucket
-- ends; no value of SCAN; a first start of 1; a start at the bucket's row count, and one that does not rise; SCAN's value at offset 2,
-- which ends the data part, and at 3
pub bucket_faults :
    (refused (set file 512 1) ≡ blaming 11 0)
    × (refused (set file 515 3) ≡ blaming 11 0)
    × (refused (set file 515 65) ≡ blaming 11 0)
    × (refused (set file 515 64) ≡ blaming 1 576)
    × (refused (set file 525 0) ≡ blaming 11 0)
    × (refused (set file 529 1) ≡ blaming 11 0)
    × (refused (set file 545 4) ≡ blaming 11 0)
    × (refused (set file 545 0) ≡ blaming 11 0)
    × (refused (set file 533 2) ≡ no_refusal)
    × (refused (set file 533 3) ≡ blaming 11 0)
unfolding big_from uint_of same_bytes skipped skipped_each judged settled sized_at uint_at ranged_at agreed mark_at text_before text_at name_at entered opened closed block_head_at block_at rows_at row_block_at fields_at headed header_at indexed index_at links free_ok numbers_at all pairs all_apart begun bucket_head_at start_fits started start_into starts_at offset_into offsets_at column_part_at column_part_into column_parts_at bucket_at rises_to firsts_fit index_fits cell_into cells_in found_as bucket_into search_of before_buckets refusal_of no_column no_binding ◌▷◌ or_at after ◌>>=◌
bucket_faults = (refl, refl, refl, refl, refl, refl, refl, refl, refl, refl)

-- ---- the row's own bucket alone: rows 0 to 2 are in bucket 1, rows 3 to 6 in bucket 0
abbrev refused_for : List ℕ → ℕ → Refusal
refused_for f row = own_refusal (table true) 0 f no_refusal row

-- FLAG of row 6; a start of SCAN, and one of FLAG, at fault in bucket 0: seen from row 3 and not from row 2, whatever column is asked for;
-- bucket 0 ending in its index; 9 ahead of that, and behind a free bucket in the index and a file that ends in the last bucket
pub own_places :
    (own_checked (table true) 0 file no_refusal 2 6 ≡ record { refused = no_refusal; size = 64; first = 4168 })
    × (own_checked (table true) 0 file (blaming 8 0) 2 6 ≡ record { refused = blaming 8 0; size = 0; first = 0 })
    × (own_checked (table true) 0 (set file 529 1) no_refusal 0 2 ≡ record { refused = no_refusal; size = 64; first = 4672 })
    × (own_checked (table true) 0 (set file 545 4) no_refusal 0 3 ≡ record { refused = blaming 11 0; size = 0; first = 0 })
    × (refused_for (set file 529 1) 2 ≡ no_refusal)
    × (refused_for (set file 529 1) 3 ≡ blaming 11 0)
    × (refused_for (set file 515 64) 6 ≡ blaming 1 576)
    × (refused_for (set file 515 64) 7 ≡ blaming 9 0)
    × (refused_for (set file 789 2) 7 ≡ blaming 11 0)
    × (refused_for (take 703 file) 7 ≡ blaming 1 703)
unfolding big_from uint_of same_bytes skipped skipped_each judged settled sized_at uint_at ranged_at agreed mark_at text_before text_at name_at entered opened closed block_head_at block_at rows_at row_block_at fields_at headed header_at indexed index_at links free_ok numbers_at all pairs all_apart begun bucket_head_at start_fits started start_into starts_at offset_into offsets_at column_part_at column_part_into column_parts_at bucket_at last_below rises_to firsts_fit index_fits cell_into cells_in found_as bucket_into search_of before_buckets told own_bucket own_refusal own_checked no_column no_binding ◌▷◌ or_at after ◌>>=◌
own_places = (refl, refl, refl, refl, refl, refl, refl, refl, refl, refl)
