-- RULES.md 5.6, the map: what a file says of rows, buckets and columns, and whether that is right.
use Rattle.std.specs.Prelude.{ℕ, ◌<◌, zero, suc, ◌+◌, ◌/◌, ◌*◌, ◌≤◌, List, [], ◌∷◌, map, ◌++◌, Bool, false, ◌&&◌, cond, ◌||◌, get_or, length, T, eqb, leb, ltb, ◌≡◌, ◌↔◌}
use Rattle.bytes_at.specs.Number.{int_bytes, numbers_at}
use Rattle.standard_rules.specs.declared.Set.{Set}
use Rattle.standard_rules.specs.declared.Extent.{Extent}
use Rattle.standard_rules.specs.Index.{no_set, links, index_at, index_text_of}
use Rattle.table_rules.specs.declared.Column.{Column}
use Rattle.table_rules.specs.declared.Binding.{Binding}
use Rattle.table_rules.specs.ColumnDesc.{no_column}
use Rattle.table_rules.specs.ColumnSet.{no_binding}
use Rattle.table_rules.specs.declared.Description.{Description}
use Rattle.standard_rules.specs.declared.Header.{Header}
use Rattle.standard_rules.specs.Header.{header_at}
use Rattle.bytes_at.specs.Lists.{◌⇒◌, all, all_from, pairs, all_apart}

-- "one SSMIndex per set": its rows per bucket, its column count, and for each entry the last row and the bucket number
pub record MapSet : Type 0 where
  pub rows_per : ℕ
  pub columns : ℕ
  pub lasts : List ℕ
  pub buckets : List ℕ

-- A column of the table: whether it is kept in this file, "set numbers, then offsets" of DMInfo, and its cell bits.
pub record MapColumn : Type 0 where
  pub kept : Bool
  pub set : ℕ
  pub offset : ℕ
  pub bits : ℕ

-- The bucket size, the number of buckets, the row count, the sets, all columns of the table in stored order, the index
-- buckets and the free buckets.
pub record Map : Type 0 where
  pub size : ℕ
  pub count : ℕ
  pub rows : ℕ
  pub sets : List MapSet
  pub columns : List MapColumn
  pub index : List ℕ
  pub free : List ℕ

abbrev pub no_map_set : MapSet
no_map_set = record { rows_per = 0; columns = 0; lasts = []; buckets = [] }

abbrev pub no_map_column : MapColumn
no_map_column = record { kept = false; set = 0; offset = 0; bits = 0 }

abbrev pub set_at : Map → ℕ → MapSet
set_at m k = get_or m.sets k no_map_set

abbrev pub column_at : Map → ℕ → MapColumn
column_at m c = get_or m.columns c no_map_column

-- the set of the column at a position
abbrev pub set_of : Map → ℕ → MapSet
set_of m c = set_at m (column_at m c).set

-- The column at a position is one of the file's.
pub record Kept (m : Map) (c : ℕ) : Type 0 where
  pub known : c < length m.columns
  pub here : T (column_at m c).kept

-- What the bytes say.

-- a set: its last rows, which have the set's own width, and its bucket numbers are the elements of its two Blocks, in the table's
-- endianness
abbrev pub map_set : Bool → List ℕ → Set → MapSet
map_set big text s = record {
  rows_per = s.per;
  columns = s.columns;
  lasts = numbers_at big (int_bytes s.wide) text s.lasts s.entries;
  buckets = numbers_at big 4 text s.buckets s.entries;
}

-- n sets from set k on
unfoldable pub sets_from : Bool → List ℕ → List Set → ℕ → ℕ → List MapSet
sets_from big text sets zero k = []
sets_from big text sets (suc n) k = map_set big text (get_or sets k no_set) ∷ sets_from big text sets n (suc k)

-- a column of the table, as a file whose manager has the sequence number keeps it or not
abbrev pub map_column : ℕ → Column → Binding → MapColumn
map_column sequence c b = record { kept = eqb b.sequence sequence; set = b.set; offset = b.offset; bits = c.bits }

-- n columns from column i on
unfoldable pub columns_from : ℕ → List Column → List Binding → ℕ → ℕ → List MapColumn
columns_from sequence cs bs zero i = []
columns_from sequence cs bs (suc n) i =
    map_column sequence (get_or cs i no_column) (get_or bs i no_binding) ∷ columns_from sequence cs bs n (suc i)

abbrev pub columns_of : Description → ℕ → List MapColumn
columns_of d sequence = columns_from sequence d.columns d.bindings d.column_count 0

-- the map of a file with this header and these sets, for a table of so many rows and these columns
abbrev pub map_from : ℕ → List MapColumn → List ℕ → Header → List MapSet → Map
map_from rows columns f h sets = record {
  size = h.size;
  count = h.count;
  rows = rows;
  sets = sets;
  columns = columns;
  index = links f h.size h.index_count h.first_index;
  free = links f h.size h.free_count h.first_free;
}

-- what the bytes say of rows, buckets and columns, whether that is accepted or not, for a table of so many rows, of this
-- endianness and these columns
unfoldable pub map_with : ℕ → Bool → List MapColumn → List ℕ → Map
map_with rows big columns f =
    let h = header_at f big in
    let text = index_text_of f h in
    map_from rows columns f h (sets_from big text (index_at text big h.sets).sets h.sets 0)

-- the same of a described table, in the file whose manager has the sequence number
abbrev pub map_of : Description → ℕ → List ℕ → Map
map_of d sequence f = map_with d.rows d.big (columns_of d sequence) f

-- When that is right: one test, whose lines are the paragraph's.

-- "last rows rise strictly, none spans more than rows per bucket, the last is rows - 1 (no entries for 0 rows)", of the
-- entries from row `from` on
unfoldable pub covers : ℕ → ℕ → ℕ → List ℕ → Bool
covers rows per from [] = eqb from rows
covers rows per from (last ∷ lasts) = leb from last && leb (last + 1) (from + per) && covers rows per (last + 1) lasts

-- the rule above, and "Both Blocks' lengths equal the entry count"
abbrev pub set_fits : ℕ → MapSet → Bool
set_fits rows s = covers rows s.rows_per 0 s.lasts && eqb (length s.buckets) (length s.lasts)

-- how many columns DMInfo binds to set k
unfoldable pub bound_to : ℕ → List MapColumn → ℕ
bound_to k [] = 0
bound_to k (c ∷ cs) = let rest = bound_to k cs in cond (c.kept && eqb c.set k) (suc rest) rest

-- "the column count agrees with DMInfo"
abbrev pub count_fits : List MapColumn → ℕ → MapSet → Bool
count_fits columns k s = eqb (bound_to k columns) s.columns

-- "whose set numbers are below the indices' count"
abbrev pub set_known : ℕ → MapColumn → Bool
set_known indices c = c.kept ⇒ ltb c.set indices

abbrev pub ceil8 : ℕ → ℕ
ceil8 bits = (bits + 7) / 8

-- "offset + ceiling(rows per bucket x cell bits / 8)"
abbrev pub extent_end : ℕ → ℕ → ℕ → ℕ
extent_end offset rows_per bits = offset + ceil8 (rows_per * bits)

-- "each column's extent, offset to offset + ceiling(rows per bucket x cell bits / 8)"
abbrev pub extent_of : Map → MapColumn → Extent
extent_of m c =
    record { kept = c.kept; set = c.set; start = c.offset; end = extent_end c.offset (set_at m c.set).rows_per c.bits }

abbrev pub extents : Map → List Extent
extents m = map (extent_of m) m.columns

-- "lies in the bucket"
unfoldable pub in_bucket : ℕ → Extent → Bool
in_bucket size x = x.kept ⇒ leb x.end size

-- "meets no other of its set": one ends where the other starts, or before. Two extents that hold a byte, as the table's do, meet
-- where they have a byte in common.
unfoldable pub clear : Extent → Extent → Bool
clear x y = x.kept && y.kept && eqb x.set y.set ⇒ leb x.end y.start || leb y.end x.start

-- "Data buckets of all sets"
unfoldable pub data_of : List MapSet → List ℕ
data_of [] = []
data_of (s ∷ ss) = s.buckets ++ data_of ss

-- "Data buckets of all sets, index buckets and free buckets", which "are in range and all different"
abbrev pub used : Map → List ℕ
used m = data_of m.sets ++ (m.index ++ m.free)

unfoldable pub fits : Map → Bool
fits m =
    all (set_fits m.rows) m.sets
    && all_from (count_fits m.columns) 0 m.sets
    && all (set_known (length m.sets)) m.columns
    && all (in_bucket m.size) (extents m)
    && pairs clear (extents m)
    && all_apart m.count (used m)

-- an entry's first row: one past the preceding entry's last row, and `from` before the first
abbrev pub first_row_from : ℕ → List ℕ → ℕ → ℕ
first_row_from from lasts zero = from
first_row_from from lasts (suc e) = get_or lasts e 0 + 1

abbrev pub first_row_of : List ℕ → ℕ → ℕ
first_row_of lasts e = first_row_from 0 lasts e

-- the last row and the bucket number of entry e of set k
abbrev pub last_at : Map → ℕ → ℕ → ℕ
last_at m k e = get_or (set_at m k).lasts e 0

abbrev pub bucket_of : Map → ℕ → ℕ → ℕ
bucket_of m k e = get_or (set_at m k).buckets e 0

-- Two extents meet: each starts before the other ends.
pub record Meet (x y : Extent) : Type 0 where
  pub one : x.start < y.end
  pub other : y.start < x.end

-- The paragraph "Map" as facts, in its order.
pub record MapAccepted (m : Map) : Type 0 where
  -- of the paragraph "Index": "Both Blocks' lengths equal the entry count"
  pub paired : (k : ℕ) → k < length m.sets → length (set_at m k).buckets ≡ length (set_at m k).lasts
  -- "in each set, last rows rise strictly"
  pub rise : (k e : ℕ) → k < length m.sets → suc e < length (set_at m k).lasts → last_at m k e < last_at m k (suc e)
  -- "none spans more than rows per bucket"
  pub span : (k e : ℕ) → k < length m.sets → e < length (set_at m k).lasts → last_at m k e + 1 ≤ first_row_of (set_at m k).lasts e + (set_at m k).rows_per
  -- "the last is rows - 1 (no entries for 0 rows)": the row after the last one, row 0 where there are no entries, is the row count
  pub reach : (k : ℕ) → k < length m.sets → first_row_of (set_at m k).lasts (length (set_at m k).lasts) ≡ m.rows
  -- "the column count agrees with DMInfo"
  pub counted : (k : ℕ) → k < length m.sets → bound_to k m.columns ≡ (set_at m k).columns
  -- "whose set numbers are below the indices' count"
  pub set_known : (c : ℕ) → Kept m c → (column_at m c).set < length m.sets
  -- "each column's extent, offset to offset + ceiling(rows per bucket x cell bits / 8), lies in the bucket"
  pub in_bucket : (c : ℕ) → Kept m c → (extent_of m (column_at m c)).end ≤ m.size
  -- "and meets no other of its set"
  pub extents_apart : (c d : ℕ) → (c ≡ d → ⊥) → Kept m c → Kept m d → (column_at m c).set ≡ (column_at m d).set
      → Meet (extent_of m (column_at m c)) (extent_of m (column_at m d)) → ⊥
  -- "Data buckets of all sets, index buckets and free buckets are in range"
  pub data_below : (k e : ℕ) → k < length m.sets → e < length (set_at m k).buckets → bucket_of m k e < m.count
  pub index_below : (i : ℕ) → i < length m.index → get_or m.index i 0 < m.count
  pub free_below : (i : ℕ) → i < length m.free → get_or m.free i 0 < m.count
  -- "and all different": those of each kind among themselves
  pub data_apart : (k l e f : ℕ) → k < length m.sets → l < length m.sets → e < length (set_at m k).buckets → f < length (set_at m l).buckets
      → bucket_of m k e ≡ bucket_of m l f → (k ≡ l) × (e ≡ f)
  pub index_apart : (i j : ℕ) → i < length m.index → j < length m.index → get_or m.index i 0 ≡ get_or m.index j 0 → i ≡ j
  pub free_apart : (i j : ℕ) → i < length m.free → j < length m.free → get_or m.free i 0 ≡ get_or m.free j 0 → i ≡ j
  -- and those of each two kinds
  pub data_index : (k e i : ℕ) → k < length m.sets → e < length (set_at m k).buckets → i < length m.index
      → bucket_of m k e ≡ get_or m.index i 0 → ⊥
  pub data_free : (k e i : ℕ) → k < length m.sets → e < length (set_at m k).buckets → i < length m.free
      → bucket_of m k e ≡ get_or m.free i 0 → ⊥
  pub index_free : (i j : ℕ) → i < length m.index → j < length m.free → get_or m.index i 0 ≡ get_or m.free j 0 → ⊥

-- The test passes exactly where these facts hold.
abbrev pub MapExactly : Type 0
MapExactly = (m : Map) → T (fits m) ↔ MapAccepted m
