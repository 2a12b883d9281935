-- How the code judges the columns of a map: over the sets as they stand in the index text.
use Rattle.std.specs.Prelude.{Bool, cond, ◌&&◌, List, length, map, ℕ, ◌+◌, ◌<◌, get_or, set, ◌≡◌, eqb}
use Rattle.standard_rules.specs.declared.Set.{Set}
use Rattle.standard_rules.specs.declared.Extent.{Extent}
use Rattle.standard_rules.specs.Index.{no_set}
use Rattle.standard_rules.specs.Map.{MapColumn, bound_to, extent_end, set_known, in_bucket, clear}
use Rattle.bytes_at.specs.Lists.{all, all_from, pairs}

-- one more at place k of a list of counts, where the column is kept
abbrev pub one_more : Bool → ℕ → List ℕ → List ℕ
one_more kept k counts = cond kept (set counts k (get_or counts k 0 + 1)) counts

-- how many columns DMInfo binds to each set
abbrev pub Counted : List ℕ → List MapColumn → Type 0
Counted counts l = (k : ℕ) → k < 16 → get_or counts k 0 ≡ bound_to k l

-- "the column count agrees with DMInfo", of the sets from set k on
abbrev pub counts_fit : List MapColumn → ℕ → List Set → Bool
counts_fit l k sets = all_from (λ j s. eqb (bound_to j l) s.columns) k sets

-- the rows per bucket of set k
abbrev pub per_of : List Set → ℕ → ℕ
per_of sets k = (get_or sets k no_set).per

-- "each column's extent, offset to offset + ceiling(rows per bucket x cell bits / 8)", by the rows per bucket of each set
abbrev pub extent_by : (ℕ → ℕ) → MapColumn → Extent
extent_by per c = record { kept = c.kept; set = c.set; start = c.offset; end = extent_end c.offset (per c.set) c.bits }

abbrev pub extents_by : List Set → List MapColumn → List Extent
extents_by sets l = map (extent_by (per_of sets)) l

-- the map's test of the columns, in buckets of a size: the sets that are named, the extents in the bucket, the column counts, and the
-- extents apart
unfoldable pub columns_test : List MapColumn → List Set → ℕ → Bool
columns_test l sets size =
    ((all (set_known (length sets)) l && all (in_bucket size) (extents_by sets l)) && counts_fit l 0 sets) && pairs clear (extents_by sets l)
