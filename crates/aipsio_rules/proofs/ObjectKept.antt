-- A refused cursor stays as it is through every object.
-- Assumes nothing.
use mathlib.Core.List.{List}
use Prim.Native.Nat.{ℕ}
use Rattle.bytes_at.specs.Steps.{◌>>=◌}
use Rattle.aipsio_rules.specs.Field.{most_int64}
use Rattle.aipsio_rules.specs.declared.Cursor.{Cursor}
use Rattle.aipsio_rules.specs.declared.Value.{Value}
use Rattle.aipsio_rules.proofs.Kept.{Keeps, Reads, after_keeps, latched_keeps, each_keeps, judged_keeps, settled_reads, uint_reads, ranged_reads, agreed_keeps, name_keeps, ◌⨟◌}
use Rattle.aipsio_rules.specs.Object.{entered, opened, closed, passed, record_at, block_head_at, block_at, rows_at, row_block_at, map_at, iposition_at, axis_into, axes_at, shape_at}

pub entered_keeps : (c outer : Cursor) (len : ℕ) → Keeps c (entered c outer len)
unfolding entered
entered_keeps c outer len = latched_keeps c _

pub closed_keeps : (c outer : Cursor) → Keeps c (closed c outer)
unfolding closed
closed_keeps c outer = latched_keeps c _

pub passed_keeps : (c outer : Cursor) → Keeps c (passed c outer)
unfolding passed
passed_keeps c outer = latched_keeps c _

pub opened_reads : (s : List ℕ) (c : Cursor) (expected : List ℕ) (low high : ℕ) → Reads c (opened s c expected low high)
unfolding opened ◌>>=◌
opened_reads s c expected low high =
    settled_reads _ ((uint_reads s c).keeps ⨟ name_keeps s _ expected ⨟ (ranged_reads s _ 4 low high 3).keeps ⨟ entered_keeps _ c _)

pub record_keeps : (s : List ℕ) (c : Cursor) → Keeps c (record_at s c)
unfolding record_at ◌>>=◌
record_keeps s c = (opened_reads s c _ 1 1).keeps ⨟ passed_keeps _ c

pub block_head_keeps : (s : List ℕ) (c : Cursor) (n : ℕ) → Keeps c (block_head_at s c n)
unfolding block_head_at ◌>>=◌
block_head_keeps s c n = (opened_reads s c _ 1 1).keeps ⨟ agreed_keeps s _ n

pub block_reads : (s : List ℕ) (c : Cursor) (n : ℕ) → Reads c (block_at s c n)
unfolding block_at ◌>>=◌
block_reads s c n = settled_reads _ (block_head_keeps s c n ⨟ each_keeps _ n 4 ⨟ closed_keeps _ c)

pub rows_keeps : (s : List ℕ) (c : Cursor) (n width : ℕ) → Keeps c (rows_at s c n width)
unfolding rows_at
rows_keeps s c n width = after_keeps _ (λ (d : Cursor). d) (λ d i. (ranged_reads s d width 0 most_int64 4).keeps) c n

pub row_block_reads : (s : List ℕ) (c : Cursor) (n width : ℕ) → Reads c (row_block_at s c n width)
unfolding row_block_at ◌>>=◌
row_block_reads s c n width = settled_reads _ (block_head_keeps s c n ⨟ rows_keeps s _ n width ⨟ closed_keeps _ c)

pub map_keeps : (s : List ℕ) (c : Cursor) → Keeps c (map_at s c)
unfolding map_at ◌>>=◌
map_keeps s c =
    (opened_reads s c _ 1 1).keeps ⨟ (uint_reads s _).keeps ⨟ (uint_reads s _).keeps ⨟ (uint_reads s _).keeps ⨟ each_keeps _ _ 4 ⨟ closed_keeps _ c

pub iposition_keeps : (s : List ℕ) (c : Cursor) → Keeps c (iposition_at s c)
unfolding iposition_at ◌>>=◌
iposition_keeps s c = (opened_reads s c _ 1 2).keeps ⨟ (uint_reads s _).keeps ⨟ each_keeps _ _ _ ⨟ closed_keeps _ c

pub axis_reads : (s : List ℕ) (width : ℕ) (product : Value) → Reads product.next (axis_into s width product)
unfolding axis_into ◌>>=◌
axis_reads s width product = settled_reads _ ((ranged_reads s _ width 1 1048576 4).keeps ⨟ judged_keeps _ _ _ 4)

pub axes_keeps : (s : List ℕ) (c : Cursor) (n width : ℕ) → Keeps c (axes_at s c n width).next
unfolding axes_at
axes_keeps s c n width = after_keeps _ (λ (p : Value). p.next) (λ p i. (axis_reads s width p).keeps) _ n

pub shape_reads : (s : List ℕ) (c : Cursor) (dimensions : ℕ) → Reads c (shape_at s c dimensions)
unfolding shape_at ◌>>=◌
shape_reads s c dimensions =
    settled_reads _ ((opened_reads s c _ 1 2).keeps ⨟ (ranged_reads s _ 4 1 8 4).keeps ⨟ judged_keeps _ _ _ 5 ⨟ axes_keeps s _ _ _ ⨟ closed_keeps _ c)
