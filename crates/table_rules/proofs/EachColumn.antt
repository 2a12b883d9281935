-- What holds of every column that is read holds of every column of a table that is not refused.
--     begin         the cursor at the start of table.dat
--     marked, table_head, desc_fields, desc_head, columns_read      what the lines of described_as give
-- Assumes nothing.
use mathlib.Core.Path.{◌≡◌, refl}
use mathlib.Core.List.{List}
use mathlib.Core.Bool.{Bool, true}
use Prim.Native.Nat.{ℕ, zero, suc, ◌≤◌, ◌<◌}
use native.Mathlib.Decide.{ℕ_discrete}
use native.Mathlib.Omega.{arith}
use lib.Dec.{leb}
use lib.ListN.{get_or, set, length}
use lib.Seq.{get_or-set_same, get_or-set_other}
use borrow.Author.Tests.{eq-eqb, ne_eqb}
use Rattle.bytes_at.specs.Bytes.{bytes}
use Rattle.bytes_at.specs.Steps.{after, ◌>>=◌}
use Rattle.aipsio_rules.specs.declared.Cursor.{Cursor}
use Rattle.aipsio_rules.specs.Field.{judged, mark_at}
use Rattle.aipsio_rules.specs.Object.{opened, closed, record_at}
use Rattle.aipsio_rules.proofs.Kept.{Clean, Keeps, clean_before, ◌⨟◌}
use Rattle.aipsio_rules.proofs.ObjectKept.{closed_keeps}
use Rattle.aipsio_rules.proofs.Forward.{Forward, ◌⊳◌, judged_forward, ranged_forward, mark_forward, opened_forward, record_forward}
use Rattle.table_rules.specs.declared.Column.{Column}
use Rattle.table_rules.specs.declared.ColumnRead.{ColumnRead}
use Rattle.table_rules.specs.declared.Columns.{Columns}
use Rattle.table_rules.specs.declared.Description.{Description}
use Rattle.table_rules.specs.declared.TableHead.{TableHead}
use Rattle.table_rules.specs.declared.TableDescHead.{TableDescHead}
use Rattle.table_rules.specs.ColumnDesc.{column_head_at, column_rest_at, no_column, column_into, columns_at}
use Rattle.table_rules.specs.ColumnSet.{column_set_head_at, managers_at, owners_at, infos_at}
use Rattle.table_rules.specs.Table.{whole_of, table_head_at, table_notes_at, table_desc_head_at, described_as, refused_table, column_in}
use Rattle.table_rules.proofs.Described.{turns_long, count_most}
use Rattle.table_rules.proofs.TableForward.{table_head_forward, desc_head_forward, column_forward, columns_forward}
use Rattle.table_rules.proofs.TableKept.{set_head_keeps, managers_keeps, owners_keeps, infos_keeps}

module _ (s : List ℕ) where
  abbrev pub begin : Cursor
  begin = record { at = 0; end = length s; big = true; refused = 0 }

  abbrev marked : Cursor
  marked = mark_at s (whole_of s)

  abbrev table_head : TableHead
  table_head = table_head_at s (opened s marked (bytes "Table") 2 2).next

  abbrev pub desc_fields : Cursor
  desc_fields = (opened s table_head.next (bytes "TableDesc") 2 2).next

  abbrev desc_head : TableDescHead
  desc_head = table_desc_head_at s desc_fields

  abbrev columns_read : Columns
  columns_read = columns_at s desc_head.next desc_head.count

  -- a column whose head begins at a cursor
  abbrev pub column_from : Cursor → ℕ → Bool → ColumnRead
  column_from c from ok = column_rest_at s (column_head_at s c) (judged (column_head_at s c).next from ok 6)

  pub fields_forward : Forward (length s) begin desc_fields
  fields_forward =
      judged_forward begin 65536 (leb (length s) 65536) 3 ⊳ mark_forward s _ ⊳ opened_forward s _ _ 2 2 ⊳ table_head_forward s _ ⊳ opened_forward s _ _ 2 2

  -- of a table that is not refused
  record Accepted (d : Description) : Type 0 where
    clean : Clean columns_read.next
    columns : d.columns ≡ columns_read.columns
    count : d.column_count ≡ desc_head.count

  accepted : (described_as s).refused.number ≡ 0 → Accepted (described_as s)
  unfolding described_as refused_table ◌>>=◌
  accepted h =
      let cs = columns_read in
      let set = column_set_head_at s (closed cs.next table_head.next) table_head.rows in
      let ms = managers_at s set.next set.count set.highest in
      let os = owners_at s ms.next cs.columns desc_head.count ms.managers set.count in
      let d = closed (infos_at s os.next ms.managers os.counts set.count).next marked in
      let later : Keeps cs.next d =
      closed_keeps _ _ ⨟ set_head_keeps s _ _ ⨟ managers_keeps s _ _ _ ⨟ owners_keeps s _ _ _ _ _ ⨟ infos_keeps s _ _ _ _ ⨟ closed_keeps _ _ in
      elim (ℕ_discrete d.refused 0) [
        | yes e ↦ rw (eq-eqb d.refused 0 e) (record { clean = clean_before {d = d} later e; columns = refl; count = refl })
        | no e ↦ absurd (e (rw (ne_eqb d.refused 0 e) at h))
      ]

  -- the table's keyword set was passed
  pub table_set : (described_as s).refused.number ≡ 0 → Clean (record_at s (table_notes_at s desc_fields))
  unfolding table_notes_at table_desc_head_at ◌>>=◌
  table_set h =
      clean_before
      (record_forward {B = 0} s _ ⊳ ranged_forward s _ 4 1 64 3 ⊳ columns_forward s desc_head.next desc_head.count).keeps (accepted h).clean

-- one more, at n
set_one : (P : Column → Type 0) (l : List Column) (n i : ℕ) (x : Column) → n < length l → P x → (i < n → P (get_or l i no_column)) → i < suc n
    → P (get_or (set l n x) i no_column)
set_one P l n i x k w h j = elim (ℕ_discrete i n) [
  | yes e ↦ rw (e, get_or-set_same l n x no_column k) w
  | no e ↦ rw (get_or-set_other l n i x no_column e) (h (omega arith))
]

module _ (s : List ℕ) (P : Column → Type 0)
    (one : (c : Cursor) (from : ℕ) (ok : Bool) → Forward (length s) (begin s) c → Clean (column_from s c from ok).next → P (column_from s c from ok).column)
  where
    into_one : (cs : Columns) (n i : ℕ) → Forward (length s) (begin s) cs.next → n < length cs.columns → (i < n → P (get_or cs.columns i no_column))
        → i < suc n → Clean (column_into s cs n).next → P (get_or (column_into s cs n).columns i no_column)
    unfolding column_into ◌>>=◌
    into_one cs n i f k h j e = set_one P cs.columns n i _ k (one cs.next _ _ f e) h j

    columns_each : {c : Cursor} → Forward (length s) (begin s) c → (n i : ℕ) → n ≤ 64 → i < n → Clean (columns_at s c n).next
        → P (get_or (columns_at s c n).columns i no_column)
    unfolding columns_at after
    columns_each f zero i k j e = absurd (omega arith)
    columns_each {c} f (suc n) i k j e =
        let cs = columns_at s c n in
        let before = clean_before (column_forward {B = 0} s cs n).keeps e in
        into_one cs n i (f ⊳ columns_forward s c n) (rw (turns_long s c n) (omega arith)) (λ m. columns_each f n i (omega arith) m before) j e

    pub each_column : (i : ℕ) → (described_as s).refused.number ≡ 0 → i < (described_as s).column_count → P (column_in (described_as s) i)
    each_column i h k =
        let a = accepted s h in
        rw a.columns
        (columns_each (fields_forward s ⊳ desc_head_forward s _) (desc_head s).count i (count_most s (desc_fields s)) (rw a.count at k) a.clean)
