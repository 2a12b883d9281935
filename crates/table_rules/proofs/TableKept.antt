-- A refused cursor stays as it is through every part of table.dat from the first column on.
-- Assumes nothing.
use mathlib.Core.List.{List}
use mathlib.Core.Bool.{Bool, true, false, cond}
use Prim.Native.Nat.{ℕ}
use lib.Dec.{eqb, leb}
use Rattle.bytes_at.specs.Steps.{◌>>=◌}
use Rattle.aipsio_rules.specs.declared.Cursor.{Cursor}
use Rattle.aipsio_rules.specs.declared.Text.{Text}
use Rattle.aipsio_rules.specs.Field.{minus_two, minus_three, settled, flag_at, container_of}
use Rattle.aipsio_rules.specs.Object.{iposition_at, shape_at}
use Rattle.aipsio_rules.proofs.Kept.{Keeps, keeps_same, after_keeps, judged_keeps, skipped_keeps, settled_reads, uint_reads, ranged_reads, any_string_reads, container_keeps, string_reads, ◌⨟◌}
use Rattle.aipsio_rules.proofs.Ends.{mark_stays}
use Rattle.aipsio_rules.proofs.ObjectKept.{opened_reads, closed_keeps, block_reads, iposition_keeps, shape_reads, record_keeps}
use Rattle.table_rules.specs.declared.ColumnHead.{ColumnHead}
use Rattle.table_rules.specs.declared.Column.{Column}
use Rattle.table_rules.specs.declared.Columns.{Columns}
use Rattle.table_rules.specs.ColumnDesc.{column_type_at, column_head_at, notes_at, options_at, dimensions_at, elements_at, layout_at, default_at, tail_at, column_rest_at, column_into}
use Rattle.table_rules.specs.declared.Manager.{Manager}
use Rattle.table_rules.specs.declared.Managers.{Managers}
use Rattle.table_rules.specs.declared.Owners.{Owners}
use Rattle.table_rules.specs.declared.Kind.{Kind}
use Rattle.table_rules.specs.declared.Kind.TheVariants.{Other, Standard, Incremental}
use Rattle.table_rules.specs.declared.InfoRead.{InfoRead}
use Rattle.table_rules.specs.declared.Infos.{Infos}
use Rattle.table_rules.specs.ColumnSet.{most_rows, column_set_head_at, manager_into, managers_at, sequence_at, own_shape_at, owner_into, owners_at, is_object, lists_in, ssm_at, ism_at, after_object, info_in, info_at, info_into, infos_at}

-- one of two ways
cond_keeps : (b : Bool) {c d e : Cursor} → Keeps c d → Keeps c e → Keeps c (cond b d e)
cond_keeps true k l = k
cond_keeps false k l = l

-- ---- a ColumnDesc
module _ (s : List ℕ) (c : Cursor) where
  type_keeps : Keeps c (column_type_at s c).next
  unfolding column_type_at ◌>>=◌
  type_keeps = (string_reads s c 0 4096).keeps ⨟ judged_keeps _ _ _ 5

  notes_keeps : Keeps c (notes_at s c)
  unfolding notes_at ◌>>=◌
  notes_keeps = (string_reads s c 0 4096).keeps ⨟ (string_reads s _ 0 4096).keeps ⨟ (string_reads s _ 0 4096).keeps

  options_keeps : (array : Bool) → Keeps c (options_at s c array).next
  unfolding options_at ◌>>=◌
  options_keeps array = (settled_reads _ ((ranged_reads s c 4 0 7 5).keeps ⨟ judged_keeps _ _ _ 5)).keeps

  pub dimensions_keeps : (array : Bool) → Keeps c (dimensions_at s c array).next
  unfolding dimensions_at ◌>>=◌
  dimensions_keeps array = (settled_reads _ ((uint_reads s c).keeps ⨟ judged_keeps _ _ _ 5)).keeps

  pub elements_keeps : (array : Bool) (options dimensions : ℕ) → Keeps c (elements_at s c array options dimensions).next
  unfolding elements_at ◌>>=◌
  elements_keeps true options dimensions = pick (leb 4 options)
    where
      pick : (b : Bool) → Keeps c (cond b (shape_at s c dimensions) (settled 0 (iposition_at s c))).next
      pick true = (shape_reads s c dimensions).keeps
      pick false = (settled_reads 0 (iposition_keeps s c)).keeps
  elements_keeps false options dimensions = (settled_reads 1 (keeps_same c)).keeps

  default_keeps : (array : Bool) (bits : ℕ) → Keeps c (default_at s c array bits)
  unfolding default_at
  default_keeps array bits =
      cond_keeps array (ranged_reads s c 1 0 1 5).keeps
      (cond_keeps (eqb bits 1) (ranged_reads s c 1 0 1 5).keeps (cond_keeps (eqb bits 0) (string_reads s c 0 4096).keeps (skipped_keeps c _)))

module _ (s : List ℕ) (c : Cursor) where
  head_keeps : Keeps c (column_head_at s c).next
  unfolding column_head_at ◌>>=◌
  head_keeps = (ranged_reads s c 4 1 1 3).keeps ⨟ type_keeps s _ ⨟ (ranged_reads s _ 4 1 1 3).keeps ⨟ (string_reads s _ 1 64).keeps

  layout_keeps : (array : Bool) (number : ℕ) → Keeps c (layout_at s c array number).next
  unfolding layout_at ◌>>=◌
  layout_keeps array number =
      (ranged_reads s c 4 number number 5).keeps ⨟ options_keeps s _ array ⨟ dimensions_keeps s _ array ⨟ elements_keeps s _ array _ _

  pub tail_keeps : (array : Bool) (bits : ℕ) → Keeps c (tail_at s c array bits).next
  unfolding tail_at ◌>>=◌
  tail_keeps array bits =
      (settled_reads _
      ((ranged_reads s c 4 0 65536 4).keeps ⨟ record_keeps s _ ⨟ (ranged_reads s _ 4 1 1 3).keeps ⨟ default_keeps s _ array bits)).keeps

rest_keeps : (s : List ℕ) (head : ColumnHead) (c : Cursor) → Keeps c (column_rest_at s head c).next
unfolding column_rest_at ◌>>=◌
rest_keeps s head c = notes_keeps s c ⨟ layout_keeps s _ _ _ ⨟ tail_keeps s _ _ _

-- a turn of the loop
pub column_keeps : (s : List ℕ) (cs : Columns) (i : ℕ) → Keeps cs.next (column_into s cs i).next
unfolding column_into ◌>>=◌
column_keeps s cs i = head_keeps s cs.next ⨟ judged_keeps _ _ _ 6 ⨟ rest_keeps s _ _

-- ---- the ColumnSet
module _ (s : List ℕ) (c : Cursor) where
  pub set_head_keeps : (rows : ℕ) → Keeps c (column_set_head_at s c rows).next
  unfolding column_set_head_at ◌>>=◌
  set_head_keeps rows =
      (ranged_reads s c 4 minus_three minus_two 3).keeps ⨟ (ranged_reads s _ _ 0 most_rows 4).keeps ⨟ judged_keeps _ _ _ 6 ⨟ (uint_reads s _).keeps
      ⨟ (ranged_reads s _ 4 1 16 4).keeps

  sequence_keeps : Keeps c (sequence_at s c).next
  unfolding sequence_at ◌>>=◌
  sequence_keeps =
      (ranged_reads s c 4 2 2 3).keeps ⨟ (string_reads s _ 0 4096).keeps ⨟ (ranged_reads s _ 4 1 1 3).keeps ⨟ (uint_reads s _).keeps

  own_shape_keeps : (array : Bool) → Keeps c (own_shape_at s c array)
  unfolding own_shape_at ◌>>=◌
  own_shape_keeps array =
      cond_keeps array
      ((ranged_reads s c 1 0 1 5).keeps ⨟ cond_keeps (eqb (flag_at s c).value 0) (keeps_same _) (iposition_keeps s _)) (keeps_same c)

-- DMInfo in its two forms
module _ (s : List ℕ) (c : Cursor) where
  ssm_keeps : (n : ℕ) → Keeps c (ssm_at s c n).next
  unfolding ssm_at ◌>>=◌
  ssm_keeps n =
      (mark_stays s c).keeps ⨟ (opened_reads s _ _ 2 2).keeps ⨟ (string_reads s _ 0 4096).keeps ⨟ (block_reads s _ n).keeps ⨟ (block_reads s _ n).keeps
      ⨟ closed_keeps _ _

  ism_keeps : Keeps c (ism_at s c).next
  unfolding ism_at ◌>>=◌
  ism_keeps = (mark_stays s c).keeps ⨟ (opened_reads s _ _ 3 3).keeps ⨟ (string_reads s _ 0 4096).keeps ⨟ closed_keeps _ _

-- either form: one of two ways
forms_keep : (b : Bool) {c : Cursor} (x y : InfoRead) → Keeps c x.next → Keeps c y.next → Keeps c (cond b x y).next
forms_keep true x y k l = k
forms_keep false x y k l = l

module _ (s : List ℕ) (c : Cursor) where
  lists_keeps : (t : Text) (n : ℕ) → Keeps t.next (lists_in c t n).next
  unfolding lists_in ◌>>=◌
  lists_keeps t n = judged_keeps _ _ _ 7

  object_keeps : (o : InfoRead) → Keeps o.next (after_object c o).next
  unfolding after_object ◌>>=◌
  object_keeps o = closed_keeps o.next c

  form_keeps : (t : Text) (kind : Kind) (n : ℕ) → Keeps t.next (info_in s c t kind n).next
  form_keeps t Other n = keeps_same t.next
  form_keeps t Standard n = forms_keep (is_object s t) _ _ (container_keeps t ⨟ ssm_keeps s (container_of t) n ⨟ object_keeps _) (lists_keeps t n)
  form_keeps t Incremental n = forms_keep (is_object s t) _ _ (container_keeps t ⨟ ism_keeps s (container_of t) ⨟ object_keeps _) (lists_keeps t n)

  dm_info_keeps : (kind : Kind) (n : ℕ) → Keeps c (info_at s c kind n).next
  unfolding info_at ◌>>=◌
  dm_info_keeps kind n = (any_string_reads s c).keeps ⨟ form_keeps _ kind n

-- a turn of each loop
module _ (s : List ℕ) where
  manager_keeps : (highest : ℕ) (ms : Managers) (i : ℕ) → Keeps ms.next (manager_into s highest ms i).next
  unfolding manager_into ◌>>=◌
  manager_keeps highest ms i = (string_reads s _ 0 4096).keeps ⨟ (uint_reads s _).keeps ⨟ judged_keeps _ _ _ 6

  owner_keeps : (columns : List Column) (managers : List Manager) (m : ℕ) (os : Owners) (i : ℕ)
      → Keeps os.next (owner_into s columns managers m os i).next
  unfolding owner_into ◌>>=◌
  owner_keeps columns managers m os i = sequence_keeps s _ ⨟ judged_keeps _ _ _ 6 ⨟ own_shape_keeps s _ _

  info_keeps : (managers : List Manager) (counts : List ℕ) (is : Infos) (j : ℕ) → Keeps is.next (info_into s managers counts is j).next
  unfolding info_into ◌>>=◌
  info_keeps managers counts is j = dm_info_keeps s _ _ _

module _ (s : List ℕ) (c : Cursor) where
  pub managers_keeps : (n highest : ℕ) → Keeps c (managers_at s c n highest).next
  unfolding managers_at
  managers_keeps n highest = after_keeps _ (λ (ms : Managers). ms.next) (manager_keeps s highest) _ n

  pub owners_keeps : (columns : List Column) (n : ℕ) (managers : List Manager) (m : ℕ) → Keeps c (owners_at s c columns n managers m).next
  unfolding owners_at
  owners_keeps columns n managers m = after_keeps _ (λ (os : Owners). os.next) (owner_keeps s columns managers m) _ n

  pub infos_keeps : (managers : List Manager) (counts : List ℕ) (m : ℕ) → Keeps c (infos_at s c managers counts m).next
  unfolding infos_at
  infos_keeps managers counts m = after_keeps _ (λ (is : Infos). is.next) (info_keeps s managers counts) _ m
