-- A refused cursor stays as it is through every value, and through a RecordDesc, however deep.
-- Assumes nothing.
use mathlib.Core.List.{List}
use Prim.Native.Nat.{ℕ, zero, suc, ◌+◌, ◌/◌}
use lib.Dec.{ltb, eqb}
use Rattle.bytes_at.specs.Steps.{◌>>=◌}
use Rattle.aipsio_rules.specs.declared.Cursor.{Cursor}
use Rattle.aipsio_rules.specs.declared.Value.{Value}
use Rattle.aipsio_rules.proofs.Kept.{Keeps, Reads, keeps_same, cond_keeps, after_keeps, skipped_keeps, each_keeps, judged_keeps, settled_reads, uint_reads, ranged_reads, any_string_reads, string_reads, ◌⨟◌}
use Rattle.aipsio_rules.proofs.ObjectKept.{entered_keeps, opened_reads, closed_keeps, iposition_keeps}
use Rattle.table_rules.specs.DataType.{element_bits}
use Rattle.keyword_rules.specs.Values.{is_array_type, element_type, is_table_type, is_record_type, array_name_at, array_opened, origin_at, length_into, lengths_at, strings_at, values_at, array_at, scalar_at, plain_at}
use Rattle.keyword_rules.specs.RecordDesc.{field_head_at, is_iposition, counted_at, shape_in_desc_at, specific_at, comment_at, field_past, desc_with, type_desc_at}

module _ (s : List ℕ) where
  -- Values.
  array_name_keeps : (c : Cursor) → Keeps c (array_name_at s c)
  unfolding array_name_at ◌>>=◌
  array_name_keeps c = (any_string_reads s c).keeps ⨟ judged_keeps _ _ _ 2

  array_opened_reads : (c : Cursor) → Reads c (array_opened s c)
  unfolding array_opened ◌>>=◌
  array_opened_reads c =
      settled_reads _ ((uint_reads s c).keeps ⨟ array_name_keeps _ ⨟ (ranged_reads s _ 4 1 3 3).keeps ⨟ entered_keeps _ c _)

  pub length_reads : (product : Value) → Reads product.next (length_into s product)
  unfolding length_into ◌>>=◌
  length_reads product = settled_reads _ (ranged_reads s _ 4 0 2147483647 5).keeps

  lengths_keeps : (c : Cursor) (n : ℕ) → Keeps c (lengths_at s c n).next
  unfolding lengths_at
  lengths_keeps c n = after_keeps _ (λ (p : Value). p.next) (λ p i. (length_reads p).keeps) _ n

  pub strings_keeps : (c : Cursor) (n : ℕ) → Keeps c (strings_at s c n)
  unfolding strings_at
  strings_keeps c n = after_keeps _ (λ (d : Cursor). d) (λ d i. (string_reads s d 0 4096).keeps) c n

  pub values_keeps : (c : Cursor) (number n : ℕ) → Keeps c (values_at s c number n)
  unfolding values_at ◌>>=◌
  values_keeps c number n =
      let each = element_bits number in
      cond_keeps (eqb each 1) (each_keeps c ((n + 7) / 8) 1) (cond_keeps (eqb (each / 8) 0) (strings_keeps c n) (each_keeps c n (each / 8)))

  origin_keeps : (c : Cursor) (version n : ℕ) → Keeps c (origin_at c version n)
  unfolding origin_at
  origin_keeps c version n = cond_keeps (ltb version 3) (each_keeps c n 4) (keeps_same c)

  array_keeps : (c : Cursor) (number : ℕ) → Keeps c (array_at s c number)
  unfolding array_at ◌>>=◌
  array_keeps c number =
      (array_opened_reads c).keeps ⨟ (uint_reads s _).keeps ⨟ origin_keeps _ _ _ ⨟ lengths_keeps _ _ ⨟ values_keeps _ number _ ⨟ closed_keeps _ c

  scalar_keeps : (c : Cursor) (number : ℕ) → Keeps c (scalar_at s c number)
  unfolding scalar_at ◌>>=◌
  scalar_keeps c number =
      let each = element_bits number in
      cond_keeps (eqb each 1) (ranged_reads s c 1 0 1 5).keeps (cond_keeps (eqb (each / 8) 0) (string_reads s c 0 4096).keeps (skipped_keeps c (each / 8)))

  pub plain_keeps : (c : Cursor) (number : ℕ) → Keeps c (plain_at s c number)
  unfolding plain_at
  plain_keeps c number = cond_keeps (is_array_type number) (array_keeps c (element_type number)) (scalar_keeps c number)

  -- A RecordDesc.
  pub head_keeps : (c : Cursor) (deeper : ℕ) → Keeps c (field_head_at s c deeper).next
  unfolding field_head_at ◌>>=◌
  head_keeps c deeper = (string_reads s c 0 4096).keeps ⨟ (uint_reads s _).keeps ⨟ judged_keeps _ _ _ 5 ⨟ judged_keeps _ _ _ 15

  shape_keeps : (c : Cursor) → Keeps c (shape_in_desc_at s c)
  unfolding shape_in_desc_at counted_at ◌>>=◌
  shape_keeps c = cond_keeps (is_iposition s c) (iposition_keeps s c) ((uint_reads s c).keeps ⨟ each_keeps _ _ 4)

  specific_keeps : (c : Cursor) (number : ℕ) → Keeps c (specific_at s c number)
  unfolding specific_at
  specific_keeps c number =
      cond_keeps (is_array_type number) (shape_keeps c) (cond_keeps (is_table_type number) (string_reads s c 0 4096).keeps (keeps_same c))

  comment_keeps : (c : Cursor) (version : ℕ) → Keeps c (comment_at s c version)
  unfolding comment_at
  comment_keeps c version = cond_keeps (eqb version 2) (string_reads s c 0 4096).keeps (keeps_same c)

  module _ (held : Cursor → ℕ → Cursor) (k : (c : Cursor) (n : ℕ) → Keeps c (held c n)) (deeper : ℕ) where
    past_keeps : (version : ℕ) (c : Cursor) → Keeps c (field_past held s deeper version c)
    unfolding field_past ◌>>=◌
    past_keeps version c = head_keeps c deeper ⨟ k _ _ ⨟ comment_keeps _ version

    desc_keeps : (c : Cursor) → Keeps c (desc_with held s deeper c)
    unfolding desc_with ◌>>=◌
    desc_keeps c =
        (opened_reads s c _ 1 2).keeps
        ⨟ (ranged_reads s _ 4 0 2147483647 4).keeps
        ⨟ after_keeps _ (λ (d : Cursor). d) (λ d i. past_keeps _ d) _ _
        ⨟ closed_keeps _ c

  pub type_desc_keeps : (deeper : ℕ) (c : Cursor) (number : ℕ) → Keeps c (type_desc_at deeper s c number)
  unfolding type_desc_at
  type_desc_keeps zero c number = specific_keeps c number
  type_desc_keeps (suc d) c number =
      cond_keeps (is_record_type number) (desc_keeps (λ e n. type_desc_at d s e n) (λ e n. type_desc_keeps d e n) d c) (specific_keeps c number)

  -- one field, where what its type asks for is read `deeper` levels deep
  pub field_past_keeps : (deeper version : ℕ) (c : Cursor) → Keeps c (field_past (type_desc_at deeper s) s deeper version c)
  field_past_keeps deeper version c = past_keeps (type_desc_at deeper s) (type_desc_keeps deeper) deeper version c
