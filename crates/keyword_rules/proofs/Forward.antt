-- Values and descriptions go forward and do not leave the file; a value takes a byte at least.
-- Assumes nothing.
use mathlib.Core.List.{List}
use mathlib.Core.Bool.{Bool, true, false, cond}
use Prim.Native.Nat.{ℕ, zero, suc, ◌+◌, ◌/◌}
use native.Mathlib.Decide.{ℕ_discrete}
use native.Mathlib.Nat.{pos_of_ne-zero}
use native.Mathlib.Omega.{arith}
use lib.Dec.{ltb, eqb}
use borrow.Author.Tests.{eq-eqb, ne_eqb}
use Rattle.bytes_at.specs.Steps.{◌>>=◌}
use Rattle.aipsio_rules.specs.declared.Cursor.{Cursor}
use Rattle.aipsio_rules.specs.declared.Value.{Value}
use Rattle.aipsio_rules.specs.Field.{skipped, settled, string_at}
use Rattle.aipsio_rules.proofs.Forward.{Forward, Moves, forward_same, forward_either, forward_after, ◌⊳◌, moves_on, skipped_forward, each_forward, judged_forward, entered_forward, closed_forward, uint_forward, ranged_forward, text_forward, string_forward, opened_forward, iposition_forward, skipped_moves, uint_moves, ranged_moves, string_moves, entered_moves, closed_moves}
use Rattle.table_rules.specs.DataType.{element_bits}
use Rattle.keyword_rules.specs.Values.{is_array_type, element_type, is_table_type, is_record_type, array_name_at, array_opened, origin_at, length_into, lengths_at, strings_at, values_at, array_at, scalar_at, plain_at}
use Rattle.keyword_rules.specs.RecordDesc.{field_head_at, is_iposition, counted_at, shape_in_desc_at, specific_at, comment_at, field_past, desc_with, type_desc_at}

module _ {B : ℕ} (s : List ℕ) where
  -- Values.
  array_name_forward : (c : Cursor) → Forward B c (array_name_at s c)
  unfolding array_name_at ◌>>=◌
  array_name_forward c = text_forward s c ⊳ judged_forward _ _ _ 1

  pub array_opened_forward : (c : Cursor) → Forward B c (array_opened s c).next
  unfolding array_opened settled ◌>>=◌
  array_opened_forward c = entered_forward _ (uint_forward s c ⊳ array_name_forward _ ⊳ ranged_forward s _ 4 1 3 2)

  length_forward : (product : Value) → Forward B product.next (length_into s product).next
  unfolding length_into settled ◌>>=◌
  length_forward product = ranged_forward s _ 4 0 2147483647 4

  pub lengths_forward : (c : Cursor) (n : ℕ) → Forward B c (lengths_at s c n).next
  unfolding lengths_at
  lengths_forward c n = forward_after _ (λ (p : Value). p.next) (λ p i. length_forward p) _ n

  pub strings_forward : (c : Cursor) (n : ℕ) → Forward B c (strings_at s c n)
  unfolding strings_at
  strings_forward c n = forward_after _ (λ (d : Cursor). d) (λ d i. string_forward s d 0 4096) c n

  values_forward : (c : Cursor) (number n : ℕ) → Forward B c (values_at s c number n)
  unfolding values_at ◌>>=◌
  values_forward c number n =
      let each = element_bits number in
      forward_either (eqb each 1) (each_forward c ((n + 7) / 8) 1) (forward_either (eqb (each / 8) 0) (strings_forward c n) (each_forward c n (each / 8)))

  pub origin_forward : (c : Cursor) (version n : ℕ) → Forward B c (origin_at c version n)
  unfolding origin_at
  origin_forward c version n = forward_either (ltb version 3) (each_forward c n 4) (forward_same c)

  array_forward : (c : Cursor) (number : ℕ) → Forward B c (array_at s c number)
  unfolding array_at ◌>>=◌
  array_forward c number =
      closed_forward (array_opened_forward c ⊳ uint_forward s _ ⊳ origin_forward _ _ _ ⊳ lengths_forward _ _ ⊳ values_forward _ number _)

  scalar_forward : (c : Cursor) (number : ℕ) → Forward B c (scalar_at s c number)
  unfolding scalar_at ◌>>=◌
  scalar_forward c number =
      let each = element_bits number in
      forward_either (eqb each 1) (ranged_forward s c 1 0 1 4) (forward_either (eqb (each / 8) 0) (string_forward s c 0 4096) (skipped_forward c (each / 8)))

  pub plain_forward : (c : Cursor) (number : ℕ) → Forward B c (plain_at s c number)
  unfolding plain_at
  plain_forward c number = forward_either (is_array_type number) (array_forward c (element_type number)) (scalar_forward c number)

  -- A RecordDesc.
  pub head_forward : (c : Cursor) (deeper : ℕ) → Forward B c (field_head_at s c deeper).next
  unfolding field_head_at ◌>>=◌
  head_forward c deeper = string_forward s c 0 4096 ⊳ uint_forward s _ ⊳ judged_forward _ _ _ 4 ⊳ judged_forward _ _ _ 14

  shape_forward : (c : Cursor) → Forward B c (shape_in_desc_at s c)
  unfolding shape_in_desc_at counted_at ◌>>=◌
  shape_forward c = forward_either (is_iposition s c) (iposition_forward s c) (uint_forward s c ⊳ each_forward _ _ 4)

  pub specific_forward : (c : Cursor) (number : ℕ) → Forward B c (specific_at s c number)
  unfolding specific_at
  specific_forward c number =
      forward_either (is_array_type number) (shape_forward c) (forward_either (is_table_type number) (string_forward s c 0 4096) (forward_same c))

  pub comment_forward : (c : Cursor) (version : ℕ) → Forward B c (comment_at s c version)
  unfolding comment_at
  comment_forward c version = forward_either (eqb version 2) (string_forward s c 0 4096) (forward_same c)

  module _ (held : Cursor → ℕ → Cursor) (k : (c : Cursor) (n : ℕ) → Forward B c (held c n)) (deeper : ℕ) where
    past_forward : (version : ℕ) (c : Cursor) → Forward B c (field_past held s deeper version c)
    unfolding field_past ◌>>=◌
    past_forward version c = head_forward c deeper ⊳ k _ _ ⊳ comment_forward _ version

    desc_forward : (c : Cursor) → Forward B c (desc_with held s deeper c)
    unfolding desc_with ◌>>=◌
    desc_forward c =
        closed_forward (opened_forward s c _ 1 2 ⊳ ranged_forward s _ 4 0 2147483647 3 ⊳ forward_after _ (λ (d : Cursor). d) (λ d i. past_forward _ d) _ _)

  pub type_desc_forward : (deeper : ℕ) (c : Cursor) (number : ℕ) → Forward B c (type_desc_at deeper s c number)
  unfolding type_desc_at
  type_desc_forward zero c number = specific_forward c number
  type_desc_forward (suc d) c number =
      forward_either (is_record_type number) (desc_forward (λ e n. type_desc_at d s e n) (λ e n. type_desc_forward d e n) d c) (specific_forward c number)

-- What takes a byte at least.
moves_either : (t : Bool) {c d e : Cursor} → Moves c d → Moves c e → Moves c (cond t d e)
moves_either true a b = a
moves_either false a b = b

module _ (s : List ℕ) where
  array_opened_moves : (c : Cursor) → Moves c (array_opened s c).next
  unfolding array_opened settled ◌>>=◌
  array_opened_moves c = entered_moves s c _ (moves_on {B = 0} (uint_moves s c) (array_name_forward s _ ⊳ ranged_forward s _ 4 1 3 2))

  array_moves : (c : Cursor) (number : ℕ) → Moves c (array_at s c number)
  unfolding array_at ◌>>=◌
  array_moves c number =
      closed_moves s c (moves_on {B = 0} (array_opened_moves c) (uint_forward s _ ⊳ origin_forward s _ _ _ ⊳ lengths_forward s _ _ ⊳ values_forward s _ number _))

  -- a number of so many bytes; a String where it has none
  sized_moves : (c : Cursor) (size : ℕ) → Moves c (cond (eqb size 0) (string_at s c 0 4096).next (skipped c size))
  sized_moves c size = elim (ℕ_discrete size 0) [
    | yes e ↦ rw (eq-eqb size 0 e) (string_moves s c 0 4096)
    | no n ↦ rw (ne_eqb size 0 n) (skipped_moves c size (pos_of_ne-zero n))
  ]

  scalar_moves : (c : Cursor) (number : ℕ) → Moves c (scalar_at s c number)
  unfolding scalar_at ◌>>=◌
  scalar_moves c number =
      let each = element_bits number in
      moves_either (eqb each 1) (ranged_moves s c 1 0 1 4 (omega arith)) (sized_moves c (each / 8))

  pub plain_moves : (c : Cursor) (number : ℕ) → Moves c (plain_at s c number)
  unfolding plain_at
  plain_moves c number = moves_either (is_array_type number) (array_moves c (element_type number)) (scalar_moves c number)
