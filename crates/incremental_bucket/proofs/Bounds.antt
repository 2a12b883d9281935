-- The offset that a bucket gives lies in the bucket, also where it is refused.
-- Assumes nothing.
use mathlib.Core.Path.{◌≡◌, refl}
use mathlib.Core.List.{List}
use mathlib.Core.Bool.{Bool, true, false, cond}
use Prim.Native.Nat.{ℕ, zero, suc, ◌+◌, ◌≤◌, zero-le}
use native.Mathlib.Omega.{arith}
use lib.Dec.{eqb}
use native.Mathlib.Decide.{ℕ_discrete}
use borrow.Author.Tests.{leb-true}
use Rattle.incremental_rules.proofs.Turns.{begun_on, begun_off}
use Rattle.bytes_at.specs.Number.{int_bytes}
use Rattle.bytes_at.specs.Steps.{after, ◌>>=◌}
use Rattle.aipsio_rules.specs.declared.Cursor.{Cursor}
use Rattle.aipsio_rules.specs.declared.Value.{Value}
use Rattle.aipsio_rules.specs.Field.{uint_at}
use Rattle.aipsio_rules.proofs.Kept.{Clean, clean_before, skipped_keeps}
use Rattle.aipsio_rules.proofs.Accepted.{judged_passed, judged_within}
use Rattle.aipsio_rules.proofs.Bounds.{settled_le}
use Rattle.incremental_rules.specs.Bucket.{offset_into, offsets_at, begun, bucket_head_at, low_bytes, column_part_at, column_part_into, column_parts_at, bucket_at}

-- one of two numbers
pub cond_le : (t : Bool) {a b m r : ℕ} → a ≤ m → b ≤ m → r ≡ cond t a b → r ≤ m
cond_le true p q e = omega arith
cond_le false p q e = omega arith

module _ (s : List ℕ) (limit : ℕ) where
  offset_le : (bytes hit : ℕ) (st : Value) (i : ℕ) → st.value ≤ limit → (offset_into s limit bytes hit st i).value ≤ limit
  unfolding offset_into ◌>>=◌
  offset_le bytes hit st i h =
      let v = uint_at s st.next in
      settled_le _ _ (λ e.
      let k : v.value + bytes ≤ limit = leb-true _ _ (judged_passed v.next st.next.at _ 10 e).1 in
      cond_le (eqb i hit) {a = v.value} (omega arith) h refl)

  offsets_le : (bytes hit : ℕ) (st : Value) (n : ℕ) → st.value ≤ limit → (after (offset_into s limit bytes hit) st n).value ≤ limit
  unfolding after
  offsets_le bytes hit st zero h = h
  offsets_le bytes hit st (suc n) h = offset_le bytes hit _ n (offsets_le bytes hit st n h)

  column_le : (c : Cursor) (width rows row bytes : ℕ) → (column_part_at s c width limit rows row bytes).value ≤ limit
  unfolding column_part_at offsets_at ◌>>=◌
  column_le c width rows row bytes = offsets_le bytes _ _ _ zero-le

  columns_le : (width rows row column : ℕ) (bytes : List ℕ) (st : Value) (n : ℕ) → st.value ≤ limit → (after (column_part_into s width limit rows row column bytes) st n).value ≤ limit
  unfolding after column_part_into ◌>>=◌
  columns_le width rows row column bytes st zero h = h
  columns_le width rows row column bytes st (suc n) h =
      cond_le (eqb n column) (column_le _ width rows row _) (columns_le width rows row column bytes st n h) refl

begun_le : (c : Cursor) (wide : Bool) (len : ℕ) {high : ℕ} → (Clean c → len ≤ high) → (begun c wide len).len ≤ high
begun_le c wide len h = elim (ℕ_discrete c.refused 0) [ yes e ↦ rw (begun_on c wide len e) (h e) | no e ↦ rw (begun_off c wide len e) zero-le ]

head_le : (s : List ℕ) (c : Cursor) (size : ℕ) → (bucket_head_at s c size).len ≤ size
unfolding bucket_head_at ◌>>=◌
head_le s c size =
    begun_le _ _ _ (λ e. let k = judged_within _ _ (low_bytes (uint_at s c).value) 4 size 10 (clean_before (skipped_keeps _ _) e) in omega (arith, k.1))

pub bucket_le : (f : List ℕ) (at size : ℕ) (big : Bool) (rows row column : ℕ) (bytes : List ℕ) (n : ℕ) → (bucket_at f at size big rows row column bytes n).value ≤ size
unfolding bucket_at column_parts_at ◌>>=◌
bucket_le f at size big rows row column bytes n =
    let c : Cursor = record { at = at; end = at + size; big = big; refused = 0 } in
    let h = bucket_head_at f c size in
    let k = columns_le f h.len (int_bytes h.wide) rows row column bytes (record { value = 0; next = h.next }) n zero-le in
    omega (arith, head_le f c size, k)
