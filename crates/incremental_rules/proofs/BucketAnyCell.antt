-- What refuses a bucket, and where its reading ends, is the same for every row and every column that is asked for.
-- Assumes nothing.
use mathlib.Core.Path.{◌≡◌, refl, ap, ◌∙◌}
use mathlib.Core.List.{List}
use mathlib.Core.Bool.{Bool}
use Prim.Native.Nat.{ℕ, zero, suc, ◌+◌}
use native.Mathlib.Decide.{ℕ_discrete}
use lib.ListN.{get_or}
use lib.Dec.{ltb}
use borrow.Author.Tests.{eq-eqb, ne_eqb}
use Rattle.bytes_at.specs.Number.{int_bytes}
use Rattle.bytes_at.specs.Steps.{after, ◌>>=◌}
use Rattle.aipsio_rules.specs.declared.Cursor.{Cursor}
use Rattle.aipsio_rules.specs.declared.Value.{Value}
use Rattle.aipsio_rules.specs.Field.{judged, settled, uint_at}
use Rattle.incremental_rules.specs.declared.Starts.{Starts}
use Rattle.incremental_rules.specs.Bucket.{started, start_into, starts_at, offset_into, offsets_at, bucket_head_at, column_part_at, column_part_into, column_parts_at, bucket_at}

-- the same starts were read
record Alike (a b : Starts) : Type 0 where
  last : a.last ≡ b.last
  next : a.next ≡ b.next

started_alike : (c : Cursor) (last hit hit' : ℕ) → Alike (started c last hit) (started c last hit')
unfolding started
started_alike c last hit hit' =
    elim (ℕ_discrete c.refused 0) [
      | yes e ↦ rw (eq-eqb c.refused 0 e) (record { last = refl; next = refl })
      | no e ↦ rw (ne_eqb c.refused 0 e) (record { last = refl; next = refl })
    ]

module _ (s : List ℕ) (width : ℕ) where
  start_alike : (rows row row' : ℕ) (a b : Starts) (i : ℕ) → Alike a b → Alike (start_into s width rows row a i) (start_into s width rows row' b i)
  unfolding start_into ◌>>=◌
  start_alike rows row row' a b i v = rw (v.next, v.last) (started_alike _ _ _ _)

  starts_alike : (rows row row' n : ℕ) (c : Cursor)
      → Alike (after (start_into s width rows row) (record { last = 0; hit = 0; next = c }) n) (after (start_into s width rows row') (record { last = 0; hit = 0; next = c }) n)
  unfolding after
  starts_alike rows row row' zero c = record { last = refl; next = refl }
  starts_alike rows row row' (suc n) c = start_alike rows row row' _ _ n (starts_alike rows row row' n c)

  offset_alike : (limit bytes hit hit' : ℕ) (a b : Value) (i : ℕ) → a.next ≡ b.next → (offset_into s limit bytes hit a i).next ≡ (offset_into s limit bytes hit' b i).next
  unfolding offset_into settled ◌>>=◌
  offset_alike limit bytes hit hit' a b i v = rw v

  offsets_alike : (limit bytes hit hit' n : ℕ) (c : Cursor)
      → (after (offset_into s limit bytes hit) (record { value = 0; next = c }) n).next ≡ (after (offset_into s limit bytes hit') (record { value = 0; next = c }) n).next
  unfolding after
  offsets_alike limit bytes hit hit' zero c = refl
  offsets_alike limit bytes hit hit' (suc n) c = offset_alike limit bytes hit hit' _ _ n (offsets_alike limit bytes hit hit' n c)

  column_alike : (c : Cursor) (limit rows row row' bytes : ℕ) → (column_part_at s c width limit rows row bytes).next ≡ (column_part_at s c width limit rows row' bytes).next
  unfolding column_part_at starts_at offsets_at ◌>>=◌
  column_alike c limit rows row row' bytes =
      let n = uint_at s c in
      let d = judged n.next c.at (ltb 0 n.value) 11 in
      let a = after (start_into s width rows row) (record { last = 0; hit = 0; next = d }) n.value in
      let b = after (start_into s width rows row') (record { last = 0; hit = 0; next = d }) n.value in
      let e : a.next ≡ b.next = (starts_alike rows row row' n.value d).next in
      offsets_alike limit bytes a.hit b.hit n.value a.next
      ∙ ap (λ (x : Cursor). (after (offset_into s limit bytes b.hit) (record { value = 0; next = x }) n.value).next) e

  columns_alike : (limit rows row row' column column' : ℕ) (bytes : List ℕ) (n : ℕ) (c : Cursor)
      → (after (column_part_into s width limit rows row column bytes) (record { value = 0; next = c }) n).next
      ≡ (after (column_part_into s width limit rows row' column' bytes) (record { value = 0; next = c }) n).next
  unfolding after column_part_into ◌>>=◌
  columns_alike limit rows row row' column column' bytes zero c = refl
  columns_alike limit rows row row' column column' bytes (suc n) c =
      let a = after (column_part_into s width limit rows row column bytes) (record { value = 0; next = c }) n in
      column_alike a.next limit rows row row' (get_or bytes n 0)
      ∙ ap (λ (x : Cursor). (column_part_at s x width limit rows row' (get_or bytes n 0)).next) (columns_alike limit rows row row' column column' bytes n c)

pub any_cell : (f : List ℕ) (at size : ℕ) (big : Bool) (rows row row' column column' : ℕ) (bytes : List ℕ) (n : ℕ)
    → (bucket_at f at size big rows row column bytes n).next ≡ (bucket_at f at size big rows row' column' bytes n).next
unfolding bucket_at column_parts_at ◌>>=◌
any_cell f at size big rows row row' column column' bytes n =
    let h = bucket_head_at f (record { at = at; end = at + size; big = big; refused = 0 }) size in
    columns_alike f (int_bytes h.wide) h.len rows row row' column column' bytes n h.next
