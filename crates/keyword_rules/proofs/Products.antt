-- The product of an Array's axes counts to 2^32 only: in a file of at most 65,536 bytes that changes nothing.
-- Assumes nothing.
use mathlib.Core.Path.{◌≡◌, refl, sym, ap, ◌∙◌}
use mathlib.Core.List.{List}
use mathlib.Core.Bool.{Bool, true, false, cond}
use Prim.Native.Nat.{ℕ, zero, suc, ◌+◌, ◌*◌, ◌/◌, ◌≤◌, ◌<◌}
use native.Mathlib.Decide.{ℕ_discrete, dec_le}
use native.Mathlib.Nat.{mul-zero, mul-le-mul_right, le-mul_of_pos_right, pos_of_ne-zero, div-le_self, le-div_iff_mul-le}
use native.Mathlib.Omega.{arith}
use lib.Dec.{eqb}
use borrow.Author.Tests.{lt-leb}
use Rattle.bytes_at.specs.Steps.{after, ◌>>=◌}
use Rattle.aipsio_rules.specs.declared.Cursor.{Cursor}
use Rattle.aipsio_rules.specs.declared.Value.{Value}
use Rattle.aipsio_rules.specs.declared.Text.{Text}
use Rattle.aipsio_rules.specs.Field.{left_in, skipped_each, settled, uint_at, code_at, string_at}
use Rattle.aipsio_rules.proofs.Kept.{Clean, Refused, clean_before, string_reads, stop}
use Rattle.aipsio_rules.proofs.Accepted.{text_is, string_is}
use Rattle.aipsio_rules.proofs.Forward.{Within, ◌⊳◌, uint_forward}
use Rattle.aipsio_rules.specs.Object.{closed}
use Rattle.table_rules.specs.DataType.{element_bits}
use Rattle.keyword_rules.specs.Values.{array_opened, origin_at, capped, length_into, lengths_at, strings_at, values_at, array_at, length_whole, lengths_whole, array_whole, ProductsCount}
use Rattle.keyword_rules.proofs.Kept.{values_keeps}
use Rattle.keyword_rules.proofs.Forward.{array_opened_forward, origin_forward, lengths_forward, strings_forward}

-- Products.
cap_small : (n : ℕ) → n < 4294967296 → capped n ≡ n
cap_small n h = omega arith

cap_large : (n : ℕ) → 4294967296 ≤ n → capped n ≡ 4294967296
cap_large n h = omega arith

cap_product : (v a : ℕ) → 4294967296 ≤ v → capped (4294967296 * a) ≡ capped (v * a)
cap_product v a h = elim (ℕ_discrete a 0) [
  | yes e ↦ rw (e, mul-zero v)
  | no n ↦
      let p = le-mul_of_pos_right 4294967296 (pos_of_ne-zero n) in
      let q = mul-le-mul_right a h in
      cap_large (4294967296 * a) p ∙ sym (cap_large (v * a) (omega arith))
]

cap_times : (v a : ℕ) → capped (capped v * a) ≡ capped (v * a)
cap_times v a = elim (dec_le 4294967296 v) [
  | yes h ↦ ap (λ (x : ℕ). capped (x * a)) (cap_large v h) ∙ cap_product v a h
  | no h ↦ ap (λ (x : ℕ). capped (x * a)) (cap_small v (omega arith))
]

cap_either : (t : Bool) (m : ℕ) → cond t (capped m) 0 ≡ capped (cond t m 0)
cap_either true m = refl
cap_either false m = refl

abbrev capped_value : Value → Value
capped_value p = record { value = capped p.value; next = p.next }

length_capped_value : (s : List ℕ) (p : Value) → length_into s (capped_value p) ≡ capped_value (length_whole s p)
unfolding length_into length_whole settled ◌>>=◌
length_capped_value s p =
    let axis = code_at s p.next 0 2147483647 in
    rw (cap_times p.value axis.value)
    (ap (λ (x : ℕ). record { value = x; next = axis.next }) (cap_either (eqb axis.next.refused 0) (p.value * axis.value)))

turns_capped_value : (s : List ℕ) (x : Value) (n : ℕ) → after (λ p i. length_into s p) (capped_value x) n ≡ capped_value (after (λ p i. length_whole s p) x n)
unfolding after
turns_capped_value s x zero = refl
turns_capped_value s x (suc n) = ap (λ (p : Value). length_into s p) (turns_capped_value s x n) ∙ length_capped_value s (after (λ p i. length_whole s p) x n)

one_capped_value : (t : Bool) (c : Cursor) → record { value = cond t 0 1; next = c } ≡ capped_value (record { value = cond t 0 1; next = c })
one_capped_value true c = refl
one_capped_value false c = refl

lengths_capped_value : (s : List ℕ) (c : Cursor) (n : ℕ) → lengths_at s c n ≡ capped_value (lengths_whole s c n)
unfolding lengths_at lengths_whole
lengths_capped_value s c n = ap (λ (x : Value). after (λ p i. length_into s p) x n) (one_capped_value (eqb n 0) c) ∙ turns_capped_value s _ n

-- Elements.
each_large : (c : Cursor) (n m size : ℕ) → left_in c < n → left_in c < m → skipped_each c n size ≡ skipped_each c m size
unfolding skipped_each
each_large c n m size h k =
    let r = div-le_self (left_in c) size in
    rw (lt-leb n (left_in c / size) (omega arith), lt-leb m (left_in c / size) (omega arith))

module _ (s : List ℕ) (c : Cursor) where
  abbrev turns : ℕ → Cursor
  turns n = after (λ d i. (string_at s d 0 4096).next) c n

  -- a String takes four bytes at least
  climbs : (n : ℕ) → Clean (turns n) → n * 4 ≤ (turns n).at
  unfolding after
  climbs zero e = omega arith
  climbs (suc n) e =
      let d = turns n in
      let p = climbs n (clean_before (string_reads s d 0 4096).keeps e) in
      let q = ap (λ (t : Text). t.next) (string_is s d 0 4096 e) in
      let r = ap (λ (t : Text). t.next.at) (text_is s d (rw q at e)) in
      let a = ap (λ (x : Cursor). x.at) q in
      omega (arith, p, r, a)

  strings_refused : Within 65536 c → Refused (turns 16385)
  unfolding strings_at
  strings_refused w e =
      let p = climbs 16385 e in
      let v = (strings_forward {B = 65536} s c 16385).stays w e in
      omega (arith, p, v.at)

  strings_large : (n m : ℕ) → Within 65536 c → 16385 ≤ n → 16385 ≤ m → strings_at s c n ≡ strings_at s c m
  unfolding strings_at
  strings_large n m w h k =
      let r = strings_refused w in
      sym (stop _ (λ d j. (string_reads s d 0 4096).keeps) c 16385 n refl h r) ∙ stop _ (λ d j. (string_reads s d 0 4096).keeps) c 16385 m refl k r

either_same : (t : Bool) {a b x y : Cursor} → a ≡ b → x ≡ y → cond t a x ≡ cond t b y
either_same true p q = p
either_same false p q = q

eighths : (n : ℕ) → 4294967296 ≤ n → 65536 < (n + 7) / 8
eighths n h = (le-div_iff_mul-le {k = 8} (omega arith)).1 (omega arith)

values_large : (s : List ℕ) (c : Cursor) (number n : ℕ) → Within 65536 c → 4294967296 ≤ n → values_at s c number 4294967296 ≡ values_at s c number n
unfolding values_at ◌>>=◌
values_large s c number n w h =
    let each = element_bits number in
    let l : left_in c ≤ 65536 = omega (arith, w.end) in
    let e = eighths n h in
    either_same (eqb each 1) (each_large c 536870912 ((n + 7) / 8) 1 (omega arith) (omega arith))
    (either_same (eqb (each / 8) 0) (strings_large s c 4294967296 n w (omega arith) (omega arith)) (each_large c 4294967296 n (each / 8) (omega arith) (omega arith)))

values_capped_value : (s : List ℕ) (c : Cursor) (number n : ℕ) → (Clean c → Within 65536 c) → values_at s c number (capped n) ≡ values_at s c number n
values_capped_value s c number n w = elim (dec_le 4294967296 n) [
  | yes h ↦ elim (ℕ_discrete c.refused 0) [
    | yes e ↦ ap (λ (x : ℕ). values_at s c number x) (cap_large n h) ∙ values_large s c number n (w e) h
    | no e ↦ (values_keeps s c number (capped n)).stays e ∙ sym ((values_keeps s c number n).stays e)
  ]
  | no h ↦ ap (λ (x : ℕ). values_at s c number x) (cap_small n (omega arith))
]

-- in a file of at most 65,536 bytes
pub products_count : ProductsCount
unfolding array_at array_whole ◌>>=◌
products_count s c number a b =
    let o = array_opened s c in
    let n = uint_at s o.next in
    let d = origin_at n.next o.value n.value in
    let p = lengths_whole s d n.value in
    let v : Within 65536 c = record { at = a; end = b } in
    let i = array_opened_forward {B = 65536} s c ⊳ uint_forward s o.next ⊳ origin_forward s n.next o.value n.value ⊳ lengths_forward s d n.value in
    let q = lengths_capped_value s d n.value in
    let w : Clean p.next → Within 65536 p.next = rw q at (i.stays v) in
    rw q (ap (λ (e : Cursor). closed e c) (values_capped_value s p.next number p.value w))
