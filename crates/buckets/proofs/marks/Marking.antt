-- Loops that mark: the rest of the list, from the table as it is now, decides.
-- Assumes nothing.
use mathlib.Core.Path.{◌≡◌, refl, sym, ◌∙◌}
use mathlib.Core.Bool.{Bool, true, false, ◌&&◌, false≢true, and_assoc}
use mathlib.Core.List.{List, [], ◌∷◌, ◌++◌}
use Prim.Native.Nat.{ℕ, zero, suc, ◌+◌, ◌-◌, ◌*◌, ◌≤◌, ◌<◌}
use native.Mathlib.Nat.{not-suc-le-zero, suc-mul}
use native.Mathlib.Omega.{arith}
use native.Mathlib.Numerals.{sub-one}
use lib.ListN.{get_or, set}
use lib.Dec.{eqb, ltb, ltb→lt}
use store.Enc.{and_l}
use Rattle.bytes_at.specs.Number.{uint_of, numbers_at}
use Rattle.bytes_at.proofs.Tests.{passed}
use Rattle.buckets.specs.Marks.{is_unmarked, all_unmarked, marked}

-- ---- one mark
pub fresh_below : {nb : ℕ} (t : List ℕ) {b : ℕ} {r : Bool} → r ≡ is_unmarked nb t b → r ≡ true → b < nb
unfolding is_unmarked
fresh_below {nb} t {b} e h = ltb→lt b nb (and_l (ltb b nb) (eqb (get_or t b 0) 0) (passed (sym e ∙ h)))

-- ---- what is promised where the list xs is marked over the table z, with the table left as t and the answer r
abbrev pub Marks : ℕ → List ℕ → List ℕ → List ℕ → Bool → Type 0
Marks nb z xs t r = (r ≡ all_unmarked nb z xs) × (r ≡ true → t ≡ marked z xs)

-- the list xs from the table z is the list ys from the table t
pub record Marking (nb : ℕ) (z xs t ys : List ℕ) : Type 0 where
  pub test : all_unmarked nb z xs ≡ all_unmarked nb t ys
  pub table : marked z xs ≡ marked t ys

module _ {nb : ℕ} {z xs t ys : List ℕ} (v : Marking nb z xs t ys) where
  pub marking_more : {y : ℕ} {ys' t' : List ℕ} {r : Bool} → ys ≡ y ∷ ys' → r ≡ is_unmarked nb t y → r ≡ true → (r ≡ true → t' ≡ set t y 1) → Marking nb z xs t' ys'
  unfolding all_unmarked marked
  marking_more ey er h et = record {
    test = v.test ∙ rw (ey, sym er ∙ h, et h);
    table = v.table ∙ rw (ey, et h);
  }

  pub marking_stop : {y : ℕ} {ys' : List ℕ} {r : Bool} {X : Type 0} → ys ≡ y ∷ ys' → r ≡ is_unmarked nb t y → r ≡ false → (false ≡ all_unmarked nb z xs) × (false ≡ true → X)
  unfolding all_unmarked
  marking_stop ey er h = (sym (v.test ∙ rw (ey, sym er ∙ h)), λ e. absurd (false≢true e))

  pub marking_end : ys ≡ [] → Marks nb z xs t true
  unfolding all_unmarked marked
  marking_end e = (sym (v.test ∙ rw e), λ _. sym (v.table ∙ rw e))

-- ---- two lists, one after the other
pub fresh_append : (nb : ℕ) (t xs ys : List ℕ) → all_unmarked nb t (xs ++ ys) ≡ all_unmarked nb t xs && all_unmarked nb (marked t xs) ys
unfolding all_unmarked marked
fresh_append nb t [] ys = refl
fresh_append nb t (x ∷ xs) ys = rw (fresh_append nb (set t x 1) xs ys, and_assoc)

pub marked_append : (t xs ys : List ℕ) → marked t (xs ++ ys) ≡ marked (marked t xs) ys
unfolding marked
marked_append t [] ys = refl
marked_append t (x ∷ xs) ys = marked_append (set t x 1) xs ys

-- xs and then ys
pub marks_then : (nb : ℕ) (z xs ys : List ℕ) {t t₂ : List ℕ} {r r₂ : Bool} → Marks nb z xs t r → r ≡ true → Marks nb t ys t₂ r₂ → Marks nb z (xs ++ ys) t₂ r₂
marks_then nb z xs ys v q w = (
  w.0 ∙ sym (rw (fresh_append nb z xs ys, ← v.0, q, v.1 q)),
  λ q₂. w.1 q₂ ∙ rw (v.1 q, marked_append),
)

-- a loop that marks a part of the list at each turn
module _ {nb : ℕ} {z xs t ys : List ℕ} (v : Marking nb z xs t ys) where
  pub part_more : (hs bs : List ℕ) {t' : List ℕ} {r : Bool} → ys ≡ hs ++ bs → Marks nb t hs t' r → r ≡ true → Marking nb z xs t' bs
  part_more hs bs ey w h = record {
    test = v.test ∙ rw (ey, fresh_append nb t hs bs, ← w.0, h, w.1 h);
    table = v.table ∙ rw (ey, marked_append t hs bs, w.1 h);
  }

  pub part_stop : (hs bs : List ℕ) {t' : List ℕ} {r : Bool} {X : Type 0} → ys ≡ hs ++ bs → Marks nb t hs t' r → r ≡ false → (false ≡ all_unmarked nb z xs) × (false ≡ true → X)
  part_stop hs bs ey w h = (sym (v.test ∙ rw (ey, fresh_append nb t hs bs, ← w.0, h)), λ e. absurd (false≢true e))

-- ---- the lists that are marked, from their front (y is what a call gave, and e what it ensures)
module _ (big : Bool) (width : ℕ) (s : List ℕ) where
  pub numbers_more : (i n : ℕ) {y : ℕ} → 0 < n → y ≡ uint_of big width s i → numbers_at big width s i n ≡ y ∷ numbers_at big width s (i + width) (n - 1)
  unfolding numbers_at
  numbers_more i zero h e = absurd (not-suc-le-zero h)
  numbers_more i (suc n) h e = rw (sub-one, e)

  -- after i of n turns
  pub numbers_turn : (from n i : ℕ) {y : ℕ} → i < n → y ≡ uint_of big width s (from + i * width)
      → numbers_at big width s (from + i * width) (n - i) ≡ y ∷ numbers_at big width s (from + (i + 1) * width) (n - (i + 1))
  numbers_turn from n i h e =
      let left : n - (i + 1) ≡ n - i - 1 = omega arith in
      let at : from + (i + 1) * width ≡ from + i * width + width = omega (arith, suc-mul i width) in
      rw (left, at) (numbers_more (from + i * width) (n - i) (omega arith) e)

  pub numbers_end : (i n : ℕ) → n ≤ 0 → numbers_at big width s i n ≡ []
  unfolding numbers_at
  numbers_end i zero h = refl
  numbers_end i (suc n) h = absurd (not-suc-le-zero h)
