-- Two lists of bytes of one length, compared k at a time: their first i are the same.
-- Assumes nothing.
use mathlib.Core.Path.{◌≡◌, refl, sym, ap, ◌∙◌}
use mathlib.Core.List.{List, [], ◌∷◌}
use mathlib.Core.Bool.{true, false}
use Prim.Native.Nat.{ℕ, zero, suc, ◌+◌, ◌*◌, ◌/◌, ◌%◌, ◌≤◌, ◌<◌, min}
use native.Mathlib.Nat.{add-mul, mul-le-mul_right}
use Rattle.std.proofs.lemmas.Grind.{div_ceil_times}
use native.Mathlib.Decide.{ℕ_discrete}
use native.Mathlib.Omega.{arith}
use lib.Dec.{eqb}
use lib.ListN.{length, take, drop, take-append-drop, length-drop}
use lib.Seq.{take_all, take-take, take-add, get_or-drop}
use borrow.Author.Tests.{eq-eqb, ne_eqb}
use Rattle.bytes_at.specs.Number.{big_from, uint_of}
use Rattle.bytes_at.specs.Bytes.{same_bytes}
use Rattle.bytes_at.proofs.Numbers.{Bytes}
use Rattle.bytes_at.proofs.Comparing.{same_self, unlike}

-- bytes that give one number are the same
big_same : (a b n : ℕ) (l m : List ℕ) → n ≤ length l → n ≤ length m → Bytes l → Bytes m → big_from a n l ≡ big_from b n m → (a ≡ b) × (take n l ≡ take n m)
unfolding big_from
big_same a b zero l m p q f g e = (e, refl)
big_same a b (suc n) [] m p q f g e = absurd (omega arith)
big_same a b (suc n) (x ∷ l) [] p q f g e = absurd (omega arith)
big_same a b (suc n) (x ∷ l) (y ∷ m) p q f g e =
    let r = big_same (a * 256 + x) (b * 256 + y) n l m (omega arith) (omega arith) (λ i. f (suc i)) (λ i. g (suc i)) e in
    let d : (a ≡ b) × (x ≡ y) = omega (arith, f 0, g 0) in
    (d.0, cc)

pub record Alike (a b : List ℕ) (i : ℕ) : Type 0 where
  pub long : length a ≡ length b
  pub same : take i a ≡ take i b

pub alike_none : (a b : List ℕ) → length a ≡ length b → Alike a b 0
alike_none a b e = record { long = e; same = refl }

module _ (a b : List ℕ) (f : Bytes a) (g : Bytes b) (k : ℕ) {x y : ℕ} (i : ℕ) (p : x ≡ uint_of true k a i) (q : y ≡ uint_of true k b i) where
  pub alike_not : (x ≡ y → ⊥) → false ≡ same_bytes a b
  alike_not h = sym (unlike a b (λ e. h (p ∙ ap (λ (l : List ℕ). uint_of true k l i) e ∙ sym q)))

  piece : i + k ≤ length a → i + k ≤ length b → x ≡ y → take k (drop i a) ≡ take k (drop i b)
  unfolding uint_of
  piece h l e =
      (big_same 0 0 k (drop i a) (drop i b)
      (simp length-drop (omega arith)) (simp length-drop (omega arith))
      (λ j. rw get_or-drop (f (i + j))) (λ j. rw get_or-drop (g (i + j)))
      (sym p ∙ e ∙ q)).1

  pub alike_more : Alike a b i → i + k ≤ length a → x ≡ y → Alike a b (i + k)
  alike_more v h e =
      let l = piece h (omega (arith, v.long)) e in
      record { long = v.long; same = rw (take-add i k a, take-add i k b) (cc) }

  -- the last k, of which some may have been compared
  module _ {j : ℕ} (v : Alike a b j) (l : i ≤ j) (h : i + k ≡ length a) where
    front : take i a ≡ take i b
    front = sym (take-take i j a l) ∙ ap (take i) v.same ∙ take-take i j b l

    back : x ≡ y → drop i a ≡ drop i b
    back e =
        let m : i + k ≡ length b = omega (arith, v.long) in
        sym (take_all k (drop i a) (simp length-drop (omega arith))) ∙ piece (omega arith) (omega arith) e ∙ take_all k (drop i b) (simp length-drop (omega arith))

    whole : x ≡ y → a ≡ b
    whole e = cc (take-append-drop i a, take-append-drop i b, front, back e)

    pub alike_last : eqb x y ≡ same_bytes a b
    alike_last = elim (ℕ_discrete x y) [ yes e ↦ rw (eq-eqb x y e, ← (whole e)) (sym (same_self a)) | no n ↦ rw (ne_eqb x y n) (alike_not n) ]

-- turns of n bytes each, up to the last n: as many as `last.div_ceil(n)`
module _ (last n : ℕ) (o : 0 < n) {turns : ℕ} (e : turns ≡ last / n + min 1 (last % n)) where
  bounds : (last ≤ turns * n) × (turns * n < last + n)
  bounds = rw e (div_ceil_times last n o)

  pub turn_there : (k : ℕ) → k < turns → k * n + n ≤ last + n
  turn_there k h = omega (arith, bounds, add-mul k 1 n, mul-le-mul_right {m = k + 1} {n = turns} n (omega arith))

  pub turns_done : (k : ℕ) → turns ≤ k → last ≤ k * n
  turns_done k h = omega (arith, bounds, mul-le-mul_right {m = turns} {n = k} n h)
