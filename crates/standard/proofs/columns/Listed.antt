-- Lists of f i, f (i + 1), .., and tests over them.
-- Assumes nothing.
use mathlib.Core.Path.{◌≡◌, refl, ap, ◌∙◌}
use mathlib.Core.Bool.{Bool, true, false, ◌&&◌}
use mathlib.Core.List.{List, [], ◌∷◌, ◌++◌, map}
use Prim.Native.Nat.{ℕ, zero, suc, ◌+◌, ◌<◌}
use native.Mathlib.Omega.{arith}
use lib.ListN.{length, get_or}
use Rattle.bytes_at.specs.Lists.{all}

-- ---- n elements from f i on
unfoldable pub listed : {A : Type 0} → (ℕ → A) → ℕ → ℕ → List A
listed f zero i = []
listed f (suc n) i = f i ∷ listed f n (suc i)

and_true : (a : Bool) → (a && true) ≡ a
and_true true = refl
and_true false = refl

and_false : (a : Bool) → (a && false) ≡ false
and_false true = refl
and_false false = refl

and_assoc : (a b c : Bool) → (a && (b && c)) ≡ ((a && b) && c)
and_assoc true b c = refl
and_assoc false b c = refl

and_swap : (a b c d : Bool) → ((a && b) && (c && d)) ≡ ((a && c) && (b && d))
and_swap true true c d = refl
and_swap true false true d = refl
and_swap true false false d = refl
and_swap false b c d = refl

module _ {A : Type 0} (f : ℕ → A) where
  pub listed_length : (n i : ℕ) → length (listed f n i) ≡ n
  unfolding listed
  listed_length zero i = refl
  listed_length (suc n) i = ap suc (listed_length n (suc i))

  pub listed_at : (d : A) (n i j : ℕ) → j < n → get_or (listed f n i) j d ≡ f (j + i)
  unfolding listed
  listed_at d zero i j h = absurd (omega arith)
  listed_at d (suc n) i zero h = let e : 0 + i ≡ i = omega arith in rw e
  listed_at d (suc n) i (suc j) h = let e : suc j + i ≡ j + suc i = omega arith in rw e (listed_at d n (suc i) j (omega arith))

  pub listed_more : (n i : ℕ) → listed f (suc n) i ≡ listed f n i ++ f (n + i) ∷ []
  unfolding listed
  listed_more zero i = let e : 0 + i ≡ i = omega arith in rw e
  listed_more (suc n) i = let e : suc n + i ≡ n + suc i = omega arith in rw e (ap (λ l. f i ∷ l) (listed_more n (suc i)))

  pub listed_map : {B : Type 0} (g : A → B) (n i : ℕ) → map g (listed f n i) ≡ listed (λ j. g (f j)) n i
  unfolding listed
  listed_map g zero i = refl
  listed_map g (suc n) i = ap (λ l. g (f i) ∷ l) (listed_map g n (suc i))

  pub all_more : (t : A → Bool) (n i : ℕ) → all t (listed f (suc n) i) ≡ (all t (listed f n i) && t (f (n + i)))
  unfolding listed all
  all_more t zero i = let e : 0 + i ≡ i = omega arith in rw e (and_true (t (f i)))
  all_more t (suc n) i =
      let e : suc n + i ≡ n + suc i = omega arith in
      rw e (ap (λ b. t (f i) && b) (all_more t n (suc i)) ∙ and_assoc (t (f i)) (all t (listed f n (suc i))) (t (f (n + suc i))))

  -- an element that does not pass
  pub all_stop : (t : A → Bool) (n i j : ℕ) → j < n → t (f (j + i)) ≡ false → all t (listed f n i) ≡ false
  unfolding listed all
  all_stop t zero i j h e = absurd (omega arith)
  all_stop t (suc n) i zero h e = let z : 0 + i ≡ i = omega arith in rw (rw z at e)
  all_stop t (suc n) i (suc j) h e =
      let z : suc j + i ≡ j + suc i = omega arith in
      rw (all_stop t n (suc i) j (omega arith) (rw z at e)) (and_false (t (f i)))

-- ---- tests over a list
module _ {A : Type 0} where
  pub all_both : (t u : A → Bool) (l : List A) → all (λ x. t x && u x) l ≡ (all t l && all u l)
  unfolding all
  all_both t u [] = refl
  all_both t u (x ∷ l) = ap (λ b. (t x && u x) && b) (all_both t u l) ∙ and_swap (t x) (u x) (all t l) (all u l)

  pub all_map : {B : Type 0} (t : B → Bool) (g : A → B) (l : List A) → all t (map g l) ≡ all (λ x. t (g x)) l
  unfolding all
  all_map t g [] = refl
  all_map t g (x ∷ l) = ap (λ b. t (g x) && b) (all_map t g l)
