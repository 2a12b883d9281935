-- A chain that ends has no more buckets than the file. One with more would return to a bucket, and then it would never end.
-- Assumes nothing.
use mathlib.Core.Path.{◌≡◌, refl, sym, ap, ◌∙◌}
use mathlib.Core.Bool.{false, cond, ◌&&◌}
use mathlib.Core.List.{List}
use Prim.Native.Nat.{ℕ, zero, suc, ◌-◌, ◌≤◌, ◌<◌, zero-le, suc-le-suc}
use native.Mathlib.Nat.{sub-zero, suc-sub-suc, not-suc-le-zero, le_of_suc-le-suc}
use native.Mathlib.Decide.{ℕ_discrete}
use native.Mathlib.Omega.{arith}
use lib.ListN.{length, get_or}
use lib.Dec.{T, eqb, ltb, ltb→lt, eqb→eq}
use store.Enc.{and_l, and_r}
use borrow.Author.Tests.{eq-eqb, ne_eqb}
use Rattle.bytes_at.proofs.Tests.{both, is_false}
use Rattle.standard_rules.specs.Index.{next_of, again_of, no_bucket, links, chain_ok, free_ok}

-- ---- k numbers below n that are all different: k is at most n
-- m takes n's place
unfoldable instead : ℕ → ℕ → ℕ → ℕ
instead n m x = cond (eqb x n) m x

at_n : (n m x : ℕ) → x ≡ n → instead n m x ≡ m
unfolding instead
at_n n m x e = rw (eq-eqb x n e)

elsewhere : (n m x : ℕ) → (x ≡ n → ⊥) → instead n m x ≡ x
unfolding instead
elsewhere n m x h = rw (ne_eqb x n h)

instead_below : (n m x : ℕ) → m < suc n → x < suc n → (x ≡ m → ⊥) → instead n m x < n
instead_below n m x p q d = elim (ℕ_discrete x n) [ yes e ↦ omega (arith, at_n n m x e) | no ne ↦ omega (arith, elsewhere n m x ne) ]

instead_apart : (n m x y : ℕ) → (x ≡ y → ⊥) → (x ≡ m → ⊥) → (y ≡ m → ⊥) → instead n m x ≡ instead n m y → ⊥
instead_apart n m x y d p q s =
    elim (ℕ_discrete x n) [
      | yes e ↦ q (sym (elsewhere n m y (λ z. d (e ∙ sym z))) ∙ sym s ∙ at_n n m x e)
      | no ne ↦ elim (ℕ_discrete y n) [
        | yes e ↦ p (sym (elsewhere n m x ne) ∙ s ∙ at_n n m y e)
        | no nf ↦ d (sym (elsewhere n m x ne) ∙ s ∙ elsewhere n m y nf)
      ]
    ]

pub at_most : (n k : ℕ) (g : ℕ → ℕ) → ((i : ℕ) → i < k → g i < n) → ((i j : ℕ) → i < j → j < k → g i ≡ g j → ⊥) → k ≤ n
at_most n zero g h d = zero-le
at_most zero (suc k) g h d = absurd (not-suc-le-zero (h 0 (omega arith)))
at_most (suc n) (suc k) g h d =
    suc-le-suc
    (at_most n k (λ (i : ℕ). instead n (g k) (g i))
    (λ i l. instead_below n (g k) (g i) (h k (omega arith)) (h i (omega arith)) (d i k l (omega arith)))
    (λ i j l m. instead_apart n (g k) (g i) (g j) (d i j l (omega arith)) (d i k (omega arith) (omega arith)) (d j k m (omega arith))))

-- ---- the free list
pub links_long : (f : List ℕ) (size k b : ℕ) → length (links f size k b) ≡ k
unfolding links
links_long f size zero b = refl
links_long f size (suc k) b = ap suc (links_long f size k (next_of f size b))

module _ (f : List ℕ) (size nb : ℕ) (few : nb ≤ 4096) where
  -- a bucket has one number of buckets from it to the end
  ends_once : (j k b : ℕ) → T (free_ok f size nb j b) → T (free_ok f size nb k b) → j ≡ k
  unfolding free_ok
  ends_once zero zero b s t = refl
  ends_once zero (suc k) b s t = omega (arith, eqb→eq b no_bucket s, ltb→lt b nb (and_l (ltb b nb) _ t))
  ends_once (suc j) zero b s t = omega (arith, eqb→eq b no_bucket t, ltb→lt b nb (and_l (ltb b nb) _ s))
  ends_once (suc j) (suc k) b s t = ap suc (ends_once j k (next_of f size b) (and_r (ltb b nb) _ s) (and_r (ltb b nb) _ t))

  -- what is left of the list from its bucket i on
  from_link : (i k b : ℕ) → i < k → T (free_ok f size nb k b) → T (free_ok f size nb (k - i) (get_or (links f size k b) i 0))
  unfolding free_ok links
  from_link i zero b l t = absurd (not-suc-le-zero l)
  from_link zero (suc k) b l t = rw sub-zero t
  from_link (suc i) (suc k) b l t = rw suc-sub-suc (from_link i k (next_of f size b) (le_of_suc-le-suc l) (and_r (ltb b nb) _ t))

  in_range : (k b : ℕ) → 0 < k → T (free_ok f size nb k b) → b < nb
  unfolding free_ok
  in_range zero b l t = absurd (not-suc-le-zero l)
  in_range (suc k) b l t = ltb→lt b nb (and_l (ltb b nb) _ t)

  -- its buckets are the file's
  pub free_below : (k b : ℕ) → T (free_ok f size nb k b) → (i : ℕ) → i < k → get_or (links f size k b) i 0 < nb
  free_below k b t i l = in_range (k - i) (get_or (links f size k b) i 0) (omega arith) (from_link i k b l t)

  -- it does not return to an earlier bucket
  pub free_once : (k b : ℕ) → T (free_ok f size nb k b) → (i j : ℕ) → i < j → j < k → get_or (links f size k b) i 0 ≡ get_or (links f size k b) j 0 → ⊥
  free_once k b t i j l m e =
      omega (arith, ends_once (k - i) (k - j) (get_or (links f size k b) i 0) (from_link i k b (omega arith) t) (rw e (from_link j k b m t)))

  -- and so has no more buckets than the file
  pub free_few : (k b : ℕ) → T (free_ok f size nb k b) → k ≤ nb
  free_few k b t =
      at_most nb k (λ (i : ℕ). get_or (links f size k b) i 0) (free_below k b t) (free_once k b t)

  -- a chain of index buckets is one too
  chain_free : (k b : ℕ) → T (chain_ok f size nb k b) → T (free_ok f size nb k b)
  unfolding chain_ok free_ok
  chain_free zero b t = t
  chain_free (suc k) b t =
      let same = eqb (next_of f size b) (again_of f size b) in
      let rest = chain_ok f size nb k (next_of f size b) in
      both (ltb b nb) (free_ok f size nb k (next_of f size b)) (and_l (ltb b nb) same (and_l (ltb b nb && same) rest t)) (chain_free k (next_of f size b) (and_r (ltb b nb && same) rest t))

  pub chain_few : (k b : ℕ) → T (chain_ok f size nb k b) → k ≤ nb
  chain_few k b t = free_few k b (chain_free k b t)

  -- what is stated to have more is wrong
  pub free_many : (k b : ℕ) → nb < k → free_ok f size nb k b ≡ false
  free_many k b h = is_false (free_ok f size nb k b) (λ t. omega (arith, free_few k b t))

  pub chain_many : (k b : ℕ) → nb < k → chain_ok f size nb k b ≡ false
  chain_many k b h = is_false (chain_ok f size nb k b) (λ t. omega (arith, chain_few k b t))
