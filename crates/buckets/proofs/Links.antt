-- One bucket of a chain: where it is, what it adds, and each way a chain is wrong there.
-- Assumes nothing.
use mathlib.Core.Path.{◌≡◌, refl}
use mathlib.Core.Bool.{false, ◌&&◌}
use mathlib.Core.List.{List, [], ◌∷◌, ◌++◌}
use Prim.Native.Nat.{ℕ, zero, suc, ◌+◌, ◌-◌, ◌*◌, ◌≤◌, ◌<◌}
use native.Mathlib.Nat.{mul-le-mul_right, suc-mul, not-suc-le-zero}
use native.Mathlib.Numerals.{sub-one}
use native.Mathlib.Omega.{arith}
use lib.ListN.{length, take, drop, length-take, length-drop, length-append}
use lib.Dec.{T, eqb, ltb, ltb→lt}
use store.Enc.{and_l, and_r}
use borrow.Author.Tests.{lt-ltb, le-ltb, eq-eqb, ne_eqb}
use Rattle.standard_rules.specs.Header.{bucket_start}
use Rattle.buckets.specs.Area.{Area}
use Rattle.standard_rules.specs.Index.{next_of, again_of, no_bucket, links, chain_ok, chain_text, free_ok}

-- bucket b of nb lies in the file
pub start_in_lem : (size nb b len : ℕ) → b < nb → 512 + nb * size ≤ len → 512 + b * size + size ≤ len
start_in_lem size nb b len h l = omega (arith, suc-mul b size, mul-le-mul_right {m = suc b} {n = nb} size h)

module _ (f : List ℕ) (size : ℕ) where
  -- the numbers of a chain's buckets, and their text
  pub links_step : (k b : ℕ) {next : ℕ} → 0 < k → next ≡ next_of f size b → links f size k b ≡ b ∷ links f size (k - 1) next
  unfolding links
  links_step zero b h en = absurd (not-suc-le-zero h)
  links_step (suc k) b h en = rw (sub-one, en)

  -- after i of n turns
  pub links_turn : (n i b : ℕ) {next : ℕ} → i < n → next ≡ next_of f size b → links f size (n - i) b ≡ b ∷ links f size (n - (i + 1)) next
  links_turn n i b {next} h en =
      let e : n - (i + 1) ≡ n - i - 1 = omega arith in
      rw e (links_step (n - i) b (omega arith) en)

  pub links_end : (k b : ℕ) → k ≤ 0 → links f size k b ≡ []
  unfolding links
  links_end zero b h = refl
  links_end (suc k) b h = absurd (not-suc-le-zero h)

  pub text_step : (k b : ℕ) → 0 < k → chain_text f size k b ≡ take (size - 8) (drop (bucket_start size b + 8) f) ++ chain_text f size (k - 1) (next_of f size b)
  unfolding chain_text
  text_step zero b h = absurd (not-suc-le-zero h)
  text_step (suc k) b h = rw sub-one

module _ (f : List ℕ) (size nb : ℕ) where
  -- a chain of index buckets, at bucket b
  pub chain_step : (k b : ℕ) → 0 < k → b < nb → next_of f size b ≡ again_of f size b → chain_ok f size nb k b ≡ chain_ok f size nb (k - 1) (next_of f size b)
  unfolding chain_ok
  chain_step zero b h hb e = absurd (not-suc-le-zero h)
  chain_step (suc k) b h hb e = rw (sub-one, lt-ltb b nb hb, eq-eqb _ _ e)

  pub chain_range : (k b : ℕ) → 0 < k → nb ≤ b → chain_ok f size nb k b ≡ false
  unfolding chain_ok
  chain_range zero b h hb = absurd (not-suc-le-zero h)
  chain_range (suc k) b h hb = rw (le-ltb b nb hb)

  pub chain_twice : (k b : ℕ) → 0 < k → b < nb → (next_of f size b ≡ again_of f size b → ⊥) → chain_ok f size nb k b ≡ false
  unfolding chain_ok
  chain_twice zero b h hb e = absurd (not-suc-le-zero h)
  chain_twice (suc k) b h hb e = rw (lt-ltb b nb hb, ne_eqb _ _ e)

  -- the free list, at bucket b
  pub free_step : (k b : ℕ) {next : ℕ} → 0 < k → b < nb → next ≡ next_of f size b → free_ok f size nb k b ≡ free_ok f size nb (k - 1) next
  unfolding free_ok
  free_step zero b h hb en = absurd (not-suc-le-zero h)
  free_step (suc k) b h hb en = rw (sub-one, lt-ltb b nb hb, en)

  -- after i of n turns
  pub free_turn : (n i b : ℕ) {next : ℕ} → i < n → b < nb → next ≡ next_of f size b → free_ok f size nb (n - i) b ≡ free_ok f size nb (n - (i + 1)) next
  free_turn n i b {next} h hb en =
      let e : n - (i + 1) ≡ n - i - 1 = omega arith in
      rw e (free_step (n - i) b (omega arith) hb en)

  pub free_range : (k b : ℕ) → 0 < k → nb ≤ b → free_ok f size nb k b ≡ false
  unfolding free_ok
  free_range zero b h hb = absurd (not-suc-le-zero h)
  free_range (suc k) b h hb = rw (le-ltb b nb hb)

  pub free_end : (k b : ℕ) → k ≤ 0 → free_ok f size nb k b ≡ eqb b no_bucket
  unfolding free_ok
  free_end k b h = let e : k ≡ 0 = omega arith in rw e

  -- a bucket's text
  pub body_long : (b : ℕ) → Area f size nb → b < nb → length (take (size - 8) (drop (bucket_start size b + 8) f)) ≡ size - 8
  body_long b a h = simp (length-take, length-drop) (omega (arith, a.least, start_in_lem size nb b (length f) h a.holds))

  -- the text of a chain that is right
  pub text_long : Area f size nb → (k b : ℕ) → T (chain_ok f size nb k b) → length (chain_text f size k b) ≡ k * (size - 8)
  unfolding chain_ok chain_text
  text_long a zero b t = omega arith
  text_long a (suc k) b t =
      let rest = chain_ok f size nb k (next_of f size b) in
      let here = ltb b nb && eqb (next_of f size b) (again_of f size b) in
      let h : b < nb = ltb→lt b nb (and_l (ltb b nb) (eqb (next_of f size b) (again_of f size b)) (and_l here rest t)) in
      rw (length-append, body_long b a h, text_long a k (next_of f size b) (and_r here rest t)) (omega (arith, suc-mul k (size - 8)))
