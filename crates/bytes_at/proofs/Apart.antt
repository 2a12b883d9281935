-- What the rule says of the lists that it is applied to, and when it holds of a list and one after it.
-- Assumes nothing.
use mathlib.Core.Path.{◌≡◌, sym}
use mathlib.Core.Bool.{◌&&◌}
use mathlib.Core.List.{List, ◌++◌}
use Prim.Native.Nat.{ℕ, ◌<◌}
use native.Mathlib.Decide.{ℕ_discrete, dec_lt}
use native.Mathlib.Omega.{arith}
use lib.ListN.{length, get_or}
use lib.Dec.{T, ltb→lt, lt→ltb}
use store.Enc.{and_l, and_r}
use Rattle.bytes_at.specs.Lists.{all, pairs, all_apart, below, unlike}
use Rattle.bytes_at.proofs.Tests.{both, all_at, all_yes, pairs_at, pairs_yes, unlike_not, unlike_yes}
use Rattle.bytes_at.proofs.MoreTests.{all_append, across, across_at, across_yes, pairs_append}

module _ (nb : ℕ) (l : List ℕ) (t : T (all_apart nb l)) where
  pub all_below : T (all (below nb) l)
  unfolding all_apart
  all_below = and_l (all (below nb) l) (pairs unlike l) t

  pub all_once : T (pairs unlike l)
  unfolding all_apart
  all_once = and_r (all (below nb) l) (pairs unlike l) t

  -- each number is below the bucket count
  pub apart_below : (i : ℕ) → i < length l → get_or l i 0 < nb
  apart_below i h = ltb→lt (get_or l i 0) nb (all_at (below nb) l 0 all_below i h)

  -- no two positions hold the same number
  no_two : (i j : ℕ) → i < j → j < length l → get_or l i 0 ≡ get_or l j 0 → ⊥
  no_two i j h k = unlike_not _ _ (pairs_at unlike l 0 all_once i j h k)

  pub one_place : (i j : ℕ) → i < length l → j < length l → get_or l i 0 ≡ get_or l j 0 → i ≡ j
  one_place i j h k e =
      elim (ℕ_discrete i j) [
        | yes q ↦ q
        | no n ↦ elim (dec_lt i j) [
          | yes g ↦ absurd (no_two i j g k e)
          | no g ↦ absurd (no_two j i (omega arith) h (sym e))
        ]
      ]

-- the two together are the rule
module _ (nb : ℕ) (l : List ℕ) (h : (i : ℕ) → i < length l → get_or l i 0 < nb) where
  pub apart_different : ((i j : ℕ) → i < j → j < length l → get_or l i 0 ≡ get_or l j 0 → ⊥) → T (all_apart nb l)
  unfolding all_apart
  apart_different n =
      both (all (below nb) l) (pairs unlike l)
      (all_yes (below nb) l 0 (λ i k. lt→ltb (get_or l i 0) nb (h i k)))
      (pairs_yes unlike l 0 (λ i j g k. unlike_yes (get_or l i 0) (get_or l j 0) (n i j g k)))

  pub apart_yes : ((i j : ℕ) → i < length l → j < length l → get_or l i 0 ≡ get_or l j 0 → i ≡ j) → T (all_apart nb l)
  apart_yes once = apart_different (λ i j g k e. omega (arith, once i j (omega arith) k e))

-- ---- a list and one after it, as the bucket numbers of an index and the free buckets
module _ (nb : ℕ) (xs ys : List ℕ) where
  pub apart_joined : T (all_apart nb xs) → T (across unlike xs ys) → T (all_apart nb ys) → T (all_apart nb (xs ++ ys))
  unfolding all_apart
  apart_joined s c t =
      both (all (below nb) (xs ++ ys)) (pairs unlike (xs ++ ys))
      (rw (all_append (below nb) xs ys) (both (all (below nb) xs) (all (below nb) ys) (all_below nb xs s) (all_below nb ys t)))
      (rw (pairs_append unlike xs ys)
      (both (pairs unlike xs) (across unlike xs ys && pairs unlike ys) (all_once nb xs s) (both (across unlike xs ys) (pairs unlike ys) c (all_once nb ys t))))

  module _ (t : T (all_apart nb (xs ++ ys))) where
    range : T (all (below nb) xs && all (below nb) ys)
    range = rw (all_append (below nb) xs ys) at (all_below nb (xs ++ ys) t)

    once : T (pairs unlike xs && (across unlike xs ys && pairs unlike ys))
    once = rw (pairs_append unlike xs ys) at (all_once nb (xs ++ ys) t)

    later : T (across unlike xs ys && pairs unlike ys)
    later = and_r (pairs unlike xs) (across unlike xs ys && pairs unlike ys) once

    pub front_apart : T (all_apart nb xs)
    unfolding all_apart
    front_apart = both (all (below nb) xs) (pairs unlike xs) (and_l (all (below nb) xs) (all (below nb) ys) range) (and_l (pairs unlike xs) (across unlike xs ys && pairs unlike ys) once)

    pub back_apart : T (all_apart nb ys)
    unfolding all_apart
    back_apart = both (all (below nb) ys) (pairs unlike ys) (and_r (all (below nb) xs) (all (below nb) ys) range) (and_r (across unlike xs ys) (pairs unlike ys) later)

    pub both_apart : T (across unlike xs ys)
    both_apart = and_l (across unlike xs ys) (pairs unlike ys) later

    pub front_below : (i : ℕ) → i < length xs → get_or xs i 0 < nb
    front_below = apart_below nb xs front_apart

    pub front_back : (i j : ℕ) → i < length xs → j < length ys → get_or xs i 0 ≡ get_or ys j 0 → ⊥
    front_back i j h k = unlike_not _ _ (across_at unlike xs ys 0 both_apart i j h k)

  -- no number of one is in the other
  pub apart_across : ((i j : ℕ) → i < length xs → j < length ys → get_or xs i 0 ≡ get_or ys j 0 → ⊥) → T (across unlike xs ys)
  apart_across h = across_yes unlike xs ys 0 (λ i j k g. unlike_yes _ _ (h i j k g))
