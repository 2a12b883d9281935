-- More of what a test that passes over a list says.
-- Assumes nothing.
use mathlib.Core.Path.{◌≡◌, refl, sym}
use mathlib.Core.Bool.{Bool, true, false, ◌&&◌, and_assoc}
use mathlib.Core.List.{List, [], ◌∷◌, ◌++◌}
use Prim.Native.Nat.{ℕ, ◌<◌}
use lib.ListN.{length, get_or}
use lib.Dec.{T}
use store.Enc.{and_l, and_r}
use Rattle.bytes_at.proofs.Tests.{both, all_at, all_yes}
use Rattle.bytes_at.specs.Lists.{all, pairs}

-- ---- each element
module _ {A : Type 0} (f : A → Bool) where
  -- a test that always passes
  pub all_any : ((x : A) → T (f x)) → (l : List A) → T (all f l)
  unfolding all
  all_any h [] = tt
  all_any h (x ∷ xs) = both (f x) (all f xs) (h x) (all_any h xs)

  -- a test that passes where another one does, or two others
  pub all_from : (g : A → Bool) → ((x : A) → T (g x) → T (f x)) → (l : List A) → T (all g l) → T (all f l)
  unfolding all
  all_from g h [] t = tt
  all_from g h (x ∷ xs) t = both (f x) (all f xs) (h x (and_l (g x) (all g xs) t)) (all_from g h xs (and_r (g x) (all g xs) t))

  pub all_from_two : (g h : A → Bool) → ((x : A) → T (g x) → T (h x) → T (f x)) → (l : List A) → T (all g l) → T (all h l) → T (all f l)
  unfolding all
  all_from_two g h k [] s t = tt
  all_from_two g h k (x ∷ xs) s t =
      both (f x) (all f xs) (k x (and_l (g x) (all g xs) s) (and_l (h x) (all h xs) t))
      (all_from_two g h k xs (and_r (g x) (all g xs) s) (and_r (h x) (all h xs) t))

  -- over a list and one after it
  pub all_append : (xs ys : List A) → all f (xs ++ ys) ≡ all f xs && all f ys
  unfolding all
  all_append [] ys = refl
  all_append (x ∷ xs) ys = rw (all_append xs ys) (sym (and_assoc (f x) (all f xs) (all f ys)))

-- ---- each element with each later one
module _ {A : Type 0} (f : A → A → Bool) where
  -- each element of one list with each of another
  abbrev pub across : List A → List A → Bool
  across xs ys = all (λ x. all (f x) ys) xs

  pub across_at : (xs ys : List A) (d : A) → T (across xs ys) → (i j : ℕ) → i < length xs → j < length ys → T (f (get_or xs i d) (get_or ys j d))
  across_at xs ys d t i j h k = all_at (f (get_or xs i d)) ys d (all_at (λ x. all (f x) ys) xs d t i h) j k

  pub across_yes : (xs ys : List A) (d : A) → ((i j : ℕ) → i < length xs → j < length ys → T (f (get_or xs i d) (get_or ys j d))) → T (across xs ys)
  across_yes xs ys d h = all_yes (λ x. all (f x) ys) xs d (λ i k. all_yes (f (get_or xs i d)) ys d (λ j g. h i j k g))

  -- over a list and one after it
  pub pairs_append : (xs ys : List A) → pairs f (xs ++ ys) ≡ pairs f xs && (across xs ys && pairs f ys)
  unfolding pairs all
  pairs_append [] ys = refl
  pairs_append (x ∷ xs) ys =
      rw (all_append (f x) xs ys, pairs_append xs ys) (swapped (all (f x) xs) (all (f x) ys) (pairs f xs) (across xs ys) (pairs f ys))
    where
      swapped : (a b c d e : Bool) → (a && b) && (c && (d && e)) ≡ (a && c) && ((b && d) && e)
      swapped true true c d e = refl
      swapped true false true d e = refl
      swapped true false false d e = refl
      swapped false b c d e = refl
