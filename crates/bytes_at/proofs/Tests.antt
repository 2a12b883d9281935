-- What a test that passes over a list says of its elements, and the other way round.
-- Assumes nothing.
use mathlib.Core.Path.{◌≡◌, refl, subst}
use mathlib.Core.Bool.{Bool, true, false, ◌&&◌, ◌||◌}
use mathlib.Core.List.{List, [], ◌∷◌}
use Prim.Native.Nat.{ℕ, zero, suc, ◌+◌, ◌<◌}
use native.Mathlib.Omega.{arith}
use lib.ListN.{length, get_or}
use lib.Dec.{T, eqb, eqb_refl, eqb→eq, T_not, not_T}
use store.Enc.{and_l, and_r}
use Rattle.bytes_at.specs.Lists.{◌⇒◌, all, all_from, pairs, unlike}

-- ---- single tests
pub or_cases : {X : Type 0} (a b : Bool) → T (a || b) → (T a → X) → (T b → X) → X
or_cases true b t f g = f t
or_cases false b t f g = g t

pub or_yes : (a b : Bool) → ((T a → ⊥) → (T b → ⊥) → ⊥) → T (a || b)
or_yes true b h = tt
or_yes false true h = tt
or_yes false false h = h (λ x. x) (λ x. x)

pub then : (a b : Bool) → T (a ⇒ b) → T a → T b
then true b t h = t
then false b t h = absurd h

pub then_yes : (a b : Bool) → (T a → T b) → T (a ⇒ b)
then_yes true b h = h tt
then_yes false b h = tt

pub both : (a b : Bool) → T a → T b → T (a && b)
both true b h k = k
both false b h k = absurd h

pub is_true : (t : Bool) → T t → t ≡ true
is_true true h = refl
is_true false h = absurd h

pub is_false : (t : Bool) → (T t → ⊥) → t ≡ false
is_false true h = absurd (h tt)
is_false false h = refl

pub passed : {t : Bool} → t ≡ true → T t
passed e = rw e tt

-- two tests that pass together
pub alike : (a b : Bool) → (T a → T b) → (T b → T a) → a ≡ b
alike true true h k = refl
alike true false h k = absurd (h tt)
alike false true h k = absurd (k tt)
alike false false h k = refl

-- ---- over a list
pub all_at : {A : Type 0} (f : A → Bool) (l : List A) (d : A) → T (all f l) → (i : ℕ) → i < length l → T (f (get_or l i d))
unfolding all
all_at f [] d t i h = absurd (omega arith)
all_at f (x ∷ xs) d t zero h = and_l (f x) (all f xs) t
all_at f (x ∷ xs) d t (suc i) h = all_at f xs d (and_r (f x) (all f xs) t) i (omega arith)

pub all_from_at : {A : Type 0} (f : ℕ → A → Bool) (k : ℕ) (l : List A) (d : A) → T (all_from f k l) → (i : ℕ) → i < length l → T (f (i + k) (get_or l i d))
unfolding all_from
all_from_at f k [] d t i h = absurd (omega arith)
all_from_at f k (x ∷ xs) d t zero h = let e : 0 + k ≡ k = omega arith in rw e (and_l (f k x) (all_from f (suc k) xs) t)
all_from_at f k (x ∷ xs) d t (suc i) h =
    let e : suc i + k ≡ i + suc k = omega arith in
    rw e (all_from_at f (suc k) xs d (and_r (f k x) (all_from f (suc k) xs) t) i (omega arith))

pub pairs_at : {A : Type 0} (f : A → A → Bool) (l : List A) (d : A) → T (pairs f l)
    → (i j : ℕ) → i < j → j < length l → T (f (get_or l i d) (get_or l j d))
unfolding pairs
pairs_at f [] d t i j h k = absurd (omega arith)
pairs_at f (x ∷ xs) d t zero zero h k = absurd (omega arith)
pairs_at f (x ∷ xs) d t zero (suc j) h k = all_at (f x) xs d (and_l (all (f x) xs) (pairs f xs) t) j (omega arith)
pairs_at f (x ∷ xs) d t (suc i) zero h k = absurd (omega arith)
pairs_at f (x ∷ xs) d t (suc i) (suc j) h k = pairs_at f xs d (and_r (all (f x) xs) (pairs f xs) t) i j (omega arith) (omega arith)

-- ---- for a loop that tests an element at a time: it ends with `all_yes`, or stops at an element with `all_no`
pub all_yes : {A : Type 0} (f : A → Bool) (l : List A) (d : A) → ((i : ℕ) → i < length l → T (f (get_or l i d))) → T (all f l)
unfolding all
all_yes f [] d h = tt
all_yes f (x ∷ xs) d h = both (f x) (all f xs) (h 0 (omega arith)) (all_yes f xs d (λ i k. h (suc i) (omega arith)))

pub all_from_yes : {A : Type 0} (f : ℕ → A → Bool) (k : ℕ) (l : List A) (d : A) → ((i : ℕ) → i < length l → T (f (i + k) (get_or l i d))) → T (all_from f k l)
unfolding all_from
all_from_yes f k [] d h = tt
all_from_yes f k (x ∷ xs) d h =
    let e : 0 + k ≡ k = omega arith in
    both (f k x) (all_from f (suc k) xs) (rw e at (h 0 (omega arith)))
    (all_from_yes f (suc k) xs d (λ i g. let q : i + suc k ≡ suc i + k = omega arith in rw q (h (suc i) (omega arith))))

pub all_no : {A : Type 0} (f : A → Bool) (l : List A) (d : A) (i : ℕ) → i < length l → (T (f (get_or l i d)) → ⊥) → all f l ≡ false
all_no f l d i h n = is_false (all f l) (λ t. n (all_at f l d t i h))

pub pairs_yes : {A : Type 0} (f : A → A → Bool) (l : List A) (d : A)
    → ((i j : ℕ) → i < j → j < length l → T (f (get_or l i d) (get_or l j d))) → T (pairs f l)
unfolding pairs
pairs_yes f [] d h = tt
pairs_yes f (x ∷ xs) d h =
    both (all (f x) xs) (pairs f xs)
    (all_yes (f x) xs d (λ j k. h 0 (suc j) (omega arith) (omega arith)))
    (pairs_yes f xs d (λ i j g k. h (suc i) (suc j) (omega arith) (omega arith)))

-- ---- two lists whose elements pass or fail alike
-- ---- "different" is what it says
pub unlike_yes : (a b : ℕ) → (a ≡ b → ⊥) → T (unlike a b)
unlike_yes a b h = not_T (eqb a b) (λ t. h (eqb→eq a b t))

pub unlike_not : (a b : ℕ) → T (unlike a b) → a ≡ b → ⊥
unlike_not a b t q = T_not (eqb a b) t (subst (λ (k : ℕ). T (eqb a k)) q (eqb_refl a))
