-- Numbers case by case.
--     Each, each     a fact at each number below n: what a `_` arm knows (`.rest`) has this form; twelve that compute are `search depth 14`
--     passed         a search that no number below m ends
--     none_first     a number that is none of n keys is not found among them
--     one_or_none    a number is one of n keys or none of them
-- Assumes nothing.
use mathlib.Core.Path.{◌≡◌, sym}
use mathlib.Core.Bool.{Bool, false}
use Prim.Native.Nat.{ℕ, zero, suc, ◌≤◌, ◌<◌}
use native.Mathlib.Decide.{ℕ_discrete}
use native.Mathlib.Nat.{le_refl}
use native.Mathlib.Numerals.{add-one}
use native.Mathlib.Omega.{arith}
use borrow.Author.Tests.{ne_eqb}
use lib.Dec.{eqb}
use Rattle.bytes_at.specs.Lists.{first_below}
use Rattle.bytes_at.proofs.Searched.{Searched, searched_none, searched_on, searched_out}

abbrev pub Each : (ℕ → Type 0) → ℕ → Type 0
Each P zero = Unit {0}
Each P (suc n) = Each P n × P n

pub each : (P : ℕ → Type 0) (n : ℕ) → Each P n → (i : ℕ) → i < n → P i
each P zero h i k = absurd (omega arith)
each P (suc n) h i k = elim (ℕ_discrete i n) [ yes e ↦ rw e h.1 | no m ↦ each P n h.0 i (omega arith) ]

pub passed : (test : ℕ → Bool) (n m : ℕ) → m ≤ n → ((j : ℕ) → j < m → test j ≡ false) → Searched test n m
passed test n zero h f = searched_none test n
passed test n (suc m) h f =
    rw (← add-one) (searched_on (passed test n m (omega arith) (λ j k. f j (omega arith))) (omega arith) (f m (omega arith)))

pub none_first : (x : ℕ) (key : ℕ → ℕ) (n : ℕ) → Each (λ (i : ℕ). x ≡ key i → ⊥) n → first_below (λ (i : ℕ). eqb x (key i)) n ≡ n
none_first x key n h =
    sym (searched_out (passed (λ (i : ℕ). eqb x (key i)) n n (le_refl n) (λ j k. ne_eqb x (key j) (each (λ (i : ℕ). x ≡ key i → ⊥) n h j k))) (le_refl n))

pub one_or_none : {P : Type 0} (x : ℕ) (key : ℕ → ℕ) (n : ℕ) → ((i : ℕ) → i < n → x ≡ key i → P) → (Each (λ (i : ℕ). x ≡ key i → ⊥) n → P) → P
one_or_none x key zero f g = g tt
one_or_none x key (suc n) f g = elim (ℕ_discrete x (key n)) [
  | yes e ↦ f n (omega arith) e
  | no m ↦ one_or_none x key n (λ i k. f i (omega arith)) (λ h. g (h, m))
]
