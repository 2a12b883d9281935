-- The table of data types: the numbers that it has, and what the type of a number is; a number that it has not, as the `_` arm of a
-- `match` knows it.
-- Assumes nothing.
use mathlib.Core.Path.{◌≡◌, refl, ◌∙◌}
use mathlib.Core.Bool.{Bool, true, false, cond}
use mathlib.Core.List.{[]}
use Prim.Native.Nat.{ℕ, ◌+◌, ◌-◌, ◌≤◌, ◌<◌}
use native.Mathlib.Decide.{ℕ_discrete}
use native.Mathlib.Omega.{arith}
use lib.Dec.{ltb, lit<}
use borrow.Author.Rules.{rules}
use borrow.Author.Tests.{ltb-true, ltb-false, lt-ltb}
use Rattle.bytes_at.specs.Lists.{first_from}
use Rattle.table_rules.specs.declared.data_type.DataType.{DataType}
use Rattle.std.specs.Prelude.{Some, None}
use Rattle.table_rules.specs.DataType.{nth_row, nth_type, type_place, with_number}
use Rattle.table_rules.proofs.data_type.Cases.{Each, each, none_first, one_or_none}

module _ (n : ℕ) (h : Each (λ (i : ℕ). n ≡ (nth_row i).number → ⊥) 12) where
  pub no_place : type_place n ≡ 12
  unfolding type_place
  no_place = none_first n (λ (i : ℕ). (nth_row i).number) 12 h

  pub no_type : None ≡ with_number n
  unfolding with_number
  no_type = rw no_place

  pub no_name : [] ≡ (nth_row (type_place n)).name
  no_name = rw no_place

-- a type's number stands for its place
pub place_back : (i : ℕ) → i < 12 → type_place (nth_row i).number ≡ i
unfolding type_place first_from
place_back = each (λ (i : ℕ). type_place (nth_row i).number ≡ i) 12 (search depth 14)

-- the numbers of the table are 0, 2 to 11, and 29
pub record Numbered (n : ℕ) : Type 0 where
  pub not_1 : n ≡ 1 → ⊥
  pub last : 12 ≤ n → n ≡ 29

run_at : (i : ℕ) → i < 10 → (nth_row (i + 1)).number ≡ i + 2
run_at = each (λ (i : ℕ). (nth_row (i + 1)).number ≡ i + 2) 10 (search depth 14)

row_of : (n i : ℕ) → i < 12 → n ≡ (nth_row i).number → Some (record { number = n }) ≡ with_number n
unfolding with_number
row_of n i h e = rw (e, place_back i h, lt-ltb i 12 h)

few : (n : ℕ) → Numbered n → (n ≡ 29 → ⊥) → n < 12
few n h m = grind (arith, h.last)

pub numbered : (n : ℕ) → Numbered n → Some (record { number = n }) ≡ with_number n
numbered n h = elim (ℕ_discrete n 0) [
  | yes e ↦ row_of n 0 (lit< tt) e
  | no z ↦ elim (ℕ_discrete n 29) [
    | yes e ↦ row_of n 11 (lit< tt) e
    | no m ↦
        let not_1 : n ≡ 1 → ⊥ = h.not_1 in
        let less : n < 12 = few n h m in
        let e : n ≡ (n - 2) + 2 = omega arith in
        row_of n ((n - 2) + 1) (omega arith) (e ∙ rw (run_at (n - 2) (omega arith)))
  ]
]

rows_numbered : (i : ℕ) → i < 12 → Numbered (nth_row i).number
rows_numbered = each (λ (i : ℕ). Numbered (nth_row i).number) 12 (search rules depth 16)

pub not_numbered : (n : ℕ) → (Numbered n → ⊥) → None ≡ with_number n
not_numbered n h =
    one_or_none n (λ (i : ℕ). (nth_row i).number) 12 (λ i k e. absurd (h (rw e (rows_numbered i k)))) (λ none. no_type n none)

is_of : (b : Bool) {t u : DataType} → Some t ≡ cond b (Some u) None → (b ≡ true) × (t ≡ u)
is_of true e = (refl, (cc))
is_of false e = ((cc), (cc))

is_none : (b : Bool) (u : DataType) → None ≡ cond b (Some u) None → b ≡ false
is_none true u e = cc
is_none false u e = refl

-- the type of a number stands at the number's place
pub number_of : (n : ℕ) {t : DataType} → Some t ≡ with_number n → (type_place n < 12) × (t ≡ nth_type (type_place n))
unfolding with_number
number_of n e = let h = is_of (ltb (type_place n) 12) e in (ltb-true (type_place n) 12 h.0, h.1)

pub number_none : (n : ℕ) → None ≡ with_number n → 12 ≤ type_place n
unfolding with_number
number_none n e = ltb-false (type_place n) 12 (is_none (ltb (type_place n) 12) (nth_type (type_place n)) e)
