-- The one type whose name the bytes can be, and that it is the type of the name, or that there is none.
-- Assumes nothing.
use mathlib.Core.Path.{◌≡◌, refl, sym, ap, ◌∙◌}
use mathlib.Core.Bool.{Bool, true, false, cond, false≢true}
use mathlib.Core.List.{List, [], ◌∷◌}
use mathlib.Core.Logic.{inl, inr}
use Prim.Native.Nat.{ℕ, ◌<◌}
use native.Mathlib.Omega.{arith}
use lib.Dec.{eqb}
use lib.ListN.{length, get_or, get_or-eq_default}
use Rattle.bytes_at.specs.Bytes.{bytes}
use Rattle.bytes_at.specs.Lists.{first_from, first_below}
use Rattle.bytes_at.proofs.Searched.{searched_here, searched_out}
use Rattle.table_rules.specs.DataType.{type_place, type_name, filled, is_name, nth_row, nth_type, with_number, with_name}
use Rattle.table_rules.specs.declared.data_type.DataType.{DataType}
use Rattle.std.specs.Prelude.{Option, Some, None, MatchOption}
use Rattle.std.specs.Bool.{then_some}
use Rattle.table_rules.proofs.data_type.Cases.{Each, each, passed, none_first}
use Rattle.table_rules.proofs.data_type.Names.{name_is}
use Rattle.table_rules.proofs.data_type.Table.{place_back, number_of, number_none}

-- the fourth letter of each name but Int, which has three; uChar and float share theirs
abbrev letters : List ℕ
letters = bytes "larotbpmi6"

-- the number by the fourth letter and the first
abbrev guess : ℕ → ℕ → ℕ
guess letter first =
    get_or (0 ∷ cond (eqb first 117) 2 7 ∷ 3 ∷ 4 ∷ 6 ∷ 8 ∷ 9 ∷ 10 ∷ 11 ∷ 29 ∷ []) (first_below (λ (i : ℕ). eqb letter (get_or letters i 0)) 10) 5

abbrev guessed : List ℕ → ℕ
guessed s = guess (get_or s 3 0) (get_or s 0 0)

abbrev Right : ℕ → Type 0
Right i = (guessed (nth_row i).name ≡ (nth_row i).number) × (guessed (filled (nth_row i).name) ≡ (nth_row i).number)

right : (i : ℕ) → i < 12 → Right i
unfolding first_from
right = each Right 12 (search depth 14)

-- the type with the number, and no other, can have the bytes as its name
abbrev Candidate : List ℕ → ℕ → Type 0
Candidate s n = (i : ℕ) → i < 12 → is_name s (nth_row i).name ≡ true → n ≡ (nth_row i).number

module _ (s : List ℕ) where
  pub candidate : {n : ℕ} → n ≡ guessed s → Candidate s n
  candidate e i h m = elim (name_is s (nth_row i).name m) [
    | inl b ↦ e ∙ rw b (right i h).0
    | inr b ↦ e ∙ rw b (right i h).1
  ]

  -- of less than four letters is Int alone
  pub no_fourth : length s < 4 → Candidate s 5
  unfolding first_from
  no_fourth h = let e : get_or s 3 0 ≡ 0 = get_or-eq_default s 0 (omega arith) in candidate (rw e)

  -- so it is of those whose fourth is none of the letters
  pub no_letter : Each (λ (i : ℕ). get_or s 3 0 ≡ get_or letters i 0 → ⊥) 10 → Candidate s 5
  no_letter h = let e = none_first (get_or s 3 0) (λ (i : ℕ). get_or letters i 0) 10 h in candidate (rw e)

name_of : (i : ℕ) → i < 12 → type_name (nth_type i) ≡ (nth_row i).name
unfolding type_name
name_of i h = ap (λ (j : ℕ). (nth_row j).name) (place_back i h)

not_so : (b : Bool) → (b ≡ true → ⊥) → b ≡ false
not_so true h = absurd (h refl)
not_so false h = refl

-- where the bytes can be the name of the type with the number alone
module _ (s : List ℕ) {n : ℕ} {k : Option DataType} (p : Candidate s n) (e : k ≡ with_number n) where
  abbrev test : ℕ → Bool
  test i = is_name s (nth_row i).name

  only : (i : ℕ) → i < 12 → test i ≡ true → type_place n ≡ i
  only i h m = rw (p i h m) (place_back i h)

  nowhere : ((i : ℕ) → i < 12 → test i ≡ true → ⊥) → None ≡ with_name s
  unfolding with_name
  nowhere h =
      let f : 12 ≡ first_below test 12 = searched_out (passed test 12 12 (omega arith) (λ i l. not_so (test i) (h i l))) (omega arith) in
      rw (← f)

  -- the number is no type's
  pub name_none : k ≡ None → k ≡ with_name s
  name_none q = q ∙ nowhere (λ i h m. omega (arith, number_none n (sym q ∙ e), only i h m))

  module _ {t : DataType} (q : k ≡ Some t) {r : Bool} (a : r ≡ is_name s (type_name t)) where
    -- it is one's, whose name is compared
    of : (type_place n < 12) × (t ≡ nth_type (type_place n))
    of = number_of n (sym q ∙ e)

    compared : test (type_place n) ≡ r
    compared = sym (rw (of.1, name_of (type_place n) of.0) at a)

    pub name_found : r ≡ true → Some t ≡ with_name s
    unfolding with_number with_name
    name_found h =
        let b : type_place n < 12 = of.0 in
        let before = passed test 12 (type_place n) (omega arith) (λ i l. not_so (test i) (λ m. omega (arith, only i (omega arith) m))) in
        let f : type_place n ≡ first_below test 12 = searched_here before b (compared ∙ h) in
        sym q ∙ e ∙ rw f

    pub name_unknown : r ≡ false → None ≡ with_name s
    name_unknown h = nowhere (λ i l m. false≢true (sym (compared ∙ h) ∙ rw (only i l m) m))

-- the type of the number, if the bytes are its name, as `filter` gives it
pub filtered : (s : List ℕ) {n : ℕ} {r : Option DataType} (k : Option DataType) → Candidate s n → k ≡ with_number n
    → (P : DataType → Bool → Type 0) → ((t : DataType) (b : Bool) → P t b → b ≡ is_name s (type_name t))
    → MatchOption k (r ≡ None) (λ t. (b : Bool) × P t b × (r ≡ then_some b t)) → r ≡ with_name s
filtered s None p e P f h = h ∙ name_none s p e refl
filtered s {r = r} (Some t) p e P f (b, h, q) = pick b (f t b h) q
  where
    pick : (b : Bool) → b ≡ is_name s (type_name t) → r ≡ then_some b t → r ≡ with_name s
    pick true a q = q ∙ name_found s p e refl a refl
    pick false a q = q ∙ name_unknown s p e refl a refl
