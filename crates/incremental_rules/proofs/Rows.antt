-- An accepted index has an entry for every row.
-- Assumes nothing.
use mathlib.Core.Path.{◌≡◌, sym, ap, ◌∙◌}
use mathlib.Core.List.{List}
use mathlib.Core.Bool.{Bool, true}
use Prim.Native.Nat.{ℕ, zero, suc, ◌+◌, ◌-◌, ◌≤◌, ◌<◌, zero-le}
use native.Mathlib.Decide.{ℕ_discrete, dec_lt}
use native.Mathlib.Nat.{add-zero}
use native.Mathlib.Omega.{arith}
use lib.Dec.{leb}
use borrow.Author.Tests.{leb-true, leb-false, le-leb, lt-leb}
use Rattle.incremental_rules.specs.declared.Header.{Header}
use Rattle.incremental_rules.specs.declared.Index.{Index}
use Rattle.incremental_rules.specs.Index.{first_row, IndexAccepted}
use Rattle.incremental_rules.specs.Place.{entry_of}
use Rattle.incremental_rules.proofs.Last.{last_below_lem, last_passes, last_later, last_is}

module _ (rows : ℕ) (big : Bool) (f : List ℕ) (h : Header) (x : Index) (a : IndexAccepted rows big f h x) (row : ℕ) (k : row < rows) where
  pub some_entry : 0 < x.count
  some_entry =
      elim (ℕ_discrete x.count 0) [
        | yes q ↦ let z : rows ≡ 0 = sym a.to_rows ∙ ap (first_row big f x) q ∙ a.from_zero in absurd (omega arith)
        | no q ↦ omega arith
      ]

  pub from_first : leb (first_row big f x 0) row ≡ true
  from_first = le-leb _ row (rw a.from_zero zero-le)

  abbrev entry : ℕ
  entry = entry_of big f x row

  pub entry_known : entry < x.count
  entry_known = last_below_lem (λ (i : ℕ). leb (first_row big f x i) row) x.count some_entry from_first

  pub entry_from : first_row big f x entry ≤ row
  entry_from = leb-true _ _ (last_passes (λ (i : ℕ). leb (first_row big f x i) row) x.count some_entry from_first)

  pub entry_to : row < first_row big f x (entry + 1)
  entry_to =
      elim (dec_lt (entry + 1) x.count) [
        | yes l ↦ leb-false _ _ (last_later (λ (i : ℕ). leb (first_row big f x i) row) x.count (entry + 1) (omega arith) l)
        | no l ↦
            let q : entry + 1 ≡ x.count = omega (arith, entry_known) in
            let e : first_row big f x (entry + 1) ≡ rows = ap (first_row big f x) q ∙ a.to_rows in
            omega arith
      ]

  -- first rows rise
  rising : (i n : ℕ) → i + n ≤ x.count → first_row big f x i ≤ first_row big f x (i + n)
  rising i zero l = rw add-zero (omega arith)
  rising i (suc n) l =
      let b = rising i n (omega arith) in
      let c : first_row big f x (i + n) < first_row big f x (i + n + 1) = a.rise (i + n) (omega arith) in
      let q : i + n + 1 ≡ i + suc n = omega arith in
      omega (arith, b, c, ap (first_row big f x) q)

  -- an entry whose first row is not above the row, where that of the next one is
  pub entry_is : (e : ℕ) → e < x.count → first_row big f x e ≤ row → (e + 1 < x.count → row < first_row big f x (e + 1)) → entry ≡ e
  entry_is e l h n =
      last_is (λ (i : ℕ). leb (first_row big f x i) row) x.count e l (le-leb _ row h)
      (λ j p q.
      let m : first_row big f x (e + 1) ≤ first_row big f x (e + 1 + (j - (e + 1))) = rising (e + 1) (j - (e + 1)) (omega arith) in
      let w : e + 1 + (j - (e + 1)) ≡ j = omega arith in
      lt-leb _ row (omega (arith, m, ap (first_row big f x) w, n (omega arith))))
