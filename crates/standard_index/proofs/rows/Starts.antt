-- An entry's first row, and a row's number within its entry.
-- Assumes nothing.
use mathlib.Core.Path.{◌≡◌, refl, sym, ap}
use mathlib.Core.Bool.{Bool}
use mathlib.Core.List.{List}
use Prim.Native.Nat.{ℕ, zero, suc, ◌+◌, ◌-◌, ◌≤◌}
use native.Mathlib.Numerals.{sub-one}
use native.Mathlib.Omega.{arith}
use Rattle.standard_rules.specs.Map.{first_row_of}
use Rattle.bytes_at.specs.Number.{number_in, numbers_at}
use Rattle.standard_index.specs.Rows.{first_row_in}
use Rattle.bytes_at.proofs.Listed.{number_at}

pub first_row_is : (big : Bool) (w : ℕ) (s : List ℕ) (at n k : ℕ) → k ≤ n → first_row_in big w s at k ≡ first_row_of (numbers_at big w s at n) k
unfolding first_row_in
first_row_is big w s at n zero h = refl
first_row_is big w s at n (suc k) h = ap (λ (l : ℕ). l + 1) (sym (number_at big w s at n k h))

module _ (big : Bool) (w : ℕ) (s : List ℕ) (at k row : ℕ) where
  pub local_first : k ≡ 0 → row ≡ row - first_row_in big w s at k
  unfolding first_row_in
  local_first e = rw e (omega arith)

  before : {last : ℕ} → (k ≡ 0 → ⊥) → last ≡ number_in big w s at (k - 1) → first_row_in big w s at k ≡ last + 1
  unfolding first_row_in
  before n e = go k n e
    where
      go : (j : ℕ) {last : ℕ} → (j ≡ 0 → ⊥) → last ≡ number_in big w s at (j - 1) → first_row_in big w s at j ≡ last + 1
      go zero n e = absurd (n refl)
      go (suc j) n e = rw (sub-one) at (ap (λ (l : ℕ). l + 1) (sym e))

  pub local_after : {last : ℕ} → (k ≡ 0 → ⊥) → last ≡ number_in big w s at (k - 1) → row - last - 1 ≡ row - first_row_in big w s at k
  local_after n e = omega (arith, before n e)
