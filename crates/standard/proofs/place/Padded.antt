-- What is read inside a text is read the same where more bytes follow it. Assumes nothing.
use mathlib.Core.Path.{◌≡◌, refl, ap, ◌∙◌}
use mathlib.Core.Bool.{Bool}
use mathlib.Core.List.{List, ◌++◌}
use Prim.Native.Nat.{ℕ, zero, suc, ◌+◌, ◌-◌, ◌*◌, ◌≤◌, ◌<◌}
use native.Mathlib.Nat.{suc-mul, add-mul}
use native.Mathlib.Omega.{arith}
use lib.ListN.{length}
use Rattle.bytes_at.specs.Number.{int_bytes, number_in, numbers_at}
use Rattle.bytes_at.proofs.Numbers.{uint_more}
use Rattle.bytes_at.proofs.Listed.{room_for}
use Rattle.standard_rules.specs.Looks.{halving_of}
use Rattle.standard_rules.specs.declared.Entry.{Entry}
use Rattle.standard_index.specs.Rows.{first_row_in}
use Rattle.standard_rules.specs.declared.Set.{Set}
use Rattle.standard_index.specs.Bounds.{SetInside}
use Rattle.standard.specs.Bit.{by_halving, local_by, bit_by_halving}

module _ (big : Bool) (s z : List ℕ) where
  -- one law over the width
  module _ (w : ℕ) where
    numbers_same : (at n : ℕ) → at + n * w ≤ length s → numbers_at big w (s ++ z) at n ≡ numbers_at big w s at n
    unfolding numbers_at
    numbers_same at zero h = refl
    numbers_same at (suc n) h =
        rw (uint_more big w s z at (omega (arith, suc-mul n w)), numbers_same (at + w) n (omega (arith, suc-mul n w)))

    number_same : (at n k : ℕ) → k < n → at + n * w ≤ length s → number_in big w (s ++ z) at k ≡ number_in big w s at k
    number_same at n k h l = uint_more big w s z (at + k * w) (omega (arith, add-mul k 1 w, room_for at n k w h l))

    first_same : (at n k : ℕ) → k < n → at + n * w ≤ length s → first_row_in big w (s ++ z) at k ≡ first_row_in big w s at k
    unfolding first_row_in
    first_same at n zero h l = refl
    first_same at n (suc k) h l = ap (λ (x : ℕ). x + 1) (number_same at n k (omega arith) l)

  -- the halving rule, and the first bit where it finds one of the entries
  pub halving_same : (x : Set) (row : ℕ) → SetInside (length s) x → by_halving big (s ++ z) x row ≡ by_halving big s x row
  halving_same x row i = ap (λ (l : List ℕ). halving_of l row) (numbers_same (int_bytes x.wide) x.lasts x.entries i.lasts_inside)

  pub local_same : (x : Set) (row : ℕ) → SetInside (length s) x → (by_halving big s x row).at < x.entries → local_by big (s ++ z) x row ≡ local_by big s x row
  local_same x row i h =
      ap (λ (k : ℕ). row - first_row_in big (int_bytes x.wide) (s ++ z) x.lasts k) (ap (λ (n : Entry). n.at) (halving_same x row i))
      ∙ ap (λ (n : ℕ). row - n) (first_same (int_bytes x.wide) x.lasts x.entries (by_halving big s x row).at h i.lasts_inside)

  pub bit_same : (x : Set) (size offset bits row : ℕ) → SetInside (length s) x → (by_halving big s x row).at < x.entries
      → bit_by_halving big (s ++ z) x size offset bits row ≡ bit_by_halving big s x size offset bits row
  unfolding bit_by_halving
  bit_same x size offset bits row i h =
      let e : (by_halving big (s ++ z) x row).at ≡ (by_halving big s x row).at = ap (λ (n : Entry). n.at) (halving_same x row i) in
      let b : number_in big 4 (s ++ z) x.buckets (by_halving big (s ++ z) x row).at ≡ number_in big 4 s x.buckets (by_halving big s x row).at
      = ap (λ (k : ℕ). number_in big 4 (s ++ z) x.buckets k) e ∙ number_same 4 x.buckets x.entries (by_halving big s x row).at h i.buckets_inside in
      ap (λ (n : ℕ). 8 * (512 + n * size + offset) + local_by big (s ++ z) x row * bits) b
      ∙ ap (λ (n : ℕ). 8 * (512 + number_in big 4 s x.buckets (by_halving big s x row).at * size + offset) + n * bits) (local_same x row i h)
