-- The halving rule's loop: the entries that are still possible, and the looks that are left.
-- Assumes nothing.
use mathlib.Core.Path.{◌≡◌, sym, ap, ◌∙◌}
use mathlib.Core.Bool.{Bool}
use mathlib.Core.List.{List}
use Prim.Native.Nat.{ℕ, suc, ◌+◌, ◌-◌, ◌*◌, ◌/◌, ◌^◌, ◌≤◌, ◌<◌, zero-le}
use native.Mathlib.Nat.{pow-suc}
use native.Mathlib.Omega.{arith}
use lib.ListN.{get_or}
use Rattle.bytes_at.specs.Number.{number_in, numbers_at}
use Rattle.bytes_at.proofs.Listed.{numbers_length, number_at}
use Rattle.standard_rules.specs.Looks.{halve, halving_of, bit_length}
use Rattle.standard_rules.proofs.Halving.{halve_down, halve_up, halve_end, length_holds}

-- ---- the loop over n numbers from a place on: with the turns that are left the rule gives the whole's answer
pub record Halving (big : Bool) (w : ℕ) (s : List ℕ) (at n row first last looks : ℕ) : Type 0 where
  pub turns : ℕ
  pub enough : last - first ≤ turns
  pub order : first ≤ last
  pub within : last < n
  pub same : halving_of (numbers_at big w s at n) row ≡ halve (numbers_at big w s at n) row turns first last looks

halving_start : (big : Bool) (w : ℕ) (s : List ℕ) (at n row : ℕ) → 0 < n → Halving big w s at n row 0 (n - 1) 0
unfolding halving_of
halving_start big w s at n row h =
    record { turns = n; enough = omega arith; order = zero-le; within = omega arith; same = rw (numbers_length big w s at n) }

module _ {big : Bool} {w : ℕ} {s : List ℕ} {at n row first last looks : ℕ} (v : Halving big w s at n row first last looks) where
  -- the middle is looked at
  module _ {found : ℕ} (h : first < last) (f : found ≡ number_in big w s at (first + (last - first) / 2)) where
    half : first + (last - first) / 2 ≡ (first + last) / 2
    half = omega arith

    looked : found ≡ get_or (numbers_at big w s at n) ((first + last) / 2) 0
    looked = f ∙ sym (number_at big w s at n (first + (last - first) / 2) (omega (arith, v.within))) ∙ ap (λ (k : ℕ). get_or (numbers_at big w s at n) k 0) half

    halving_down : row ≤ found → Halving big w s at n row first (first + (last - first) / 2) (looks + 1)
    halving_down l = record {
      turns = v.turns - 1;
      enough = omega (arith, v.enough);
      order = omega arith;
      within = omega (arith, v.within);
      same =
          v.same
          ∙ halve_down (numbers_at big w s at n) row v.turns first last looks (omega (arith, v.enough)) h (rw looked at l)
          ∙ ap (λ (k : ℕ). halve (numbers_at big w s at n) row (v.turns - 1) first k (looks + 1)) (sym half);
    }

    halving_up : found < row → Halving big w s at n row (first + (last - first) / 2 + 1) last (looks + 1)
    halving_up l = record {
      turns = v.turns - 1;
      enough = omega (arith, v.enough);
      order = omega arith;
      within = v.within;
      same =
          v.same
          ∙ halve_up (numbers_at big w s at n) row v.turns first last looks (omega (arith, v.enough)) h (rw looked at l)
          ∙ ap (λ (k : ℕ). halve (numbers_at big w s at n) row (v.turns - 1) (k + 1) last (looks + 1)) (sym half);
    }

  halving_end : last ≤ first → (record { at = first; looks = looks } ≡ halving_of (numbers_at big w s at n) row) × (first < n)
  halving_end h = (sym (v.same ∙ halve_end (numbers_at big w s at n) row v.turns first last looks h), omega (arith, v.order, v.within))

-- ---- the loop that the bound ends: so many looks are left, and they are enough
pub record Bounded (big : Bool) (w : ℕ) (s : List ℕ) (at n row most first last looks : ℕ) : Type 0 where
  pub halving : Halving big w s at n row first last looks
  pub left : looks ≤ most
  pub close : last - first < 2 ^ (most - looks)

pub bounded_start : (big : Bool) (w : ℕ) (s : List ℕ) (at n row most : ℕ) → 0 < n → most ≡ bit_length (n - 1) → Bounded big w s at n row most 0 (n - 1) 0
bounded_start big w s at n row most p e =
    let z : most - 0 ≡ most = omega arith in
    record {
      halving = halving_start big w s at n row p;
      left = zero-le;
      close = rw (z, e) (omega (arith, length_holds (n - 1)));
    }

module _ {big : Bool} {w : ℕ} {s : List ℕ} {at n row most first last looks : ℕ} (v : Bounded big w s at n row most first last looks) where
  twice : looks < most → 2 ^ (most - looks) ≡ 2 ^ (most - (looks + 1)) * 2
  twice h = let e : most - looks ≡ suc (most - (looks + 1)) = omega arith in rw e (pow-suc 2 (most - (looks + 1)))

  module _ {found : ℕ} (l : looks < most) (h : first < last) (f : found ≡ number_in big w s at (first + (last - first) / 2)) where
    pub bounded_down : row ≤ found → Bounded big w s at n row most first (first + (last - first) / 2) (looks + 1)
    bounded_down k = record { halving = halving_down v.halving h f k; left = omega arith; close = omega (arith, v.close, twice l) }

    pub bounded_up : found < row → Bounded big w s at n row most (first + (last - first) / 2 + 1) last (looks + 1)
    bounded_up k = record { halving = halving_up v.halving h f k; left = omega arith; close = omega (arith, v.close, twice l) }

  -- no look is left: one entry is possible
  spent : most ≤ looks → last ≤ first
  spent h = let e : most - looks ≡ 0 = omega arith in let c : last - first < 2 ^ 0 = rw e at v.close in omega arith

  pub bounded_one : most ≡ bit_length (n - 1) → last ≤ first
      → record { value : record { at = first; looks = looks } ≡ halving_of (numbers_at big w s at n) row; known : (first < n) × (looks ≤ bit_length (n - 1)) }
  bounded_one e h = let r = halving_end v.halving h in record { value = r.0; known = (r.1, omega (arith, v.left)) }

  pub bounded_end : most ≡ bit_length (n - 1) → most ≤ looks
      → record { value : record { at = first; looks = most } ≡ halving_of (numbers_at big w s at n) row; known : (first < n) × (most ≤ bit_length (n - 1)) }
  bounded_end e h =
      let z : most ≡ looks = omega (arith, v.left) in
      let r = halving_end v.halving (spent h) in
      record { value = rw z r.0; known = (r.1, omega arith) }
