-- A loop that copies n elements of src from `from` into d₀ at `at`: i are copied.
-- Assumes nothing.
use mathlib.Core.Path.{◌≡◌, refl, ◌∙◌}
use mathlib.Core.List.{List}
use Prim.Native.Nat.{ℕ, ◌+◌, ◌≤◌, ◌<◌, zero-le}
use native.Mathlib.Nat.{le_antisymm}
use native.Mathlib.Omega.{arith}
use native.Mathlib.Numerals.{add-one}
use lib.ListN.{length, drop, get_or, set, length-drop, length-set}
use lib.Seq.{paste, paste-zero, paste-suc, get_or-drop}

pub record Copied (src : List ℕ) (from n : ℕ) (d₀ d : List ℕ) (at i : ℕ) : Type 0 where
  pub within : i ≤ n
  pub long : length d ≡ length d₀
  pub list : d ≡ paste d₀ at (drop from src) i

pub copied_start : (src : List ℕ) (from n : ℕ) (d : List ℕ) (at : ℕ) → Copied src from n d d at 0
copied_start src from n d at = record { within = zero-le; long = refl; list = paste-zero d at (drop from src) }

pub copied_again : {src : List ℕ} {from n : ℕ} {d₀ d : List ℕ} {at i : ℕ} → Copied src from n d₀ d at i → i < n → at + n ≤ length d₀ → from + n ≤ length src
    → Copied src from n d₀ (set d (at + i) (get_or src (from + i) 0)) at (i + 1)
copied_again {src} {from} {n} {d₀} {d} {at} {i} v h hd hs = record {
  within = omega arith;
  long = length-set d (at + i) (get_or src (from + i) 0) ∙ v.long;
  list =
      rw (v.list, add-one, ← get_or-drop from src i 0)
      (paste-suc d₀ at (drop from src) i 0 (omega arith) (simp length-drop (omega arith)));
}

pub copied_end : {src : List ℕ} {from n : ℕ} {d₀ d : List ℕ} {at i : ℕ} → Copied src from n d₀ d at i → n ≤ i → d ≡ paste d₀ at (drop from src) n
copied_end {src} {from} {n} {d₀} {d} {at} {i} v h = let e : i ≡ n = le_antisymm v.within h in rw (← e) v.list
