-- As many of the len elements from start as there are, where the list ends before.
use mathlib.Core.Path.{◌≡◌, refl, sym, ap, ◌∙◌}
use mathlib.Core.List.{List, [], ◌∷◌}
use Prim.Native.Nat.{ℕ, zero, suc, ◌+◌, ◌-◌, ◌≤◌, ◌<◌}
use native.Mathlib.Omega.{arith}
use lib.ListN.{length, get_or, take, drop, length-drop, drop_of_length-le}
use lib.Seq.{take-nil, length-take-le, get_or-take, get_or-drop}

module _ (s : List ℕ) (start len : ℕ) where
  pub no_part : length s ≤ start → [] ≡ take len (drop start s)
  no_part h = rw (drop_of_length-le s h) (sym (take-nil len))

-- a part has its own length
whole_part : (len : ℕ) (l : List ℕ) → take (length (take len l)) l ≡ take len l
whole_part zero l = refl
whole_part (suc len) [] = refl
whole_part (suc len) (x ∷ l) = ap (λ (r : List ℕ). x ∷ r) (whole_part len l)

module _ (s : List ℕ) (start : ℕ) where
  -- n is the length of the part that is asked for
  pub held_part : (len : ℕ) {n : ℕ} → n ≡ length (take len (drop start s)) → take n (drop start s) ≡ take len (drop start s)
  held_part len e = ap (λ (k : ℕ). take k (drop start s)) e ∙ whole_part len (drop start s)

  pub part_length : (n : ℕ) → n ≤ length s - start → length (take n (drop start s)) ≡ n
  part_length n h = length-take-le n (drop start s) (simp length-drop (omega arith))

  pub part_at : (n i : ℕ) → i < n → get_or (take n (drop start s)) i 0 ≡ get_or s (start + i) 0
  part_at n i h = rw (get_or-take n (drop start s) i 0 h, get_or-drop)
