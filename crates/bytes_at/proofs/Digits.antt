-- The number in bytes that follow one another, one byte more at a time, from the first or from the last.
-- Assumes nothing.
use mathlib.Core.Path.{◌≡◌, refl, sym, ap, ◌∙◌}
use mathlib.Core.List.{List, [], ◌∷◌}
use Prim.Native.Nat.{ℕ, zero, suc, ◌+◌, ◌*◌, ◌^◌, ◌≤◌, ◌<◌}
use native.Mathlib.Omega.{arith}
use native.Mathlib.Numerals.{add-one}
use native.Mathlib.Nat.{pow-suc, pow-le-pow_right}
use lib.ListN.{length, get_or, drop, length-drop}
use lib.Seq.{drop-drop, get_or-drop}
use Rattle.bytes_at.specs.Number.{big_from, little_from}

-- most significant byte first
big_suc : (a k : ℕ) (l : List ℕ) → k < length l → big_from a (suc k) l ≡ big_from a k l * 256 + get_or l k 0
unfolding big_from
big_suc a k [] h = absurd (omega arith)
big_suc a zero (x ∷ l) h = refl
big_suc a (suc k) (x ∷ l) h = big_suc (a * 256 + x) k l (omega arith)

pub big_next : (k at : ℕ) (s : List ℕ) {n : ℕ} → n ≡ big_from 0 k (drop at s) → at + k < length s → n * 256 + get_or s (at + k) 0 ≡ big_from 0 (k + 1) (drop at s)
big_next k at s e h = rw (e, add-one, ← get_or-drop at s k 0) (sym (big_suc 0 k (drop at s) (simp length-drop (omega arith))))

-- least significant byte first: what is added up before counts at its own worth
started : (n : ℕ) (l : List ℕ) (a unit : ℕ) → n ≤ length l → little_from a unit n l ≡ a + unit * little_from 0 1 n l
unfolding little_from
started zero l a unit h = omega arith
started (suc n) [] a unit h = absurd (omega arith)
started (suc n) (x ∷ l) a unit h =
    let r = little_from 0 1 n l in
    let p : little_from (a + x * unit) (unit * 256) n l ≡ a + x * unit + unit * 256 * r = started n l (a + x * unit) (unit * 256) (omega arith) in
    let q : little_from (0 + x * 1) (1 * 256) n l ≡ 0 + x * 1 + 1 * 256 * r = started n l (0 + x * 1) (1 * 256) (omega arith) in
    p ∙ sums a unit x r ∙ ap (λ (z : ℕ). a + unit * z) (sym q)
  where
    sums : (a unit x r : ℕ) → a + x * unit + unit * 256 * r ≡ a + unit * (0 + x * 1 + 1 * 256 * r)
    sums a unit x r = grind arith

little_suc : (k : ℕ) (l : List ℕ) → k < length l → little_from 0 1 (suc k) l ≡ little_from 0 1 k (drop 1 l) * 256 + get_or l 0 0
unfolding little_from
little_suc k [] h = absurd (omega arith)
little_suc k (x ∷ l) h = started k l (0 + x * 1) (1 * 256) (omega arith) ∙ omega arith

pub little_next : (k i : ℕ) (s : List ℕ) {n : ℕ} → n ≡ little_from 0 1 k (drop (i + 1) s) → i + k < length s → n * 256 + get_or s i 0 ≡ little_from 0 1 (k + 1) (drop i s)
little_next k i s e h =
    let f : get_or (drop i s) 0 0 ≡ get_or s i 0 = get_or-drop i s 0 0 ∙ ap (λ (j : ℕ). get_or s j 0) (omega arith) in
    let g : drop 1 (drop i s) ≡ drop (i + 1) s = drop-drop 1 i s in
    ap (λ (x : ℕ). x * 256 + get_or s i 0) e ∙ ap (λ (x : ℕ). little_from 0 1 k (drop (i + 1) s) * 256 + x) (sym f)
    ∙ ap (λ (l : List ℕ). little_from 0 1 k l * 256 + get_or (drop i s) 0 0) (sym g)
    ∙ sym (little_suc k (drop i s) (simp length-drop (omega arith))) ∙ ap (λ (n : ℕ). little_from 0 1 n (drop i s)) (omega arith)

-- a byte more is 256 times as much, and eight bytes are the most
power_step : (k : ℕ) → 256 ^ (k + 1) ≡ 256 ^ k * 256
power_step k = rw (add-one, pow-suc) (omega arith)

pub one_digit_more : {n : ℕ} (k : ℕ) {b : ℕ} → n < 256 ^ k → b < 256 → n * 256 + b < 256 ^ (k + 1)
one_digit_more k h f = rw power_step (omega arith)

pub eight_fit : {n : ℕ} (k : ℕ) {b : ℕ} → n < 256 ^ k → b < 256 → k < 8 → n * 256 + b < 18446744073709551616
eight_fit k h f l = omega (arith, one_digit_more k h f, pow-le-pow_right {n = 256} (omega arith) {i = k + 1} {j = 8} (omega arith))
