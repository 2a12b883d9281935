-- The number in n bytes, byte by byte: one law over the width, for each byte order. Assumes nothing.
use mathlib.Core.Path.{◌≡◌, refl, sym, ap, ◌∙◌}
use mathlib.Core.List.{List, [], ◌∷◌, ◌++◌}
use mathlib.Core.Bool.{Bool, true, false}
use Prim.Native.Nat.{ℕ, zero, suc, ◌+◌, ◌*◌, ◌/◌, ◌%◌, ◌^◌, ◌≤◌, ◌<◌}
use native.Mathlib.Decide.{dec_le}
use native.Mathlib.Omega.{arith}
use native.Mathlib.Nat.{div-one, div-div-eq-div-mul, pow-suc}
use lib.ListN.{length, get_or, take, drop, length-drop}
use lib.Seq.{drop-cons, drop-drop}
use mir.Val.{Fits}
use mir.Syntax.{w8}
use Rattle.bytes_at.specs.Number.{big_from, little_from, uint_of, big_bytes}

-- the n bytes at place `at + k` and on, most significant byte first, after a
abbrev pub big_at : ℕ → ℕ → List ℕ → ℕ → ℕ → ℕ
big_at a zero s at k = a
big_at a (suc n) s at k = big_at (a * 256 + get_or s (at + k) 0) n s at (suc k)

abbrev pub little_at : ℕ → ℕ → ℕ → List ℕ → ℕ → ℕ → ℕ
little_at a unit zero s at k = a
little_at a unit (suc n) s at k = little_at (a + get_or s (at + k) 0 * unit) (unit * 256) n s at (suc k)

big_is : (a n : ℕ) (s : List ℕ) (at k : ℕ) → at + k + n ≤ length s → big_from a n (drop (at + k) s) ≡ big_at a n s at k
unfolding big_from
big_is a zero s at k h = refl
big_is a (suc n) s at k h =
    let e : suc (at + k) ≡ at + suc k = omega arith in
    let l : at + k < length s = omega arith in
    rw (drop-cons s (at + k) 0 l, e) (big_is (a * 256 + get_or s (at + k) 0) n s at (suc k) (omega arith))

little_is : (a unit n : ℕ) (s : List ℕ) (at k : ℕ) → at + k + n ≤ length s → little_from a unit n (drop (at + k) s) ≡ little_at a unit n s at k
unfolding little_from
little_is a unit zero s at k h = refl
little_is a unit (suc n) s at k h =
    let e : suc (at + k) ≡ at + suc k = omega arith in
    let l : at + k < length s = omega arith in
    rw (drop-cons s (at + k) 0 l, e) (little_is (a + get_or s (at + k) 0 * unit) (unit * 256) n s at (suc k) (omega arith))

module _ (n : ℕ) (s : List ℕ) (at : ℕ) where
  pub big_number : at + n ≤ length s → uint_of true n s at ≡ big_at 0 n s at 0
  unfolding uint_of
  big_number h = let e : at + 0 ≡ at = omega arith in ap (λ (i : ℕ). big_from 0 n (drop i s)) (sym e) ∙ big_is 0 n s at 0 (omega arith)

  pub little_number : at + n ≤ length s → uint_of false n s at ≡ little_at 0 1 n s at 0
  unfolding uint_of
  little_number h = let e : at + 0 ≡ at = omega arith in ap (λ (i : ℕ). little_from 0 1 n (drop i s)) (sym e) ∙ little_is 0 1 n s at 0 (omega arith)

-- fewer bytes than the width
big_short : (a n : ℕ) (l : List ℕ) → length l < n → big_from a n l ≡ 0
unfolding big_from
big_short a zero l h = absurd (omega arith)
big_short a (suc n) [] h = refl
big_short a (suc n) (x ∷ l) h = big_short (a * 256 + x) n l (omega arith)

little_short : (a unit n : ℕ) (l : List ℕ) → length l < n → little_from a unit n l ≡ 0
unfolding little_from
little_short a unit zero l h = absurd (omega arith)
little_short a unit (suc n) [] h = refl
little_short a unit (suc n) (x ∷ l) h = little_short (a + x * unit) (unit * 256) n l (omega arith)

pub no_number : (big : Bool) (n : ℕ) (s : List ℕ) (at : ℕ) → length s < at + n → 0 < n → 0 ≡ uint_of big n s at
unfolding uint_of
no_number true n s at h p = sym (big_short 0 n (drop at s) (simp length-drop (omega arith)))
no_number false n s at h p = sym (little_short 0 1 n (drop at s) (simp length-drop (omega arith)))

pub no_uint : (big : Bool) (n : ℕ) (s : List ℕ) (at : ℕ) → length s < at + n → 0 ≡ uint_of big n s at
unfolding uint_of big_from little_from
no_uint true zero s at h = refl
no_uint false zero s at h = refl
no_uint big (suc n) s at h = no_number big (suc n) s at h (omega arith)

-- The widths that the code reads.
module _ (s : List ℕ) (at : ℕ) where
  at_0 : get_or s (at + 0) 0 ≡ get_or s at 0
  at_0 = let e : at + 0 ≡ at = omega arith in ap (λ (i : ℕ). get_or s i 0) e

  pub one : (big : Bool) {a : ℕ} → a ≡ get_or s at 0 → at + 1 ≤ length s → a ≡ uint_of big 1 s at
  one true e h = omega (arith, big_number 1 s at h, at_0)
  one false e h = omega (arith, little_number 1 s at h, at_0)

-- a list of bytes
abbrev pub Bytes : List ℕ → Type 0
Bytes s = (i : ℕ) → Fits w8 (get_or s i 0)

-- four of which hold no larger number
module _ (s : List ℕ) (at : ℕ) (h : Bytes s) where
  four_below : (big : Bool) → at + 4 ≤ length s → uint_of big 4 s at < 4294967296
  four_below true l = omega (arith, big_number 4 s at l, h (at + 0), h (at + 1), h (at + 2), h (at + 3))
  four_below false l = omega (arith, little_number 4 s at l, h (at + 0), h (at + 1), h (at + 2), h (at + 3))

  pub word_below : (big : Bool) → uint_of big 4 s at < 4294967296
  word_below big =
      elim (dec_le (at + 4) (length s)) [ yes l ↦ four_below big l | no l ↦ omega (arith, no_number big 4 s at (omega arith) (omega arith)) ]

-- bytes of a part, and of two lists joined
bytes_take : (n : ℕ) (l : List ℕ) → Bytes l → Bytes (take n l)
bytes_take zero l f i = omega arith
bytes_take (suc n) [] f i = f i
bytes_take (suc n) (x ∷ l) f zero = f 0
bytes_take (suc n) (x ∷ l) f (suc i) = bytes_take n l (λ j. f (suc j)) i

pub joined_bytes : (n : ℕ) (l m : List ℕ) → Bytes l → Bytes m → Bytes (take n l ++ m)
joined_bytes zero l m f g i = g i
joined_bytes (suc n) [] m f g i = g i
joined_bytes (suc n) (x ∷ l) m f g zero = f 0
joined_bytes (suc n) (x ∷ l) m f g (suc i) = joined_bytes n l m (λ j. f (suc j)) g i

-- a number that lies in a part
pub big_take : (a k n : ℕ) (l : List ℕ) → k ≤ n → big_from a k (take n l) ≡ big_from a k l
unfolding big_from
big_take a zero n l h = refl
big_take a (suc k) zero l h = absurd (omega arith)
big_take a (suc k) (suc n) [] h = refl
big_take a (suc k) (suc n) (x ∷ l) h = big_take (a * 256 + x) k n l (omega arith)

big_part : (k i n : ℕ) (l : List ℕ) → i + k ≤ n → big_from 0 k (drop i (take n l)) ≡ big_from 0 k (drop i l)
big_part k zero n l h = big_take 0 k n l (omega arith)
big_part k (suc i) zero l h = absurd (omega arith)
big_part k (suc i) (suc n) [] h = refl
big_part k (suc i) (suc n) (x ∷ l) h = big_part k i n l (omega arith)

pub part_number : (s : List ℕ) (start n k i : ℕ) {x : ℕ} → x ≡ uint_of true k s (start + i) → i + k ≤ n → x ≡ uint_of true k (take n (drop start s)) i
unfolding uint_of
part_number s start n k i e h = e ∙ ap (big_from 0 k) (sym (drop-drop i start s)) ∙ sym (big_part k i n (drop start s) h)

-- what is read inside a text is read the same where more bytes follow it
big_more : (a n : ℕ) (l z : List ℕ) → n ≤ length l → big_from a n (l ++ z) ≡ big_from a n l
unfolding big_from
big_more a zero l z h = refl
big_more a (suc n) [] z h = absurd (omega arith)
big_more a (suc n) (x ∷ l) z h = big_more (a * 256 + x) n l z (omega arith)

little_more : (a unit n : ℕ) (l z : List ℕ) → n ≤ length l → little_from a unit n (l ++ z) ≡ little_from a unit n l
unfolding little_from
little_more a unit zero l z h = refl
little_more a unit (suc n) [] z h = absurd (omega arith)
little_more a unit (suc n) (x ∷ l) z h = little_more (a + x * unit) (unit * 256) n l z (omega arith)

drop_more : (at : ℕ) (s z : List ℕ) → at ≤ length s → drop at (s ++ z) ≡ drop at s ++ z
drop_more zero s z h = refl
drop_more (suc at) [] z h = absurd (omega arith)
drop_more (suc at) (x ∷ s) z h = drop_more at s z (omega arith)

pub uint_more : (big : Bool) (n : ℕ) (s z : List ℕ) (at : ℕ) → at + n ≤ length s → uint_of big n (s ++ z) at ≡ uint_of big n s at
unfolding uint_of
uint_more true n s z at h =
    ap (big_from 0 n) (drop_more at s z (omega arith)) ∙ big_more 0 n (drop at s) z (simp length-drop (omega arith))
uint_more false n s z at h =
    ap (little_from 0 1 n) (drop_more at s z (omega arith)) ∙ little_more 0 1 n (drop at s) z (simp length-drop (omega arith))

-- the bytes of a number
pub bytes_length : (n x : ℕ) → length (big_bytes n x) ≡ n
bytes_length zero x = refl
bytes_length (suc n) x = ap suc (bytes_length n x)

pub number_bytes : (n x : ℕ) → Bytes (big_bytes n x)
number_bytes zero x i = omega arith
number_bytes (suc n) x zero = omega arith
number_bytes (suc n) x (suc i) = number_bytes n x i

-- they are read as that number
rest_of : (n x : ℕ) → big_from (x / 256 ^ n) n (big_bytes n x) ≡ x
unfolding big_from
rest_of zero x = div-one x
rest_of (suc n) x =
    let e : x / (256 ^ n * 256) * 256 + (x / 256 ^ n) % 256 ≡ x / 256 ^ n = omega (arith, div-div-eq-div-mul x (256 ^ n) 256) in
    rw (pow-suc 256 n) (ap (λ (a : ℕ). big_from a n (big_bytes n x)) e ∙ rest_of n x)

pub number_of : (n x : ℕ) → x / 256 ^ n ≡ 0 → big_from 0 n (big_bytes n x) ≡ x
number_of n x h = ap (λ (a : ℕ). big_from a n (big_bytes n x)) (sym h) ∙ rest_of n x
