-- The halving rule: its turns, the entry that it finds, and how many last rows it looks at; and the bit length of a number.
-- Assumes nothing.
use mathlib.Core.Path.{◌≡◌, refl, sym, ◌∙◌}
use mathlib.Core.List.{List}
use Prim.Native.Nat.{ℕ, zero, suc, ◌+◌, ◌-◌, ◌*◌, ◌/◌, ◌^◌, ◌≤◌, ◌<◌, zero-le}
use native.Mathlib.Nat.{pow-suc}
use native.Mathlib.Numerals.{add-one, sub-one}
use native.Mathlib.Decide.{dec_le, dec_lt}
use native.Mathlib.Omega.{arith}
use lib.ListN.{length, get_or}
use lib.Dec.{T, ltb}
use lib.Pow.{pow_mono}
use lib.Count.{count_leading_zeros, leading_length}
use borrow.Author.Tests.{lt-ltb, le-ltb, le-leb, lt-leb}
use Rattle.bytes_at.proofs.Searched.{Searched, searched_none, searched_here, searched_on, searched_out}
use Rattle.standard_rules.specs.Place.{entry_of}
use Rattle.standard_rules.specs.Map.{first_row_of, covers}
use Rattle.standard_rules.specs.Looks.{halve, halving_of, HalvingEnds, bit_length}
use Rattle.standard_rules.proofs.Entries.{entry_reaches, covers_at, covers_end}

-- ---- the rule's two turns, and its end
module _ (lasts : List ℕ) (row : ℕ) where
  pub halve_down : (m first last looks : ℕ) → 0 < m → first < last → row ≤ get_or lasts ((first + last) / 2) 0
      → halve lasts row m first last looks ≡ halve lasts row (m - 1) first ((first + last) / 2) (looks + 1)
  unfolding halve
  halve_down zero first last looks p h l = absurd (omega arith)
  halve_down (suc m) first last looks p h l = rw (sub-one, lt-ltb first last h, le-leb _ _ l)

  pub halve_up : (m first last looks : ℕ) → 0 < m → first < last → get_or lasts ((first + last) / 2) 0 < row
      → halve lasts row m first last looks ≡ halve lasts row (m - 1) ((first + last) / 2 + 1) last (looks + 1)
  unfolding halve
  halve_up zero first last looks p h l = absurd (omega arith)
  halve_up (suc m) first last looks p h l = rw (sub-one, lt-ltb first last h, lt-leb _ _ l)

  pub halve_end : (m first last looks : ℕ) → last ≤ first → halve lasts row m first last looks ≡ record { at = first; looks = looks }
  unfolding halve
  halve_end zero first last looks h = refl
  halve_end (suc m) first last looks h = rw (le-ltb first last h)

  -- with as many turns as there are entries left, or more, it ends
  halve_enough : (m n first last looks : ℕ) → last - first ≤ m → last - first ≤ n → halve lasts row m first last looks ≡ halve lasts row n first last looks
  halve_enough zero n first last looks h k = halve_end zero first last looks (omega arith) ∙ sym (halve_end n first last looks (omega arith))
  halve_enough (suc m) zero first last looks h k = halve_end (suc m) first last looks (omega arith) ∙ sym (halve_end zero first last looks (omega arith))
  halve_enough (suc m) (suc n) first last looks h k = elim (dec_le last first) [
    | yes e ↦ halve_end (suc m) first last looks e ∙ sym (halve_end (suc n) first last looks e)
    | no e ↦ elim (dec_le row (get_or lasts ((first + last) / 2) 0)) [
      | yes l ↦
          rw (halve_down (suc m) first last looks (omega arith) (omega arith) l, halve_down (suc n) first last looks (omega arith) (omega arith) l, sub-one, sub-one)
          (halve_enough m n first ((first + last) / 2) (looks + 1) (omega arith) (omega arith))
      | no l ↦
          rw (halve_up (suc m) first last looks (omega arith) (omega arith) (omega arith), halve_up (suc n) first last looks (omega arith) (omega arith) (omega arith), sub-one, sub-one)
          (halve_enough m n ((first + last) / 2 + 1) last (looks + 1) (omega arith) (omega arith))
    ]
  ]

pub halving_ends : HalvingEnds
unfolding halving_of
halving_ends lasts row m h = halve_enough lasts row m (length lasts) 0 (length lasts - 1) 0 (omega arith) (omega arith)

-- ---- the rule finds the row's entry
abbrev pub Rising : List ℕ → Type 0
Rising lasts = (k : ℕ) → suc k < length lasts → get_or lasts k 0 < get_or lasts (suc k) 0

-- an entry that reaches the row, where none before it does, is the row's
entry_is : (lasts : List ℕ) (row r : ℕ) → r < length lasts → ((j : ℕ) → j < r → get_or lasts j 0 < row) → row ≤ get_or lasts r 0 → entry_of lasts row ≡ r
entry_is lasts row r h b e =
    let a = entry_reaches lasts row r h e in
    elim (dec_lt (entry_of lasts row) r) [ yes l ↦ absurd (omega (arith, b (entry_of lasts row) l)) | no l ↦ omega arith ]

module _ (lasts : List ℕ) (v : Rising lasts) where
  rising_by : (j d : ℕ) → j + d < length lasts → get_or lasts j 0 ≤ get_or lasts (j + d) 0
  rising_by j zero h = let e : j + 0 ≡ j = omega arith in rw e (omega arith)
  rising_by j (suc d) h =
      let e : j + suc d ≡ suc (j + d) = omega arith in
      let a : get_or lasts j 0 ≤ get_or lasts (j + d) 0 = rising_by j d (omega arith) in
      rw e (omega (arith, v (j + d) (omega arith)))

  rising_to : (j k : ℕ) → j ≤ k → k < length lasts → get_or lasts j 0 ≤ get_or lasts k 0
  rising_to j k h l = let e : j + (k - j) ≡ k = omega arith in rw e at (rising_by j (k - j) (omega arith))

  halve_first : (row m first last looks : ℕ) → last - first ≤ m → first ≤ last → last < length lasts
      → ((j : ℕ) → j < first → get_or lasts j 0 < row) → row ≤ get_or lasts last 0 → (halve lasts row m first last looks).at ≡ entry_of lasts row
  halve_first row zero first last looks p o n b e =
      let q : last ≡ first = omega arith in
      rw (halve_end lasts row zero first last looks (omega arith)) (sym (entry_is lasts row first (omega arith) b (rw q at e)))
  halve_first row (suc m) first last looks p o n b e = elim (dec_le last first) [
    | yes h ↦
        let q : last ≡ first = omega arith in
        rw (halve_end lasts row (suc m) first last looks h) (sym (entry_is lasts row first (omega arith) b (rw q at e)))
    | no h ↦ elim (dec_le row (get_or lasts ((first + last) / 2) 0)) [
      | yes l ↦
          rw (halve_down lasts row (suc m) first last looks (omega arith) (omega arith) l, sub-one)
          (halve_first row m first ((first + last) / 2) (looks + 1) (omega arith) (omega arith) (omega arith) b l)
      | no l ↦
          rw (halve_up lasts row (suc m) first last looks (omega arith) (omega arith) (omega arith), sub-one)
          (halve_first row m ((first + last) / 2 + 1) last (looks + 1) (omega arith) (omega arith) n
          (λ j q. omega (arith, rising_to j ((first + last) / 2) (omega arith) (omega arith))) e)
    ]
  ]

  -- where last rows rise strictly, and the last is not below the row
  pub search_first : (row : ℕ) → 0 < length lasts → row ≤ get_or lasts (length lasts - 1) 0 → (halving_of lasts row).at ≡ entry_of lasts row
  unfolding halving_of
  search_first row h e = halve_first row (length lasts) 0 (length lasts - 1) 0 (omega arith) zero-le (omega arith) (λ j l. absurd (omega arith)) e

-- last rows that keep to the map's rule rise, and reach each row
pub covers_rising : (rows per : ℕ) (lasts : List ℕ) → T (covers rows per 0 lasts) → Rising lasts
covers_rising rows per lasts t k h = omega (arith, covers_at rows per 0 lasts t (suc k) h)

pub search_entry : (rows per : ℕ) (lasts : List ℕ) (row : ℕ) → T (covers rows per 0 lasts) → row < rows → (halving_of lasts row).at ≡ entry_of lasts row
search_entry rows per lasts row t h = go (length lasts) refl (covers_end rows per 0 lasts t)
  where
    go : (n : ℕ) → length lasts ≡ n → first_row_of lasts n ≡ rows → (halving_of lasts row).at ≡ entry_of lasts row
    go zero q e = absurd (omega arith)
    go (suc k) q e =
        let z : length lasts - 1 ≡ k = omega arith in
        search_first lasts (covers_rising rows per lasts t) row (omega arith) (rw z (omega arith))

-- ---- the bit length
below_power : (n : ℕ) → n < 2 ^ n
below_power zero = omega arith
below_power (suc n) = omega (arith, below_power n, pow-suc 2 n)

-- the fewest bits that hold n
module _ (n b : ℕ) (holds : n < 2 ^ b) (fewer : (j : ℕ) → j < b → 2 ^ j ≤ n) where
  passed : (i : ℕ) → i ≤ b → i ≤ n → Searched (λ (bits : ℕ). ltb n (2 ^ bits)) n i
  passed zero h k = searched_none _ n
  passed (suc i) h k = rw add-one at (searched_on (passed i (omega arith) (omega arith)) (omega arith) (le-ltb n (2 ^ i) (fewer i (omega arith))))

  few_bits : b ≤ n
  few_bits = elim (dec_le b n) [ yes h ↦ h | no h ↦ absurd (omega (arith, fewer n (omega arith), below_power n)) ]

  pub length_is : bit_length n ≡ b
  unfolding bit_length
  length_is = elim (dec_lt b n) [
    | yes h ↦ sym (searched_here (passed b (omega arith) few_bits) h (lt-ltb n (2 ^ b) holds))
    | no h ↦ sym (searched_out (passed b (omega arith) few_bits) (omega arith))
  ]

-- they are those of the power of 2 that is just above n
near : (n b : ℕ) → n < 2 ^ b → 2 ^ b ≤ 2 * n + 1 → bit_length n ≡ b
near n b h k = length_is n b h (λ j l. omega (arith, pow_mono {i = suc j} {j = b} l, pow-suc 2 j))

pub length_holds : (n : ℕ) → n < 2 ^ bit_length n
length_holds n = let m = leading_length n n (below_power n) in rw (near n m.0 m.2 m.3) m.2

-- and what the leading zeros leave of k bits
pub length_leading : (k n : ℕ) → n < 2 ^ k → bit_length n ≡ k - count_leading_zeros k n
length_leading k n h = let m = leading_length k n h in omega (arith, m.1, near n m.0 m.2 m.3)

pub length_most : (n b : ℕ) → n < 2 ^ b → bit_length n ≤ b
length_most n b h = let m = leading_length b n h in omega (arith, m.1, near n m.0 m.2 m.3)

-- ---- the rule looks at no more last rows than the bit length of the entry count less 1
looks_le : (lasts : List ℕ) (row m b first last looks : ℕ) → last - first < 2 ^ b → (halve lasts row m first last looks).looks ≤ looks + b
unfolding halve
looks_le lasts row zero b first last looks h = omega arith
looks_le lasts row (suc m) zero first last looks h = rw (halve_end lasts row (suc m) first last looks (omega arith)) (omega arith)
looks_le lasts row (suc m) (suc b) first last looks h = elim (dec_le last first) [
  | yes e ↦ rw (halve_end lasts row (suc m) first last looks e) (omega arith)
  | no e ↦ elim (dec_le row (get_or lasts ((first + last) / 2) 0)) [
    | yes l ↦
        rw (halve_down lasts row (suc m) first last looks (omega arith) (omega arith) l, sub-one)
        (let r = looks_le lasts row m b first ((first + last) / 2) (looks + 1) (omega (arith, pow-suc 2 b)) in omega arith)
    | no l ↦
        rw (halve_up lasts row (suc m) first last looks (omega arith) (omega arith) (omega arith), sub-one)
        (let r = looks_le lasts row m b ((first + last) / 2 + 1) last (looks + 1) (omega (arith, pow-suc 2 b)) in omega arith)
  ]
]

pub looks_few : (lasts : List ℕ) (row : ℕ) → (halving_of lasts row).looks ≤ bit_length (length lasts - 1)
unfolding halving_of
looks_few lasts row =
    let a = looks_le lasts row (length lasts) (bit_length (length lasts - 1)) 0 (length lasts - 1) 0 (omega (arith, length_holds (length lasts - 1))) in
    omega arith
