-- The entries of a set: what `entry_of` finds, and what `covers` says of the last rows.
-- Assumes nothing.
use mathlib.Core.Path.{◌≡◌, refl, sym, ◌∙◌}
use mathlib.Core.Bool.{◌&&◌}
use mathlib.Core.List.{List, [], ◌∷◌}
use Prim.Native.Nat.{ℕ, zero, suc, ◌+◌, ◌≤◌, ◌<◌}
use native.Mathlib.Decide.{dec_le}
use native.Mathlib.Omega.{arith}
use lib.ListN.{length, get_or}
use lib.Dec.{T, leb, leb→le, le→leb, eqb→eq, eqb_refl}
use borrow.Author.Tests.{le-leb, lt-leb}
use store.Enc.{and_l, and_r}
use Rattle.bytes_at.proofs.Tests.{both}
use Rattle.standard_rules.specs.Place.{entry_of}
use Rattle.standard_rules.specs.Map.{first_row_from, first_row_of, covers}

-- ---- the search, one entry at a time
pub entry_none : (row : ℕ) → entry_of [] row ≡ 0
unfolding entry_of
entry_none row = refl

pub entry_here : {last : ℕ} (lasts : List ℕ) {row : ℕ} → row ≤ last → entry_of (last ∷ lasts) row ≡ 0
unfolding entry_of
entry_here {last} lasts {row} h = rw (le-leb row last h)

pub entry_on : {last : ℕ} (lasts : List ℕ) {row : ℕ} → last < row → entry_of (last ∷ lasts) row ≡ suc (entry_of lasts row)
unfolding entry_of
entry_on {last} lasts {row} h = rw (lt-leb row last h)

-- the entry that is found is at or before any that reaches the row, and reaches the row
pub entry_reaches : (lasts : List ℕ) (row k : ℕ) → k < length lasts → row ≤ get_or lasts k 0
    → (entry_of lasts row ≤ k) × (row ≤ get_or lasts (entry_of lasts row) 0)
entry_reaches [] row k h r = omega arith
entry_reaches (l ∷ ls) row zero h r = rw (entry_here ls r) (omega arith)
entry_reaches (l ∷ ls) row (suc k) h r =
    elim (dec_le row l) [
      | yes g ↦ rw (entry_here ls g) (omega arith)
      | no g ↦
          let on : l < row = omega arith in
          rw (entry_on ls on) (omega (arith, entry_reaches ls row k (omega arith) r))
    ]

-- no entry before it does
pub entry_first : (lasts : List ℕ) (row i : ℕ) → i < entry_of lasts row → get_or lasts i 0 < row
entry_first [] row i h = omega (arith, entry_none row)
entry_first (l ∷ ls) row zero h = elim (dec_le row l) [ yes g ↦ omega (arith, entry_here ls g) | no g ↦ omega arith ]
entry_first (l ∷ ls) row (suc i) h =
    elim (dec_le row l) [
      | yes g ↦ omega (arith, entry_here ls g)
      | no g ↦
          let on : l < row = omega arith in
          entry_first ls row i (omega (arith, entry_on ls on))
    ]

-- what is found where the last rows reach as far as the row
pub record Found (lasts : List ℕ) (row : ℕ) : Type 0 where
  pub known : entry_of lasts row < length lasts
  pub reaches : row ≤ get_or lasts (entry_of lasts row) 0
  pub starts : first_row_of lasts (entry_of lasts row) ≤ row

pub found : (lasts : List ℕ) (row : ℕ) → row < first_row_of lasts (length lasts) → Found lasts row
found lasts row h = go (length lasts) refl h
  where
    begun : (e : ℕ) → entry_of lasts row ≡ e → first_row_of lasts e ≤ row
    begun zero q = omega arith
    begun (suc e) q = omega (arith, entry_first lasts row e (omega arith))

    go : (n : ℕ) → length lasts ≡ n → row < first_row_of lasts n → Found lasts row
    go zero q h = omega arith
    go (suc k) q h =
        let r = entry_reaches lasts row k (omega arith) (omega arith) in
        record { known = omega arith; reaches = r.1; starts = begun (entry_of lasts row) refl }

-- ---- last rows that cover the rows
start_cons : (l : ℕ) (ls : List ℕ) (e : ℕ) → first_row_from (l + 1) ls e ≡ get_or (l ∷ ls) e 0 + 1
start_cons l ls zero = refl
start_cons l ls (suc e) = refl

-- entry e begins where the one before it ended, and has at least one row and at most `per`
pub record Spans (per from : ℕ) (lasts : List ℕ) (e : ℕ) : Type 0 where
  pub low : first_row_from from lasts e ≤ get_or lasts e 0
  pub high : get_or lasts e 0 + 1 ≤ first_row_from from lasts e + per

pub covers_at : (rows per from : ℕ) (lasts : List ℕ) → T (covers rows per from lasts) → (e : ℕ) → e < length lasts → Spans per from lasts e
unfolding covers
covers_at rows per from [] t e h = absurd (omega arith)
covers_at rows per from (l ∷ ls) t zero h = record { low = leb→le _ _ (search (and_l, and_r)); high = leb→le _ _ (search (and_l, and_r)) }
covers_at rows per from (l ∷ ls) t (suc e) h =
    let r = covers_at rows per (l + 1) ls (search (and_l, and_r)) e (omega arith) in
    record { low = omega (arith, r, start_cons l ls e); high = omega (arith, r, start_cons l ls e) }

pub covers_end : (rows per from : ℕ) (lasts : List ℕ) → T (covers rows per from lasts) → first_row_from from lasts (length lasts) ≡ rows
unfolding covers
covers_end rows per from [] t = eqb→eq from rows t
covers_end rows per from (l ∷ ls) t =
    sym (start_cons l ls (length ls)) ∙ covers_end rows per (l + 1) ls (search (and_l, and_r))

-- the other way round
pub covers_yes : (rows per from : ℕ) (lasts : List ℕ) → ((e : ℕ) → e < length lasts → Spans per from lasts e)
    → first_row_from from lasts (length lasts) ≡ rows → T (covers rows per from lasts)
unfolding covers
covers_yes rows per from [] s q = rw q (eqb_refl rows)
covers_yes rows per from (l ∷ ls) s q =
    let z = s 0 (omega arith) in
    both (leb from l && leb (l + 1) (from + per)) (covers rows per (l + 1) ls)
    (both (leb from l) (leb (l + 1) (from + per)) (le→leb from l z.low) (le→leb (l + 1) (from + per) z.high))
    (covers_yes rows per (l + 1) ls (λ e h. let r = s (suc e) (omega arith) in
    record { low = omega (arith, r, start_cons l ls e); high = omega (arith, r, start_cons l ls e) }) (start_cons l ls (length ls) ∙ q))
