-- Demand 3 of any map that is accepted.
-- Assumes nothing.
use mathlib.Core.Path.{◌≡◌, ap}
use Prim.Native.Nat.{ℕ, ◌+◌, ◌*◌, ◌≤◌, ◌<◌}
use native.Mathlib.Nat.{mul-le-mul_right}
use native.Mathlib.Decide.{ℕ_discrete, dec_lt}
use native.Mathlib.Omega.{arith}
use lib.ListN.{length, get_or}
use Rattle.standard_rules.specs.Map.{Map, set_at, column_at, set_of, first_row_of, ceil8, Kept, MapAccepted}
use Rattle.standard_rules.specs.Place.{Bits, entry_in, bucket_in, local_row, bucket_bits, place_of}
use Rattle.standard_rules.specs.Demand.{Apart, Inside, Differ, Safe, Demand3, EveryTwo}
use Rattle.standard_rules.proofs.Entries.{Found, found}
use Rattle.standard_rules.proofs.Accepting.{accepted}

-- one more of width w
pub step : {r s : ℕ} (w : ℕ) → r < s → r * w + w ≤ s * w
step {r} {s} w h = omega (arith, mul-le-mul_right w h)

-- parts of different buckets have no bit in common
buckets_apart : (m : Map) (b d : ℕ) (p q : Bits) → Inside p (bucket_bits m.size b) → Inside q (bucket_bits m.size d) → (b ≡ d → ⊥) → Apart p q
buckets_apart m b d p q i j n x =
    elim (dec_lt b d) [
      | yes l ↦ omega (arith, step m.size l)
      | no l ↦ let g : d < b = omega arith in omega (arith, step m.size g)
    ]

module _ (m : Map) (a : MapAccepted m) where
  -- what holds of one cell
  record Cell (row c : ℕ) : Type 0 where
    set_known : (column_at m c).set < length m.sets
    entry_known : entry_in m row c < length (set_of m c).buckets
    starts : first_row_of (set_of m c).lasts (entry_in m row c) ≤ row
    ends : local_row m row c * (column_at m c).bits + (column_at m c).bits ≤ 8 * ceil8 ((set_of m c).rows_per * (column_at m c).bits)
    inside : Inside (place_of m row c) (bucket_bits m.size (bucket_in m row c))

  cell : (row c : ℕ) → row < m.rows → Kept m c → Cell row c
  cell row c h k =
      let s = (column_at m c).set in
      let known : s < length m.sets = a.set_known c k in
      let f : Found (set_at m s).lasts row = found (set_at m s).lasts row (omega (arith, a.reach s known)) in
      let span = a.span s (entry_in m row c) known f.known in
      let l : local_row m row c < (set_at m s).rows_per = omega arith in
      let ends : local_row m row c * (column_at m c).bits + (column_at m c).bits ≤ 8 * ceil8 ((set_at m s).rows_per * (column_at m c).bits) = omega (arith, step (column_at m c).bits l) in
      record {
        set_known = known;
        entry_known = omega (arith, a.paired s known);
        starts = f.starts;
        ends = ends;
        inside = omega (arith, a.in_bucket c k);
      }

  safe : (row c : ℕ) → row < m.rows → Kept m c → Safe m (place_of m row c) row c
  safe row c h k =
      let x = cell row c h k in
      record {
        given = x.entry_known;
        in_range = a.data_below _ _ x.set_known x.entry_known;
        inside = x.inside;
        off_header = omega (arith, x.inside);
        off_index = λ i l. buckets_apart m _ _ _ _ x.inside (omega arith) (a.data_index _ _ i x.set_known x.entry_known l);
        off_free = λ i l. buckets_apart m _ _ _ _ x.inside (omega arith) (a.data_free _ _ i x.set_known x.entry_known l);
      }

  -- two rows of one column in one entry
  rows_apart : (row row' c : ℕ) → Cell row c → Cell row' c → entry_in m row c ≡ entry_in m row' c → (row ≡ row' → ⊥) → Apart (place_of m row c) (place_of m row' c)
  rows_apart row row' c x y e n =
      let same = ap (first_row_of (set_of m c).lasts) e in
      let at = ap (λ (i : ℕ). get_or (set_of m c).buckets i 0 * m.size) e in
      let w = (column_at m c).bits in
      elim (dec_lt row row') [
        | yes l ↦
            let g : local_row m row c < local_row m row' c = omega (arith, x.starts, y.starts) in
            omega (arith, step w g)
        | no l ↦
            let g : local_row m row' c < local_row m row c = omega (arith, x.starts, y.starts) in
            omega (arith, step w g)
      ]

  -- two columns of one set in one bucket
  columns_apart : (row row' c d : ℕ) → Cell row c → Cell row' d → (c ≡ d → ⊥) → Kept m c → Kept m d
      → (column_at m c).set ≡ (column_at m d).set → bucket_in m row c ≡ bucket_in m row' d → Apart (place_of m row c) (place_of m row' d)
  columns_apart row row' c d x y l i j s e b p q p' q' =
      let z = bucket_in m row c * m.size in
      let same : z ≡ bucket_in m row' d * m.size = ap (λ (i : ℕ). i * m.size) e in
      a.extents_apart c d l i j s (record { one = omega (arith, y.ends); other = omega (arith, x.ends) })

  apart : (row c row' c' : ℕ) → Cell row c → Cell row' c' → Kept m c → Kept m c' → Differ row c row' c'
      → Apart (place_of m row c) (place_of m row' c')
  apart row c row' c' x y k k' n = elim (ℕ_discrete (bucket_in m row c) (bucket_in m row' c')) [
    | no d ↦ buckets_apart m _ _ _ _ x.inside y.inside d
    | yes e ↦ shared e (a.data_apart _ _ _ _ x.set_known y.set_known x.entry_known y.entry_known e)
  ]
    where
      shared : bucket_in m row c ≡ bucket_in m row' c' → ((column_at m c).set ≡ (column_at m c').set) × (entry_in m row c ≡ entry_in m row' c')
          → Apart (place_of m row c) (place_of m row' c')
      shared e (s, f) = elim (ℕ_discrete c c') [
        | yes q ↦ rw q (rows_apart row row' c' (rw q at x) y (rw q at f) (λ r. n r q))
        | no q ↦ columns_apart row row' c c' x y q k k' s e
      ]

  demand3 : (row c row' c' : ℕ) → row < m.rows → Kept m c → row' < m.rows → Kept m c' → Demand3 m (place_of m row c) (place_of m row' c') row c row' c'
  demand3 row c row' c' h k h' k' =
      record {
        apart = apart row c row' c' (cell row c h k) (cell row' c' h' k') k k';
        one = safe row c h k;
        other = safe row' c' h' k';
      }

pub every_two : EveryTwo
every_two m t = demand3 m (accepted m t)
