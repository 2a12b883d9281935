-- Demand 3: places of different cells have no bit in common, and each lies within the data bucket that the index gives to its
-- row, off the header, the index buckets and the free buckets.
use Rattle.std.specs.Prelude.{ℕ, ◌+◌, ◌≤◌, ◌<◌, ◌≡◌, length, get_or, T}
use Rattle.standard_rules.specs.Place.{Bits, entry_in, bucket_in, bucket_bits, header_bits, place_of}
use Rattle.standard_rules.specs.Map.{Map, set_of, fits, Kept}

-- No bit in common.
abbrev pub Apart : Bits → Bits → Type 0
Apart p q = (b : ℕ) → p.first ≤ b → b < p.first + p.count → q.first ≤ b → b < q.first + q.count → ⊥

abbrev pub Inside : Bits → Bits → Type 0
Inside p q = (q.first ≤ p.first) × (p.first + p.count ≤ q.first + q.count)

-- "only its first promise needs the cells to differ"
abbrev pub Differ : ℕ → ℕ → ℕ → ℕ → Type 0
Differ row c row' c' = (row ≡ row') → (c ≡ c') → ⊥

-- What holds of the place p of one cell.
pub record Safe (m : Map) (p : Bits) (row c : ℕ) : Type 0 where
  -- the index has an entry for the row, and its bucket is one of the file's
  pub given : entry_in m row c < length (set_of m c).buckets
  pub in_range : bucket_in m row c < m.count
  pub inside : Inside p (bucket_bits m.size (bucket_in m row c))
  pub off_header : Apart p header_bits
  pub off_index : (i : ℕ) → i < length m.index → Apart p (bucket_bits m.size (get_or m.index i 0))
  pub off_free : (i : ℕ) → i < length m.free → Apart p (bucket_bits m.size (get_or m.free i 0))

-- Demand 3, of the places p and q of two cells of one file.
pub record Demand3 (m : Map) (p q : Bits) (row c row' c' : ℕ) : Type 0 where
  pub apart : Differ row c row' c' → Apart p q
  pub one : Safe m p row c
  pub other : Safe m q row' c'

-- Demand 3 of every two cells that an accepted map has, whatever their bits.
abbrev pub EveryTwo : Type 0
EveryTwo =
    (m : Map) → T (fits m) → (row c row' c' : ℕ) → row < m.rows → Kept m c → row' < m.rows → Kept m c'
    → Demand3 m (place_of m row c) (place_of m row' c') row c row' c'
