-- Sums that fit; the first bit and the looks as the map has them. Assumes nothing.
use mathlib.Core.Path.{◌≡◌, sym, ap, ◌∙◌}
use mathlib.Core.Bool.{Bool}
use mathlib.Core.List.{List}
use Prim.Native.Nat.{ℕ, ◌+◌, ◌-◌, ◌*◌, ◌≤◌, ◌<◌}
use native.Mathlib.Nat.{mul-le-mul}
use native.Mathlib.Omega.{arith}
use lib.Dec.{T}
use lib.ListN.{length, get_or}
use Rattle.standard_rules.specs.Map.{Map, column_at, set_of, first_row_of, covers, map_set}
use Rattle.standard_rules.specs.Place.{place_of, entry_of}
use Rattle.standard_rules.proofs.Entries.{found, covers_at, covers_end}
use Rattle.bytes_at.specs.Number.{bytes_of, int_width, int_bytes, uint_of, number_in, numbers_at}
use Rattle.standard_rules.specs.declared.Entry.{Entry}
use Rattle.standard_rules.specs.Looks.{halving_of, looks_of}
use Rattle.bytes_at.specs.declared.Width.{Width}
use Rattle.bytes_at.proofs.Listed.{numbers_length, number_at}
use Rattle.standard_index.proofs.rows.Starts.{first_row_is}
use Rattle.standard_rules.proofs.Halving.{search_entry}
use Rattle.standard_index.specs.Rows.{first_row_in}
use Rattle.standard_rules.specs.declared.Set.{Set}
use Rattle.standard.specs.Bit.{by_halving, local_by, bit_by_halving, located_by}

-- ---- no sum of a first bit wraps
pub product : {a b : ℕ} (m n : ℕ) → a ≤ m → b ≤ n → a * b ≤ m * n
product m n h k = mul-le-mul h k

-- a set's last rows, by their width as the code has it
module _ (s : Set) {width : Width} (w : width ≡ int_width s.wide) where
  module _ (big : Bool) (text : List ℕ) (row : ℕ) {e : Entry} {r : ℕ} (p : e ≡ halving_of (numbers_at big (bytes_of width) text s.lasts s.entries) row)
      (v : r ≡ row - first_row_in big (bytes_of width) text s.lasts e.at) where
    by_halving_lem : e ≡ by_halving big text s row
    by_halving_lem = p ∙ ap (λ (x : Width). halving_of (numbers_at big (bytes_of x) text s.lasts s.entries) row) w

    local_is : r ≡ local_by big text s row
    local_is =
        v ∙ ap (λ (x : Width). row - first_row_in big (bytes_of x) text s.lasts e.at) w
        ∙ ap (λ (x : Entry). row - first_row_in big (int_bytes s.wide) text s.lasts x.at) by_halving_lem

    -- the calls' results are the definition's numbers
    pub located : (size offset bits : ℕ) {b : ℕ} → b ≡ uint_of big 4 text (s.buckets + e.at * 4)
        → record { first = 8 * (512 + b * size + offset) + r * bits; looks = e.looks; entries = s.entries } ≡ located_by big text s size offset bits row
    unfolding bit_by_halving
    located size offset bits q = rw (q, local_is, by_halving_lem)

-- ---- in a set whose last rows cover the rows
module _ (big : Bool) (text : List ℕ) (s : Set) (rows row : ℕ) (v : T (covers rows s.per 0 (numbers_at big (int_bytes s.wide) text s.lasts s.entries))) (h : row < rows) where
  abbrev lasts : List ℕ
  lasts = numbers_at big (int_bytes s.wide) text s.lasts s.entries

  same_entry : (by_halving big text s row).at ≡ entry_of lasts row
  same_entry = search_entry rows s.per lasts row v h

  known : entry_of lasts row < s.entries
  known =
      let e : first_row_of lasts (length lasts) ≡ rows = covers_end rows s.per 0 lasts v in
      omega (arith, (found lasts row (omega arith)).known, numbers_length big (int_bytes s.wide) text s.lasts s.entries)

  pub some_entry : 0 < s.entries
  some_entry = omega (arith, known)

  pub entry_known : (by_halving big text s row).at < s.entries
  entry_known = omega (arith, same_entry, known)

  first_is : first_row_in big (int_bytes s.wide) text s.lasts (entry_of lasts row) ≡ first_row_of lasts (entry_of lasts row)
  first_is = first_row_is big (int_bytes s.wide) text s.lasts s.entries (entry_of lasts row) (omega (arith, known))

  -- "none spans more than rows per bucket"
  pub local_below : local_by big text s row < s.per
  local_below =
      let e : first_row_of lasts (length lasts) ≡ rows = covers_end rows s.per 0 lasts v in
      let r : local_by big text s row ≡ row - first_row_of lasts (entry_of lasts row) = rw (same_entry, first_is) in
      let x = found lasts row (omega arith) in
      omega (arith, r, x.reaches, x.starts, (covers_at rows s.per 0 lasts v (entry_of lasts row) x.known).high)

  -- the first bit that the halving rule gives is the map's
  pub bit_is : (m : Map) (c : ℕ) → set_of m c ≡ map_set big text s → bit_by_halving big text s m.size (column_at m c).offset (column_at m c).bits row ≡ (place_of m row c).first
  unfolding bit_by_halving
  bit_is m c e =
      let b : number_in big 4 text s.buckets (entry_of lasts row) ≡ get_or (numbers_at big 4 text s.buckets s.entries) (entry_of lasts row) 0
      = sym (number_at big 4 text s.buckets s.entries (entry_of lasts row) known) in
      rw (e, same_entry, b, first_is)

  -- and so are the looks and the entries
  pub looks_are : (m : Map) (c : ℕ) → set_of m c ≡ map_set big text s → record { looks = (by_halving big text s row).looks; entries = s.entries } ≡ looks_of m row c
  looks_are m c e = rw (e, numbers_length big (int_bytes s.wide) text s.lasts s.entries)
