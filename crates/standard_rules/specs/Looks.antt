-- RULES.md 5.9, the looks: the search for a row's entry by halving, and how many last rows it looks at.
use Rattle.std.specs.Prelude.{ℕ, zero, suc, ◌+◌, ◌/◌, ◌-◌, ◌^◌, ◌≤◌, ◌<◌, cond, List, ◌≡◌, get_or, length, leb, ltb}
use Rattle.bytes_at.specs.Lists.{first_below}
use Rattle.table_rules.specs.declared.Description.{Description}
use Rattle.standard_rules.specs.declared.Entry.{Entry}
use Rattle.standard_rules.specs.Map.{Map, set_of, map_of, Kept}
use Rattle.standard_rules.specs.Check.{Accepted}
use Rattle.standard_rules.specs.Place.{entry_in}

-- "while more than one entry is possible, look at the middle one (first and last numbers added, halved, rounded down); if its
-- last row is not below the row, keep up to it, else keep what follows": the entries `first` to `last` are possible, after so
-- many looks, and at most m looks follow
unfoldable pub halve : List ℕ → ℕ → ℕ → ℕ → ℕ → ℕ → Entry
halve lasts row zero first last looks = record { at = first; looks = looks }
halve lasts row (suc m) first last looks =
    let middle = (first + last) / 2 in
    let up_to = halve lasts row m first middle (looks + 1) in
    let follows = halve lasts row m (middle + 1) last (looks + 1) in
    let next = cond (leb row (get_or lasts middle 0)) up_to follows in
    cond (ltb first last) next (record { at = first; looks = looks })

-- all entries are possible, and none is looked at; each look leaves fewer, so that no more follow than there are entries
unfoldable pub halving_of : List ℕ → ℕ → Entry
halving_of lasts row = halve lasts row (length lasts) 0 (length lasts - 1) 0

-- The rule comes to its end by itself: it gives the same where more looks may follow.
abbrev pub HalvingEnds : Type 0
HalvingEnds = (lasts : List ℕ) (row m : ℕ) → length lasts ≤ m → halve lasts row m 0 (length lasts - 1) 0 ≡ halving_of lasts row

-- What Place tells of the search: "how many last-row entries the final search looked at", and how many the column's set has.
pub record Looks : Type 0 where
  pub looks : ℕ
  pub entries : ℕ

-- "The count is that rule's": of the cell of a row in the column at a position
abbrev pub looks_of : Map → ℕ → ℕ → Looks
looks_of m row c = record { looks = (halving_of (set_of m c).lasts row).looks; entries = length (set_of m c).lasts }

-- "the bit length": the fewest bits that hold a number. A number n has no more than n bits.
unfoldable pub bit_length : ℕ → ℕ
bit_length n = first_below (λ (bits : ℕ). ltb n (2 ^ bits)) n

-- The bounds of the looks.
pub record FewLooks (n : Looks) : Type 0 where
  -- "at most the bit length of the entry count less 1"
  pub bounded : n.looks ≤ bit_length (n.entries - 1)
  -- "0 for one entry"
  pub none : n.entries ≡ 1 → n.looks ≡ 0
  -- "12 for 4,095": never more
  pub most : n.looks ≤ 12
  -- "the most there can be"
  pub most_entries : n.entries ≤ 4095

-- What holds of the search for a row of the column at a position: it ends at "the first in its column's set whose last row is not
-- below it", after few looks.
pub record FindsEntry (m : Map) (row c : ℕ) : Type 0 where
  pub ends : (halving_of (set_of m c).lasts row).at ≡ entry_in m row c
  pub few : FewLooks (looks_of m row c)

-- Of every cell of every accepted file.
abbrev pub EverySearch : Type 0
EverySearch =
    (d : Description) (sequence : ℕ) (f : List ℕ) (l row c : ℕ)
    → Accepted d sequence f l
    → row < d.rows
    → Kept (map_of d sequence f) c
    → FindsEntry (map_of d sequence f) row c
