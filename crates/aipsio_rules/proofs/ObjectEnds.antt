-- An object does not leave its container: the end of an unrefused cursor is not after the end before.
-- Assumes nothing.
use mathlib.Core.List.{List}
use Prim.Native.Nat.{ℕ, ◌≤◌}
use native.Mathlib.Omega.{arith}
use Rattle.bytes_at.specs.Steps.{◌>>=◌}
use Rattle.aipsio_rules.specs.declared.Cursor.{Cursor}
use Rattle.aipsio_rules.specs.Field.{settled}
use Rattle.aipsio_rules.proofs.Kept.{Clean, clean_before, ◌⨟◌}
use Rattle.aipsio_rules.proofs.Ends.{Stays, end_of}
use Rattle.aipsio_rules.specs.Object.{opened, closed, block_at, row_block_at, map_at}
use Rattle.aipsio_rules.proofs.ObjectKept.{opened_reads, closed_keeps, block_reads, row_block_reads, map_keeps}
use Rattle.aipsio_rules.proofs.ObjectAccepted.{closed_is, opened_inside}

module _ (s : List ℕ) (c : Cursor) where
  pub opened_stays : (expected : List ℕ) (low high : ℕ) → Stays c (opened s c expected low high).next
  opened_stays expected low high = record {
    keeps = (opened_reads s c expected low high).keeps;
    ends = λ h. (opened_inside s c expected low high h).within;
  }

  map_ends : Clean (map_at s c) → (map_at s c).end ≤ c.end
  unfolding map_at ◌>>=◌
  map_ends h = end_of (closed_is _ c h)

  pub map_stays : Stays c (map_at s c)
  map_stays = record { keeps = map_keeps s c; ends = map_ends }

  block_ends : (n : ℕ) → Clean (block_at s c n).next → (block_at s c n).next.end ≤ c.end
  unfolding block_at settled ◌>>=◌
  block_ends n h = end_of (closed_is _ c h)

  pub block_stays : (n : ℕ) → Stays c (block_at s c n).next
  block_stays n = record { keeps = (block_reads s c n).keeps; ends = block_ends n }

  row_block_ends : (n width : ℕ) → Clean (row_block_at s c n width).next → (row_block_at s c n width).next.end ≤ c.end
  unfolding row_block_at settled ◌>>=◌
  row_block_ends n width h = end_of (closed_is _ c h)

  pub row_block_stays : (n width : ℕ) → Stays c (row_block_at s c n width).next
  row_block_stays n width = record { keeps = (row_block_reads s c n width).keeps; ends = row_block_ends n width }

-- out of an object, to the end of its container
pub closed_stays : {c outer d : Cursor} → Stays c outer → Stays outer d → Stays c (closed d outer)
closed_stays {outer = outer} {d = d} a b = record {
  keeps = a.keeps ⨟ b.keeps ⨟ closed_keeps d outer;
  ends = λ h. let p = end_of (closed_is d outer h) in let q = a.ends (clean_before (b.keeps ⨟ closed_keeps d outer) h) in omega arith;
}
