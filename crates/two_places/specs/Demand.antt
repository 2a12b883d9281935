-- What holds of the answers of Place: demand 3 (RULES.md 9.2) in StandardStMan, and what holds in
-- IncrementalStMan.
use Rattle.std.specs.Prelude.{ℕ, ◌≡◌, List, Result, Ok}
use Rattle.bytes_at.specs.declared.Refusal.{Refusal}
use Rattle.table_rules.specs.Table.{described_as}
use Rattle.standard_rules.specs.Demand.{Demand3}
use Rattle.standard_rules.specs.Map.{map_of}
use Rattle.lookup_rules.specs.declared.Asked.{Asked}
use Rattle.lookup_rules.specs.declared.Placed.{Placed}
use Rattle.lookup_rules.specs.Questions.{column_of}
use Rattle.lookup_rules.specs.Answers.{bits_of}
use Rattle.lookup_rules.specs.Demand.{carries, in_standard, in_incremental, SafeThere}

-- where both are placed, whatever the looks, both columns carry the sequence number, and the manager is a StandardStMan
pub record Demanded (t f : List ℕ) (row : ℕ) (a : Asked) (p : Result Placed Refusal) (row' : ℕ) (a' : Asked) (p' : Result Placed Refusal) : Type 0 where
  pub holds : (sequence : ℕ) (x x' : Placed) → in_standard t sequence → carries t a sequence → carries t a' sequence → p ≡ Ok x → p' ≡ Ok x'
      → Demand3 (map_of (described_as t) sequence f) (bits_of x) (bits_of x') row (column_of a) row' (column_of a')

-- where a cell of an IncrementalStMan file is placed
pub record PlacedThere (t f : List ℕ) (row : ℕ) (a : Asked) (p : Result Placed Refusal) : Type 0 where
  pub safe : (sequence : ℕ) (x : Placed) → in_incremental t sequence → carries t a sequence → p ≡ Ok x → SafeThere t f (bits_of x) row
