-- How the code goes through the check of an IncrementalStMan file.
use Rattle.std.specs.Prelude.{ℕ, Bool, ◌≡◌, ◌≢◌, List, length}
use Rattle.incremental_rules.specs.declared.Checked.{Checked}
use Rattle.incremental_rules.specs.declared.Cells.{Cells}
use Rattle.incremental_rules.specs.declared.Found.{Found}
use Rattle.incremental_rules.specs.declared.Index.{Index}
use Rattle.bytes_at.specs.declared.Refusal.{Refusal}
use Rattle.bytes_at.specs.Stages.{no_refusal}
use Rattle.incremental_rules.specs.Header.{header_at}
use Rattle.incremental_rules.specs.Index.{index_of}
use Rattle.incremental_rules.specs.Check.{before_buckets}

-- "A refusal carries its number and zeros", and beside them its byte.
unfoldable pub refused_file : Refusal → Checked
refused_file why = record { refused = why; size = 0; first = 0 }

-- why stages refuse
abbrev pub Refused : Refusal → Refusal → Type 0
Refused why stages = (why ≡ stages) × (why.number ≢ 0)

-- where none of the parts before the buckets is refused: the bucket size, and the index
pub record PartsRead (rows : ℕ) (big : Bool) (f : List ℕ) (refused : Refusal) (size : ℕ) (x : Index) : Type 0 where
  pub before : (before_buckets rows big f refused).number ≡ 0
  pub size_is : size ≡ (header_at f big).size
  pub index_is : x ≡ index_of f big (header_at f big)

-- columns with these bytes, of which one is asked for
abbrev pub kept_cells : List ℕ → ℕ → Cells
kept_cells bytes column = record { bytes = bytes; count = length bytes; column = column }

-- what was found, where no bucket is refused
abbrev pub found_at : ℕ → ℕ → Found
found_at start offset = record { start = start; offset = offset; refused = no_refusal }

-- why the search for a cell is refused
abbrev pub Refuses : Refusal → Found → Type 0
Refuses why found = Refused why found.refused
