-- How the code finds the cell that a question asks for, by the lent room, and leaves the room.
use Rattle.std.specs.Prelude.{Bool, ◌&&◌, not, cond, eqb, ℕ, ◌≤◌, ◌<◌, List, length, replicate}
use Rattle.lookup_rules.specs.declared.Staged.{Staged}
use Rattle.standard_index.specs.Bounds.{SetInside}
use Rattle.standard.specs.Bit.{local_by, located_by, no_cell}
use Rattle.standard.specs.declared.Located.{Located}
use Rattle.lookup_rules.specs.declared.Request.{Request}
use Rattle.lookup_rules.specs.Questions.{answered}
use Rattle.lookup_rules.specs.declared.Answer.{Answer}

-- "It is all zero after every refusal and for every IncrementalStMan file"
abbrev pub keeps_text : Staged → Bool
keeps_text s = eqb s.refused.number 0 && not s.incremental

unfoldable pub room_settled : Bool → List ℕ → List ℕ
room_settled keep room = cond keep room (replicate (length room) 0)

-- The index text in the room has the column's set, and no sum of a place wraps.
pub record Findable (text : List ℕ) (s : Staged) (row : ℕ) : Type 0 where
  pub inside : SetInside (length text) s.set
  pub some : 0 < s.set.entries
  pub size_most : s.plan.size ≤ 1048576
  pub offset_most : s.plan.offset < 4294967296
  pub bits_most : s.plan.bits ≤ 4294967296
  pub local_below : local_by s.big text s.set row < s.set.per

-- the cell, zeros where none is asked for or the question is refused
unfoldable pub cell_found : List ℕ → Staged → Request → Located
cell_found text s r =
    let there : Located = record { first = s.first; looks = 0; entries = 0 } in
    let here = located_by s.big text s.set s.plan.size s.plan.offset s.plan.bits r.row in
    let cell = cond s.incremental there here in
    cond (eqb s.refused.number 0 && r.cell) cell no_cell

-- the answer with a cell
abbrev pub answer_with : Request → Staged → Located → Answer
answer_with r s x =
    answered r s (record { first = x.first; count = s.plan.bits }) (record { looks = x.looks; entries = x.entries })
