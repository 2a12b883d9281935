-- A question that asks for a cell asks for a row and a column, and of the column's own manager.
-- Assumes nothing.
use mathlib.Core.Path.{◌≡◌, refl}
use mathlib.Core.Bool.{Bool, true, cond}
use Prim.Native.Nat.{ℕ, ◌<◌}
use lib.Dec.{T, ltb→lt}
use Rattle.standard_rules.specs.Place.{Bits}
use Rattle.lookup_rules.specs.declared.Question.{Question}
use Rattle.lookup_rules.specs.declared.Question.TheVariants.{Check, Prepare, Place, View, PlaceInBucket}
use Rattle.lookup_rules.specs.declared.Request.{Request}
use Rattle.lookup_rules.specs.Questions.{request_of, sequence_for, is_column, is_below, no_bits}

pub record Cell (r : Request) : Type 0 where
  pub cell : r.cell ≡ true
  pub column : r.column ≡ true

-- a cell is a column's
pub cell_asked : (q : Question) → T (request_of q).cell → Cell (request_of q)
cell_asked (Check n) w = absurd w
cell_asked (Prepare c) w = absurd w
cell_asked (Place row a) w = record { cell = refl; column = refl }
cell_asked (View row a) w = record { cell = refl; column = refl }
cell_asked (PlaceInBucket row c) w = record { cell = refl; column = refl }

pub cell_sequence : (r : Request) (own : ℕ) → Cell r → sequence_for r own ≡ own
cell_sequence r own w = rw w.column

pub cell_column : (r : Request) (count : ℕ) → Cell r → T (is_column r count) → r.position < count
cell_column r count w h = ltb→lt r.position count (rw w.column at h)

pub cell_row : (r : Request) (rows : ℕ) → Cell r → T (is_below r rows) → r.row < rows
cell_row r rows w h = ltb→lt r.row rows (rw w.cell at h)

-- where a cell is asked for, its bits are answered
pub cell_bits_lem : (k : Bool) (b : Bits) → k ≡ true → record { first = (cond k b no_bits).first; count = (cond k b no_bits).count } ≡ b
cell_bits_lem k b e = rw e
