-- RULES.md 7, the questions: what each question answers, and the room afterwards.
use Rattle.std.specs.Prelude.{ℕ, ◌*◌, List, Bool, true, false, cond, not, ◌&&◌, ◌||◌, get_or, replicate, eqb, ltb}
use Rattle.bytes_at.specs.Lists.{◌⇒◌, first_below}
use Rattle.bytes_at.specs.Steps.{◌>>=◌}
use Rattle.bytes_at.specs.Stages.{no_refusal, ◌▷◌, or_no}
use Rattle.table_rules.specs.declared.Kind.{Kind}
use Rattle.table_rules.specs.declared.Kind.TheVariants.{Other, Standard, Incremental}
use Rattle.table_rules.specs.declared.Manager.{Manager}
use Rattle.table_rules.specs.DataType.{is_bool, is_string}
use Rattle.table_rules.specs.declared.Description.{Description}
use Rattle.table_rules.specs.ColumnDesc.{no_column}
use Rattle.table_rules.specs.ColumnSet.{no_manager}
use Rattle.table_rules.specs.Table.{described_as, column_in, binding_in}
use Rattle.standard_rules.specs.declared.Checked.{Checked}
use Rattle.standard_rules.specs.Header.{header_at}
use Rattle.standard_rules.specs.Index.{no_set, index_text_of}
use Rattle.standard_rules.specs.Map.{ceil8, map_of}
use Rattle.standard_rules.specs.Check.{checked_as, padded}
use Rattle.standard_rules.specs.Place.{Bits, place_of}
use Rattle.standard_rules.specs.Looks.{Looks, looks_of}
use Rattle.incremental_rules.specs.declared.Checked.{Checked as IncrementalChecked}
use Rattle.incremental_rules.specs.Place.{place_of as incremental_place}
use Rattle.incremental_rules.specs.OneBucket.{checked_by}
use Rattle.lookup_rules.specs.declared.Plan.{Plan}
use Rattle.lookup_rules.specs.declared.Asked.{Asked}
use Rattle.lookup_rules.specs.declared.Asked.TheVariants.{Position, Planned}
use Rattle.lookup_rules.specs.declared.Question.{Question}
use Rattle.lookup_rules.specs.declared.Question.TheVariants.{Check, Prepare, Place, View, PlaceInBucket}
use Rattle.lookup_rules.specs.declared.Request.{Request}
use Rattle.lookup_rules.specs.declared.Target.{Target}
use Rattle.lookup_rules.specs.declared.FileChecked.{FileChecked}
use Rattle.lookup_rules.specs.declared.Staged.{Staged}
use Rattle.lookup_rules.specs.declared.Answer.{Answer}

-- ---- what is asked
abbrev pub no_plan : Plan
no_plan = record { position = 0; sequence = 0; datatype = 0; elements = 0; bits = 0; set = 0; offset = 0; per = 0; size = 0 }

-- "a plan's cell is in the plan's column"
abbrev pub column_of : Asked → ℕ
column_of (Position c) = c
column_of (Planned p) = p.position

abbrev pub is_planned : Asked → Bool
is_planned (Position c) = false
is_planned (Planned p) = true

abbrev pub plan_of : Asked → Plan
plan_of (Position c) = no_plan
plan_of (Planned p) = p

-- a cell of a row, or its view
abbrev pub cell_of : ℕ → Asked → Bool → Request
cell_of row a view = record {
  column = true;
  cell = true;
  view = view;
  planned = is_planned a;
  own = false;
  sequence = 0;
  row = row;
  position = column_of a;
  plan = plan_of a;
}

-- a question, read once; what it does not ask for is 0
abbrev pub request_of : Question → Request
request_of (Check n) =
    record { column = false; cell = false; view = false; planned = false; own = false; sequence = n; row = 0; position = 0; plan = no_plan }
request_of (Prepare c) =
    record { column = true; cell = false; view = false; planned = false; own = false; sequence = 0; row = 0; position = c; plan = no_plan }
request_of (Place row a) = cell_of row a false
request_of (View row a) = cell_of row a true
request_of (PlaceInBucket row c) =
    record { column = true; cell = true; view = false; planned = false; own = true; sequence = 0; row = row; position = c; plan = no_plan }

-- ---- "manager and column (8)"
-- whether the column exists, where one is asked for
abbrev pub is_column : Request → ℕ → Bool
is_column r count = r.column ⇒ ltb r.position count

-- the manager is the column's; a check names its own
abbrev pub sequence_for : Request → ℕ → ℕ
sequence_for r own = cond r.column own r.sequence

-- the kind of the manager with a sequence number; where no manager has it, none of the two
unfoldable pub kind_with : List Manager → ℕ → ℕ → Kind
kind_with managers count sequence =
    let k = first_below (λ (i : ℕ). eqb (get_or managers i no_manager).number sequence) count in
    let kind = (get_or managers k no_manager).kind in
    cond (ltb k count) kind Other

abbrev pub is_incremental : Kind → Bool
is_incremental Other = false
is_incremental Standard = false
is_incremental Incremental = true

-- "For a column of type String, arrays too, .. plan, place and view give 8"
abbrev pub is_placed : Request → ℕ → Bool
is_placed r datatype = r.column ⇒ not (is_string datatype)

-- whether a question can be asked of a manager of a kind; "columns of other kinds are described, and have no place"; the question of
-- the row's own bucket is IncrementalStMan's
abbrev pub is_held : Kind → Bool → Bool → Bool
is_held Other placed own = false
is_held Standard placed own = not own
is_held Incremental placed own = placed

-- "no such column or manager, or the manager is not of the asked kind": 8
unfoldable pub target_of : Description → Request → Target
target_of d r = do
  known ← is_column r d.column_count
  r1 ← d.refused ▷ or_no known 8
  b ← binding_in d r.position
  sequence ← sequence_for r b.sequence
  kind ← kind_with d.managers d.manager_count sequence
  c ← column_in d r.position
  placed ← is_placed r c.datatype.number
  held ← is_held kind placed r.own
  r2 ← r1 ▷ or_no held 8
  incremental ← is_incremental kind
  record { refused = r2; position = r.position; sequence = sequence; incremental = incremental; column = c; binding = b }

-- ---- "file check", by the manager's kind; in IncrementalStMan whole or, with the row (9) ahead of the bucket, of the row's own bucket
abbrev pub of_standard : Checked → FileChecked
of_standard m = record { refused = m.refused; size = m.size; set = m.set; first = 0 }

abbrev pub of_incremental : IncrementalChecked → FileChecked
of_incremental m = record { refused = m.refused; size = m.size; set = no_set; first = m.first }

unfoldable pub file_of : Description → Target → List ℕ → Bool → ℕ → ℕ → FileChecked
file_of d g f own row l =
    let standard = of_standard (checked_as d g.sequence f g.refused g.binding.set l) in
    let incremental = of_incremental (checked_by own d g.sequence f g.refused g.position row) in
    cond g.incremental incremental standard

-- ---- "plan (12)"
-- "0, 0, 0 and bucket size for IncrementalStMan"
abbrev pub if_standard : Bool → ℕ → ℕ
if_standard incremental n = cond incremental 0 n

-- "Cells take ceiling(bits / 8) x 8 bits, in the plan too": those of IncrementalStMan
abbrev pub bits_in : Bool → ℕ → ℕ
bits_in incremental bits = cond incremental (8 * ceil8 bits) bits

-- "a plain record of position, sequence number, data type, element count, cell bits, set, offset, rows per bucket and bucket
-- size", of the column at a position now
unfoldable pub plan_for : Target → FileChecked → Plan
plan_for g m = do
  bits ← bits_in g.incremental g.column.bits
  set ← if_standard g.incremental g.binding.set
  offset ← if_standard g.incremental g.binding.offset
  per ← if_standard g.incremental m.set.per
  record {
    position = g.position;
    sequence = g.binding.sequence;
    datatype = g.column.datatype.number;
    elements = g.column.elements;
    bits = bits;
    set = set;
    offset = offset;
    per = per;
    size = m.size;
  }

-- two plans that agree in every field
unfoldable pub same_plan : Plan → Plan → Bool
same_plan a b = do
  r1 ← eqb a.position b.position && eqb a.sequence b.sequence
  r2 ← r1 && eqb a.datatype b.datatype
  r3 ← r2 && eqb a.elements b.elements
  r4 ← r3 && eqb a.bits b.bits
  r5 ← r4 && eqb a.set b.set
  r6 ← r5 && eqb a.offset b.offset
  r7 ← r6 && eqb a.per b.per
  r7 && eqb a.size b.size

-- a prepared plan is the one that would be made now, else 12
abbrev pub is_fresh : Request → Plan → Bool
is_fresh r p = r.planned ⇒ same_plan r.plan p

-- ---- "row (9), 14"
-- "row not below the row count": 9
abbrev pub is_below : Request → ℕ → Bool
is_below r rows = r.cell ⇒ ltb r.row rows

-- "view of a Bool column, scalar or any array, in StandardStMan": 14
abbrev pub is_seen : Request → Bool → ℕ → Bool
is_seen r incremental datatype = r.view ⇒ incremental || not (is_bool datatype)

-- these stages, after the file check's
unfoldable pub stages_after : Request → Target → FileChecked → ℕ → Bool → Staged
stages_after r g m rows big = do
  p ← plan_for g m
  fresh ← is_fresh r p
  r1 ← m.refused ▷ or_no fresh 12
  below ← is_below r rows
  r2 ← r1 ▷ or_no below 9
  seen ← is_seen r g.incremental p.datatype
  r3 ← r2 ▷ or_no seen 14
  record {
    refused = r3;
    plan = p;
    sequence = g.sequence;
    column = g.column;
    incremental = g.incremental;
    big = big;
    set = m.set;
    first = m.first;
  }

-- "Order: table, manager and column (8), file check, plan (12), row (9), 14."
unfoldable pub stages_of : List ℕ → List ℕ → Request → ℕ → Staged
stages_of t f r l = do
  d ← described_as t
  g ← target_of d r
  m ← file_of d g f r.own r.row l
  stages_after r g m d.rows d.big

-- ---- what is answered
-- the place of a cell in the file of the manager with a sequence number, by the manager's kind
unfoldable pub place_in : Description → Bool → ℕ → List ℕ → ℕ → ℕ → Bits
place_in d incremental sequence f row position =
    let there = incremental_place d sequence f position row in
    let here = place_of (map_of d sequence f) row position in
    cond incremental there here

abbrev pub no_bits : Bits
no_bits = record { first = 0; count = 0 }

abbrev pub no_looks : Looks
no_looks = record { looks = 0; entries = 0 }

-- the looks of the search for it; "a place in IncrementalStMan, has count 0"
unfoldable pub looks_in : Description → Bool → ℕ → List ℕ → ℕ → ℕ → Looks
looks_in d incremental sequence f row position =
    let here = looks_of (map_of d sequence f) row position in
    cond incremental no_looks here

-- "A refusal carries its number and zeros", and beside them its byte. Every other answer has the file's bucket size; a check answers
-- no plan and no column, and only a place or a view has bits and looks.
unfoldable pub answered : Request → Staged → Bits → Looks → Answer
answered r s b n =
    let plan = cond r.column s.plan no_plan in
    let column = cond r.column s.column no_column in
    let bits = cond r.cell b no_bits in
    let looks = cond r.cell n no_looks in
    cond (eqb s.refused.number 0)
    (record {
      refused = no_refusal;
      size = s.plan.size;
      plan = plan;
      column = column;
      first = bits.first;
      count = bits.count;
      looks = looks.looks;
      entries = looks.entries;
    })
    (record { refused = s.refused; size = 0; plan = no_plan; column = no_column; first = 0; count = 0; looks = 0; entries = 0 })

unfoldable pub answer_for : List ℕ → List ℕ → Request → ℕ → Answer
answer_for t f r l =
    let s = stages_of t f r l in
    answered r s
    (place_in (described_as t) s.incremental s.sequence f r.row r.position)
    (looks_in (described_as t) s.incremental s.sequence f r.row r.position)

-- "It is all zero after every refusal and for every IncrementalStMan file; after acceptance in StandardStMan it holds the index
-- text, then zeros."
unfoldable pub room_for : List ℕ → List ℕ → Request → ℕ → List ℕ
room_for t f r l =
    let s = stages_of t f r l in
    cond (eqb s.refused.number 0 && not s.incremental)
    (padded l (index_text_of f (header_at f (described_as t).big)))
    (replicate l 0)

-- Every question over a table and a data file, lent an index room of l bytes: the answer, and the room afterwards.
abbrev pub answer_of : List ℕ → List ℕ → Question → ℕ → Answer
answer_of t f q l = answer_for t f (request_of q) l

abbrev pub room_after : List ℕ → List ℕ → Question → ℕ → List ℕ
room_after t f q l = room_for t f (request_of q) l
