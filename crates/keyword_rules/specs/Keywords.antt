-- RULES.md 4.16 and 4.17: the questions Keyword and Field.
use Rattle.std.specs.Prelude.{ℕ, ◌+◌, ◌≤◌, ◌<◌, ◌≡◌, List, [], Bool, true, cond, length, take, drop, eqb, ltb, None, Result, Ok, Err, ok_or}
use Rattle.bytes_at.specs.Bytes.{bytes}
use Rattle.bytes_at.specs.Steps.{◌>>=◌}
use Rattle.bytes_at.specs.declared.Refusal.{Refusal}
use Rattle.bytes_at.specs.Stages.{no_refusal, blaming, ◌▷◌, or_no, OthersCarry0}
use Rattle.aipsio_rules.specs.declared.Cursor.{Cursor}
use Rattle.aipsio_rules.specs.Field.{refusal_in, skipped, number_at, mark_at}
use Rattle.aipsio_rules.specs.Object.{opened, record_at}
use Rattle.table_rules.specs.declared.Column.{Column}
use Rattle.table_rules.specs.declared.Description.{Description}
use Rattle.table_rules.specs.ColumnDesc.{notes_at, layout_at}
use Rattle.table_rules.specs.Table.{whole_of, table_head_at, table_notes_at, described_as, column_in}
use Rattle.keyword_rules.specs.declared.Field.{Field}
use Rattle.keyword_rules.specs.declared.Walked.{Walked}
use Rattle.keyword_rules.specs.declared.Sought.{Sought}
use Rattle.keyword_rules.specs.declared.Sought.TheVariants.{Value as NamedValue, Field as FieldOf}
use Rattle.keyword_rules.specs.declared.Scope.{Scope}
use Rattle.keyword_rules.specs.declared.Scope.TheVariants.{Table as OfTable, Column as OfColumn}
use Rattle.keyword_rules.specs.declared.Keyword.{Keyword}
use Rattle.keyword_rules.specs.TableRecord.{whole_at, walk_at}

-- the bytes from one place to another, big endian
abbrev pub between : ℕ → ℕ → Cursor
between at end = record { at = at; end = end; big = true; refused = 0 }

-- the bytes from a place on
abbrev pub from : ℕ → List ℕ → Cursor
from at s = between at (length s)

-- where the table's keyword set begins: "TableDesc's first TableRecord", behind name, version and comment
unfoldable pub table_keywords : List ℕ → ℕ
table_keywords s = do
  c ← whole_of s
  m ← mark_at s c
  t ← opened s m (bytes "Table") 2 2
  head ← table_head_at s t.next
  o ← opened s head.next (bytes "TableDesc") 2 2
  notes ← table_notes_at s o.next
  notes.at

-- where a column's begins: behind its name, its notes, its layout and the string maximum
unfoldable pub column_keywords : List ℕ → Column → ℕ
column_keywords s column = do
  name ← skipped (from column.start s) column.len
  notes ← notes_at s name
  layout ← layout_at s notes column.array column.datatype.number
  maximum ← number_at s layout.next 4 0 65536
  maximum.next.at

abbrev pub keywords_of : List ℕ → Description → Scope → ℕ
keywords_of s d OfTable = table_keywords s
keywords_of s d (OfColumn k) = column_keywords s (column_in d k)

-- "A column of any manager has keywords."
abbrev pub is_scope : Description → Scope → Bool
is_scope d OfTable = true
is_scope d (OfColumn k) = ltb k d.column_count

-- an answer, unless a stage before it refuses
abbrev pub searched : Refusal → Result Field Refusal → Result Field Refusal
searched why found = cond (eqb why.number 0) found (Err why)

-- a walk through the keyword set that begins at a place: "at most eight deep, the outermost being 1"
unfoldable pub walked_at : List ℕ → List ℕ → Sought → ℕ → Walked
walked_at s path sought start = do
  b ← whole_at s (from start s) (from start s) 8
  walk_at 8 s path sought b (from 0 path) None

-- "1 to 7 and 15 in file order over that whole TableRecord, then 16"
unfoldable pub search_at : List ℕ → List ℕ → Sought → ℕ → Result Field Refusal
search_at s path sought start = do
  w ← walked_at s path sought start
  searched (refusal_in w.values) (ok_or w.found (blaming 16 0))

-- "the table's refusals, 8", then those of the keyword set
unfoldable pub keyword_search : List ℕ → Scope → List ℕ → Sought → Result Field Refusal
keyword_search s scope path sought = do
  d ← described_as s
  why ← d.refused ▷ or_no (is_scope d scope) 8
  searched why (search_at s path sought (keywords_of s d scope))

-- why an answer is refused: "A refusal carries its number", beside it its byte
abbrev pub refusal_of : Result Field Refusal → Refusal
refusal_of (Ok field) = no_refusal
refusal_of (Err why) = why

-- Keyword: "the type number, and the part of table.dat that holds the value"
abbrev pub keyword_in : Result Field Refusal → Result Keyword Refusal
keyword_in (Ok field) = Ok (record { number = field.number; start = field.start; len = field.len })
keyword_in (Err why) = Err why

abbrev pub keyword_of : List ℕ → Scope → List ℕ → Result Keyword Refusal
keyword_of s scope path = keyword_in (keyword_search s scope path NamedValue)

-- "its part of the caller's table.dat, the empty part where it is refused"
abbrev pub keyword_part : List ℕ → Result Field Refusal → List ℕ
keyword_part s (Ok field) = take field.len (drop field.start s)
keyword_part s (Err why) = []

-- where that part begins, the empty one at 0
abbrev pub part_start : Result Field Refusal → ℕ
part_start (Ok field) = field.start
part_start (Err why) = 0

-- Field: the field with a number "of the record that the path names, the whole keyword set where it is empty"
abbrev pub field_of : List ℕ → Scope → List ℕ → ℕ → Result Field Refusal
field_of s scope path n = keyword_search s scope path (FieldOf n)

-- where the keyword set that begins at a place ends: "A TableRecord (1) is passed over by its length."
abbrev pub keywords_end : List ℕ → ℕ → ℕ
keywords_end s set = (record_at s (from set s)).at

-- a part "lies inside the asked TableRecord, and is never empty"
pub record PartIn (s : List ℕ) (set start len : ℕ) : Type 0 where
  pub begins : set ≤ start
  pub some : 0 < len
  pub ends : start + len ≤ keywords_end s set
  pub file : keywords_end s set ≤ length s

-- and so does the name, which may be empty
pub record FoundThere (s : List ℕ) (set : ℕ) (found : Field) : Type 0 where
  pub part : PartIn s set found.start found.len
  pub name : found.name + found.name_len ≤ keywords_end s set

-- a refusal has a number, and "Others carry 0"
pub record Refuses (why : Refusal) : Type 0 where
  pub some : why.number ≡ 0 → ⊥
  pub others : OthersCarry0 why

-- Of every search: what is found is there.
abbrev pub SearchSays : List ℕ → Scope → Result Field Refusal → Type 0
SearchSays s scope (Ok field) = FoundThere s (keywords_of s (described_as s) scope) field
SearchSays s scope (Err why) = Refuses why

abbrev pub EveryKeyword : Type 0
EveryKeyword = (s : List ℕ) (scope : Scope) (path : List ℕ) (sought : Sought) → SearchSays s scope (keyword_search s scope path sought)

-- the same of what each question answers
abbrev pub KeywordThere : List ℕ → Scope → Result Keyword Refusal → Type 0
KeywordThere s scope (Ok keyword) = PartIn s (keywords_of s (described_as s) scope) keyword.start keyword.len
KeywordThere s scope (Err why) = Refuses why

abbrev pub FieldThere : List ℕ → Scope → Result Field Refusal → Type 0
FieldThere s scope x = SearchSays s scope x

-- "What refuses a keyword set does not hang on the path": a refusal that is not 16 is that of every question about it.
abbrev pub EveryPath : Type 0
EveryPath =
    (s : List ℕ) (scope : Scope) (path other : List ℕ) (sought sought' : Sought) (why : Refusal)
    → keyword_search s scope path sought ≡ Err why → (why.number ≡ 16 → ⊥)
    → keyword_search s scope other sought' ≡ Err why

-- "A TableRecord begins where a keyword set is looked for."
abbrev pub KeywordSetsThere : Type 0
KeywordSetsThere =
    (s : List ℕ) (scope : Scope) → (described_as s).refused.number ≡ 0 → is_scope (described_as s) scope ≡ true
    → (record_at s (from (keywords_of s (described_as s) scope) s)).refused ≡ 0
