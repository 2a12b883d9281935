-- RULES.md 4.6 to 4.9, and Note 260, 3.1.2: ColumnSet, its fields in file order: row count, data managers, ColumnInfo, DMInfo.
use Rattle.std.specs.Prelude.{ℕ, ◌+◌, ◌-◌, ◌*◌, ◌≡◌, List, eqb, leb, ltb, cond, Bool, true, ◌&&◌, ◌||◌, get_or, take, drop, set, replicate, Option, Some, None, MatchOption}
use Rattle.bytes_at.specs.Steps.{◌>>=◌, after}
use Rattle.aipsio_rules.specs.declared.Cursor.{Cursor}
use Rattle.aipsio_rules.specs.declared.Text.{Text}
use Rattle.aipsio_rules.specs.Field.{minus_two, minus_three, judged, uint_at, number_at, version_at, string_at, flag_at, mark_at, text_at, container_of}
use Rattle.table_rules.specs.declared.ColumnSetHead.{ColumnSetHead}
use Rattle.bytes_at.specs.Bytes.{bytes, same_bytes}
use Rattle.table_rules.specs.declared.Kind.{Kind}
use Rattle.table_rules.specs.declared.Kind.TheVariants.{Other, Standard, Incremental}
use Rattle.bytes_at.specs.Lists.{first_below}
use Rattle.table_rules.specs.declared.Column.{Column}
use Rattle.table_rules.specs.ColumnDesc.{no_column}
use Rattle.table_rules.specs.declared.Manager.{Manager}
use Rattle.table_rules.specs.declared.Managers.{Managers}
use Rattle.table_rules.specs.declared.Sequence.{Sequence}
use Rattle.aipsio_rules.specs.Object.{iposition_at, opened, closed, block_at}
use Rattle.table_rules.specs.declared.Owner.{Owner}
use Rattle.table_rules.specs.declared.Owners.{Owners}
use Rattle.table_rules.specs.declared.Info.{Info}
use Rattle.table_rules.specs.declared.InfoRead.{InfoRead}
use Rattle.table_rules.specs.declared.Infos.{Infos}
use Rattle.table_rules.specs.declared.Binding.{Binding}
use Rattle.bytes_at.specs.Number.{bytes_of, int_width, uint_of, number_in}

-- "rows 0 to 2 to the power 62"
abbrev pub most_rows : ℕ
most_rows = 4611686018427387904

-- "ColumnSet version -2 or -3", the row count, an Int64 in version -3, the highest sequence number, "managers 1 to 16".
-- In version -2 the row count is the one in Table's header (else 6); "With ColumnSet -3 the count in the Table header is not compared."
unfoldable pub column_set_head_at : List ℕ → Cursor → ℕ → ColumnSetHead
column_set_head_at s c rows = do
  v ← version_at s c minus_three minus_two
  wide ← eqb v.value minus_three
  width ← int_width wide
  r ← number_at s v.next (bytes_of width) 0 most_rows
  ok ← wide || eqb r.value rows
  k ← judged r.next v.next.at ok 6
  highest ← uint_at s k
  n ← number_at s highest.next 4 1 16
  record { rows = r.value; highest = highest.value; count = n.value; next = n.next }

-- "A manager's kind is its name"
unfoldable pub kind_of : List ℕ → Kind
kind_of name =
    cond (same_bytes name (bytes "StandardStMan")) Standard
    (cond (same_bytes name (bytes "IncrementalStMan")) Incremental Other)

-- no manager: zeros
unfoldable pub no_manager : Manager
no_manager = record { start = 0; number = 0; len = 0; kind = Other }

-- the first of n managers with the sequence number, or n
unfoldable pub first_number : List Manager → ℕ → ℕ → ℕ
first_number managers n number = first_below (λ (i : ℕ). eqb (get_or managers i no_manager).number number) n

-- neither an earlier manager's number nor above the highest
abbrev pub is_new : ℕ → ℕ → ℕ → ℕ → Bool
is_new first i number highest = eqb first i && leb number highest

-- one manager more, at i: "a sequence number twice, a sequence number above the highest" is 6
unfoldable pub manager_into : List ℕ → ℕ → Managers → ℕ → Managers
manager_into s highest ms i = do
  name ← string_at s ms.next 0 4096
  number ← uint_at s name.next
  k ← first_number ms.managers i number.value
  ok ← is_new k i number.value highest
  d ← judged number.next name.next.at ok 6
  found ← take name.len (drop name.start s)
  kind ← kind_of found
  record {
    managers = set ms.managers i (record { start = name.start; number = number.value; len = name.len; kind = kind });
    next = d;
  }

-- n managers
unfoldable pub managers_at : List ℕ → Cursor → ℕ → ℕ → Managers
managers_at s c n highest = after (manager_into s highest) (record { managers = replicate 16 no_manager; next = c }) n

-- ColumnInfo: version 2, original name, version 1, sequence number
unfoldable pub sequence_at : List ℕ → Cursor → Sequence
sequence_at s c = do
  v ← version_at s c 2 2
  name ← string_at s v.next 0 4096
  w ← version_at s name.next 1 1
  q ← uint_at s w.next
  record { value = q.value; from = w.next.at; next = q.next }

-- the rest of an array's ColumnInfo: "the shape of each array in the column; only if shapeColDef is True"
unfoldable pub own_shape_at : List ℕ → Cursor → Bool → Cursor
own_shape_at s c array =
    cond array
    (do
      own ← flag_at s c
      cond (eqb own.value 0) own.next (iposition_at s own.next))
    c

-- no owner: zeros
unfoldable pub no_owner : Owner
no_owner = record { sequence = 0; manager = 0; rank = 0 }

-- ColumnInfo of one column more, at i: a sequence number that no manager has is 6. A column's rank is the number of
-- earlier columns with the same manager.
unfoldable pub owner_into : List ℕ → List Column → List Manager → ℕ → Owners → ℕ → Owners
owner_into s columns managers m os i = do
  q ← sequence_at s os.next
  k ← first_number managers m q.value
  d ← judged q.next q.from (ltb k m) 6
  rank ← get_or os.counts k 0
  e ← own_shape_at s d (get_or columns i no_column).array
  record {
    owners = set os.owners i (record { sequence = q.value; manager = k; rank = rank });
    counts = set os.counts k (rank + 1);
    next = e;
  }

-- ColumnInfo of n columns
unfoldable pub owners_at : List ℕ → Cursor → List Column → ℕ → List Manager → ℕ → Owners
owners_at s c columns n managers m =
    after (owner_into s columns managers m) (record { owners = replicate 64 no_owner; counts = replicate 16 0; next = c }) n

-- DMInfo of both managers has two forms. It is an object "exactly when it has at least 4 bytes and the first 4 are the mark".
abbrev pub is_object : List ℕ → Text → Bool
is_object s t = leb 4 t.len && eqb (uint_of true 4 s t.start) 0xbebebebe

-- The old form, t, whose length stands at the cursor: "set numbers, then offsets, 8 bytes for each column bound to it", of n
-- columns; another length is 7. The offsets end with it, so they begin 4 x n bytes after the set numbers (OffsetsBehindSets).
unfoldable pub lists_in : Cursor → Text → ℕ → InfoRead
lists_in c t n = do
  d ← judged t.next c.at (eqb t.len (8 * n)) 7
  record { info = Some (record { sets = t.start; offsets = t.next.at - 4 * n }); next = d }

-- Of every DMInfo of this form that is not refused, which tells both.
abbrev pub OffsetsBehindSets : Type 0
OffsetsBehindSets =
    (s : List ℕ) (c : Cursor) (n : ℕ) → (lists_in c (text_at s c) n).next.refused ≡ 0
    → MatchOption (lists_in c (text_at s c) n).info ⊥ (λ (i : Info). i.offsets ≡ i.sets + 4 * n)

-- The new form of StandardStMan: "an object SSM, version 2: the manager's name, a Block of offsets, then a Block of set numbers",
-- n of each, else 6
unfoldable pub ssm_at : List ℕ → Cursor → ℕ → InfoRead
ssm_at s c n = do
  m ← mark_at s c
  o ← opened s m (bytes "SSM") 2 2
  name ← string_at s o.next 0 4096
  offsets ← block_at s name.next n
  sets ← block_at s offsets.next n
  d ← closed sets.next m
  record { info = Some (record { sets = sets.value; offsets = offsets.value }); next = d }

-- The new form of IncrementalStMan: "an object ISM, version 3, with the name only"
unfoldable pub ism_at : List ℕ → Cursor → InfoRead
ism_at s c = do
  m ← mark_at s c
  o ← opened s m (bytes "ISM") 3 3
  name ← string_at s o.next 0 4096
  d ← closed name.next m
  record { info = None; next = d }

-- out of DMInfo, whose length stands at the cursor, after the object in it: bytes that are left are 7 at that length
unfoldable pub after_object : Cursor → InfoRead → InfoRead
after_object c o = do
  d ← closed o.next c
  record { info = o.info; next = d }

-- either form, t, by the manager's kind; the object's "container is DMInfo". "DMInfo of other kinds is not looked at."
abbrev pub info_in : List ℕ → Cursor → Text → Kind → ℕ → InfoRead
info_in s c t Other n = record { info = None; next = t.next }
info_in s c t Standard n = cond (is_object s t) (after_object c (ssm_at s (container_of t) n)) (lists_in c t n)
info_in s c t Incremental n = cond (is_object s t) (after_object c (ism_at s (container_of t))) (lists_in c t n)

-- DMInfo of a manager of a kind, to which n columns are bound: a length and its bytes, one field
unfoldable pub info_at : List ℕ → Cursor → Kind → ℕ → InfoRead
info_at s c kind n = do
  t ← text_at s c
  info_in s c t kind n

-- DMInfo of one manager more, at j
unfoldable pub info_into : List ℕ → List Manager → List ℕ → Infos → ℕ → Infos
info_into s managers counts is j = do
  one ← info_at s is.next (get_or managers j no_manager).kind (get_or counts j 0)
  record { infos = set is.infos j one.info; next = one.next }

-- DMInfo of m managers
unfoldable pub infos_at : List ℕ → Cursor → List Manager → List ℕ → ℕ → Infos
infos_at s c managers counts m = after (info_into s managers counts) (record { infos = replicate 16 None; next = c }) m

-- no binding: zeros
unfoldable pub no_binding : Binding
no_binding = record { sequence = 0; set = 0; offset = 0 }

-- what DMInfo tells of a column: the set number and the offset at its rank, "in column order", big endian as all of table.dat
unfoldable pub binding_of : List ℕ → Owner → Option Info → Binding
binding_of s owner (Some info) = record {
  sequence = owner.sequence;
  set = number_in true 4 s info.sets owner.rank;
  offset = number_in true 4 s info.offsets owner.rank;
}
binding_of s owner None = record { sequence = owner.sequence; set = 0; offset = 0 }

-- the binding of column i
unfoldable pub binding_at : List ℕ → List Owner → List (Option Info) → ℕ → Binding
binding_at s owners infos i = do
  owner ← get_or owners i no_owner
  info ← get_or infos owner.manager None
  binding_of s owner info

-- the bindings of n columns
unfoldable pub bindings_at : List ℕ → List Owner → List (Option Info) → ℕ → List Binding
bindings_at s owners infos n =
    after (λ (bs : List Binding) (i : ℕ). set bs i (binding_at s owners infos i)) (replicate 64 no_binding) n
