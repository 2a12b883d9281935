-- RULES.md 4.15, and Note 260, section 2.4: TableRecord. Its description stands before its values, so they are walked with two
-- places, one in the description and one in the values; and with a third in the path, to find what is asked.
use Rattle.std.specs.Prelude.{ℕ, zero, suc, ◌-◌, List, Bool, cond, not, ◌&&◌, take, drop, eqb, Option, Some, None}
use Rattle.bytes_at.specs.Bytes.{bytes}
use Rattle.bytes_at.specs.Steps.{◌>>=◌, after}
use Rattle.aipsio_rules.specs.declared.Cursor.{Cursor}
use Rattle.aipsio_rules.specs.Field.{judged, uint_at, name_at}
use Rattle.aipsio_rules.specs.Object.{opened, closed, passed}
use Rattle.keyword_rules.specs.declared.FieldHead.{FieldHead}
use Rattle.keyword_rules.specs.declared.Held.{Held}
use Rattle.keyword_rules.specs.declared.Field.{Field}
use Rattle.keyword_rules.specs.declared.Standing.{Standing}
use Rattle.keyword_rules.specs.declared.Walked.{Walked}
use Rattle.keyword_rules.specs.declared.Sought.{Sought}
use Rattle.keyword_rules.specs.declared.Sought.TheVariants.{Value as NamedValue, Field as FieldOf}
use Rattle.keyword_rules.specs.Values.{is_record_type, plain_at}
use Rattle.keyword_rules.specs.RecordDesc.{field_head_at, specific_at, comment_at, type_desc_at}

-- a TableRecord up to its values: header, RecordDesc, "record type, which is not judged". Its description is judged whole, and then
-- entered again, at its first field, to go beside the values.
unfoldable pub whole_at : List ℕ → Cursor → Cursor → ℕ → Held
whole_at s c past deeper = do
  t ← opened s c (bytes "TableRecord") 1 1
  e ← type_desc_at deeper s t.next 25
  kind ← uint_at s e
  o ← opened s t.next (bytes "RecordDesc") 1 2
  n ← uint_at s o.next
  record { count = n.value; version = o.value; desc = n.next; values = kind.next; outer = Some c; past = past }

-- a held record, described at c, whose values stand at v: "only its values are stored". "One with an empty description has a whole
-- TableRecord, which may be empty, as its value, at the same depth."
unfoldable pub record_held_at : List ℕ → Cursor → Cursor → ℕ → Held
record_held_at s c v deeper = do
  o ← opened s c (bytes "RecordDesc") 1 2
  n ← uint_at s o.next
  past ← passed o.next c
  cond (eqb n.value 0)
      (whole_at s v past deeper)
      (record { count = n.value; version = o.value; desc = n.next; values = v; outer = None; past = past })

-- a value that is no record: past it, with no fields to walk
unfoldable pub plain_held_at : List ℕ → Cursor → Cursor → ℕ → Held
plain_held_at s c v number = do
  past ← specific_at s c number
  values ← plain_at s v number
  record { count = 0; version = 0; desc = c; values = values; outer = None; past = past }

-- a value of a type, described from c on, that stands at v
unfoldable pub held_at : List ℕ → Cursor → Cursor → ℕ → ℕ → Held
held_at s c v number deeper = cond (is_record_type number) (record_held_at s c v deeper) (plain_held_at s c v number)

-- out of a value whose last field is read: a whole TableRecord has no bytes left, "else 7"
abbrev pub left_out : Cursor → Option Cursor → Cursor
left_out v None = v
left_out v (Some outer) = closed v outer

unfoldable pub left_at : Cursor → Held → Cursor
left_at v b = left_out v b.outer

-- the path ends here
abbrev pub is_ended : Cursor → Bool
is_ended p = eqb p.refused 0 && eqb p.at p.end

-- whether field i of a record is what is asked: p is where the path stands at the record, q where it stands behind the field's
-- name, refused if that is not the next one
abbrev pub is_sought : Sought → Cursor → Cursor → ℕ → Bool
is_sought NamedValue p q i = is_ended q
is_sought (FieldOf n) p q i = is_ended p && eqb i n

-- a field with its value, which stands between two places: "all its bytes as stored"
abbrev pub field_found : FieldHead → Cursor → Cursor → Field
field_found f from to = record {
  name = f.start;
  name_len = f.len;
  number = f.number;
  start = from.at;
  len = to.at - from.at;
}

-- what is found behind a field: the field itself, if it is asked; else what was found before
abbrev pub found_after : Bool → Field → Option Field → Option Field
found_after asked field found = cond asked (Some field) found

-- one field: its name and type; the path behind its name, if that is the next one; its value, which `held` walks; its comment. "Of
-- equal names the first counts": behind it no name is looked for among these fields (16).
unfoldable pub field_once : (Held → Cursor → Option Field → Walked) → List ℕ → List ℕ → Sought → ℕ → ℕ → Standing → ℕ → Standing
field_once held s path sought deeper version w i = do
  f ← field_head_at s w.desc deeper
  name ← take f.len (drop f.start s)
  q ← name_at path w.path name
  b ← held_at s f.next w.values f.number deeper
  x ← held b q w.found
  h ← found_after (is_sought sought w.path q i) (field_found f w.values x.values) x.found
  e ← comment_at s b.past version
  r ← judged w.path w.path.at (not (eqb q.refused 0)) 16
  record { desc = e; values = x.values; path = r; found = h }

-- one field more, as long as nothing is refused
unfoldable pub field_into : (Held → Cursor → Option Field → Walked) → List ℕ → List ℕ → Sought → ℕ → ℕ → Standing → ℕ → Standing
field_into held s path sought deeper version w i =
    let next : Standing = field_once held s path sought deeper version w i in
    cond (eqb w.values.refused 0) next w

-- the fields of a value, each walked in turn
unfoldable pub walk_with : (Held → Cursor → Option Field → Walked) → List ℕ → List ℕ → Sought → ℕ → Held → Cursor → Option Field → Walked
walk_with held s path sought deeper b p found = do
  w ← after (field_into held s path sought deeper b.version) (record { desc = b.desc; values = b.values; path = p; found = found }) b.count
  to ← left_at w.values b
  record { values = to; found = w.found }

-- `deeper` is how many levels of records may still be entered: none below the eighth
unfoldable pub walk_at : ℕ → List ℕ → List ℕ → Sought → Held → Cursor → Option Field → Walked
walk_at zero s path sought b p found = record { values = b.values; found = found }
walk_at (suc d) s path sought b p found =
    walk_with (λ (c : Held) (q : Cursor) (h : Option Field). walk_at d s path sought c q h) s path sought d b p found
