-- What holds of every answer about keywords.
-- Assumes nothing.
use mathlib.Core.Path.{◌≡◌, refl, sym, ap, ◌∙◌}
use mathlib.Core.List.{List}
use Prim.Native.Nat.{ℕ, ◌-◌, ◌≤◌}
use native.Mathlib.Decide.{ℕ_discrete}
use native.Mathlib.Omega.{arith}
use borrow.Author.Tests.{eq-eqb, ne_eqb}
use Rattle.bytes_at.specs.Bytes.{bytes}
use Rattle.bytes_at.specs.Steps.{after, ◌>>=◌}
use Rattle.bytes_at.specs.declared.Refusal.{Refusal}
use Rattle.bytes_at.specs.Stages.{blaming, ◌▷◌, or_at}
use Rattle.bytes_at.proofs.Stages.{others_blaming, others_or, others_then}
use Rattle.aipsio_rules.specs.declared.Cursor.{Cursor}
use Rattle.aipsio_rules.specs.Object.{opened, passed, record_at}
use Rattle.aipsio_rules.proofs.Kept.{Clean, clean_before}
use Rattle.aipsio_rules.proofs.ObjectAccepted.{opened_inside}
use Rattle.aipsio_rules.proofs.ObjectSides.{pass_on}
use Rattle.aipsio_rules.proofs.Forward.{◌⊳◌, uint_forward, opened_forward}
use Rattle.table_rules.specs.Table.{described_as}
use Rattle.table_rules.proofs.Described.{described}
use Rattle.std.specs.Option.{ok_or}
use Rattle.std.specs.declared.option.Option.{Option}
use Rattle.std.specs.declared.option.Option.TheVariants.{Some, None}
use Rattle.std.specs.declared.result.Result.{Result}
use Rattle.std.specs.declared.result.Result.TheVariants.{Ok, Err}
use Rattle.keyword_rules.specs.declared.Field.{Field}
use Rattle.keyword_rules.specs.declared.Held.{Held}
use Rattle.keyword_rules.specs.declared.Scope.{Scope}
use Rattle.keyword_rules.specs.declared.Sought.{Sought}
use Rattle.keyword_rules.specs.declared.Standing.{Standing}
use Rattle.keyword_rules.specs.TableRecord.{whole_at, field_into, left_at, walk_with, walk_at}
use Rattle.keyword_rules.specs.Keywords.{from, keywords_of, is_scope, walked_at, search_at, keyword_search, keywords_end, FoundThere, Refuses, SearchSays, EveryKeyword, EveryPath}
use Rattle.keyword_rules.proofs.AnyPath.{any_path}
use Rattle.keyword_rules.proofs.Forward.{type_desc_forward}
use Rattle.keyword_rules.proofs.Levels.{left_keeps, walk_level}
use Rattle.keyword_rules.proofs.Walks.{Sound, sound_on, Good, Stands, after_stands, walk_result}

-- a keyword set whose walk is not refused
module _ (s path : List ℕ) (sought : Sought) (set : ℕ) where
  abbrev fields : Cursor
  fields = (opened s (from set s) (bytes "TableRecord") 1 1).next

  abbrev whole : Held
  whole = whole_at s (from set s) (from set s) 8

  record_is : record_at s (from set s) ≡ passed fields (from set s)
  unfolding record_at ◌>>=◌
  record_is = refl

  set_end : Clean fields → keywords_end s set ≡ fields.end
  set_end e = ap (λ (c : Cursor). c.at) (record_is ∙ sym (pass_on fields e (from set s)))

  abbrev start : Standing
  start = record { desc = whole.desc; values = whole.values; path = from 0 path; found = None }

  begun : Stands set fields.end fields start
  unfolding whole_at ◌>>=◌
  begun =
      let f = type_desc_forward {B = fields.end} s 8 fields 25 ⊳ uint_forward s _ in
      let g = opened_forward {B = fields.end} s fields (bytes "RecordDesc") 1 2 ⊳ uint_forward s _ in
      let k : Sound fields.end fields = λ e. record { at = (opened_inside s (from set s) (bytes "TableRecord") 1 1 e).ends; end = omega arith } in
      record {
        keeps = f.keeps;
        on = f.on;
        desc = sound_on g k;
        sound = sound_on f k;
        goods = λ e. tt;
      }

  -- the walk through its fields
  abbrev ended : Standing
  ended = after (field_into (walk_at (8 - 1) s path sought) s path sought (8 - 1) whole.version) start whole.count

  low : Clean fields → set ≤ fields.at
  low = (opened_forward {B = 0} s (from set s) (bytes "TableRecord") 1 1).on

  ended_stands : Stands set fields.end fields ended
  ended_stands =
      after_stands s path sought (walk_at (8 - 1) s path sought) (8 - 1) (walk_result s path sought (8 - 1)) whole.version fields low start whole.count begun

  walked_is : walked_at s path sought set ≡ record { values = left_at ended.values whole; found = ended.found }
  unfolding walked_at walk_with ◌>>=◌
  walked_is = walk_level s path sought whole (from 0 path) None 8 (λ z. omega arith)

  there : Clean ended.values → (field : Field) → ended.found ≡ Some field → FoundThere s set field
  there e field k =
      let f : Clean fields = clean_before ended_stands.keeps e in
      let g : Good set fields.end field = rw k at (ended_stands.goods e) in
      let z = set_end f in
      let i = (opened_inside s (from set s) (bytes "TableRecord") 1 1 f).within in
      record {
        part = record {
          begins = g.begins;
          some = g.some;
          ends = omega (arith, g.ends, z);
          file = omega (arith, z, i);
        };
        name = omega (arith, g.name, z);
      }

  walked_there : Clean (walked_at s path sought set).values → (field : Field) → (walked_at s path sought set).found ≡ Some field
      → FoundThere s set field
  walked_there c field k = there (clean_before (left_keeps ended.values whole) (rw walked_is at c)) field (rw walked_is at k)

  -- the answer of a keyword set
  abbrev SetSays : Result Field Refusal → Type 0
  SetSays (Ok field) = FoundThere s set field
  SetSays (Err why) = Refuses why

  found_says : Clean (walked_at s path sought set).values → (o : Option Field) → (walked_at s path sought set).found ≡ o
      → SetSays (ok_or o (blaming 16 0))
  found_says c None k = record { some = λ z. omega arith; others = others_blaming 16 0 }
  found_says c (Some field) k = walked_there c field k

  set_says : SetSays (search_at s path sought set)
  unfolding search_at ◌>>=◌
  set_says = elim (ℕ_discrete (walked_at s path sought set).values.refused 0) [
    | yes e ↦ rw (eq-eqb (walked_at s path sought set).values.refused 0 e) (found_says e (walked_at s path sought set).found refl)
    | no n ↦ rw (ne_eqb (walked_at s path sought set).values.refused 0 n) (record { some = n; others = others_blaming _ _ })
  ]

-- the answer of a table and a scope
pub every_keyword : EveryKeyword
unfolding keyword_search ◌>>=◌
every_keyword s scope path sought =
    let d = described_as s in
    let r = d.refused ▷ or_at (is_scope d scope) 8 0 in
    elim (ℕ_discrete r.number 0) [
      | yes e ↦ rw (eq-eqb r.number 0 e) (set_says s path sought (keywords_of s d scope))
      | no n ↦ rw (ne_eqb r.number 0 n) (record { some = n; others = others_then d.refused _ (described s).others (others_or _ 8 0) })
    ]

-- a search that is the definition's says what every one does
pub says : (s : List ℕ) (scope : Scope) (path : List ℕ) (sought : Sought) {x : Result Field Refusal} → x ≡ keyword_search s scope path sought
    → record { value : x ≡ keyword_search s scope path sought; says : SearchSays s scope x }
says s scope path sought e = record { value = e; says = rw e (every_keyword s scope path sought) }

-- two questions about one keyword set: where the walk is refused, for all of them
module _ (s path other : List ℕ) (sought sought' : Sought) (set : ℕ) where
  same_values : (walked_at s other sought' set).values ≡ (walked_at s path sought set).values
  unfolding walked_at ◌>>=◌
  same_values = any_path s other path sought' sought 8 (whole_at s (from set s) (from set s) 8) (from 0 other) (from 0 path) None None

  -- a walk that is not refused gives a field or 16
  found_not : (o : Option Field) (why : Refusal) → ok_or o (blaming 16 0) ≡ Err why → (why.number ≡ 16 → ⊥) → ⊥
  found_not None why e n = n (let z : blaming 16 0 ≡ why = cc in sym (ap (λ (r : Refusal). r.number) z))
  found_not (Some field) why e n = absurd (cc)

  set_alike : (why : Refusal) → search_at s path sought set ≡ Err why → (why.number ≡ 16 → ⊥) → search_at s other sought' set ≡ Err why
  unfolding search_at ◌>>=◌
  set_alike why e n = elim (ℕ_discrete (walked_at s path sought set).values.refused 0) [
    | yes c ↦ absurd (found_not (walked_at s path sought set).found why (rw (eq-eqb (walked_at s path sought set).values.refused 0 c) at e) n)
    | no r ↦ rw (same_values, ne_eqb (walked_at s path sought set).values.refused 0 r) (rw (ne_eqb (walked_at s path sought set).values.refused 0 r) at e)
  ]

pub every_path : EveryPath
unfolding keyword_search ◌>>=◌
every_path s scope path other sought sought' why e n =
    let d = described_as s in
    let r = d.refused ▷ or_at (is_scope d scope) 8 0 in
    elim (ℕ_discrete r.number 0) [
      | yes z ↦ rw (eq-eqb r.number 0 z) (set_alike s path other sought sought' (keywords_of s d scope) why (rw (eq-eqb r.number 0 z) at e) n)
      | no h ↦ rw (ne_eqb r.number 0 h) (rw (ne_eqb r.number 0 h) at e)
    ]
