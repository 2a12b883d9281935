-- What a walk finds lies between the place where its first value begins and the end of the TableRecord, and is never empty.
--     Sound      an unrefused cursor is within B
--     Good       what is found lies from A to B and has a byte; its name ends at B at most
--     Entered    a value that begins at v: it goes on from there, and has a byte already if no field of it will be walked
--     Stands     where a walk from v stands
--     Result     what a walk through the value at v gives
-- Assumes nothing.
use mathlib.Core.Path.{◌≡◌, refl, ap}
use mathlib.Core.List.{List}
use mathlib.Core.Bool.{Bool, true, false, cond}
use Prim.Native.Nat.{ℕ, zero, suc, ◌+◌, ◌≤◌, ◌<◌}
use native.Mathlib.Decide.{ℕ_discrete}
use native.Mathlib.Omega.{arith}
use lib.ListN.{take, drop}
use lib.Dec.{eqb}
use borrow.Author.Tests.{eq-eqb, ne_eqb, ltb-true}
use Rattle.bytes_at.specs.Bytes.{bytes}
use Rattle.bytes_at.specs.Steps.{after, ◌>>=◌}
use Rattle.aipsio_rules.specs.declared.Cursor.{Cursor}
use Rattle.aipsio_rules.specs.declared.Text.{Text}
use Rattle.aipsio_rules.specs.Field.{settled, uint_at, string_at, name_at, text_at, judged}
use Rattle.aipsio_rules.specs.Object.{opened, passed}
use Rattle.aipsio_rules.proofs.Kept.{Clean, Keeps, keeps_same, clean_before, string_reads, ◌⨟◌}
use Rattle.aipsio_rules.proofs.Accepted.{judged_passed, text_is, string_is}
use Rattle.aipsio_rules.proofs.ObjectKept.{closed_keeps, passed_keeps}
use Rattle.aipsio_rules.proofs.ObjectAccepted.{closed_is}
use Rattle.aipsio_rules.proofs.Forward.{Within, Forward, Moves, forward_same, ◌⊳◌, moves_on, uint_forward, text_forward, opened_forward, opened_moves, closed_moves}
use Rattle.keyword_rules.specs.declared.Held.{Held}
use Rattle.std.specs.declared.option.Option.{Option}
use Rattle.std.specs.declared.option.Option.TheVariants.{Some, None}
use Rattle.keyword_rules.specs.declared.Field.{Field}
use Rattle.keyword_rules.specs.declared.Sought.{Sought}
use Rattle.keyword_rules.specs.declared.Standing.{Standing}
use Rattle.keyword_rules.specs.declared.Walked.{Walked}
use Rattle.keyword_rules.specs.Values.{is_record_type, is_keyword_type}
use Rattle.keyword_rules.specs.RecordDesc.{may_hold, field_head_at}
use Rattle.keyword_rules.specs.TableRecord.{whole_at, record_held_at, plain_held_at, held_at, left_out, left_at, is_sought, field_found, field_once, field_into, walk_with, walk_at}
use Rattle.keyword_rules.proofs.Forward.{plain_forward, plain_moves, head_forward, specific_forward, comment_forward, type_desc_forward}

module _ (B : ℕ) where
  abbrev pub Sound : Cursor → Type 0
  Sound c = Clean c → Within B c

module _ {B : ℕ} where
  -- past an object that is not looked at
  passed_sound : (s : List ℕ) (c : Cursor) (expected : List ℕ) (low high : ℕ) → Sound B c → Sound B (passed (opened s c expected low high).next c)
  unfolding passed
  passed_sound s c expected low high k h =
      let o = (opened s c expected low high).next in
      let e = clean_before (passed_keeps o c) h in
      let f = opened_forward {B = B} s c expected low high in
      let w = k (clean_before f.keeps e) in
      let v = f.stays w e in
      rw (eq-eqb o.refused 0 e) (record { at = v.end; end = w.end })

pub sound_on : {B : ℕ} {c d : Cursor} → Forward B c d → Sound B c → Sound B d
sound_on f k h = f.stays (k (clean_before f.keeps h)) h

-- the name of a field lies in its description
name_in_lem : {B : ℕ} (s : List ℕ) (c : Cursor) → Sound B c → (string_at s c 0 4096).start + (string_at s c 0 4096).len ≤ B
name_in_lem {B} s c k = elim (ℕ_discrete (string_at s c 0 4096).next.refused 0) [
  | yes e ↦
      let q = string_is s c 0 4096 e in
      let f : Clean (text_at s c).next = rw q at e in
      let g = text_forward {B = B} s c in
      let v = (g.stays (k (clean_before g.keeps f)) f).at in
      let t = text_is s c f in
      let a = ap (λ (x : Text). x.next.at) t in
      let b = ap (λ (x : Text). x.start) t in
      let l = ap (λ (x : Text). x.len) t in
      rw q (omega (arith, v, a, b, l))
  | no n ↦ let z = (string_reads s c 0 4096).none n in omega (arith, z.0, z.1)
]

-- a record has a level left
may_hold_lem : (number deeper : ℕ) → number ≡ 25 → may_hold number deeper ≡ true → 0 < deeper
may_hold_lem number deeper h e = ltb-true 0 deeper (rw h at e)

head_level : (s : List ℕ) (c : Cursor) (deeper : ℕ) → (field_head_at s c deeper).number ≡ 25 → 0 < deeper
unfolding field_head_at settled ◌>>=◌
head_level s c deeper h =
    let name = string_at s c 0 4096 in
    let t = uint_at s name.next in
    let d = judged t.next name.next.at (is_keyword_type t.value) 5 in
    let e = judged d name.next.at (may_hold t.value deeper) 15 in
    elim (ℕ_discrete e.refused 0) [
      | yes z ↦ may_hold_lem t.value deeper (rw (eq-eqb e.refused 0 z) at h) (judged_passed d name.next.at _ 14 z).1
      | no n ↦ let y = rw (ne_eqb e.refused 0 n) at h in omega (arith, y)
    ]

module _ (A B : ℕ) where
  pub record Good (h : Field) : Type 0 where
    pub begins : A ≤ h.start
    pub some : 0 < h.len
    pub ends : h.start + h.len ≤ B
    pub name : h.name + h.name_len ≤ B

  -- what is found, if anything is
  abbrev pub Goods : Option Field → Type 0
  Goods None = Unit {0}
  Goods (Some h) = Good h

  pub record Entered (v : Cursor) (b : Held) (deeper : ℕ) : Type 0 where
    pub outer : (c : Cursor) → b.outer ≡ Some c → c ≡ v
    pub inside : Forward B v b.values
    pub empty : b.count ≡ 0 → Moves v b.values
    pub last : deeper ≡ 0 → Moves v b.values

  pub record Stands (v : Cursor) (w : Standing) : Type 0 where
    pub keeps : Keeps v w.values
    pub on : Clean w.values → v.at ≤ w.values.at
    pub desc : Sound B w.desc
    pub sound : Sound B w.values
    pub goods : Clean w.values → Goods w.found

  pub record Result (v : Cursor) (x : Walked) : Type 0 where
    pub keeps : Keeps v x.values
    pub moves : Moves v x.values
    pub sound : Sound B x.values
    pub goods : Clean x.values → Goods x.found

module _ {A B : ℕ} (s : List ℕ) where
  -- into a value
  whole_entered : (c past : Cursor) (deeper : ℕ) → Entered A B c (whole_at s c past deeper) deeper
  unfolding whole_at ◌>>=◌
  whole_entered c past deeper =
      let f = type_desc_forward {B = B} s deeper _ 25 ⊳ uint_forward s _ in
      let m = moves_on (opened_moves s c _ 1 1) f in
      record { outer = λ d e. cc; inside = opened_forward s c _ 1 1 ⊳ f; empty = λ e. m; last = λ e. m }

  entered_either : (t : Bool) {c : Cursor} {a b : Held} {deeper : ℕ} → Entered A B c a deeper → Entered A B c b deeper → Entered A B c (cond t a b) deeper
  entered_either true a b = a
  entered_either false a b = b

  record_entered : (c v : Cursor) (deeper : ℕ) → 0 < deeper → Entered A B v (record_held_at s c v deeper) deeper
  unfolding record_held_at ◌>>=◌
  record_entered c v deeper l =
      let n = (uint_at s (opened s c (bytes "RecordDesc") 1 2).next).value in
      elim (ℕ_discrete n 0) [
        | yes e ↦ rw (eq-eqb n 0 e) (whole_entered v (passed (opened s c (bytes "RecordDesc") 1 2).next c) deeper)
        | no e ↦ rw (ne_eqb n 0 e) (record { outer = λ d e. absurd (cc); inside = forward_same v; empty = λ z. absurd (e z); last = λ z. absurd (no_level z) })
      ]
    where
      no_level : deeper ≡ 0 → ⊥
      no_level z = omega arith

  plain_entered : (c v : Cursor) (number deeper : ℕ) → Entered A B v (plain_held_at s c v number) deeper
  unfolding plain_held_at ◌>>=◌
  plain_entered c v number deeper = record { outer = λ d e. absurd (cc); inside = plain_forward s v number; empty = λ e. plain_moves s v number; last = λ e. plain_moves s v number }

  held_entered : (c v : Cursor) (number deeper : ℕ) → (number ≡ 25 → 0 < deeper) → Entered A B v (held_at s c v number deeper) deeper
  unfolding held_at
  held_entered c v number deeper l = elim (ℕ_discrete number 25) [
    | yes e ↦ rw (eq-eqb number 25 e) (record_entered c v deeper (l e))
    | no e ↦ rw (ne_eqb number 25 e) (plain_entered c v number deeper)
  ]

module _ {B : ℕ} (s : List ℕ) where
  -- where the fields of a value are described, and what stands behind its description
  either_desc : (t : Bool) (a b : Held) → Sound B a.desc → Sound B b.desc → Sound B (cond t a b).desc
  either_desc true a b h k = h
  either_desc false a b h k = k

  either_past : (t : Bool) (a b : Held) → Sound B a.past → Sound B b.past → Sound B (cond t a b).past
  either_past true a b h k = h
  either_past false a b h k = k

  whole_desc : (c past : Cursor) (deeper : ℕ) → Sound B c → Sound B (whole_at s c past deeper).desc
  unfolding whole_at ◌>>=◌
  whole_desc c past deeper k = sound_on (opened_forward s c _ 1 1 ⊳ opened_forward s _ _ 1 2 ⊳ uint_forward s _) k

  record_desc : (c v : Cursor) (deeper : ℕ) → Sound B c → Sound B v → Sound B (record_held_at s c v deeper).desc
  unfolding record_held_at ◌>>=◌
  record_desc c v deeper k l =
      either_desc (eqb (uint_at s (opened s c (bytes "RecordDesc") 1 2).next).value 0) _ _
      (whole_desc v (passed (opened s c (bytes "RecordDesc") 1 2).next c) deeper l)
      (sound_on (opened_forward s c _ 1 2 ⊳ uint_forward s _) k)

  record_past : (c v : Cursor) (deeper : ℕ) → Sound B c → Sound B (record_held_at s c v deeper).past
  unfolding record_held_at whole_at ◌>>=◌
  record_past c v deeper k =
      let p = passed_sound s c (bytes "RecordDesc") 1 2 k in
      either_past (eqb (uint_at s (opened s c (bytes "RecordDesc") 1 2).next).value 0) _ _ p p

  plain_past : (c v : Cursor) (number : ℕ) → Sound B c → Sound B (plain_held_at s c v number).past
  unfolding plain_held_at ◌>>=◌
  plain_past c v number k = sound_on (specific_forward s c number) k

  plain_desc : (c v : Cursor) (number : ℕ) → Sound B c → Sound B (plain_held_at s c v number).desc
  unfolding plain_held_at ◌>>=◌
  plain_desc c v number k = k

  held_desc : (c v : Cursor) (number deeper : ℕ) → Sound B c → Sound B v → Sound B (held_at s c v number deeper).desc
  unfolding held_at
  held_desc c v number deeper k l = either_desc (is_record_type number) (record_held_at s c v deeper) (plain_held_at s c v number) (record_desc c v deeper k l) (plain_desc c v number k)

  held_past : (c v : Cursor) (number deeper : ℕ) → Sound B c → Sound B (held_at s c v number deeper).past
  unfolding held_at
  held_past c v number deeper k = either_past (is_record_type number) (record_held_at s c v deeper) (plain_held_at s c v number) (record_past c v deeper k) (plain_past c v number k)

  head_name : (c : Cursor) (deeper : ℕ) → Sound B c → (field_head_at s c deeper).start + (field_head_at s c deeper).len ≤ B
  unfolding field_head_at ◌>>=◌
  head_name c deeper k = name_in_lem s c k

goods_either : (A B : ℕ) (t : Bool) (x y : Option Field) → Goods A B x → Goods A B y → Goods A B (cond t x y)
goods_either A B true x y g h = g
goods_either A B false x y g h = h

module _ {A B : ℕ} (s : List ℕ) where
  -- one field after another, where each value is walked by `held`
  module _ (path : List ℕ) (sought : Sought) (held : Held → Cursor → Option Field → Walked) (deeper : ℕ)
      (k : (v : Cursor) (b : Held) → Entered A B v b deeper → Sound B v → (Clean v → A ≤ v.at) → Sound B b.desc → (q : Cursor) (h : Option Field)
      → (Clean v → Goods A B h) → Result A B v (held b q h))
      (version : ℕ) (v : Cursor) (low : Clean v → A ≤ v.at) where
    abbrev once : Standing → ℕ → Standing
    once w i = field_once held s path sought deeper version w i

    abbrev into : Standing → ℕ → Standing
    into w i = field_into held s path sought deeper version w i

    -- a field further on
    record Next (w z : Standing) : Type 0 where
      stands : Stands A B v z
      kept : Keeps w.values z.values
      moves : Moves w.values z.values

    once_next : (w : Standing) (i : ℕ) → Stands A B v w → Next w (once w i)
    unfolding field_once ◌>>=◌
    once_next w i st =
        let f = field_head_at s w.desc deeper in
        let q = name_at path w.path (take f.len (drop f.start s)) in
        let b = held_at s f.next w.values f.number deeper in
        let x = held b q w.found in
        let here : Clean w.values → A ≤ w.values.at = λ h. let a = low (clean_before st.keeps h) in let o = st.on h in omega arith in
        let past : Sound B f.next = sound_on (head_forward s w.desc deeper) st.desc in
        let r = k w.values b (held_entered s f.next w.values f.number deeper (head_level s w.desc deeper)) st.sound here
        (held_desc s f.next w.values f.number deeper past st.sound) q w.found st.goods in
        record {
          stands = record {
            keeps = st.keeps ⨟ r.keeps;
            on = λ h. let o = st.on (clean_before r.keeps h) in let m = r.moves.ahead h in omega arith;
            desc = sound_on (comment_forward s b.past version) (held_past s f.next w.values f.number deeper past);
            sound = r.sound;
            goods = λ h.
                let c = clean_before r.keeps h in
                let m = r.moves.ahead h in
                let e = (r.sound h).at in
                let g : Good A B (field_found f w.values x.values) =
                record { begins = here c; some = omega arith; ends = omega arith; name = head_name s w.desc deeper st.desc } in
                goods_either A B (is_sought sought w.path q i) (Some (field_found f w.values x.values)) x.found g (r.goods h);
          };
          kept = r.keeps;
          moves = r.moves;
        }

    into_next : (w : Standing) (i : ℕ) → Stands A B v w → Next w (into w i)
    unfolding field_into
    into_next w i st = elim (ℕ_discrete w.values.refused 0) [
      | yes e ↦ rw (eq-eqb w.values.refused 0 e) (once_next w i st)
      | no n ↦ rw (ne_eqb w.values.refused 0 n) (record { stands = st; kept = keeps_same w.values; moves = record { ahead = λ h. absurd (n h) } })
    ]

    pub after_stands : (w : Standing) (n : ℕ) → Stands A B v w → Stands A B v (after (field_into held s path sought deeper version) w n)
    unfolding after
    after_stands w zero st = st
    after_stands w (suc n) st = (into_next (after (field_into held s path sought deeper version) w n) n (after_stands w n st)).stands

    after_moves : (w : Standing) (n : ℕ) → Stands A B v w → (n ≡ 0 → Moves v w.values) → Moves v (after (field_into held s path sought deeper version) w n).values
    unfolding after
    after_moves w zero st m = m refl
    after_moves w (suc n) st m =
        let p = after_stands w n st in
        let q = into_next (after (field_into held s path sought deeper version) w n) n p in
        record { ahead = λ h. let a = q.moves.ahead h in let o = p.on (clean_before q.kept h) in omega arith }

  -- out of a value
  left_result : (v to : Cursor) (b : Held) (h : Option Field) → ((c : Cursor) → b.outer ≡ Some c → c ≡ v) → Sound B v → Result A B v (record { values = to; found = h })
      → Result A B v (record { values = left_at to b; found = h })
  unfolding left_at
  left_result v to b h e k r = go b.outer refl
    where
      go : (o : Option Cursor) → b.outer ≡ o → Result A B v (record { values = left_out to o; found = h })
      go (Some outer) q = rw (e outer q) (record {
        keeps = r.keeps ⨟ closed_keeps to v;
        moves = closed_moves s v r.moves;
        sound = λ c.
            let f = clean_before (closed_keeps to v) c in
            rw (closed_is to v c) (record { at = (r.sound f).at; end = (k (clean_before r.keeps f)).end });
        goods = λ c. r.goods (clean_before (closed_keeps to v) c);
      })
      go None q = r

  pub walk_result : (path : List ℕ) (sought : Sought) (deeper : ℕ) (v : Cursor) (b : Held) → Entered A B v b deeper → Sound B v → (Clean v → A ≤ v.at)
      → Sound B b.desc → (p : Cursor) (h : Option Field) → (Clean v → Goods A B h) → Result A B v (walk_at deeper s path sought b p h)
  unfolding walk_at walk_with ◌>>=◌
  walk_result path sought zero v b e k low d p h g = record {
    keeps = e.inside.keeps;
    moves = e.last refl;
    sound = sound_on e.inside k;
    goods = λ c. g (clean_before e.inside.keeps c);
  }
  walk_result path sought (suc l) v b e k low d p h g =
      let held : Held → Cursor → Option Field → Walked = λ x q f. walk_at l s path sought x q f in
      let w : Standing = record { desc = b.desc; values = b.values; path = p; found = h } in
      let st : Stands A B v w =
      record {
        keeps = e.inside.keeps;
        on = e.inside.on;
        desc = d;
        sound = sound_on e.inside k;
        goods = λ c. g (clean_before e.inside.keeps c);
      } in
      let a = after_stands path sought held l (walk_result path sought l) b.version v low w b.count st in
      let m = after_moves path sought held l (walk_result path sought l) b.version v low w b.count st e.empty in
      left_result v _ b _ e.outer k (record { keeps = a.keeps; moves = m; sound = a.sound; goods = a.goods })
