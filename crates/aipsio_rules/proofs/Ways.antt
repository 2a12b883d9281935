-- What a reader gives at each of its ways out.
--     -short    the enclosing object ends before the field does
--     -on       the field is there, and passes the test
--     -kept     the field that is judged was refused already
--     -out      it fails the test
-- Assumes nothing.
use mathlib.Core.Path.{◌≡◌, refl, sym, ap, ◌∙◌}
use mathlib.Core.List.{List}
use mathlib.Core.Bool.{Bool, true, false, cond, ◌&&◌}
use Prim.Native.Nat.{ℕ, suc, ◌+◌, ◌-◌, ◌≤◌, ◌<◌}
use native.Mathlib.Decide.{ℕ_discrete}
use native.Mathlib.Omega.{arith}
use lib.ListN.{take, drop}
use lib.Dec.{leb, eqb}
use Rattle.bytes_at.specs.Number.{uint_of}
use Rattle.bytes_at.specs.Bytes.{same_bytes}
use Rattle.bytes_at.specs.Steps.{◌>>=◌}
use Rattle.bytes_at.proofs.Stepped.{via}
use Rattle.aipsio_rules.specs.declared.Cursor.{Cursor}
use Rattle.aipsio_rules.specs.declared.Value.{Value}
use Rattle.aipsio_rules.specs.declared.Text.{Text}
use Rattle.aipsio_rules.specs.Field.{refused_at, moved_to, left_in, judged, settled, sized_at, ranged_at, text_before, text_at, string_at, name_at}
use Rattle.aipsio_rules.proofs.Kept.{Clean, Refused, judged_keeps, settled_none, text_none}
use Rattle.aipsio_rules.proofs.Sides.{skip_on, skip_refused, judge_on, judge_refused, settle_on, text_on}

given_refused : (n : ℕ) {d e : Cursor} → d ≡ e → e.refused ≡ suc n → Refused d
given_refused n p q z = let o : suc n ≡ 0 = sym q ∙ sym (ap (λ (x : Cursor). x.refused) p) ∙ z in omega arith

-- what was read may be settled again
cond_twice : (b : Bool) (v : ℕ) → cond b v 0 ≡ cond b (cond b v 0) 0
cond_twice true v = refl
cond_twice false v = refl

settled_twice : (v : ℕ) (c : Cursor) → settled v c ≡ settled (settled v c).value (settled v c).next
unfolding settled
settled_twice v c = ap (λ (x : ℕ). record { value = x; next = c }) (cond_twice (eqb c.refused 0) v)

text_twice : (c : Cursor) (n : ℕ) → text_before c n ≡ text_before (text_before c n).next (text_before c n).len
text_twice c n =
    elim (ℕ_discrete c.refused 0) [
      | yes h ↦ rw (← (text_on c h n)) (text_on c h n)
      | no h ↦ rw (text_none c n h) (sym (text_none c 0 h))
    ]

module _ (s : List ℕ) (c : Cursor) where
  -- a number of so many bytes
  module _ (h : Clean c) {room n width : ℕ} (e : room ≡ left_in c) (w : n ≡ width) where
    pub sized_short : {d : Cursor} → room < n → d ≡ refused_at c c.at 1 → record { value = 0; next = d } ≡ sized_at s c width
    unfolding sized_at
    sized_short {d} l p =
        via _ refl (
        via _ (p ∙ skip_refused c h e width (omega arith)) (
        sym (settled_none _ d (given_refused 0 p refl))))

    pub sized_on : {v : ℕ} → n ≤ room → v ≡ uint_of c.big width s c.at → record { value = v; next = moved_to c (c.at + n) } ≡ sized_at s c width
    unfolding sized_at
    sized_on {v} l q =
        via _ q (
        via _ (ap (λ (x : ℕ). moved_to c (c.at + x)) w ∙ skip_on c h e width (omega arith)) (
        settle_on (moved_to c (c.at + n)) refl v))

  -- a number of a range, of which r was read
  module _ (width low high number : ℕ) {r : Value} (q : r ≡ sized_at s c width) where
    sized_again : r ≡ settled r.value r.next
    unfolding sized_at ◌>>=◌
    sized_again = rw q (settled_twice _ _)

    ranged_same : {ok : Bool} → ok ≡ leb low r.value && leb r.value high → r.next ≡ judged r.next c.at ok number → r ≡ ranged_at s c width low high number
    unfolding ranged_at
    ranged_same t p = via _ q (via _ t (via _ p sized_again))

    pub ranged_kept : Refused r.next → r ≡ ranged_at s c width low high number
    ranged_kept h = ranged_same refl (sym ((judged_keeps r.next c.at _ number).stays h))

    module _ (h : Clean r.next) {ok : Bool} (t : ok ≡ leb low r.value && leb r.value high) where
      pub ranged_on : ok ≡ true → r ≡ ranged_at s c width low high number
      ranged_on e = ranged_same t (judge_on r.next h c.at ok number e)

      pub ranged_out : {d : Cursor} {x : Value} → ok ≡ false → d ≡ refused_at r.next c.at number → x ≡ settled r.value d → x ≡ ranged_at s c width low high number
      unfolding ranged_at
      ranged_out e p z = via _ q (via _ t (via _ (p ∙ judge_refused r.next h c.at ok number e) z))

  -- a String
  module _ (h : Clean c) {room n : ℕ} (e : room ≡ left_in c) (q : n ≡ uint_of c.big 4 s c.at) where
    pub any_string_short : {d : Cursor} → room < 4 + n → d ≡ refused_at c c.at 1 → record { start = 0; len = 0; next = d } ≡ text_at s c
    unfolding text_at
    any_string_short {d} l p =
        via _ q (
        via _ (p ∙ skip_refused c h e (4 + n) l) (
        sym (text_none d n (given_refused 0 p refl))))

    pub any_string_on : 4 + n ≤ room → record { start = c.at + 4; len = n; next = moved_to c (c.at + (4 + n)) } ≡ text_at s c
    unfolding text_at
    any_string_on l =
        let p : c.at + 4 ≡ c.at + (4 + n) - n = omega arith in
        via _ q (
        via _ (skip_on c h e (4 + n) l) (
        rw p (text_on (moved_to c (c.at + (4 + n))) refl n)))

  module _ {r : Text} (q : r ≡ text_at s c) where
    pub text_again : r ≡ text_before r.next r.len
    unfolding text_at ◌>>=◌
    text_again = rw q (text_twice _ _)

    -- a String whose length lies in a range, of which r was read
    module _ (low high : ℕ) where
      string_same : {ok : Bool} → ok ≡ leb low r.len && leb r.len high → r.next ≡ judged r.next c.at ok 4 → r ≡ string_at s c low high
      unfolding string_at
      string_same t p = via _ q (via _ t (via _ p text_again))

      pub string_kept : Refused r.next → r ≡ string_at s c low high
      string_kept h = string_same refl (sym ((judged_keeps r.next c.at _ 4).stays h))

      module _ (h : Clean r.next) {ok : Bool} (t : ok ≡ leb low r.len && leb r.len high) where
        pub string_on : ok ≡ true → r ≡ string_at s c low high
        string_on e = string_same t (judge_on r.next h c.at ok 4 e)

        pub string_out : {d : Cursor} → ok ≡ false → d ≡ refused_at r.next c.at 4 → record { start = 0; len = 0; next = d } ≡ string_at s c low high
        unfolding string_at
        string_out {d} e p =
            via _ q (
            via _ t (
            via _ (p ∙ judge_refused r.next h c.at ok 4 e) (
            sym (text_none d r.len (given_refused 3 p refl)))))

    -- a name, of which r was read
    module _ (expected : List ℕ) where
      pub name_kept : Refused r.next → r.next ≡ name_at s c expected
      unfolding name_at
      name_kept h = via _ q (via _ refl (via _ refl (sym ((judged_keeps r.next c.at _ 2).stays h))))

      module _ (h : Clean r.next) {ok : Bool} (t : ok ≡ same_bytes (take r.len (drop r.start s)) expected) where
        pub name_on : ok ≡ true → r.next ≡ name_at s c expected
        unfolding name_at
        name_on e = via _ q (via _ refl (via _ t (judge_on r.next h c.at ok 2 e)))

        pub name_out : {d : Cursor} → ok ≡ false → d ≡ refused_at r.next c.at 2 → d ≡ name_at s c expected
        unfolding name_at
        name_out e p = via _ q (via _ refl (via _ t (p ∙ judge_refused r.next h c.at ok 2 e)))
