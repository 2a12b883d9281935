-- What an unrefused cursor says of the step that led to it: which tests were passed, and what the step gave (`-is`).
-- Assumes nothing.
use mathlib.Core.Path.{◌≡◌, refl, sym, ap, ◌∙◌}
use mathlib.Core.List.{List}
use mathlib.Core.Bool.{Bool, true, false, cond, ◌&&◌, and-eq-true_iff}
use Prim.Native.Nat.{ℕ, suc, ◌+◌, ◌*◌, ◌/◌, ◌≤◌}
use native.Mathlib.Omega.{arith}
use native.Mathlib.Nat.{mul-le-mul_right, div-mul-le_self}
use lib.Dec.{leb}
use borrow.Author.Tests.{leb-true, eq-eqb}
use Rattle.bytes_at.specs.Number.{uint_of}
use Rattle.bytes_at.specs.Steps.{◌>>=◌}
use Rattle.aipsio_rules.specs.declared.Cursor.{Cursor}
use Rattle.aipsio_rules.specs.declared.Value.{Value}
use Rattle.aipsio_rules.specs.Field.{latched, refused_at, moved_to, left_in, skipped, skipped_each, judged, settled, sized_at, uint_at, ranged_at, agreed, text_at, string_at}
use Rattle.aipsio_rules.proofs.Kept.{Clean, Refused, clean_before, latched_keeps, text_next}
use Rattle.aipsio_rules.proofs.Sides.{settle_on, judge_on, skip_on, each_on}
use Rattle.aipsio_rules.proofs.Ways.{sized_on, any_string_on, string_on}

pub latched_clean : (c d : Cursor) → Clean (latched c d) → (Clean c) × (Clean d)
latched_clean c d e =
    let h : Clean c = clean_before (latched_keeps c d) e in
    (h, rw (eq-eqb c.refused 0 h) at e)

-- the side that refuses was not taken
pub passed_test : (t : Bool) (x y : Cursor) → Refused y → Clean (cond t x y) → (t ≡ true) × (Clean x)
passed_test true x y h e = (refl, e)
passed_test false x y h e = absurd (h e)

pub not_zero : (n : ℕ) → suc n ≡ 0 → ⊥
not_zero n e = omega arith

-- n elements of so many bytes, no more than there is room for
pub room_for : (l n size : ℕ) → n ≤ l / size → n * size ≤ l
room_for l n size h = omega (arith, mul-le-mul_right size h, div-mul-le_self l size)

-- the test that was passed
module _ (c : Cursor) (from : ℕ) (ok : Bool) (n : ℕ) (e : Clean (judged c from ok (suc n))) where
  pub judged_passed : (Clean c) × (ok ≡ true)
  unfolding judged
  judged_passed = let l = latched_clean c _ e in (l.0, (passed_test ok c (refused_at c from (suc n)) (not_zero n) l.1).0)

  pub judged_is : judged c from ok (suc n) ≡ c
  judged_is = sym (judge_on c judged_passed.0 from ok (suc n) judged_passed.1)

-- a number of a range
pub judged_within : (c : Cursor) (from v low high n : ℕ) → Clean (judged c from (leb low v && leb v high) (suc n)) → (low ≤ v) × (v ≤ high)
judged_within c from v low high n e =
    let t = (and-eq-true_iff (leb low v) (leb v high)).0 (judged_passed c from _ n e).1 in
    (leb-true low v t.0, leb-true v high t.1)

-- the field's bytes are there
module _ (c : Cursor) (n : ℕ) (e : Clean (skipped c n)) where
  pub skipped_fits : (Clean c) × (n ≤ left_in c)
  unfolding skipped
  skipped_fits =
      let l = latched_clean c _ e in
      (l.0, leb-true n (left_in c) (passed_test (leb n (left_in c)) _ (refused_at c c.at 1) (not_zero 0) l.1).0)

  pub skipped_is : skipped c n ≡ moved_to c (c.at + n)
  skipped_is = sym (skip_on c skipped_fits.0 refl n skipped_fits.1)

-- the bytes of all n fields are there
module _ (c : Cursor) (n size : ℕ) (e : Clean (skipped_each c n size)) where
  each_room : (Clean c) × (n ≤ left_in c / size)
  unfolding skipped_each
  each_room =
      let l = latched_clean c _ e in
      (l.0, leb-true n (left_in c / size) (passed_test (leb n (left_in c / size)) _ (refused_at c _ 1) (not_zero 0) l.1).0)

  pub each_fits : (Clean c) × (n * size ≤ left_in c)
  each_fits = (each_room.0, room_for (left_in c) n size each_room.1)

  pub each_is : skipped_each c n size ≡ moved_to c (c.at + n * size)
  each_is = sym (each_on c each_room.0 refl n size each_room.1)

-- a number is the one in its bytes
module _ (s : List ℕ) (c : Cursor) (width : ℕ) where
  pub sized_fits : Clean (sized_at s c width).next → (Clean c) × (width ≤ left_in c)
  unfolding sized_at settled ◌>>=◌
  sized_fits e = skipped_fits c width e

  pub sized_is : Clean (sized_at s c width).next → sized_at s c width ≡ record { value = uint_of c.big width s c.at; next = moved_to c (c.at + width) }
  sized_is e = let f = sized_fits e in sym (sized_on s c f.0 refl refl f.1 refl)

  module _ (low high n : ℕ) (e : Clean (ranged_at s c width low high (suc n)).next) where
    pub ranged_is : ranged_at s c width low high (suc n) ≡ sized_at s c width
    unfolding ranged_at settled ◌>>=◌
    ranged_is = sym (settle_on _ e _) ∙ rw (judged_is (sized_at s c width).next c.at _ n e)

    sized_within : (low ≤ (sized_at s c width).value) × ((sized_at s c width).value ≤ high)
    unfolding ranged_at settled ◌>>=◌
    sized_within = judged_within (sized_at s c width).next c.at (sized_at s c width).value low high n e

    pub ranged_within : (low ≤ (ranged_at s c width low high (suc n)).value) × ((ranged_at s c width low high (suc n)).value ≤ high)
    ranged_within = rw ranged_is sized_within

pub uint_is : (s : List ℕ) (c : Cursor) → uint_at s c ≡ sized_at s c 4
unfolding uint_at sized_at
uint_is s c = refl

pub agreed_is : (s : List ℕ) (c : Cursor) (n : ℕ) → Clean (agreed s c n) → agreed s c n ≡ moved_to c (c.at + 4)
unfolding agreed ◌>>=◌
agreed_is s c n e =
    let r = ranged_is s c 4 n n 5 e in
    ap (λ (v : Value). v.next) (r ∙ sized_is s c 4 (rw r at e))

-- a String is the one in its bytes
module _ (s : List ℕ) (c : Cursor) where
  pub text_is : Clean (text_at s c).next
      → text_at s c ≡ record { start = c.at + 4; len = uint_of c.big 4 s c.at; next = moved_to c (c.at + (4 + uint_of c.big 4 s c.at)) }
  unfolding text_at ◌>>=◌
  text_is e = let f = skipped_fits c _ (rw text_next at e) in sym (any_string_on s c f.0 refl refl f.1)

  module _ (low high : ℕ) (e : Clean (string_at s c low high).next) where
    string_passed : (Clean (text_at s c).next) × ((leb low (text_at s c).len && leb (text_at s c).len high) ≡ true)
    unfolding string_at ◌>>=◌
    string_passed = judged_passed (text_at s c).next c.at _ 3 (rw text_next at e)

    pub string_is : string_at s c low high ≡ text_at s c
    string_is = sym (string_on s c refl low high string_passed.0 refl string_passed.1)

    -- the cursor stands behind its bytes
    pub string_ends : (string_at s c low high).start + (string_at s c low high).len ≡ (string_at s c low high).next.at
    string_ends = rw (string_is, text_is string_passed.0) (omega arith)
