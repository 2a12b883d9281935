-- A reader that is not refused gives the same in a larger container.
--     Wider         d stands where c does, and is not refused; its container ends no earlier
--     Wide          the same, where c is not refused
--     WiderValue    the same of two numbers that were read, WiderText of two Strings
-- Assumes nothing.
use mathlib.Core.Path.{◌≡◌, refl, sym, ap, ◌∙◌}
use mathlib.Core.List.{List}
use mathlib.Core.Bool.{Bool, true, false, cond, ◌&&◌}
use Prim.Native.Nat.{ℕ, suc, ◌+◌, ◌≤◌}
use native.Mathlib.Omega.{arith}
use lib.Dec.{leb}
use Rattle.bytes_at.specs.Number.{uint_of}
use Rattle.bytes_at.specs.Steps.{◌>>=◌}
use Rattle.aipsio_rules.specs.declared.Cursor.{Cursor}
use Rattle.aipsio_rules.specs.declared.Value.{Value}
use Rattle.aipsio_rules.specs.declared.Text.{Text}
use Rattle.aipsio_rules.specs.Field.{skipped, judged, settled, sized_at, uint_at, ranged_at, text_before, text_at, string_at, name_at}
use Rattle.aipsio_rules.proofs.Kept.{Clean, clean_before, judged_keeps, text_next, name_keeps, uint_reads, ranged_reads, each_keeps, ◌⨟◌}
use Rattle.aipsio_rules.proofs.Sides.{settle_on, text_on, judge_on, skip_on}
use Rattle.aipsio_rules.proofs.Accepted.{judged_passed, judged_is, skipped_fits, skipped_is}
use Rattle.aipsio_rules.specs.Object.{entered, opened, closed, passed, record_at, iposition_at, shape_at}
use Rattle.aipsio_rules.proofs.ObjectKept.{opened_reads, closed_keeps, passed_keeps, axes_keeps}
use Rattle.aipsio_rules.proofs.ObjectSides.{enter_on, close_on, pass_on}
use Rattle.aipsio_rules.proofs.ObjectAccepted.{entered_fits, entered_is, closed_full, closed_is}

pub record Wider (c d : Cursor) : Type 0 where
  pub at : c.at ≡ d.at
  pub ends : c.end ≤ d.end
  pub big : c.big ≡ d.big
  pub clean : Clean d

abbrev pub Wide : Cursor → Cursor → Type 0
Wide c d = Clean c → Wider c d

pub record WiderValue (x y : Value) : Type 0 where
  pub next : Wider x.next y.next
  pub value : x.value ≡ y.value

record WiderText (t u : Text) : Type 0 where
  next : Wider t.next u.next
  start : t.start ≡ u.start
  len : t.len ≡ u.len

-- Steps.
module _ {c d : Cursor} (w : Wide c d) where
  skipped_wide : (n : ℕ) → Wide (skipped c n) (skipped d n)
  skipped_wide n e =
      let f = skipped_fits c n e in
      let v = w f.0 in
      rw (skipped_is c n e, ← (skip_on d v.clean refl n (omega (arith, f.1, v.at, v.ends))))
      (record { at = rw v.at; ends = v.ends; big = v.big; clean = refl })

  judged_wide : (from from' : ℕ) {ok ok' : Bool} (n : ℕ) → (Clean c → ok ≡ ok') → Wide (judged c from ok (suc n)) (judged d from' ok' (suc n))
  judged_wide from from' {ok} {ok'} n q e =
      let p = judged_passed c from ok n e in
      let v = w p.0 in
      rw (judged_is c from ok n e, ← (judge_on d v.clean from' ok' (suc n) (sym (q p.0) ∙ p.1))) v

  pub settled_wide : {n m : ℕ} → (Clean c → n ≡ m) → Clean c → WiderValue (settled n c) (settled m d)
  settled_wide {n} {m} q e =
      let v = w e in
      rw (← (settle_on c e n), ← (settle_on d v.clean m)) (record { next = v; value = q e })

  before_wide : {n m : ℕ} → (Clean c → n ≡ m) → Clean c → WiderText (text_before c n) (text_before d m)
  before_wide {n} {m} q e =
      let v = w e in
      rw (← (text_on c e n), ← (text_on d v.clean m)) (record { next = v; start = rw (v.at, q e); len = q e })

-- a number that was read, and is judged
pub judged_value : {x y : Value} → (Clean x.next → WiderValue x y) → (from from' : ℕ) (ok : ℕ → Bool) (n : ℕ)
    → Clean (judged x.next from (ok x.value) (suc n))
    → WiderValue (settled x.value (judged x.next from (ok x.value) (suc n))) (settled y.value (judged y.next from' (ok y.value) (suc n)))
judged_value {x} r from from' ok n =
    settled_wide (judged_wide (λ e. (r e).next) from from' n (λ e. ap ok (r e).value)) (λ e. (r (judged_passed x.next from _ n e).0).value)

-- either of two readers
pub wide_either : (t : Bool) {x y u v : Value} → (Clean x.next → WiderValue x y) → (Clean u.next → WiderValue u v)
    → Clean (cond t x u).next → WiderValue (cond t x u) (cond t y v)
wide_either true a b = a
wide_either false a b = b

-- Numbers and Strings.
module _ (s : List ℕ) {c d : Cursor} (w : Wide c d) where
  number_same : (width : ℕ) → Clean c → uint_of c.big width s c.at ≡ uint_of d.big width s d.at
  number_same width e = let v = w e in rw (v.big, v.at)

  sized_wide : (width : ℕ) → Clean (sized_at s c width).next → WiderValue (sized_at s c width) (sized_at s d width)
  unfolding sized_at settled ◌>>=◌
  sized_wide width = settled_wide (skipped_wide w width) (λ e. number_same width (skipped_fits c width e).0)

  pub uint_wide : Clean (uint_at s c).next → WiderValue (uint_at s c) (uint_at s d)
  unfolding uint_at sized_at
  uint_wide = sized_wide 4

  pub ranged_wide : (width low high n : ℕ) → Clean (ranged_at s c width low high (suc n)).next
      → WiderValue (ranged_at s c width low high (suc n)) (ranged_at s d width low high (suc n))
  unfolding ranged_at settled ◌>>=◌
  ranged_wide width low high n = judged_value (sized_wide width) _ _ (λ v. leb low v && leb v high) n

  text_wide : Clean (text_at s c).next → WiderText (text_at s c) (text_at s d)
  unfolding text_at ◌>>=◌
  text_wide e =
      let h = rw text_next at e in
      let q = number_same 4 (skipped_fits c (4 + uint_of c.big 4 s c.at) h).0 in
      rw (← q) (before_wide (skipped_wide w _) (λ _. refl) h)

  pub string_wide : (low high : ℕ) → Wide (string_at s c low high).next (string_at s d low high).next
  unfolding string_at ◌>>=◌
  string_wide low high = rw (text_next, text_next) (judged_wide (λ e. (text_wide e).next) _ _ 3 (λ e. rw (text_wide e).len))

  name_wide : (expected : List ℕ) → Wide (name_at s c expected) (name_at s d expected)
  unfolding name_at ◌>>=◌
  name_wide expected = judged_wide (λ e. (text_wide e).next) _ _ 1 (λ e. rw ((text_wide e).start, (text_wide e).len))

-- Into an object: the cursor there ends with it, and is the same.
entered_same : {c d outer wider : Cursor} (len : ℕ) → Wide c d → Wider outer wider → Clean (entered c outer len)
    → entered c outer len ≡ entered d wider len
entered_same {c} {d} {outer} {wider} len w o e =
    let f = entered_fits c outer len e in
    let v = w f.0 in
    entered_is c outer len e ∙ rw (o.at, v.at, v.big) (enter_on d v.clean wider refl len (omega (arith, f.1, o.at, o.ends)) (omega (arith, f.2, o.at, v.at)))

module _ (s : List ℕ) {c d : Cursor} (w : Wide c d) where
  opened_same : (expected : List ℕ) (low high : ℕ) → Clean (opened s c expected low high).next → opened s c expected low high ≡ opened s d expected low high
  unfolding opened settled ◌>>=◌
  opened_same expected low high e =
      let len : Clean (uint_at s c).next → WiderValue (uint_at s c) (uint_at s d) = uint_wide s w in
      let name : Wide (name_at s (uint_at s c).next expected) (name_at s (uint_at s d).next expected) = name_wide s (λ h. (len h).next) expected in
      let version = ranged_wide s name 4 low high 2 in
      let f : Clean (ranged_at s (name_at s (uint_at s c).next expected) 4 low high 3).next = (entered_fits _ c _ e).0 in
      let h : Clean (uint_at s c).next = clean_before (name_keeps s _ expected ⨟ (ranged_reads s _ 4 low high 3).keeps) f in
      let o = w (clean_before (uint_reads s c).keeps h) in
      rw (← (len h).value, ← (version f).value, ← (entered_same (uint_at s c).value (λ k. (version k).next) o e))

-- Out of one.
module _ {c d : Cursor} (w : Wider c d) (o : Cursor) where
  closed_wide : Wide (closed o c) (closed o d)
  closed_wide e =
      let f = closed_full o c e in
      rw (closed_is o c e, ← (close_on o f.0 d f.1)) (record { at = refl; ends = w.ends; big = refl; clean = refl })

  passed_wide : Wide (passed o c) (passed o d)
  passed_wide e =
      let f = clean_before (passed_keeps o c) e in
      rw (← (pass_on o f c), ← (pass_on o f d)) (record { at = refl; ends = w.ends; big = refl; clean = refl })

-- Objects.
module _ (s : List ℕ) {c d : Cursor} (w : Wide c d) where
  pub record_wide : Wide (record_at s c) (record_at s d)
  unfolding record_at ◌>>=◌
  record_wide e =
      let o = clean_before (passed_keeps _ c) e in
      rw (← (opened_same s w _ 1 1 o)) (passed_wide (w (clean_before (opened_reads s c _ 1 1).keeps o)) _ e)

  pub iposition_wide : Wide (iposition_at s c) (iposition_at s d)
  unfolding iposition_at ◌>>=◌
  iposition_wide e =
      let o = clean_before ((uint_reads s _).keeps ⨟ each_keeps _ _ _ ⨟ closed_keeps _ c) e in
      rw (← (opened_same s w _ 1 2 o)) (closed_wide (w (clean_before (opened_reads s c _ 1 2).keeps o)) _ e)

  pub shape_wide : (dimensions : ℕ) → Clean (shape_at s c dimensions).next → WiderValue (shape_at s c dimensions) (shape_at s d dimensions)
  unfolding shape_at settled ◌>>=◌
  shape_wide dimensions e =
      let o = clean_before ((ranged_reads s _ 4 1 8 4).keeps ⨟ judged_keeps _ _ _ 5 ⨟ axes_keeps s _ _ _ ⨟ closed_keeps _ c) e in
      rw (← (opened_same s w _ 1 2 o)) (settled_wide (closed_wide (w (clean_before (opened_reads s c _ 1 2).keeps o)) _) (λ _. refl) e)
