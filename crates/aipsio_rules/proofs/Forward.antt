-- Readers go forward, do not leave the file, and keep the byte order: where a cursor and its container end at B at most, so do
-- those after them.
--     Within      a cursor and its container end at B at most
--     Forward     from c to d: a refused cursor stays as it is; an unrefused one is not before c, within B where c is, and of c's
--                 byte order
--     Moves       an unrefused one is behind c
-- Assumes nothing.
use mathlib.Core.Path.{◌≡◌, refl, ◌∙◌}
use mathlib.Core.List.{List}
use mathlib.Core.Bool.{Bool, true, false, cond}
use Prim.Native.Nat.{ℕ, zero, suc, ◌≤◌, ◌<◌}
use native.Mathlib.Omega.{arith}
use Rattle.bytes_at.specs.Steps.{after, ◌>>=◌}
use Rattle.aipsio_rules.specs.declared.Cursor.{Cursor}
use Rattle.aipsio_rules.specs.declared.Value.{Value}
use Rattle.aipsio_rules.specs.Field.{skipped, skipped_each, judged, settled, sized_at, uint_at, ranged_at, mark_at, text_at, string_at, name_at}
use Rattle.aipsio_rules.proofs.Kept.{Clean, Keeps, keeps_same, clean_before, ◌⨟◌, skipped_keeps, each_keeps, judged_keeps, text_next}
use Rattle.aipsio_rules.proofs.Accepted.{skipped_fits, skipped_is, each_fits, each_is, judged_is}
use Rattle.aipsio_rules.specs.Object.{entered, opened, closed, passed, record_at, iposition_at, axis_into, axes_at, shape_at}
use Rattle.aipsio_rules.proofs.ObjectKept.{entered_keeps, closed_keeps, passed_keeps}
use Rattle.aipsio_rules.proofs.ObjectSides.{pass_on}
use Rattle.aipsio_rules.proofs.ObjectAccepted.{entered_fits, entered_is, closed_is, opened_inside}

module _ (B : ℕ) where
  pub record Within (c : Cursor) : Type 0 where
    pub at : c.at ≤ B
    pub end : c.end ≤ B

  pub record Forward (c d : Cursor) : Type 0 where
    pub keeps : Keeps c d
    pub on : Clean d → c.at ≤ d.at
    pub stays : Within c → Clean d → Within d
    pub order : Clean d → d.big ≡ c.big

pub record Moves (c d : Cursor) : Type 0 where
  pub ahead : Clean d → c.at < d.at

module _ {B : ℕ} where
  pub forward_same : (c : Cursor) → Forward B c c
  forward_same c = record { keeps = keeps_same c; on = λ h. omega arith; stays = λ w h. w; order = λ h. refl }

  -- one reader after another
  infixr 20 ◌⊳◌
  pub ◌⊳◌ : {c d e : Cursor} → Forward B c d → Forward B d e → Forward B c e
  a ⊳ b = record {
    keeps = a.keeps ⨟ b.keeps;
    on = λ h. let p = a.on (clean_before b.keeps h) in let q = b.on h in omega arith;
    stays = λ w h. b.stays (a.stays w (clean_before b.keeps h)) h;
    order = λ h. b.order h ∙ a.order (clean_before b.keeps h);
  }

  pub moves_on : {c d e : Cursor} → Moves c d → Forward B d e → Moves c e
  moves_on m b = record { ahead = λ h. let p = m.ahead (clean_before b.keeps h) in let q = b.on h in omega arith }

  pub on_moves : {c d e : Cursor} → Forward B c d → Keeps d e → Moves d e → Moves c e
  on_moves a k m = record { ahead = λ h. let p = a.on (clean_before k h) in let q = m.ahead h in omega arith }

  -- either of two readers
  pub forward_either : (t : Bool) {c d e : Cursor} → Forward B c d → Forward B c e → Forward B c (cond t d e)
  forward_either true a b = a
  forward_either false a b = b

  -- a loop of readers
  pub forward_after : {A : Type 0} (step : A → ℕ → A) (next : A → Cursor) → ((y : A) (i : ℕ) → Forward B (next y) (next (step y i)))
      → (x : A) (n : ℕ) → Forward B (next x) (next (after step x n))
  unfolding after
  forward_after step next k x zero = forward_same (next x)
  forward_after step next k x (suc n) = forward_after step next k x n ⊳ k (after step x n) n

  -- Steps.
  pub skipped_forward : (c : Cursor) (n : ℕ) → Forward B c (skipped c n)
  skipped_forward c n = record {
    keeps = skipped_keeps c n;
    on = λ h. rw (skipped_is c n h) (omega arith);
    stays = λ w h. let f = skipped_fits c n h in rw (skipped_is c n h) (record { at = omega (arith, f.1, w.at, w.end); end = w.end });
    order = λ h. rw (skipped_is c n h);
  }

  pub each_forward : (c : Cursor) (n size : ℕ) → Forward B c (skipped_each c n size)
  each_forward c n size = record {
    keeps = each_keeps c n size;
    on = λ h. rw (each_is c n size h) (omega arith);
    stays = λ w h. let f = each_fits c n size h in rw (each_is c n size h) (record { at = omega (arith, f.1, w.at, w.end); end = w.end });
    order = λ h. rw (each_is c n size h);
  }

  pub judged_forward : (c : Cursor) (from : ℕ) (ok : Bool) (n : ℕ) → Forward B c (judged c from ok (suc n))
  judged_forward c from ok n = record {
    keeps = judged_keeps c from ok (suc n);
    on = λ h. rw (judged_is c from ok n h) (omega arith);
    stays = λ w h. rw (judged_is c from ok n h) w;
    order = λ h. rw (judged_is c from ok n h);
  }

  -- into an object that begins at c, and out of it
  pub entered_forward : {c d : Cursor} (len : ℕ) → Forward B c d → Forward B c (entered d c len)
  entered_forward {c} {d} len a = record {
    keeps = a.keeps ⨟ entered_keeps d c len;
    on = λ h. let f = entered_fits d c len h in rw (entered_is d c len h) (a.on f.0);
    stays = λ w h.
        let f = entered_fits d c len h in
        let v = a.stays w f.0 in
        rw (entered_is d c len h) (record { at = v.at; end = omega (arith, f.1, w.at, w.end) });
    order = λ h. rw (entered_is d c len h) (a.order (entered_fits d c len h).0);
  }

  pub closed_forward : {c d : Cursor} → Forward B c d → Forward B c (closed d c)
  closed_forward {c} {d} a = record {
    keeps = a.keeps ⨟ closed_keeps d c;
    on = λ h. let e = clean_before (closed_keeps d c) h in rw (closed_is d c h) (a.on e);
    stays = λ w h. let v = a.stays w (clean_before (closed_keeps d c) h) in rw (closed_is d c h) (record { at = v.at; end = w.end });
    order = λ h. rw (closed_is d c h) (a.order (clean_before (closed_keeps d c) h));
  }

  -- out of one whose fields are not looked at
  passed_forward : {c d : Cursor} → Forward B c d → (Clean d → d.at ≤ d.end) → (Clean d → d.end ≤ c.end) → Forward B c (passed d c)
  passed_forward {c} {d} a i j = record {
    keeps = a.keeps ⨟ passed_keeps d c;
    on = λ h. let e = clean_before (passed_keeps d c) h in let p = a.on e in rw (← (pass_on d e c)) (omega (arith, i e));
    stays = λ w h. let e = clean_before (passed_keeps d c) h in rw (← (pass_on d e c)) (record { at = omega (arith, j e, w.end); end = w.end });
    order = λ h. let e = clean_before (passed_keeps d c) h in rw (← (pass_on d e c)) (a.order e);
  }

  module _ (s : List ℕ) where
    -- Numbers and Strings.
    pub uint_forward : (c : Cursor) → Forward B c (uint_at s c).next
    unfolding uint_at settled ◌>>=◌
    uint_forward c = skipped_forward c 4

    pub ranged_forward : (c : Cursor) (width low high n : ℕ) → Forward B c (ranged_at s c width low high (suc n)).next
    unfolding ranged_at sized_at settled ◌>>=◌
    ranged_forward c width low high n = skipped_forward c width ⊳ judged_forward _ _ _ n

    pub mark_forward : (c : Cursor) → Forward B c (mark_at s c)
    unfolding mark_at ◌>>=◌
    mark_forward c = ranged_forward c 4 0xbebebebe 0xbebebebe 1

    pub text_forward : (c : Cursor) → Forward B c (text_at s c).next
    unfolding text_at ◌>>=◌
    text_forward c = rw text_next (skipped_forward c _)

    pub string_forward : (c : Cursor) (low high : ℕ) → Forward B c (string_at s c low high).next
    unfolding string_at ◌>>=◌
    string_forward c low high = rw text_next (text_forward c ⊳ judged_forward _ _ _ 3)

    pub name_forward : (c : Cursor) (expected : List ℕ) → Forward B c (name_at s c expected)
    unfolding name_at ◌>>=◌
    name_forward c expected = text_forward c ⊳ judged_forward _ _ _ 1

    -- Objects.
    pub opened_forward : (c : Cursor) (expected : List ℕ) (low high : ℕ) → Forward B c (opened s c expected low high).next
    unfolding opened settled ◌>>=◌
    opened_forward c expected low high = entered_forward _ (uint_forward c ⊳ name_forward _ expected ⊳ ranged_forward _ 4 low high 2)

    pub iposition_forward : (c : Cursor) → Forward B c (iposition_at s c)
    unfolding iposition_at ◌>>=◌
    iposition_forward c = closed_forward (opened_forward c _ 1 2 ⊳ uint_forward _ ⊳ each_forward _ _ _)

    pub record_forward : (c : Cursor) → Forward B c (record_at s c)
    unfolding record_at ◌>>=◌
    record_forward c = passed_forward (opened_forward c _ 1 1) (λ e. (opened_inside s c _ 1 1 e).ends) (λ e. (opened_inside s c _ 1 1 e).within)

    axis_forward : (width : ℕ) (product : Value) → Forward B product.next (axis_into s width product).next
    unfolding axis_into settled ◌>>=◌
    axis_forward width product = ranged_forward _ width 1 1048576 3 ⊳ judged_forward _ _ _ 3

    axes_forward : (c : Cursor) (n width : ℕ) → Forward B c (axes_at s c n width).next
    unfolding axes_at
    axes_forward c n width = forward_after _ (λ (p : Value). p.next) (λ p i. axis_forward width p) _ n

    pub shape_forward : (c : Cursor) (dimensions : ℕ) → Forward B c (shape_at s c dimensions).next
    unfolding shape_at settled ◌>>=◌
    shape_forward c dimensions =
        closed_forward (opened_forward c _ 1 2 ⊳ ranged_forward _ 4 1 8 3 ⊳ judged_forward _ _ _ 4 ⊳ axes_forward _ _ _)

-- What takes a byte at least.
pub skipped_moves : (c : Cursor) (n : ℕ) → 0 < n → Moves c (skipped c n)
skipped_moves c n p = record { ahead = λ h. rw (skipped_is c n h) (omega arith) }

module _ (s : List ℕ) (c : Cursor) where
  pub uint_moves : Moves c (uint_at s c).next
  unfolding uint_at settled ◌>>=◌
  uint_moves = skipped_moves c 4 (omega arith)

  pub ranged_moves : (width low high n : ℕ) → 0 < width → Moves c (ranged_at s c width low high (suc n)).next
  unfolding ranged_at sized_at settled ◌>>=◌
  ranged_moves width low high n p = moves_on {B = 0} (skipped_moves c width p) (judged_forward _ _ _ n)

  pub string_moves : (low high : ℕ) → Moves c (string_at s c low high).next
  unfolding string_at text_at ◌>>=◌
  string_moves low high = rw text_next (moves_on {B = 0} (rw text_next (skipped_moves c _ (omega arith))) (judged_forward _ _ _ 3))

  -- an object that is opened: its length, a name and a version, and its end
  pub entered_moves : {d : Cursor} (len : ℕ) → Moves c d → Moves c (entered d c len)
  entered_moves {d} len m = record { ahead = λ h. let f = entered_fits d c len h in rw (entered_is d c len h) (m.ahead f.0) }

  pub opened_moves : (expected : List ℕ) (low high : ℕ) → Moves c (opened s c expected low high).next
  unfolding opened settled ◌>>=◌
  opened_moves expected low high =
      entered_moves _ (moves_on {B = 0} uint_moves (name_forward s _ expected ⊳ ranged_forward s _ 4 low high 2))

  pub closed_moves : {d : Cursor} → Moves c d → Moves c (closed d c)
  closed_moves {d} m = record { ahead = λ h. let e = clean_before (closed_keeps d c) h in rw (closed_is d c h) (m.ahead e) }
