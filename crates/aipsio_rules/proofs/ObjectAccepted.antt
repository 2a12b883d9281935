-- What an unrefused cursor says of the step into or out of an object that led to it: which tests were passed, and what the step
-- gave (`-is`).
-- Assumes nothing.
use mathlib.Core.Path.{◌≡◌, refl, sym, ap, ◌∙◌}
use mathlib.Core.List.{List}
use Prim.Native.Nat.{ℕ, zero, suc, ◌+◌, ◌*◌, ◌≤◌, ◌<◌}
use native.Mathlib.Nat.{mul-pos, suc-mul}
use native.Mathlib.Omega.{arith}
use lib.Dec.{leb, eqb, lit<}
use borrow.Author.Tests.{leb-true, eqb-true, eq-eqb}
use Rattle.bytes_at.specs.Bytes.{bytes}
use Rattle.bytes_at.specs.Steps.{after, ◌>>=◌}
use Rattle.aipsio_rules.specs.declared.Cursor.{Cursor}
use Rattle.aipsio_rules.specs.declared.Value.{Value}
use Rattle.aipsio_rules.specs.Field.{refused_at, left_in, moved_to, most_int64, row_at, skipped_each, settled, uint_at, ranged_at, agreed, name_at}
use Rattle.aipsio_rules.proofs.Kept.{Clean, clean_before, name_keeps, ranged_reads, agreed_keeps, ◌⨟◌}
use Rattle.aipsio_rules.proofs.Accepted.{latched_clean, passed_test, not_zero, judged_passed, each_fits, each_is, sized_fits, sized_is, ranged_is, ranged_within, uint_is, agreed_is}
use Rattle.aipsio_rules.specs.Object.{entered, opened, closed, block_head_at, block_at, rows_at, row_block_at, axis_into, axes_at, shape_at}
use Rattle.aipsio_rules.proofs.ObjectKept.{closed_keeps, rows_keeps, axis_reads}
use Rattle.aipsio_rules.proofs.ObjectSides.{enter_on, close_on}

-- the object ends in its container, and not before its header
module _ (c outer : Cursor) (len : ℕ) (e : Clean (entered c outer len)) where
  pub entered_fits : (Clean c) × (len ≤ left_in outer) × (c.at ≤ outer.at + len)
  unfolding entered
  entered_fits =
      let l = latched_clean c _ e in
      let f = passed_test (leb len (left_in outer)) _ (refused_at c outer.at 1) (not_zero 0) l.1 in
      let g = passed_test (leb c.at (outer.at + len)) _ (refused_at c outer.at 7) (not_zero 6) f.1 in
      (l.0, leb-true len (left_in outer) f.0, leb-true c.at (outer.at + len) g.0)

  pub entered_is : entered c outer len ≡ record { at = c.at; end = outer.at + len; big = c.big; refused = 0 }
  entered_is = sym (enter_on c entered_fits.0 outer refl len entered_fits.1 entered_fits.2)

-- the last field ends where the object does
module _ (c outer : Cursor) where
  pub closed_full : Clean (closed c outer) → (Clean c) × (c.at ≡ c.end)
  unfolding closed
  closed_full e =
      let l = latched_clean c _ e in
      (l.0, eqb-true c.at c.end (passed_test (eqb c.at c.end) _ (refused_at c outer.at 7) (not_zero 6) l.1).0)

  pub closed_is : Clean (closed c outer) → closed c outer ≡ record { at = c.at; end = outer.end; big = c.big; refused = 0 }
  closed_is e = let f = closed_full e in sym (close_on c f.0 outer f.1)

pub cursor_same : (c : Cursor) {at : ℕ} → c.at ≡ at → Clean c → c ≡ moved_to c at
cursor_same c p e = rw (← p, ← e)

-- an object, whose fields begin at o, in its container c
pub record Inside (c o : Cursor) : Type 0 where
  pub clean : Clean c
  pub room : c.at < c.end
  pub ends : o.at ≤ o.end
  pub within : o.end ≤ c.end

module _ (s : List ℕ) (c : Cursor) (expected : List ℕ) (low high : ℕ) (e : Clean (opened s c expected low high).next) where
  pub opened_inside : Inside c (opened s c expected low high).next
  unfolding opened settled ◌>>=◌
  opened_inside =
      let len = uint_at s c in
      let v = ranged_at s (name_at s len.next expected) 4 low high 3 in
      let f = entered_fits v.next c len.value e in
      let h : Clean (uint_at s c).next = clean_before (name_keeps s _ expected ⨟ (ranged_reads s _ 4 low high 3).keeps) f.0 in
      let g = sized_fits s c 4 (rw (uint_is s c) at h) in
      rw (entered_is v.next c len.value e)
      (record { clean = g.0; room = omega arith; ends = f.2; within = omega arith })

-- a Block ends in its container
head_within : (s : List ℕ) (c : Cursor) (n : ℕ) → Clean (block_head_at s c n) → (block_head_at s c n).end ≤ c.end
unfolding block_head_at ◌>>=◌
head_within s c n e =
    let o = (opened s c (bytes "Block") 1 1).next in
    let q : (agreed s o n).end ≡ o.end = ap (λ (x : Cursor). x.end) (agreed_is s o n e) in
    let i = opened_inside s c (bytes "Block") 1 1 (clean_before (agreed_keeps s o n) e) in
    omega (arith, i.within)

-- and its elements lie in it
pub block_inside : (s : List ℕ) (c : Cursor) (n : ℕ) → Clean (block_at s c n).next → (block_at s c n).value + n * 4 ≤ c.end
unfolding block_at settled ◌>>=◌
block_inside s c n e =
    let k = block_head_at s c n in
    let d = skipped_each k n 4 in
    let f = closed_full d c e in
    let g = each_fits k n 4 f.0 in
    let p : k.at + n * 4 ≡ k.end = rw (each_is k n 4 f.0) at f.1 in
    rw (eq-eqb (closed d c).refused 0 e) (omega (arith, head_within s c n g.0))

row_is : (s : List ℕ) (c : Cursor) (width : ℕ) → Clean (row_at s c width).next → (row_at s c width).next ≡ moved_to c (c.at + width)
row_is s c width e =
    let r = ranged_is s c width 0 most_int64 3 e in
    ap (λ (v : Value). v.next) (r ∙ sized_is s c width (rw r at e))

-- a run of row numbers that is not refused ends behind them
pub rows_is : (s : List ℕ) (c : Cursor) (n width : ℕ) → Clean (rows_at s c n width) → rows_at s c n width ≡ moved_to c (c.at + n * width)
unfolding rows_at after
rows_is s c zero width e = cursor_same c (omega arith) e
rows_is s c (suc n) width e =
    let d = rows_at s c n width in
    let q = rows_is s c n width (clean_before (ranged_reads s d width 0 most_int64 4).keeps e) in
    let p : c.at + n * width + width ≡ c.at + suc n * width = omega (arith, suc-mul n width) in
    row_is s d width e ∙ ap (λ (x : Cursor). moved_to x (x.at + width)) q ∙ ap (moved_to c) p

pub row_block_inside : (s : List ℕ) (c : Cursor) (n width : ℕ) → Clean (row_block_at s c n width).next → (row_block_at s c n width).value + n * width ≤ c.end
unfolding row_block_at settled ◌>>=◌
row_block_inside s c n width e =
    let k = block_head_at s c n in
    let d = rows_at s k n width in
    let f = closed_full d c e in
    let p : k.at + n * width ≡ k.end = rw (rows_is s k n width f.0) at f.1 in
    rw (eq-eqb (closed d c).refused 0 e) (omega (arith, head_within s c n (clean_before (rows_keeps s k n width) f.0)))

-- a number above 0
pub settled_some : (v : ℕ) (c : Cursor) → (Clean c → 0 < v) → Clean (settled v c).next → 0 < (settled v c).value
unfolding settled
settled_some v c h e = rw (eq-eqb c.refused 0 e) (h e)

-- "each axis and the product so far 1 to 1,048,576": a fixed shape has an element
module _ (s : List ℕ) (width : ℕ) where
  axis_some : (product : Value) → 0 < product.value → Clean (axis_into s width product).next → 0 < (axis_into s width product).value
  unfolding axis_into ◌>>=◌
  axis_some product h = settled_some _ _ (λ e. mul-pos h (ranged_within s product.next width 1 1048576 3 (judged_passed _ _ _ 3 e).0).0)

  turns_some : (x : Value) → 0 < x.value → (n : ℕ)
      → Clean (after (λ (p : Value) (i : ℕ). axis_into s width p) x n).next → 0 < (after (λ (p : Value) (i : ℕ). axis_into s width p) x n).value
  unfolding after
  turns_some x h zero e = h
  turns_some x h (suc n) e = axis_some _ (turns_some x h n (clean_before (axis_reads s width _).keeps e)) e

axes_some : (s : List ℕ) (c : Cursor) (n width : ℕ) → Clean (axes_at s c n width).next → 0 < (axes_at s c n width).value
unfolding axes_at
axes_some s c n width = turns_some s width _ (lit< tt) n

pub shape_some : (s : List ℕ) (c : Cursor) (dimensions : ℕ) → Clean (shape_at s c dimensions).next → 0 < (shape_at s c dimensions).value
unfolding shape_at ◌>>=◌
shape_some s c dimensions = settled_some _ _ (λ e. axes_some s _ _ _ (clean_before (closed_keeps _ c) e))
