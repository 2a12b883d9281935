-- Bounds of a shape's product, also where the cursor is refused.
-- Assumes nothing.
use mathlib.Core.List.{List}
use Prim.Native.Nat.{ℕ, zero, suc, ◌*◌, ◌≤◌}
use native.Mathlib.Nat.{mul-le-mul}
use native.Mathlib.Omega.{arith}
use mir.Val.{Fits}
use mir.Syntax.{w64}
use mir.Facts.{Fits-le, Fits-lit}
use borrow.Author.Tests.{leb-true}
use Rattle.bytes_at.specs.Steps.{after, ◌>>=◌}
use Rattle.aipsio_rules.specs.declared.Cursor.{Cursor}
use Rattle.aipsio_rules.specs.declared.Value.{Value}
use Rattle.aipsio_rules.proofs.Accepted.{judged_passed}
use Rattle.aipsio_rules.proofs.Bounds.{settled_le}
use Rattle.aipsio_rules.specs.Object.{axis_into, axes_at, shape_at}

pub axis_le : (s : List ℕ) (width : ℕ) (product : Value) → (axis_into s width product).value ≤ 1048576
unfolding axis_into ◌>>=◌
axis_le s width product = settled_le _ _ (λ e. leb-true _ _ (judged_passed _ _ _ 3 e).1)

-- also after any number of turns
pub turns_le : (s : List ℕ) (width : ℕ) (x : Value) (n : ℕ) → x.value ≤ 1048576 → (after (λ (p : Value) (i : ℕ). axis_into s width p) x n).value ≤ 1048576
unfolding after
turns_le s width x zero h = h
turns_le s width x (suc n) h = axis_le s width _

pub axes_le : (s : List ℕ) (c : Cursor) (n width : ℕ) → (axes_at s c n width).value ≤ 1048576
unfolding axes_at
axes_le s c n width = turns_le s width _ n (omega arith)

pub shape_le : (s : List ℕ) (c : Cursor) (dimensions : ℕ) → (shape_at s c dimensions).value ≤ 1048576
unfolding shape_at ◌>>=◌
shape_le s c dimensions = settled_le _ _ (λ e. axes_le s _ _ _)

pub product_fits : {a b : ℕ} → a ≤ 1048576 → b ≤ 1048576 → Fits w64 (a * b)
product_fits p q = Fits-le (mul-le-mul p q) (Fits-lit tt)
