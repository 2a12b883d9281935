-- What a step into or out of an object gives on each side of its tests, where the cursor is not refused; `room` is what `left`
-- gave.
-- Assumes nothing.
use mathlib.Core.Path.{◌≡◌}
use Prim.Native.Nat.{ℕ, ◌+◌, ◌≤◌}
use native.Mathlib.Omega.{arith}
use borrow.Author.Tests.{eq-eqb, le-leb}
use Rattle.aipsio_rules.specs.declared.Cursor.{Cursor}
use Rattle.aipsio_rules.specs.Field.{left_in}
use Rattle.aipsio_rules.proofs.Kept.{Clean}
use Rattle.aipsio_rules.proofs.Sides.{goes}
use Rattle.aipsio_rules.specs.Object.{entered, closed, passed}

module _ (c : Cursor) (h : Clean c) where
  pub close_on : (outer : Cursor) → c.at ≡ c.end → record { at = c.at; end = outer.end; big = c.big; refused = 0 } ≡ closed c outer
  unfolding closed
  close_on outer e = rw (goes c h, eq-eqb c.at c.end e)

  pub pass_on : (outer : Cursor) → record { at = c.end; end = outer.end; big = c.big; refused = 0 } ≡ passed c outer
  unfolding passed
  pass_on outer = rw (goes c h)

  module _ (outer : Cursor) {room : ℕ} (e : room ≡ left_in outer) (len : ℕ) where
    pub enter_on : len ≤ room → c.at ≤ outer.at + len → record { at = c.at; end = outer.at + len; big = c.big; refused = 0 } ≡ entered c outer len
    unfolding entered
    enter_on l k = rw (goes c h, le-leb len (left_in outer) (omega arith), le-leb c.at (outer.at + len) k)
