-- The bits of cells: products are small.
-- Assumes nothing.
use Prim.Native.Nat.{ℕ, ◌*◌, ◌≤◌, ◌<◌}
use native.Mathlib.Nat.{mul-le-mul, lt_of_le_of_lt, le_of_lt, lt_trans}
use lib.Dec.{lit<}
use mir.Syntax.{w64}
use mir.Val.{Fits}

module _ {e b : ℕ} (h : e ≤ 1048576) (k : b < 256) where
  pub product : e * b < 4294967296
  product = lt_of_le_of_lt (mul-le-mul h (le_of_lt k)) (lit< tt)

  pub product_fits : Fits w64 (e * b)
  product_fits = record { fits = lt_trans product (lit< tt) }
