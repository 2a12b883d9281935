-- How many numbers of w bytes there is room for. Assumes nothing.
use mathlib.Core.Path.{◌≡◌}
use Prim.Native.Nat.{ℕ, ◌+◌, ◌-◌, ◌*◌, ◌/◌, ◌≤◌, ◌<◌}
use native.Mathlib.Nat.{mul-le-mul_right, div-mul-le_self, div-lt_iff_lt-mul, add-mul}
use native.Mathlib.Omega.{arith}

-- `size` is the width as the code has it
module _ (w : ℕ) (o : 0 < w) {size : ℕ} (z : size ≡ w) where
  -- number i of those that there is room for
  room_here : (left i : ℕ) → i < left / size → i * w + w ≤ left
  room_here left i h =
      let k : i < left / w = rw z at h in
      omega (arith, add-mul i 1 w, mul-le-mul_right {m = i + 1} {n = left / w} w (omega arith), div-mul-le_self left w)

  -- there is no room for one more
  no_room : (left i : ℕ) → i ≡ left / size → left < i * w + w
  no_room left i e =
      let q : i ≡ left / w = rw z at e in
      let k : left < (i + 1) * w = (div-lt_iff_lt-mul {k = w} o).0 (omega arith) in
      omega (arith, add-mul i 1 w)

  -- the same at a place, after i numbers from the first
  module _ (end first i : ℕ) {left at : ℕ} (e : left ≡ end - first) (p : at ≡ first + i * w) where
    pub room_at : {m : ℕ} → m ≤ left / size → i < m → at + w ≤ end
    room_at h l = omega (arith, room_here left i (omega arith))

    pub no_room_at : i ≡ left / size → end - at < size
    no_room_at q = omega (arith, no_room left i q)
