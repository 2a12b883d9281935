-- Where a first row stands. Assumes nothing.
use mathlib.Core.Path.{◌≡◌, ap, ◌∙◌}
use mathlib.Core.Bool.{Bool}
use mathlib.Core.List.{List}
use Prim.Native.Nat.{ℕ, ◌+◌, ◌*◌}
use Rattle.bytes_at.specs.Number.{bytes_of, int_width, int_bytes, uint_of}
use Rattle.bytes_at.specs.declared.Width.{Width}
use Rattle.bytes_at.proofs.Listed.{number_is}
use Rattle.incremental_rules.specs.declared.Index.{Index}
use Rattle.incremental_rules.specs.Index.{first_row}

-- first row i
module _ (x : Index) {width : Width} (w : width ≡ int_width x.wide) {size : ℕ} (z : size ≡ bytes_of width) (i : ℕ) where
  pub first_is : (big : Bool) (f : List ℕ) {r : ℕ} → r ≡ uint_of big (bytes_of width) f (x.firsts + i * size) → r ≡ first_row big f x i
  first_is big f e = number_is big (int_bytes x.wide) f x.firsts i (z ∙ ap bytes_of w) (e ∙ ap (λ (y : Width). uint_of big (bytes_of y) f (x.firsts + i * size)) w)
