-- `table_column_set::bindings::number_in` meets its contract: a number read from a part is that of the file.
use mathlib.Core.Path.{refl, sym, ◌∙◌}
use Prim.Native.Nat.{◌+◌, ◌*◌}
use native.Mathlib.Omega.{arith}
use Rattle.bytes_at.proofs.Numbers.{part_number}
use Rattle.table_column_set.proofs.bindings.number_in.Goals as goal

pub overflow_cast-result : goal.overflow_cast-result
overflow_cast-result c = omega (arith, c.uint.ensures.bounded)

pub returns : goal.returns
returns c =
    let a = c.args in
    c.uint.ensures.value ∙ rw c.part-run.ensures.value (sym (part_number a.s.now a.at (a.k * 4 + 4) 4 (a.k * 4) refl (omega arith)))
