-- `standard_index::rows::LastRows::last_row` meets its contract: it reads the number k widths on.
use native.Mathlib.Omega.{arith}
use Rattle.bytes_at.specs.Number.{bytes_of}
use Rattle.bytes_at.proofs.Listed.{place_le, room_for, number_is}
use Rattle.standard_index.proofs.rows.LastRows.last_row.Goals as goal

pub overflow_mul-k : goal.overflow_mul-k
overflow_mul-k c = omega (arith, place_le c.args.self.at c.args.k (bytes_of c.args.self.width) c.bytes-size.ensures.0 (room_for _ _ _ _ c.requires c.args.self.inside))

pub overflow_add-self : goal.overflow_add-self
overflow_add-self c = omega (arith, place_le c.args.self.at c.args.k (bytes_of c.args.self.width) c.bytes-size.ensures.0 (room_for _ _ _ _ c.requires c.args.self.inside))

pub returns : goal.returns
returns c = number_is _ _ _ _ _ c.bytes-size.ensures.0 c.number.ensures
