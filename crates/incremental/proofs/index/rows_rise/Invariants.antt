-- `incremental::index::rows_rise` meets its contract. The loop's invariant: the first rows that are left decide.
use Rattle.bytes_at.specs.Number.{bytes_of}
use Rattle.incremental.proofs.index.Rising.{Rising}
use Rattle.incremental.proofs.index.rows_rise.Given as goal

abbrev pub invariant-loop-i : goal.invariant-loop-i
invariant-loop-i l = Rising l.big (bytes_of l.width) l.f l.rows l.from l.n l.i l.last
