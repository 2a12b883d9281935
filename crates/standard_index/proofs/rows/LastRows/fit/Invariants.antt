-- `standard_index::rows::LastRows::fit` meets its contract. The loop's invariant: the rule of the last rows that are left is the rule of all.
use Rattle.bytes_at.specs.Number.{bytes_of}
use Rattle.standard_index.proofs.rows.Covering.{Covering}
use Rattle.standard_index.proofs.rows.LastRows.fit.Given as goal

abbrev pub invariant-loop-k : goal.invariant-loop-k
invariant-loop-k l = Covering l.self.big (bytes_of l.self.width) l.self.text.now l.rows l.per l.self.n l.self.at l.k l.from
