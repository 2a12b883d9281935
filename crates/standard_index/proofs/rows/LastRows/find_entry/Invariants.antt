-- `standard_index::rows::LastRows::find_entry` meets its contract. The loop's invariant: the rule, over the entries that are still possible,
-- gives what it gives over all, and the looks that are left are enough to leave one entry.
use Rattle.bytes_at.specs.Number.{bytes_of}
use Rattle.standard_index.proofs.rows.Halving.{Bounded}
use Rattle.standard_index.proofs.rows.LastRows.find_entry.Given as goal

abbrev pub invariant-loop-looks : goal.invariant-loop-looks
invariant-loop-looks l = Bounded l.self.big (bytes_of l.self.width) l.self.text.now l.self.at l.self.n l.row l.most l.first l.last l.looks
