-- `standard_index::rows::LastRows::local_row` meets its contract, on either side of its test.
use native.Mathlib.Omega.{arith}
use Rattle.standard_index.proofs.rows.Starts.{local_first, local_after}
use Rattle.standard_index.proofs.rows.LastRows.local_row.Goals as goal

pub returns-then-k-eq0 : goal.returns-then-k-eq0
returns-then-k-eq0 c = local_first _ _ _ _ _ _ c.if-k-eq0.true

pub returns : goal.returns
returns c = omega (arith, local_after _ _ _ _ _ c.args.row c.if-k-eq0.false c.last_row-last.ensures)
