-- `incremental::cells::Search::find_in_all` meets its contract. The loop's invariant: after i turns the state is the definition's after i turns.
use mathlib.Core.Path.{sym}
use native.Mathlib.Omega.{arith}
use Rattle.std.proofs.lemmas.Result.{err_from_is_err_and}
use Rattle.bytes_at.proofs.Loops.{after_none, after_more, after_all}
use Rattle.incremental_rules.specs.Check.{search_of}
use Rattle.incremental.proofs.cells.Turns.{search_stop}
use Rattle.incremental.proofs.cells.Search.find_in_all.Goals as goal

pub loop-i-init : goal.loop-i-init
loop-i-init c = (omega arith, omega arith, after_none _ _)

pub returns-in_err-found : goal.returns-in_err-found
unfolding search_of
returns-in_err-found c =
    let p = err_from_is_err_and c.from_residual.result c.from_residual.ensures.1 in
    rw (p.1, p.2) (search_stop _ _ _ _ _ _ _ _ c.loop-i.invariant.2 c.loop-i-test.true c.in_err-found.ensures)

pub loop-i-preserved : goal.loop-i-preserved
loop-i-preserved c =
    let e = c.in_ok-found in
    (e.found.start_most, e.found.offset_most, after_more _ _ _ c.loop-i.invariant.2 (sym e.ensures))

pub returns : goal.returns
unfolding search_of
returns c = sym (after_all _ _ _ _ c.loop-i.invariant.2 (omega arith) (omega arith))
