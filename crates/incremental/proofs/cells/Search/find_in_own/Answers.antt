-- `incremental::cells::Search::find_in_own` meets its contract.
use Rattle.incremental.specs.Check.{kept_cells}
use Rattle.incremental.proofs.cells.Turns.{own_on, own_off}
use Rattle.incremental.proofs.cells.Search.find_in_own.Goals as goal

pub returns-then-self : goal.returns-then-self
returns-then-self c = own_off _ _ _ _ _ _ _ c.if-self.true

pub returns : goal.returns
returns c =
    let s = c.args.self in
    let p = s.parts in
    rw (← own_on p.entries.big p.entries.file.now p.size p.entries.index (kept_cells s.bytes.now s.column) s.row p.rows c.if-self.false c.find_entry-i.ensures.value)
    c.read_entry.ensures
