-- `lookup::ask::ask` meets its contract.
use Rattle.lookup.proofs.answer.Laws.{room_is}
use Rattle.lookup.proofs.answer.Cells.{findable_by, answer_by}
use Rattle.lookup.proofs.ask.ask.Goals as goal

pub find_cell-cell-requires : goal.find_cell-cell-requires
find_cell-cell-requires c =
    let s = c.stages-s.ensures in
    findable_by _ _ c.args.q _ c.read-r.ensures s.value.0 s.value.1 s.bounded.0 s.bounded.1

pub returns : goal.returns
returns c =
    let o = c.read-r.ensures in
    let s = c.stages-s.ensures in (
      answer_by _ _ c.args.q _ o s.value.0 s.value.1 c.find_cell-cell.ensures c.answer.ensures,
      room_is _ _ c.args.q _ o s.value.0 s.value.1 c.stages-s.auto.room c.keeps_text-keep.ensures c.settle.ensures,
    )
