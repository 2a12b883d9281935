-- `incremental::index::buckets_apart` meets its contract: the marks of two lists, one after the other, decide.
use mathlib.Core.Path.{◌∙◌}
use Rattle.buckets.proofs.marks.Decided.{marks_no, marks_all}
use Rattle.buckets.proofs.marks.Marking.{marks_then}
use Rattle.incremental.proofs.index.buckets_apart.Goals as goal

pub returns-then-add_numbers : goal.returns-then-add_numbers
returns-then-add_numbers c =
    marks_all _ 4096 c.args.b.area.few _
    (marks_then _ _ _ _ (rw c.none-marks.ensures at c.add_numbers.ensures) c.if-add_numbers.true c.add_chain.ensures)

pub returns-else-add_numbers : goal.returns-else-add_numbers
returns-else-add_numbers c =
    c.if-add_numbers.false ∙ marks_no _ 4096 c.args.b.area.few _ _ (rw c.none-marks.ensures at c.add_numbers.ensures) c.if-add_numbers.false
