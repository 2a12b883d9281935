-- `lookup::view_asked` meets its contract.
use mathlib.Core.Path.{ap, ◌∙◌}
use lib.ListN.{length}
use Rattle.lookup_rules.specs.Views.{view_by, view_of}
use Rattle.lookup_rules.proofs.Texts.{viewed}
use Rattle.lookup.proofs.Begins.{begins}
use Rattle.lookup.proofs.view_asked.Goals as goal

pub returns-clause-value : goal.returns-clause-value
returns-clause-value c =
    let a = c.args in
    let asked = c.ask-a.ensures in
    let part = c.part_of.ensures in (
      part.0 ∙ ap (view_by a.padded _) asked.0,
      begins a.file.ref_ptr a.table.now a.file.now (length a.room.now) a.row a.asked asked.0 part.1,
      asked.1,
    )

pub returns-clause-shows : goal.returns-clause-shows
unfolding view_by
returns-clause-shows c = λ e. viewed _ _ _ _ _ ((rw e at c.part_of.ensures.0) ∙ ap (view_of _) c.ask-a.ensures.0)
