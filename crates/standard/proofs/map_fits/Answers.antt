-- `standard::map_fits` meets its contract: each part of the map's test in its turn.
use Rattle.standard.proofs.Fitting.{not_sets, not_columns, last}
use Rattle.std.proofs.Common.{rules}
use mathlib.Core.Path.{sym, ◌∙◌}
use Rattle.standard.proofs.map_fits.Goals as goal
use Rattle.standard.proofs.map_fits.Goals.{then-sets_fit, else-sets_fit}

pub columns_fit-requires : goal.columns_fit-requires
columns_fit-requires c = (c.requires.few.0, c.requires.few.1, λ k h. (c.requires.inside k h).per_most)

pub sets_fit-requires : goal.sets_fit-requires
sets_fit-requires c = λ k h. (c.requires.inside k h).lasts_inside

pub buckets_apart-requires : goal.buckets_apart-requires
buckets_apart-requires c = λ k h. (c.requires.inside k h).buckets_inside

pub returns-then-columns_fit : goal.returns-then-columns_fit
returns-then-columns_fit c = elim c.if-sets_fit.branch [
  | then-sets_fit w ↦ last _ _ _ c.args.h _ _ _ c.sets_fit.ensures w.if-sets_fit.true w.columns_fit.ensures (sym w.value-is ∙ c.if-columns_fit.true) (rw (c.requires.same.0, c.requires.same.1) at c.buckets_apart.ensures)
  | else-sets_fit w ↦ search rules
]

pub returns-else-columns_fit : goal.returns-else-columns_fit
returns-else-columns_fit c = elim c.if-sets_fit.branch [
  | then-sets_fit w ↦ c.if-columns_fit.false ∙ not_columns _ _ _ c.args.h _ _ _ c.sets_fit.ensures w.if-sets_fit.true w.columns_fit.ensures (sym w.value-is ∙ c.if-columns_fit.false)
  | else-sets_fit w ↦ c.if-columns_fit.false ∙ not_sets _ _ _ c.args.h _ _ _ c.sets_fit.ensures w.if-sets_fit.false
]
