-- `standard::sets::sets_fit` meets its contract. The loop's invariant: the sets that are left decide.
use mathlib.Core.Path.{sym, ◌∙◌}
use native.Mathlib.Omega.{arith}
use lib.ListN.{get_or}
use Rattle.standard_rules.specs.Index.{no_set}
use Rattle.standard.proofs.Each.{each_on, each_off, each_end}
use Rattle.standard.proofs.columns.Listed.{all_map}
use Rattle.standard.proofs.sets.Sets.{fit_is}
use Rattle.standard.proofs.sets.sets_fit.Goals as goal

pub invariant_of-lasts : goal.invariant_of-lasts
invariant_of-lasts c = record { inside = rw c.of_int.ensures (c.requires c.loop-s.s-index (omega arith)) }

pub returns-then-not-fit : goal.returns-then-not-fit
returns-then-not-fit c = each_off _ _ _ c.loop-s.invariant no_set (omega arith) (fit_is _ _ _ (get_or c.args.sets.now c.loop-s.s-index no_set) c.of_int.ensures c.fit.ensures) c.if-not-fit.true ∙ sym (all_map _ _ _)

pub loop-s-preserved : goal.loop-s-preserved
loop-s-preserved c = each_on _ _ _ c.loop-s.invariant no_set (omega arith) (fit_is _ _ _ (get_or c.args.sets.now c.loop-s.s-index no_set) c.of_int.ensures c.fit.ensures) c.if-not-fit.false

pub returns : goal.returns
returns c = each_end _ _ _ c.loop-s.invariant (omega arith) ∙ sym (all_map _ _ _)
