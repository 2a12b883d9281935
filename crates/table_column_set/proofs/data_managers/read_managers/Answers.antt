-- `table_column_set::data_managers::read_managers` meets its contract. The loop's invariant: after i turns the state is the definition's after i turns.
use mathlib.Core.Path.{refl, ◌∙◌}
use native.Mathlib.Omega.{arith}
use Rattle.bytes_at.proofs.Loops.{after_none, after_more, after_all}
use Rattle.bytes_at.proofs.Stepped.{via}
use Rattle.table_rules.specs.ColumnSet.{no_manager, manager_into, managers_at}
use Rattle.table_rules.proofs.Fronts.{number_front}
use Rattle.table_column_set.proofs.data_managers.read_managers.Goals as goal

pub loop-i-init : goal.loop-i-init
loop-i-init c = after_none _ _

pub loop-i-preserved : goal.loop-i-preserved
unfolding manager_into
loop-i-preserved c =
    after_more _ _ _ c.loop-i.invariant (
    via _ c.string-name.ensures.value (
    via _ c.uint-number.ensures.value (
    via _ (c.first_number-k.ensures.value ∙ number_front _ _ (omega arith) _) (
    via _ c.is_new-ok.ensures (
    via _ c.judge-next.ensures (
    via _ c.part.ensures.value (
    via _ c.kind_of.ensures (
    refl))))))))

pub returns : goal.returns
unfolding managers_at no_manager
returns c = after_all _ _ _ _ c.loop-i.invariant (omega arith) (omega arith)
