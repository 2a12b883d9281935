-- `table_column_set::bindings::bind` meets its contract. The loop's invariant: after i turns the list is the definition's after i turns.
use mathlib.Core.Path.{◌≡◌, refl, ap}
use Rattle.std.specs.Prelude.{None}
use Rattle.std.proofs.lemmas.Grind.{common_steps}
use Rattle.std.proofs.lemmas.Option.{gets}
use native.Mathlib.Omega.{arith}
use lib.ListN.{get_or, set}
use Rattle.bytes_at.proofs.Loops.{after_none, after_more, after_all}
use Rattle.bytes_at.proofs.Stepped.{via}
use Rattle.table_rules.specs.ColumnSet.{binding_at, bindings_at, no_owner, no_binding}
use Rattle.table_column_set.proofs.bindings.bind.Goals as goal

pub loop-i-init : goal.loop-i-init
loop-i-init c = after_none _ _

pub loop-i-preserved : goal.loop-i-preserved
unfolding binding_at no_owner
loop-i-preserved c =
    after_more _ _ _ c.loop-i.invariant (
    ap (set c.loop-i.bindings c.loop-i.i) (
    let e : c.flatten-info.result ≡ get_or c.args.infos.now (get_or c.args.owners.now c.loop-i.i no_owner).manager None = grind (arith, common_steps, gets) in
    via _ refl (via _ e c.read_binding.ensures)))

pub returns : goal.returns
unfolding bindings_at no_binding
returns c = after_all _ _ _ _ c.loop-i.invariant (omega arith) (omega arith)
