-- `table_column_set::info::read_owners` meets its contract. The loop's invariant: after i turns the state is the definition's after i turns.
use mathlib.Core.Path.{◌≡◌, sym, ◌∙◌}
use Prim.Native.Nat.{◌+◌}
use native.Mathlib.Omega.{arith}
use lib.ListN.{get_or, set}
use lib.Seq.{set_out}
use Rattle.std.proofs.lemmas.Grind.{common_steps}
use Rattle.std.proofs.lemmas.Option.{gets}
use Rattle.bytes_at.proofs.Loops.{after_none, after_more, after_all}
use Rattle.bytes_at.proofs.Stepped.{via}
use Rattle.table_rules.specs.ColumnDesc.{no_column}
use Rattle.table_rules.specs.ColumnSet.{no_owner, owner_into, owners_at}
use Rattle.table_column_set.proofs.info.Counts.{zeros_le, counted}
use Rattle.table_column_set.proofs.info.read_owners.Goals as goal
use Rattle.table_column_set.proofs.info.read_owners.Goals.{then-k-lt16, else-k-lt16}

pub loop-i-init : goal.loop-i-init
loop-i-init c = after_none _ _

pub overflow_cast-owners-in-loop-i-2 : goal.overflow_cast-owners-in-loop-i-2
overflow_cast-owners-in-loop-i-2 c =
    let e : c.unwrap_or-rank.result ≡ get_or c.loop-i.counts c.first_number-k.result 0 = grind (arith, common_steps, gets) in
    let h = counted _ _ _ _ _ _ c.loop-i.invariant (zeros_le 16) (omega arith) c.first_number-k.result in
    omega (arith, h)

pub overflow_add-counts : goal.overflow_add-counts
overflow_add-counts c =
    let e : c.unwrap_or-rank.result ≡ get_or c.loop-i.counts c.first_number-k.result 0 = grind (arith, common_steps, gets) in
    let h = counted _ _ _ _ _ _ c.loop-i.invariant (zeros_le 16) (omega arith) c.first_number-k.result in
    omega (arith, h)

pub loop-i-preserved : goal.loop-i-preserved
unfolding owner_into no_column
loop-i-preserved c =
    let e : c.unwrap_or-rank.result ≡ get_or c.loop-i.counts c.first_number-k.result 0 = grind (arith, common_steps, gets) in
    let filled : c.if-k-lt16.counts ≡ set c.loop-i.counts c.first_number-k.result (c.unwrap_or-rank.result + 1) = elim c.if-k-lt16.branch [
      | then-k-lt16 w ↦ w.counts-is
      | else-k-lt16 w ↦ w.counts-is ∙ sym (set_out _ _ _ (omega arith))
    ] in
    after_more _ _ _ c.loop-i.invariant (
    via _ c.read_sequence-q.ensures.value (
    via _ c.first_number-k.ensures.value (
    via _ c.judge-d.ensures (
    via _ e (
    via _ c.skip_own_shape-next.ensures (
    rw filled))))))

pub returns-clause-value : goal.returns-clause-value
unfolding owners_at no_owner
returns-clause-value c = after_all _ _ _ _ c.loop-i.invariant (omega arith) (omega arith)

pub returns-clause-bounded : goal.returns-clause-bounded
returns-clause-bounded c = counted _ _ _ _ _ _ c.loop-i.invariant (zeros_le 16) (omega arith)
