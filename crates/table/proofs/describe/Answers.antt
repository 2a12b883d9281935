-- `table::describe` meets its contract: its calls compose as the definition says.
use borrow.Author.Rules.{rules}
use native.Mathlib.Omega.{arith}
use borrow.Author.Tests.{eq-eqb, ne_eqb}
use mathlib.Core.Path.{refl, ap, ◌∙◌}
use Rattle.bytes_at.proofs.Stepped.{via}
use Rattle.table_rules.specs.Table.{described_as, refused_table}
use Rattle.table_rules.proofs.Fronts.{owners_front, infos_front, bindings_front}
use Rattle.table.proofs.Bounds.{refused_bounded}
use Rattle.table.proofs.describe.Goals as goal

pub read_infos-is-requires : goal.read_infos-is-requires
read_infos-is-requires c = (search rules, c.read_owners-os.ensures.bounded)

pub returns-then-d-ne0 : goal.returns-then-d-ne0
unfolding described_as
returns-then-d-ne0 c = record {
  value = via _ c.judge-c.ensures (
      via _ c.mark-m.ensures (
      via _ c.open-t.ensures (
      via _ c.read_head-head.ensures (
      via _ c.open-o.ensures (
      via _ c.read_desc_head-n.ensures.value (
      via _ c.read_columns-cs.ensures (
      via _ c.close-e.ensures (
      via _ c.read_head-set.ensures.value (
      via _ c.read_managers-ms.ensures (
      via _ (c.read_owners-os.ensures.value ∙ owners_front _ _ _ _ _ _ (omega arith) (omega arith)) (
      via _ (c.read_infos-is.ensures ∙ infos_front _ _ _ _ _ (omega arith)) (
      via _ c.close-d.ensures (
      via _ refl (rw (ne_eqb _ _ c.if-d-ne0.true) (c.refuse.ensures ∙ ap refused_table c.refusal.ensures)))))))))))))));
  bounded = refused_bounded _ c.refuse.ensures;
}

pub returns : goal.returns
unfolding described_as
returns c = record {
  value = via _ c.judge-c.ensures (
      via _ c.mark-m.ensures (
      via _ c.open-t.ensures (
      via _ c.read_head-head.ensures (
      via _ c.open-o.ensures (
      via _ c.read_desc_head-n.ensures.value (
      via _ c.read_columns-cs.ensures (
      via _ c.close-e.ensures (
      via _ c.read_head-set.ensures.value (
      via _ c.read_managers-ms.ensures (
      via _ (c.read_owners-os.ensures.value ∙ owners_front _ _ _ _ _ _ (omega arith) (omega arith)) (
      via _ (c.read_infos-is.ensures ∙ infos_front _ _ _ _ _ (omega arith)) (
      via _ c.close-d.ensures (
      via _ (c.bind.ensures ∙ bindings_front _ _ _ _ (omega arith)) (
      rw (eq-eqb _ _ c.if-d-ne0.false)))))))))))))));
  bounded = (c.read_desc_head-n.ensures.bounded, c.read_head-set.ensures.bounded);
}
