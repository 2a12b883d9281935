-- `standard::sets::buckets_apart` meets its contract: the marks of three lists, one after the other, decide.
use mathlib.Core.List.{map}
use Rattle.standard_rules.specs.Index.{links}
use Rattle.standard_rules.specs.Map.{map_set, data_of}
use Rattle.standard.proofs.sets.Sets.{apart_first, apart_second, apart_third}
use Rattle.standard.proofs.sets.buckets_apart.Goals as goal

pub returns-then-not-mark_sets : goal.returns-then-not-mark_sets
returns-then-not-mark_sets c =
    let a = c.args in
    apart_first _ a.buckets.area.few (data_of (map (map_set a.big a.text.now) a.sets.now)) (links a.buckets.file.now a.buckets.size a.h.index_count a.h.first_index) (links a.buckets.file.now a.buckets.size a.h.free_count a.h.first_free) (rw c.none-seen.ensures at c.mark_sets.ensures) c.if-not-mark_sets.true

pub returns-then-not-add_chain : goal.returns-then-not-add_chain
returns-then-not-add_chain c = apart_second _ c.args.buckets.area.few _ _ _ (rw c.none-seen.ensures at c.mark_sets.ensures) c.if-not-mark_sets.false c.add_chain.ensures c.if-not-add_chain.true

pub returns : goal.returns
returns c =
    apart_third _ c.args.buckets.area.few _ _ _ (rw c.none-seen.ensures at c.mark_sets.ensures) c.if-not-mark_sets.false
    c.add_chain.ensures c.if-not-add_chain.false c.add_chain-2.ensures
