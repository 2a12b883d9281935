-- `lookup_stages::stages` meets its contract: its calls compose as the definition says.
use Rattle.std.proofs.Common.{rules}
use Rattle.lookup_stages.proofs.Laws.{passed, same_kind, stages_there, stages_here, no_text, room_text}
use Rattle.lookup_stages.proofs.stages.Goals as goal

pub returns-then-g : goal.returns-then-g
returns-then-g c = record {
  value = (
    stages_there _ _ _ _ c.describe-d.ensures.value c.target_in-g.ensures c.if-g.true c.check-there.ensures (search rules) c.finish.ensures.value,
    λ z k. no_text c.if-g.true (same_kind _ _ _ _ _ c.finish.ensures.value) k,
  );
  bounded = c.finish.ensures.bounded;
}

pub returns : goal.returns
returns c = record {
  value = (
    stages_here _ _ _ _ c.describe-d.ensures.value c.target_in-g.ensures c.if-g.false c.check-here.ensures.0 c.finish-2.ensures.value,
    λ z k. room_text _ _ _ c.describe-d.ensures.value (c.check-here.ensures.1 (passed _ _ _ _ _ c.finish-2.ensures.value z)),
  );
  bounded = c.finish-2.ensures.bounded;
}
