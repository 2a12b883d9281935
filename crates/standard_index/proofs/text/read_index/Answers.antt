-- `standard_index::text::read_index` meets its contract: its calls compose as the definition says, and the lists of each set lie in the text.
use native.Mathlib.Omega.{arith}
use Rattle.bytes_at.proofs.Stepped.{via}
use Rattle.standard_rules.specs.Index.{index_at}
use Rattle.standard_index.proofs.text.IndexLaws.{index_answered}
use Rattle.standard_index.proofs.text.read_index.Goals as goal

pub read_sets-all-requires : goal.read_sets-all-requires
read_sets-all-requires c = omega arith

pub returns : goal.returns
unfolding index_at
returns c =
    index_answered c.args.text.now c.args.big c.args.n c.requires (
    via _ c.read_sets-all.ensures (
    via _ c.judge-e.ensures c.answer_index.ensures))
