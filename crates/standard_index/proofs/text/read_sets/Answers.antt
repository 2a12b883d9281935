-- `standard_index::text::read_sets` meets its contract. The loop's invariant: after i turns the sets are the definition's after i turns.
use mathlib.Core.Path.{◌≡◌, refl}
use native.Mathlib.Omega.{arith}
use Rattle.std.proofs.Common.{rules}
use Rattle.bytes_at.proofs.Loops.{after_none, after_more, after_all}
use Rattle.bytes_at.proofs.Stepped.{via}
use Rattle.standard_rules.specs.Index.{set_into, no_set, sets_at}
use Rattle.standard_index.proofs.text.read_sets.Goals as goal

pub loop-i-init : goal.loop-i-init
loop-i-init c = after_none _ _

pub loop-i-preserved : goal.loop-i-preserved
unfolding set_into
loop-i-preserved c = after_more _ _ _ c.loop-i.invariant (via _ c.read_set-read.ensures refl)

pub returns : goal.returns
unfolding sets_at
returns c =
    let e : c.default-sets.result ≡ no_set = search rules in
    rw (← e) (after_all _ _ _ _ c.loop-i.invariant (omega arith) (omega arith))
