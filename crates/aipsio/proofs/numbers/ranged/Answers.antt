-- `aipsio::numbers::ranged` meets its contract: its branches are the definition's cases.
use mathlib.Core.Path.{◌≡◌}
use mathlib.Core.Bool.{◌&&◌}
use lib.Dec.{leb}
use borrow.Author.Rules.{rules}
use Rattle.aipsio_rules.proofs.Ways.{ranged_kept, ranged_on, ranged_out}
use Rattle.aipsio.proofs.numbers.ranged.Goals as goal
use Rattle.aipsio.proofs.numbers.ranged.Goals.{then-low-n, else-low-n}

pub returns-then-n-ne0 : goal.returns-then-n-ne0
returns-then-n-ne0 c = ranged_kept _ _ _ _ _ _ c.sized-n.ensures c.if-n-ne0.true

pub returns-then-ok : goal.returns-then-ok
returns-then-ok c =
    let ok : c.if-low-n.ok ≡ leb c.args.low c.sized-n.result.value && leb c.sized-n.result.value c.args.high =
    elim c.if-low-n.branch [ then-low-n w ↦ search rules | else-low-n w ↦ search rules ] in
    ranged_on _ _ _ _ _ _ c.sized-n.ensures c.if-n-ne0.false ok c.if-ok.true

pub returns : goal.returns
returns c =
    let ok : c.if-low-n.ok ≡ leb c.args.low c.sized-n.result.value && leb c.sized-n.result.value c.args.high =
    elim c.if-low-n.branch [ then-low-n w ↦ search rules | else-low-n w ↦ search rules ] in
    ranged_out _ _ _ _ _ _ c.sized-n.ensures c.if-n-ne0.false ok c.if-ok.false c.refuse-d.ensures c.settle.ensures.value
