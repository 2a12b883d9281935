-- `standard::columns::counts_fit` meets its contract: the closure is the test.
use mathlib.Core.Path.{◌∙◌}
use Rattle.std.proofs.Common.{rules}
use Rattle.std.proofs.lemmas.Iterator.{YieldsList-from_slice, YieldsList-from_zip}
use Rattle.std.proofs.lemmas.Iterator.Search.{all_from_yields_List}
use Rattle.standard.proofs.columns.Counting.{alike, compared}
use Rattle.standard.proofs.columns.counts_fit.Goals as goal

pub returns : goal.returns
returns c l w =
    all_from_yields_List alike c.all.new.self _ _ c.all.ensures.ran
    (YieldsList-from_zip (YieldsList-from_slice c.args.counts.now cc) (YieldsList-from_slice c.args.sets.now cc)) (λ y b q k. search rules)
    ∙ compared c.args.counts.now c.args.sets.now (search rules) c.requires l w
