-- `bytes_at::first_zero` meets its contract: what `position` finds, else the length.
use Rattle.std.proofs.Common.{rules, tests}
use mathlib.Core.Path.{◌∙◌}
use lib.Dec.{eqb}
use Rattle.std.proofs.lemmas.Iterator.{YieldsList-from_slice}
use Rattle.std.proofs.lemmas.Iterator.Search.{position_from_yields_List}
use Rattle.bytes_at.specs.Bytes.{first_zero}
use Rattle.bytes_at.proofs.Searched.{first_or_len, within_len, first_below_is}
use Rattle.bytes_at.proofs.first_zero.Goals as goal

pub returns : goal.returns
unfolding first_zero
returns c =
    let s = c.args.s.now in
    let e = position_from_yields_List (λ x. eqb x 0) _ _ c.position.result c.position.ensures.ran (YieldsList-from_slice s cc) (λ x b q k. search (rules, tests)) in
    let f = first_or_len (λ x. eqb x 0) s e c.unwrap_or.ensures in
    (f ∙ first_below_is (λ x. eqb x 0) s 0, within_len (λ x. eqb x 0) s f)
