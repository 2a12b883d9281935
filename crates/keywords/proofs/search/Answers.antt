-- `keywords::search` meets its contract: a refusal before the set, or the set's answer.
use mathlib.Core.Path.{◌∙◌}
use Rattle.std.proofs.lemmas.Result.{err_from_is_err_and}
use Rattle.keyword_rules.proofs.Says.{says}
use Rattle.keywords.proofs.search.Goals as goal

pub returns-in_err-start : goal.returns-in_err-start
returns-in_err-start c =
    let p = err_from_is_err_and c.from_residual.result c.from_residual.ensures.1 in
    says _ _ _ _ (rw (p.1, p.2) (c.in_err-start.ensures.refused c.args.path.now c.args.sought))

pub returns : goal.returns
returns c = says _ _ _ _ (c.search_set.ensures ∙ c.in_ok-start.ensures.there c.args.path.now c.args.sought)
