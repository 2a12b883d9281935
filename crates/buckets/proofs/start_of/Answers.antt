use mathlib.Core.Path.{refl}
use native.Mathlib.Omega.{arith}
use Rattle.buckets.proofs.Links.{start_in_lem}
use Rattle.buckets.proofs.start_of.Goals as goal

pub overflow_mul-result : goal.overflow_mul-result
overflow_mul-result c = omega (arith, start_in_lem c.args.size c.args.nb c.args.b c.args.len c.requires.0 c.requires.1)

pub overflow_add-result : goal.overflow_add-result
overflow_add-result c = omega (arith, start_in_lem c.args.size c.args.nb c.args.b c.args.len c.requires.0 c.requires.1)

pub returns : goal.returns
returns c = (refl, start_in_lem c.args.size c.args.nb c.args.b c.args.len c.requires.0 c.requires.1)
