-- `buckets::Buckets::free_list_ok` meets its contract. The loop's invariant: the list from here on decides.
use mathlib.Core.Path.{sym, ◌∙◌}
use native.Mathlib.Omega.{arith}
use Rattle.std.proofs.Common.{rules}
use Rattle.standard_rules.proofs.Counted.{free_many}
use Rattle.buckets.proofs.Links.{free_range, free_turn, free_end}
use Rattle.buckets.proofs.Buckets.free_list_ok.Goals as goal

pub returns-then-self-n : goal.returns-then-self-n
returns-then-self-n c = sym (free_many _ _ _ (search rules) _ _ (omega arith))

pub returns-then-self-b : goal.returns-then-self-b
returns-then-self-b c = sym (c.loop-i.invariant ∙ free_range _ _ _ _ _ (omega arith) (omega arith))

pub loop-i-preserved : goal.loop-i-preserved
loop-i-preserved c = c.loop-i.invariant ∙ free_turn _ _ _ _ _ _ (omega arith) (omega arith) c.next_of-b.ensures

pub returns : goal.returns
returns c = sym (c.loop-i.invariant ∙ free_end _ _ _ _ _ (omega arith))
