-- `incremental_bucket::read_head` meets its contract: its calls compose as the definition says.
use mathlib.Core.Path.{◌≡◌, refl, ◌∙◌}
use Rattle.bytes_at.proofs.Stepped.{via}
use Rattle.incremental_rules.specs.Bucket.{bucket_head_at, low_bytes}
use mathlib.Core.Bool.{◌&&◌}
use Prim.Native.Nat.{ℕ}
use lib.Dec.{leb}
use Rattle.std.proofs.Common.{rules}
use Rattle.std.specs.Ordering.{partial_le}
use Rattle.std.specs.contracts.prelude.UsizePartialOrd.TheImpl
use Rattle.incremental_bucket.proofs.read_head.Goals as goal

usize_le : (a b : ℕ) → partial_le TheImpl.partial_cmp-value.it a b ≡ leb a b
usize_le a b = search rules

range_is : (low x high : ℕ) → (partial_le TheImpl.partial_cmp-value.it low x && partial_le TheImpl.partial_cmp-value.it x high) ≡ (leb low x && leb x high)
range_is low x high = rw (usize_le low x, usize_le x high) refl

pub returns : goal.returns
unfolding bucket_head_at
returns c =
    let r = c.new.ensures in
    via _ c.uint-word.ensures.value (
    via _ refl (
    via _ (c.contains-ok.ensures.value ∙ rw (r.start, r.end, r.exhausted) (range_is 4 (low_bytes c.uint-word.result.value) c.args.size)) (
    via _ c.judge-d.ensures (
    via _ c.saturating_sub-len.ensures (
    via _ c.skip-n.ensures c.begin.ensures)))))
