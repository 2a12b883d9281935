-- `bytes_at::uint_there` meets its contract.
use mathlib.Core.Path.{◌≡◌, refl, sym, ap, ◌∙◌}
use Prim.Native.Nat.{ℕ, ◌+◌, ◌-◌}
use native.Mathlib.Omega.{arith}
use lib.ListN.{drop, get_or}
use Rattle.bytes_at.specs.Number.{uint_of, big_from, little_from}
use Rattle.bytes_at.proofs.Digits.{big_next, little_next, one_digit_more, eight_fit}
use Rattle.bytes_at.proofs.uint_there.Goals as goal

pub loop-k-init : goal.loop-k-init
unfolding big_from
loop-k-init g c = record { value = refl; below = omega arith }

pub overflow_mul-n : goal.overflow_mul-n
overflow_mul-n g c = omega (arith, eight_fit c.loop-k.k {b = 0} c.loop-k.invariant.below (omega arith) (omega arith))

pub overflow_add-n-in-loop-k : goal.overflow_add-n-in-loop-k
overflow_add-n-in-loop-k g c = omega (arith, eight_fit c.loop-k.k {b = get_or c.args.s.now (c.args.at + c.loop-k.k) 0} c.loop-k.invariant.below (omega (arith, c.type_inv.s (c.args.at + c.loop-k.k))) (omega arith))

pub loop-k-preserved : goal.loop-k-preserved
loop-k-preserved g c = record {
  value = big_next c.loop-k.k c.args.at c.args.s.now c.loop-k.invariant.value (omega arith);
  below = one_digit_more c.loop-k.k {b = get_or c.args.s.now (c.args.at + c.loop-k.k) 0} c.loop-k.invariant.below (omega (arith, c.type_inv.s (c.args.at + c.loop-k.k)));
}

pub loop-k-else-big-init : goal.loop-k-else-big-init
unfolding little_from
loop-k-else-big-init g c = record { value = refl; below = omega arith }

pub overflow_mul-n-in-loop-k-else-big : goal.overflow_mul-n-in-loop-k-else-big
overflow_mul-n-in-loop-k-else-big g c = omega (arith, eight_fit c.loop-k-else-big.k {b = 0} c.loop-k-else-big.invariant.below (omega arith) (omega arith))

pub overflow_add-n-in-loop-k-else-big-2 : goal.overflow_add-n-in-loop-k-else-big-2
overflow_add-n-in-loop-k-else-big-2 g c =
    omega (arith, eight_fit c.loop-k-else-big.k {b = get_or c.args.s.now (c.args.at + g.row.N - 1 - c.loop-k-else-big.k) 0} c.loop-k-else-big.invariant.below (omega (arith, c.type_inv.s (c.args.at + g.row.N - 1 - c.loop-k-else-big.k))) (omega arith))

pub loop-k-else-big-preserved : goal.loop-k-else-big-preserved
loop-k-else-big-preserved g c =
    let k = c.loop-k-else-big.k in
    let i = c.args.at + g.row.N - 1 - k in
    let s = c.args.s.now in
    let e : i + 1 ≡ c.args.at + g.row.N - k = omega arith in
    let f : i ≡ c.args.at + g.row.N - (k + 1) = omega arith in
    record {
      value =
          little_next k i s (c.loop-k-else-big.invariant.value ∙ ap (λ (j : ℕ). little_from 0 1 k (drop j s)) (sym e)) (omega arith)
          ∙ ap (λ (j : ℕ). little_from 0 1 (k + 1) (drop j s)) f;
      below = one_digit_more k {b = get_or s i 0} c.loop-k-else-big.invariant.below (omega (arith, c.type_inv.s i));
    }

pub returns-after-loop-k-clause-value : goal.returns-after-loop-k-clause-value
unfolding uint_of
returns-after-loop-k-clause-value g c =
    let e : c.loop-k.k ≡ g.row.N = omega arith in
    rw (c.if-big.true, ← e) c.loop-k.invariant.value

pub returns-after-loop-k-else-big-clause-value : goal.returns-after-loop-k-else-big-clause-value
unfolding uint_of
returns-after-loop-k-else-big-clause-value g c =
    let e : c.loop-k-else-big.k ≡ g.row.N = omega arith in
    let f : c.args.at + g.row.N - c.loop-k-else-big.k ≡ c.args.at = omega arith in
    rw c.if-big.false (c.loop-k-else-big.invariant.value ∙ ap (λ (j : ℕ). little_from 0 1 c.loop-k-else-big.k (drop j c.args.s.now)) f ∙ ap (λ (n : ℕ). little_from 0 1 n (drop c.args.at c.args.s.now)) e)
