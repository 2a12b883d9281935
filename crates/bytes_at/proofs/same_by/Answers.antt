-- `bytes_at::same_by` meets its contract: two numbers of N bytes are the same where their bytes are.
use Prim.Native.Nat.{◌+◌, ◌-◌, ◌*◌, ◌≤◌}
use mathlib.Core.Path.{◌≡◌}
use lib.ListN.{length}
use native.Mathlib.Omega.{arith}
use native.Mathlib.Nat.{add-mul}
use Rattle.bytes_at.proofs.Eights.{alike_not, alike_more, alike_last, turn_there, turns_done}
use Rattle.bytes_at.proofs.same_by.Goals as goal

pub returns-then-uint_there : goal.returns-then-uint_there
returns-then-uint_there g c =
    alike_not c.args.a.now c.args.b.now c.type_inv.a c.type_inv.b g.row.N (c.loop-k.k * g.row.N) c.uint_there.ensures.value c.uint_there-in-loop-k.ensures.value c.if-uint_there.true

pub loop-k-preserved : goal.loop-k-preserved
loop-k-preserved g c =
    let n = g.row.N in
    let k = c.loop-k.k in
    let e : k * n + n ≡ (k + 1) * n = omega (arith, add-mul k 1 n) in
    let m : k * n + n ≤ length c.args.a.now = omega (arith, turn_there (length c.args.a.now - n) n (omega arith) c.div_ceil-k-end.ensures k (omega arith)) in
    rw e at (alike_more c.args.a.now c.args.b.now c.type_inv.a c.type_inv.b n (k * n) c.uint_there.ensures.value c.uint_there-in-loop-k.ensures.value c.loop-k.invariant m c.if-uint_there.false)

pub returns : goal.returns
returns g c =
    let n = g.row.N in
    let l : length c.args.a.now - n ≤ c.loop-k.k * n = turns_done (length c.args.a.now - n) n (omega arith) c.div_ceil-k-end.ensures c.loop-k.k (omega arith) in
    alike_last c.args.a.now c.args.b.now c.type_inv.a c.type_inv.b n (length c.args.a.now - n) c.uint_there-2.ensures.value c.uint_there-3.ensures.value c.loop-k.invariant l (omega arith)
