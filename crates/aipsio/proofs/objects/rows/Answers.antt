-- `aipsio::objects::rows` meets its contract.
use mathlib.Core.Path.{◌≡◌, refl, sym, ap, ◌∙◌}
use Prim.Native.Nat.{ℕ, ◌+◌, ◌-◌, ◌*◌, ◌≤◌, ◌<◌}
use native.Mathlib.Omega.{arith}
use native.Mathlib.Nat.{add-mul}
use Rattle.bytes_at.specs.Number.{bytes_of}
use Rattle.bytes_at.proofs.Room.{room_at, no_room_at}
use Rattle.aipsio_rules.specs.Field.{moved_to, refused_at}
use Rattle.aipsio_rules.proofs.Bounds.{bytes_some}
use Rattle.aipsio_rules.proofs.ObjectAccepted.{cursor_same}
use Rattle.aipsio_rules.proofs.Rows.{row_short, row_negative, row_on, rows_start, rows_more, rows_none, rows_stop, rows_all}
use Rattle.aipsio.proofs.objects.rows.Goals as goal

pub returns-then-c-ne0 : goal.returns-then-c-ne0
returns-then-c-ne0 c = rows_none _ _ _ _ c.if-c-ne0.true

pub nonzero_div-room : goal.nonzero_div-room
nonzero_div-room c = omega (arith, bytes_some c.args.width c.bytes-size.ensures.0)

pub loop-k-init : goal.loop-k-init
loop-k-init c =
    let z : c.args.c.at ≡ c.args.c.at + 0 * c.bytes-size.result = omega arith in
    ap (moved_to c.args.c) (sym z) ∙ sym (cursor_same c.args.c refl c.if-c-ne0.false) ∙ rows_start c.args.s.now (bytes_of c.args.width) c.args.c

pub returns-then-v-gt9223372036854775807 : goal.returns-then-v-gt9223372036854775807
returns-then-v-gt9223372036854775807 c =
    let n = c.bytes-size.result in
    let k = c.loop-k.k in
    let o : 0 < n = omega (arith, bytes_some c.args.width c.bytes-size.ensures.0) in
    let l : c.args.c.at + k * n + n ≤ c.args.c.end = room_at n o refl c.args.c.end c.args.c.at k c.left.ensures refl {m = c.min-m.result} (omega arith) (omega arith) in
    c.refuse.ensures
    ∙ rows_stop _ _ _ _ k c.loop-k.invariant (omega arith) (λ z. omega arith)
    (row_negative _ _ (moved_to c.args.c (c.args.c.at + k * n)) refl refl c.bytes-size.ensures.0 (omega arith) c.number-v.ensures c.if-v-gt9223372036854775807.true)

pub loop-k-preserved : goal.loop-k-preserved
loop-k-preserved c =
    let n = c.bytes-size.result in
    let k = c.loop-k.k in
    let o : 0 < n = omega (arith, bytes_some c.args.width c.bytes-size.ensures.0) in
    let l : c.args.c.at + k * n + n ≤ c.args.c.end = room_at n o refl c.args.c.end c.args.c.at k c.left.ensures refl {m = c.min-m.result} (omega arith) (omega arith) in
    let e : c.args.c.at + (k + 1) * n ≡ c.args.c.at + k * n + n = omega (arith, add-mul k 1 n) in
    rows_more _ _ _ k c.loop-k.invariant
    (ap (moved_to c.args.c) e
    ∙ row_on _ _ (moved_to c.args.c (c.args.c.at + k * n)) refl refl c.bytes-size.ensures.0 (omega arith) c.number-v.ensures (omega arith))

pub returns-then-m-n : goal.returns-then-m-n
returns-then-m-n c =
    let n = c.bytes-size.result in
    let k = c.loop-k.k in
    let o : 0 < n = omega (arith, bytes_some c.args.width c.bytes-size.ensures.0) in
    let m : k ≡ c.min-m.result = omega arith in
    let l : c.args.c.end - (c.args.c.at + k * n) < n = no_room_at n o refl c.args.c.end c.args.c.at k c.left.ensures refl (omega arith) in
    let e : c.min-m.result ≡ k = omega arith in
    c.refuse-then-m-n.ensures
    ∙ ap (λ (i : ℕ). refused_at c.args.c (c.args.c.at + i * n) 1) e
    ∙ rows_stop _ _ _ _ k c.loop-k.invariant (omega arith) (λ z. omega arith)
    (row_short _ _ (moved_to c.args.c (c.args.c.at + k * n)) refl refl c.bytes-size.ensures.0 l)

pub returns : goal.returns
returns c =
    let n = c.bytes-size.result in
    let e : c.args.n ≡ c.loop-k.k = omega arith in
    cursor_same (record { at = c.args.c.at + c.args.n * n; end = c.args.c.end; big = c.args.c.big; refused = c.args.c.refused }) refl c.if-c-ne0.false
    ∙ ap (λ (i : ℕ). moved_to c.args.c (c.args.c.at + i * n)) e
    ∙ rows_all _ _ _ _ c.loop-k.k c.loop-k.invariant (omega arith) (omega arith)
