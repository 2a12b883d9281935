-- `standard::check` meets its contract: a law for each way out.
use mathlib.Core.Path.{refl}
use native.Mathlib.Omega.{arith}
use Rattle.std.proofs.Common.{rules}
use Rattle.standard.proofs.Checking.{set_past, out_first, out_room, out_index, out_text, out_free, out_map, taken}
use Rattle.standard.proofs.check.Goals as goal

pub returns-in-Err : goal.returns-in-Err
returns-in-Err c = out_first c.args.d.now _ _ _ _ _ _ c.read_header-h.ensures.value _ c.in-Err.ensures.refused.0 c.in-Err.ensures.refused.1 c.refuse.ensures

pub returns-then-room-h : goal.returns-then-room-h
returns-then-room-h c = out_room c.args.d.now _ _ _ _ _ _ c.read_header-h.ensures.value c.in-Ok.ensures.held.0 c.if-room-h.true c.refuse-then-room-h.ensures

pub returns-then-not-gather_index : goal.returns-then-not-gather_index
returns-then-not-gather_index c = out_index c.args.d.now _ _ _ _ _ _ c.read_header-h.ensures.value c.in-Ok.ensures.held.0 c.if-room-h.false c.in-Ok.ensures.held.1 c.in-Ok.ensures.held.2 c.in-Ok.ensures.held.3 c.gather_index.ensures.0 c.if-not-gather_index.true c.refuse-then-not-gather_index.ensures

pub returns-then-index-ne0 : goal.returns-then-index-ne0
returns-then-index-ne0 c = out_text c.args.d.now _ _ _ _ _ _ c.read_header-h.ensures.value c.in-Ok.ensures.held.0 c.if-room-h.false c.in-Ok.ensures.held.1 c.in-Ok.ensures.held.2 c.in-Ok.ensures.held.3 c.gather_index.ensures.0 c.if-not-gather_index.false c.in-Ok.buckets.area c.gather_index.ensures.1 c.read_index-index.ensures.value c.if-index-ne0.true c.refuse-then-index-ne0.ensures

pub returns-then-not-free_list_ok : goal.returns-then-not-free_list_ok
returns-then-not-free_list_ok c = out_free c.args.d.now _ _ _ _ _ _ c.read_header-h.ensures.value c.in-Ok.ensures.held.0 c.if-room-h.false c.in-Ok.ensures.held.1 c.in-Ok.ensures.held.2 c.in-Ok.ensures.held.3 c.gather_index.ensures.0 c.if-not-gather_index.false c.in-Ok.buckets.area c.gather_index.ensures.1 c.read_index-index.ensures.value c.if-index-ne0.false c.free_list_ok.ensures c.if-not-free_list_ok.true c.refuse-then-not-free_list_ok.ensures

pub returns-then-not-map_fits : goal.returns-then-not-map_fits
returns-then-not-map_fits c = out_map c.args.d.now _ _ _ _ _ _ c.read_header-h.ensures.value c.in-Ok.ensures.held.0 c.if-room-h.false c.in-Ok.ensures.held.1 c.in-Ok.ensures.held.2 c.in-Ok.ensures.held.3 c.gather_index.ensures.0 c.if-not-gather_index.false c.in-Ok.buckets.area c.gather_index.ensures.1 c.read_index-index.ensures.value c.if-index-ne0.false c.free_list_ok.ensures c.if-not-free_list_ok.false (search rules) c.map_fits.ensures c.if-not-map_fits.true c.refuse-then-not-map_fits.ensures

pub returns-then-k-lt16 : goal.returns-then-k-lt16
returns-then-k-lt16 c = taken c.args.d.now _ _ _ _ _ _ c.read_header-h.ensures.value c.in-Ok.ensures.held.0 c.if-room-h.false c.in-Ok.ensures.held.1 c.in-Ok.ensures.held.2 c.in-Ok.ensures.held.3 c.gather_index.ensures.0 c.if-not-gather_index.false c.in-Ok.buckets.area c.gather_index.ensures.1 c.read_index-index.ensures.value c.if-index-ne0.false c.free_list_ok.ensures c.if-not-free_list_ok.false (search rules) c.map_fits.ensures c.if-not-map_fits.false refl

pub returns-else-k-lt16 : goal.returns-else-k-lt16
returns-else-k-lt16 c = taken c.args.d.now _ _ _ _ _ _ c.read_header-h.ensures.value c.in-Ok.ensures.held.0 c.if-room-h.false c.in-Ok.ensures.held.1 c.in-Ok.ensures.held.2 c.in-Ok.ensures.held.3 c.gather_index.ensures.0 c.if-not-gather_index.false c.in-Ok.buckets.area c.gather_index.ensures.1 c.read_index-index.ensures.value c.if-index-ne0.false c.free_list_ok.ensures c.if-not-free_list_ok.false (search rules) c.map_fits.ensures c.if-not-map_fits.false (set_past c.read_index-index.result.sets c.args.k (search rules) (omega arith) (search rules))
