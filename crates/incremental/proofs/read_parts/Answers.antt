-- `incremental::read_parts` meets its contract: a law for each way out.
use mathlib.Core.Path.{refl, sym}
use Rattle.std.proofs.lemmas.Result.{err_from_is_err_and}
use Rattle.incremental.proofs.Checking.{out_first, out_index, out_free, out_map, parts_right, buckets_right, numbers_right, index_there, freed_there, right_there}
use Rattle.incremental.proofs.read_parts.Goals as goal

pub returns-in_err-b-clause-refused : goal.returns-in_err-b-clause-refused
returns-in_err-b-clause-refused c =
    let r = c.in_err-b.ensures.refused in
    let p = err_from_is_err_and c.from_residual.result c.from_residual.ensures.1 in
    rw (p.1, p.2) (out_first _ _ _ _ _ c.read_header-h.ensures.value _ r.0 r.1)

pub returns-then-x-ne0-clause-refused : goal.returns-then-x-ne0-clause-refused
returns-then-x-ne0-clause-refused c =
    let t = c.in_ok-b.ensures.held in
    let h = c.read_header-h.ensures.value in
    out_index _ _ _ _ _ h t.0 (index_there c.args.rows _ _ _ _ h t c.end.ensures.0 c.read_index-x.ensures.value) c.if-x-ne0.true

pub returns-then-not-free_list_ok-clause-refused : goal.returns-then-not-free_list_ok-clause-refused
returns-then-not-free_list_ok-clause-refused c =
    let t = c.in_ok-b.ensures.held in
    let h = c.read_header-h.ensures.value in
    out_free _ _ _ _ _ h t.0 (index_there c.args.rows _ _ _ _ h t c.end.ensures.0 c.read_index-x.ensures.value) c.if-x-ne0.false
    (freed_there c.args.rows _ _ _ _ h t c.free_list_ok.ensures) c.if-not-free_list_ok.true

pub returns-then-not-index_fits-clause-refused : goal.returns-then-not-index_fits-clause-refused
returns-then-not-index_fits-clause-refused c =
    let t = c.in_ok-b.ensures.held in
    let h = c.read_header-h.ensures.value in
    out_map _ _ _ _ _ h t.0 (index_there c.args.rows _ _ _ _ h t c.end.ensures.0 c.read_index-x.ensures.value) c.if-x-ne0.false
    (freed_there c.args.rows _ _ _ _ h t c.free_list_ok.ensures) c.if-not-free_list_ok.false
    (right_there _ _ _ _ _ h t _ c.index_fits.ensures) c.if-not-index_fits.true

pub invariant_of-entries : goal.invariant_of-entries
invariant_of-entries c = record { inside = c.read_index-x.ensures.inside c.if-x-ne0.false }

pub invariant_of-result : goal.invariant_of-result
invariant_of-result c =
    let t = c.in_ok-b.ensures.held in
    let h = c.read_header-h.ensures.value in
    let x = index_there c.args.rows _ _ _ _ h t c.end.ensures.0 c.read_index-x.ensures.value in
    let g = freed_there c.args.rows _ _ _ _ h t c.free_list_ok.ensures in
    let m = right_there _ _ _ _ _ h t _ c.index_fits.ensures in
    record {
      size_most = c.read_header-h.ensures.bounded.size_most;
      buckets = buckets_right _ _ _ _ _ h t.0 x c.if-x-ne0.false g c.if-not-free_list_ok.false m c.if-not-index_fits.false
          (rw (t.1, t.2, t.3) at c.in_ok-b.b.area.holds);
      numbers = rw (sym h) (numbers_right _ _ _ _ _ h t.0 x c.if-x-ne0.false g c.if-not-free_list_ok.false m c.if-not-index_fits.false);
    }

pub returns-clause-read : goal.returns-clause-read
returns-clause-read c =
    let t = c.in_ok-b.ensures.held in
    let h = c.read_header-h.ensures.value in
    parts_right _ _ _ _ _ h t.0 (index_there c.args.rows _ _ _ _ h t c.end.ensures.0 c.read_index-x.ensures.value) c.if-x-ne0.false
    (freed_there c.args.rows _ _ _ _ h t c.free_list_ok.ensures) c.if-not-free_list_ok.false
    (right_there _ _ _ _ _ h t _ c.index_fits.ensures) c.if-not-index_fits.false refl
