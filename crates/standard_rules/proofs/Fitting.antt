-- Where the facts of the paragraph "Map" hold, the test `fits` passes: with `accepted`, it passes exactly there.
-- Assumes nothing.
use mathlib.Core.Path.{◌≡◌}
use mathlib.Core.Bool.{◌&&◌}
use mathlib.Core.List.{◌++◌}
use Prim.Native.Nat.{ℕ, zero, suc, ◌+◌, ◌<◌}
use native.Mathlib.Omega.{arith}
use lib.ListN.{length}
use lib.Dec.{T, leb, eqb, nleb→lt, not_T, eqb→eq, eqb_refl, le→leb, lt→ltb}
use store.Enc.{and_l, and_r}
use Rattle.bytes_at.specs.Lists.{all, all_from, pairs, all_apart, unlike}
use Rattle.bytes_at.proofs.Tests.{all_yes, all_from_yes, pairs_yes, or_yes, then_yes, both, unlike_yes}
use Rattle.bytes_at.proofs.MoreTests.{all_append, across}
use Rattle.bytes_at.proofs.Apart.{apart_yes, apart_joined, apart_across}
use Rattle.standard_rules.specs.declared.Extent.{Extent}
use Rattle.standard_rules.specs.Map.{Map, no_map_set, no_map_column, set_at, column_at, covers, set_fits, count_fits, set_known, extent_of, extents, in_bucket, clear, Meet, data_of, used, fits, bucket_of, MapAccepted, MapExactly}
use Rattle.standard_rules.proofs.Entries.{Spans, covers_yes}
use Rattle.standard_rules.proofs.DataBuckets.{data_yes, data_apart_yes}
use Rattle.standard_rules.proofs.Accepting.{extent_at_lem, extents_length, accepted}

-- two kept extents of one set that do not meet
clear_yes : (x y : Extent) → (T x.kept → T y.kept → x.set ≡ y.set → Meet x y → ⊥) → T (clear x y)
unfolding clear
clear_yes x y h =
    let of_one = x.kept && y.kept && eqb x.set y.set in
    then_yes of_one _ (λ k.
    or_yes (leb x.end y.start) (leb y.end x.start) (λ n n'.
    h (and_l x.kept y.kept (and_l (x.kept && y.kept) _ k)) (and_r x.kept y.kept (and_l (x.kept && y.kept) _ k))
    (eqb→eq x.set y.set (and_r (x.kept && y.kept) _ k))
    (record { one = nleb→lt _ _ (not_T (leb y.end x.start) n'); other = nleb→lt _ _ (not_T (leb x.end y.start) n) })))

module _ (m : Map) (a : MapAccepted m) where
  -- ---- the sets
  spans : (k e : ℕ) → k < length m.sets → e < length (set_at m k).lasts → Spans (set_at m k).rows_per 0 (set_at m k).lasts e
  spans k zero h l = record { low = omega arith; high = a.span k 0 h l }
  spans k (suc e) h l = record { low = omega (arith, a.rise k e h l); high = a.span k (suc e) h l }

  sets_fit : T (all (set_fits m.rows) m.sets)
  sets_fit =
      all_yes (set_fits m.rows) m.sets no_map_set (λ k h.
      both (covers m.rows (set_at m k).rows_per 0 (set_at m k).lasts) (eqb (length (set_at m k).buckets) (length (set_at m k).lasts))
      (covers_yes m.rows (set_at m k).rows_per 0 (set_at m k).lasts (λ e l. spans k e h l) (a.reach k h))
      (rw (a.paired k h) (eqb_refl (length (set_at m k).lasts))))

  counts_fit_lem : T (all_from (count_fits m.columns) 0 m.sets)
  counts_fit_lem =
      all_from_yes (count_fits m.columns) 0 m.sets no_map_set (λ k h.
      let e : k + 0 ≡ k = omega arith in
      rw (e, a.counted k h) (eqb_refl (set_at m k).columns))

  -- ---- the columns
  sets_known : T (all (set_known (length m.sets)) m.columns)
  sets_known =
      all_yes (set_known (length m.sets)) m.columns no_map_column (λ c h.
      then_yes (column_at m c).kept _ (λ k. lt→ltb _ _ (a.set_known c (record { known = h; here = k }))))

  extents_inside : T (all (in_bucket m.size) (extents m))
  unfolding in_bucket
  extents_inside =
      all_yes (in_bucket m.size) (extents m) (extent_of m no_map_column) (λ c h.
      rw (extent_at_lem m c)
      (then_yes (column_at m c).kept _ (λ k. le→leb _ _ (a.in_bucket c (record { known = omega (arith, extents_length m); here = k })))))

  extents_clear : T (pairs clear (extents m))
  extents_clear =
      pairs_yes clear (extents m) (extent_of m no_map_column) (λ c d g h.
      rw (extent_at_lem m c, extent_at_lem m d)
      (clear_yes (extent_of m (column_at m c)) (extent_of m (column_at m d)) (λ k k' s b.
      a.extents_apart c d (omega arith) (record { known = omega (arith, extents_length m); here = k }) (record { known = omega (arith, extents_length m); here = k' }) s b)))

  -- ---- the buckets
  data_rule : T (all_apart m.count (data_of m.sets))
  data_rule = data_apart_yes m.count m.sets (λ k e h. a.data_below k e h.0 h.1) (λ k l e f h g. a.data_apart k l e f h.0 g.0 h.1 g.1)

  chains_rule : T (all_apart m.count (m.index ++ m.free))
  chains_rule =
      apart_joined m.count m.index m.free
      (apart_yes m.count m.index a.index_below a.index_apart)
      (apart_across m.count m.index m.free a.index_free)
      (apart_yes m.count m.free a.free_below a.free_apart)

  off_chains : T (across unlike (data_of m.sets) (m.index ++ m.free))
  off_chains =
      data_yes (λ b. all (unlike b) (m.index ++ m.free)) m.sets (λ k e h.
      rw (all_append (unlike (bucket_of m k e)) m.index m.free)
      (both (all (unlike (bucket_of m k e)) m.index) (all (unlike (bucket_of m k e)) m.free)
      (all_yes (unlike (bucket_of m k e)) m.index 0 (λ i j. unlike_yes _ _ (a.data_index k e i h.0 h.1 j)))
      (all_yes (unlike (bucket_of m k e)) m.free 0 (λ i j. unlike_yes _ _ (a.data_free k e i h.0 h.1 j)))))

  used_apart : T (all_apart m.count (used m))
  used_apart = apart_joined m.count (data_of m.sets) (m.index ++ m.free) data_rule off_chains chains_rule

  fitting : T (fits m)
  unfolding fits
  fitting = search (both, sets_fit, counts_fit_lem, sets_known, extents_inside, extents_clear, used_apart) depth 8

pub map_exactly : MapExactly
map_exactly m = (accepted m, fitting m)
