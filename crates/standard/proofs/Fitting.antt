-- The map's test in the groups in which the code decides it, and the ways out. Assumes nothing.
use mathlib.Core.Path.{◌≡◌, refl, sym, ap}
use mathlib.Core.Bool.{Bool, true, false, ◌&&◌}
use mathlib.Core.List.{List, [], ◌∷◌, ◌++◌, map}
use Prim.Native.Nat.{ℕ, zero, suc}
use lib.ListN.{length, get_or}
use Rattle.standard_rules.specs.Index.{links}
use Rattle.bytes_at.specs.Lists.{all, all_from, pairs, all_apart}
use Rattle.standard_rules.specs.Map.{Map, MapColumn, MapSet, map_set, no_map_set, set_at, set_fits, count_fits, set_known, in_bucket, clear, extents, data_of, used, fits, map_from}
use Rattle.standard_rules.specs.declared.Header.{Header}
use Rattle.standard_rules.specs.declared.Set.{Set}
use Rattle.standard.specs.Columns.{per_of, extent_by, extents_by, counts_fit, columns_test}

regroup : (a b c d e g : Bool) → a && b && c && d && e && g ≡ (a && (((c && d) && b) && e)) && g
regroup true true true true e g = refl
regroup true true true false e g = refl
regroup true true false d e g = refl
regroup true false true true e g = refl
regroup true false true false e g = refl
regroup true false false d e g = refl
regroup false b c d e g = refl

-- the sets of the map, from those of the index text
module _ (g : Set → MapSet) where
  length_sets : (sets : List Set) → length (map g sets) ≡ length sets
  length_sets [] = refl
  length_sets (s ∷ sets) = ap suc (length_sets sets)

module _ (big : Bool) (text : List ℕ) where
  per_at : (sets : List Set) (k : ℕ) → per_of sets k ≡ (get_or (map (map_set big text) sets) k no_map_set).rows_per
  per_at [] k = refl
  per_at (s ∷ sets) zero = refl
  per_at (s ∷ sets) (suc k) = per_at sets k

  counts_are : (l : List MapColumn) (k : ℕ) (sets : List Set) → counts_fit l k sets ≡ all_from (count_fits l) k (map (map_set big text) sets)
  unfolding all_from
  counts_are l k [] = refl
  counts_are l k (s ∷ sets) = rw (counts_are l (suc k) sets)

pub extents_same : (per per' : ℕ → ℕ) → ((k : ℕ) → per k ≡ per' k) → (l : List MapColumn) → map (extent_by per) l ≡ map (extent_by per') l
extents_same per per' h [] = refl
extents_same per per' h (c ∷ l) = rw (extents_same per per' h l, h c.set)

module _ (rows : ℕ) (cs : List MapColumn) (f : List ℕ) (h : Header) (big : Bool) (text : List ℕ) (sets : List Set) where
  abbrev whole : Map
  whole = map_from rows cs f h (map (map_set big text) sets)

  abbrev sets_part : Bool
  sets_part = all (set_fits rows) (map (map_set big text) sets)

  abbrev columns_part : Bool
  columns_part = columns_test cs sets h.size

  abbrev buckets_part : Bool
  buckets_part =
      all_apart h.count
      (data_of (map (map_set big text) sets) ++ (links f h.size h.index_count h.first_index ++ links f h.size h.free_count h.first_free))

  extents_are : extents_by sets cs ≡ extents whole
  extents_are = extents_same (per_of sets) (λ k. (set_at whole k).rows_per) (per_at big text sets) cs

  parts : (sets_part && columns_part) && buckets_part ≡ fits whole
  unfolding fits columns_test
  parts =
      rw (counts_are big text cs 0 sets, extents_are, ← (length_sets (map_set big text) sets))
      (sym (regroup (all (set_fits rows) whole.sets) (all_from (count_fits cs) 0 whole.sets) (all (set_known (length whole.sets)) cs) (all (in_bucket h.size) (extents whole)) (pairs clear (extents whole)) (all_apart h.count (used whole))))

  by : {a b g : Bool} → a ≡ sets_part → b ≡ columns_part → g ≡ buckets_part → (a && b) && g ≡ fits whole
  by p q t = rw (p, q, t) parts

  pub not_sets : {a : Bool} → a ≡ sets_part → a ≡ false → false ≡ fits whole
  not_sets p x = rw x at (by p refl refl)

  pub not_columns : {a b : Bool} → a ≡ sets_part → a ≡ true → b ≡ columns_part → b ≡ false → false ≡ fits whole
  not_columns p x q y = rw (x, y) at (by p q refl)

  pub last : {a b g : Bool} → a ≡ sets_part → a ≡ true → b ≡ columns_part → b ≡ true → g ≡ buckets_part → g ≡ fits whole
  last p x q y t = rw (x, y) at (by p q t)
