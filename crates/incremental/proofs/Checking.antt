-- The ways out of the parts before the buckets, and of the check. Assumes nothing.
use mathlib.Core.Path.{◌≡◌, refl, sym, ap, ◌∙◌}
use mathlib.Core.Bool.{Bool, true, false, cond}
use mathlib.Core.List.{List}
use Prim.Native.Nat.{ℕ, ◌+◌, ◌*◌, ◌≤◌}
use native.Mathlib.Omega.{arith}
use borrow.Author.Tests.{ne_eqb}
use lib.ListN.{length}
use Rattle.std.proofs.Common.{take, length-take-le}
use Rattle.bytes_at.specs.Stages.{no_refusal, blaming, ◌▷◌, or_no}
use Rattle.bytes_at.specs.declared.Refusal.{Refusal}
use Rattle.bytes_at.proofs.Stages.{stops, goes, regroup, no_is, yes_is, passes}
use Rattle.bytes_at.proofs.Tests.{passed}
use Rattle.buckets.specs.Stages as first
use Rattle.standard_rules.specs.Header.{bucket_start}
use Rattle.standard_rules.specs.Index.{free_ok}
use Rattle.table_rules.specs.declared.Description.{Description}
use Rattle.incremental_rules.specs.declared.Header.{Header}
use Rattle.incremental_rules.specs.declared.Index.{Index}
use Rattle.incremental_rules.specs.Header.{header_at}
use Rattle.incremental_rules.specs.declared.Cells.{Cells}
use Rattle.incremental_rules.specs.declared.Found.{Found}
use Rattle.incremental_rules.specs.Index.{index_at, index_fits, index_of, IndexAccepted}
use Rattle.incremental_rules.specs.Bucket.{cells_in, cells_of}
use Rattle.incremental_rules.specs.Check.{search_of, before_buckets, refusal_of, told, checked_as}
use Rattle.incremental_rules.specs.OneBucket.{own_bucket, own_refusal, own_checked, checked_by}
use Rattle.incremental_rules.proofs.AnyCell.{cells_same, search_same, own_same}
use Rattle.incremental_rules.proofs.Taken.{cells_taken, first_cells, own_taken, search_taken}
use Rattle.standard_rules.proofs.Places.{step}
use Rattle.incremental.specs.Bounds.{BucketsInside}
use Rattle.incremental_rules.proofs.Numbers.{index_read}
use Rattle.incremental.specs.Check.{refused_file, Refused, PartsRead, found_at, kept_cells, Refuses}

-- ---- the parts before the buckets. h is the header that was read, and x, g and m what was found on the way.
module _ (rows : ℕ) (big : Bool) (f : List ℕ) (refused : Refusal) (h : Header) (e : h ≡ header_at f big) where
  abbrev freed : Bool
  freed = free_ok f h.size h.count h.free_count h.first_free

  abbrev right : Index → Bool
  right x = index_fits rows big f h x

  -- up to the file's length
  abbrev start : Refusal
  start = first.before_buckets refused h.refused (length f) h.size h.count

  staged : before_buckets rows big f refused ≡ start ▷ ((index_of f big h).refused ▷ (or_no freed 10 ▷ or_no (right (index_of f big h)) 11))
  unfolding before_buckets first.before_buckets
  staged = rw e (sym (rw (regroup, regroup)))

  out : (n : Refusal) → before_buckets rows big f refused ≡ n → (n.number ≡ 0 → ⊥) → Refused n (before_buckets rows big f refused)
  out n q z = (sym q, z)

  pub out_first : (n : Refusal) → n ≡ start → (n.number ≡ 0 → ⊥) → Refused n (before_buckets rows big f refused)
  out_first n q z = out n (staged ∙ rw (← q) (stops n _ z)) z

  -- by the buckets as the code has them, which hold the file, the size and the count
  module _ {file : List ℕ} {size count : ℕ} (t : (start.number ≡ 0) × (file ≡ f) × (size ≡ h.size) × (count ≡ h.count)) where
    pub index_there : {at : ℕ} {x : Index} → at ≡ bucket_start size count → x ≡ index_at f big at → x ≡ index_of f big h
    index_there p q = q ∙ ap (index_at f big) (p ∙ rw (t.2, t.3) refl)

    pub freed_there : {g : Bool} → g ≡ free_ok file size count h.free_count h.first_free → g ≡ freed
    freed_there p = p ∙ rw (t.1, t.2, t.3) refl

    pub right_there : (x : Index) {m : Bool} → m ≡ index_fits rows big file h x → m ≡ right x
    right_there x p = p ∙ rw t.1 refl

  module _ (z : start.number ≡ 0) {x : Index} (y : x ≡ index_of f big h) where
    after_first : before_buckets rows big f refused ≡ x.refused ▷ (or_no freed 10 ▷ or_no (right x) 11)
    after_first = staged ∙ goes _ _ z ∙ rw y

    pub out_index : (x.refused.number ≡ 0 → ⊥) → Refused x.refused (before_buckets rows big f refused)
    out_index w = out x.refused (after_first ∙ stops x.refused _ w) w

    module _ (w : x.refused.number ≡ 0) where
      pub out_free : {g : Bool} → g ≡ freed → g ≡ false → Refused (blaming 10 0) (before_buckets rows big f refused)
      out_free c k = out (blaming 10 0) (after_first ∙ goes _ _ w ∙ rw (no_is freed 10 0 (sym c ∙ k)) (stops (blaming 10 0) _ (omega arith))) (omega arith)

      module _ {g : Bool} (c : g ≡ freed) (k : g ≡ true) where
        after_free : before_buckets rows big f refused ≡ or_no (right x) 11
        after_free = after_first ∙ goes _ _ w ∙ goes _ _ (passes freed 10 0 (sym c ∙ k))

        pub out_map : {m : Bool} → m ≡ right x → m ≡ false → Refused (blaming 11 0) (before_buckets rows big f refused)
        out_map v j = out (blaming 11 0) (after_free ∙ no_is (right x) 11 0 (sym v ∙ j)) (omega arith)

        pub parts_right : {m : Bool} → m ≡ right x → m ≡ true → {size : ℕ} → size ≡ h.size → PartsRead rows big f refused size x
        parts_right v j s = record { before = rw (after_free ∙ yes_is (right x) 11 0 (sym v ∙ j)) refl; size_is = s ∙ ap (λ (y : Header). y.size) e; index_is = rw (← e) y }

        pub buckets_right : {m : Bool} → m ≡ right x → m ≡ true → bucket_start h.size h.count ≤ length f → BucketsInside big f h.size x
        buckets_right v j l i k = omega (arith, step h.size ((index_read rows big f h x (passed (sym v ∙ j))).in_range i k), l)

        pub numbers_right : {m : Bool} → m ≡ right x → m ≡ true → IndexAccepted rows big f h x
        numbers_right v j = index_read rows big f h x (passed (sym v ∙ j))

-- ---- what is answered, by the parts and what the buckets' stage found
told_off : (why : Refusal) (size : ℕ) (found : Found) → (why.number ≡ 0 → ⊥) → told why size found ≡ refused_file why
unfolding told refused_file
told_off why size found h = rw (ne_eqb why.number 0 h)

told_on : (size at offset : ℕ) → told no_refusal size (found_at at offset) ≡ record { refused = no_refusal; size = size; first = 8 * (at + 4 + offset) }
unfolding told
told_on size at offset = refl

module _ (d : Description) (sequence : ℕ) (f : List ℕ) (refused : Refusal) (position row : ℕ) (own : Bool) where
  abbrev header : Header
  header = header_at f d.big

  -- the buckets' stage, for the column that is asked for
  abbrev stage_of : Cells → ℕ → Found
  stage_of cells r =
      cond own (own_bucket d.rows d.big f header.size (index_of f d.big header) cells row) (search_of d.big f header.size (index_of f d.big header) cells r)

  by_stage : (b : Bool) → own ≡ b → checked_by own d sequence f refused position row
      ≡ told (before_buckets d.rows d.big f refused ▷ (stage_of (cells_of d sequence position) row).refused) header.size (stage_of (cells_of d sequence position) row)
  unfolding checked_by own_checked own_refusal checked_as refusal_of
  by_stage true e =
      rw (e, own_same d.big f header.size (index_of f d.big header) d.rows (cells_of d sequence 0) (cells_of d sequence position) row (cells_same d.columns d.bindings sequence 0 position d.column_count))
  by_stage false e =
      rw (e, search_same d.big f header.size (index_of f d.big header) (cells_of d sequence 0) (cells_of d sequence position) 0 row (cells_same d.columns d.bindings sequence 0 position d.column_count))

  pub out_parts : {why : Refusal} → Refused why (before_buckets d.rows d.big f refused) → refused_file why ≡ checked_by own d sequence f refused position row
  out_parts {why} r =
      let k : before_buckets d.rows d.big f refused ▷ (stage_of (cells_of d sequence position) row).refused ≡ why =
      stops (before_buckets d.rows d.big f refused) _ (λ y. r.1 (ap (λ (w : Refusal). w.number) r.0 ∙ y)) ∙ sym r.0 in
      sym (by_stage own refl ∙ rw k (told_off why _ _ r.1))

  -- the columns that are gathered, by the first ones of each list
  module _ {cells : Cells} (g : cells ≡ cells_in (take d.column_count d.columns) (take d.column_count d.bindings) (length (take d.column_count d.columns)) sequence position)
      (few : d.column_count ≤ length d.columns) (room : cells.count ≤ length cells.bytes) (size : ℕ) (x : Index) where
    cells_are : cells ≡ cells_of d sequence position
    cells_are = rw (length-take-le d.column_count d.columns few) at g ∙ cells_taken d.columns d.bindings d.column_count sequence position

    kept_are : kept_cells (take cells.count cells.bytes) cells.column ≡ first_cells cells
    kept_are = rw (length-take-le cells.count cells.bytes room) refl

    pub own_found : own ≡ true → own_bucket d.rows d.big f size x (kept_cells (take cells.count cells.bytes) cells.column) row
        ≡ cond own (own_bucket d.rows d.big f size x (cells_of d sequence position) row) (search_of d.big f size x (cells_of d sequence position) row)
    own_found o = rw (o, kept_are, ← cells_are) (own_taken d.big f size x cells row d.rows)

    pub all_found : own ≡ false → search_of d.big f size x (kept_cells (take cells.count cells.bytes) cells.column) row
        ≡ cond own (own_bucket d.rows d.big f size x (cells_of d sequence position) row) (search_of d.big f size x (cells_of d sequence position) row)
    all_found o = rw (o, kept_are, ← cells_are) (search_taken d.big f size x cells row)

  module _ {size : ℕ} {x : Index} (v : PartsRead d.rows d.big f refused size x) {found : Found}
      (s : found ≡ cond own (own_bucket d.rows d.big f size x (cells_of d sequence position) row) (search_of d.big f size x (cells_of d sequence position) row)) where
    found_is : found ≡ stage_of (cells_of d sequence position) row
    found_is = rw (← v.index_is, ← v.size_is) s

    stages_are : before_buckets d.rows d.big f refused ▷ (stage_of (cells_of d sequence position) row).refused ≡ found.refused
    stages_are = goes _ _ v.before ∙ ap (λ (y : Found). y.refused) (sym found_is)

    pub out_bucket : {why : Refusal} → Refuses why found → refused_file why ≡ checked_by own d sequence f refused position row
    out_bucket {why} r = sym (by_stage own refl ∙ rw (stages_are ∙ sym r.0) (told_off why _ _ r.1))

    pub accepted : {start offset : ℕ} → found ≡ found_at start offset
        → record { refused = no_refusal; size = size; first = 8 * (start + 4 + offset) } ≡ checked_by own d sequence f refused position row
    accepted {start} {offset} o =
        let k : before_buckets d.rows d.big f refused ▷ (stage_of (cells_of d sequence position) row).refused ≡ no_refusal = stages_are ∙ ap (λ (y : Found). y.refused) o in
        sym (by_stage own refl ∙ rw (k, ← found_is, o, ← v.size_is) (told_on size start offset))
