-- "Others carry 0": of what refuses a file.
-- Assumes nothing.
use mathlib.Core.List.{List}
use mathlib.Core.Bool.{Bool, true, false}
use Prim.Native.Nat.{ℕ, zero, suc}
use lib.Dec.{eqb}
use Rattle.bytes_at.specs.declared.Refusal.{Refusal}
use Rattle.bytes_at.specs.Stages.{OthersCarry0}
use Rattle.bytes_at.specs.Steps.{after, ◌>>=◌}
use Rattle.bytes_at.proofs.Stages.{others_none, others_then, others_or, others_blaming, others_either}
use Rattle.aipsio_rules.specs.declared.Cursor.{Cursor}
use Rattle.table_rules.specs.declared.Description.{Description}
use Rattle.incremental_rules.specs.declared.HeaderFields.{HeaderFields}
use Rattle.incremental_rules.specs.declared.Header.{Header}
use Rattle.incremental_rules.specs.declared.Index.{Index}
use Rattle.incremental_rules.specs.declared.Cells.{Cells}
use Rattle.incremental_rules.specs.Header.{headed, header_at}
use Rattle.incremental_rules.specs.Index.{indexed, index_at, index_of}
use Rattle.incremental_rules.specs.Bucket.{cells_of}
use Rattle.incremental_rules.specs.Check.{bucket_into, nothing, search_of, before_buckets, refusal_of}
use Rattle.incremental_rules.specs.OneBucket.{own_refusal, refusal_by}
use Rattle.incremental_rules.proofs.AnyCell.{turn_refused, own_refused}

headed_others : (c : Cursor) (h : HeaderFields) → OthersCarry0 (headed c h).refused
unfolding headed
headed_others c h =
    others_either (λ (x : Header). x.refused) (eqb c.refused 0) _ _ others_none (others_blaming c.refused c.at)

header_others : (s : List ℕ) (big : Bool) → OthersCarry0 (header_at s big).refused
unfolding header_at ◌>>=◌
header_others s big = headed_others _ _

indexed_others : (c : Cursor) (count : ℕ) (wide : Bool) (firsts buckets : ℕ) → OthersCarry0 (indexed c count wide firsts buckets).refused
unfolding indexed
indexed_others c count wide firsts buckets =
    others_either (λ (x : Index). x.refused) (eqb c.refused 0) _ _ others_none (others_blaming c.refused c.at)

index_others : (s : List ℕ) (big : Bool) (at : ℕ) → OthersCarry0 (index_at s big at).refused
unfolding index_at ◌>>=◌
index_others s big at = indexed_others _ _ _ _ _

module _ (big : Bool) (f : List ℕ) (size : ℕ) (x : Index) (cells : Cells) (row : ℕ) where
  turns_others : (n : ℕ) → OthersCarry0 (after (bucket_into big f size x cells row) nothing n).refused
  unfolding after
  turns_others zero = others_none
  turns_others (suc n) =
      rw (turn_refused big f size x cells row (after (bucket_into big f size x cells row) nothing n) n)
      (others_then _ _ (turns_others n) (others_blaming _ _))

  search_others : OthersCarry0 (search_of big f size x cells row).refused
  unfolding search_of
  search_others = turns_others x.count

module _ (d : Description) (sequence : ℕ) (f : List ℕ) (refused : Refusal) (h : OthersCarry0 refused) where
  before_others : OthersCarry0 (before_buckets d.rows d.big f refused)
  unfolding before_buckets
  before_others =
      others_then _ _ h
      (others_then _ _ (header_others _ _)
      (others_then _ _ (others_or _ 1 _)
      (others_then _ _ (index_others _ _ _)
      (others_then _ _ (others_or _ 10 _)
      (others_or _ 11 _)))))

  refusal_others : OthersCarry0 (refusal_of d sequence f refused)
  unfolding refusal_of
  refusal_others = others_then _ _ before_others (search_others _ _ _ _ _ _)

  own_others : (row : ℕ) → OthersCarry0 (own_refusal d sequence f refused row)
  unfolding own_refusal
  own_others row =
      let h = header_at f d.big in
      others_then _ _ before_others
      (rw (own_refused d.big f h.size (index_of f d.big h) d.rows (cells_of d sequence 0) row) (others_then _ _ (others_or _ 9 _) (others_blaming _ _)))

  -- of either check
  pub by_others : (own : Bool) (row : ℕ) → OthersCarry0 (refusal_by own d sequence f refused row)
  unfolding refusal_by
  by_others true row = own_others row
  by_others false row = refusal_others
