-- "Others carry 0": of what refuses a file.
-- Assumes nothing.
use mathlib.Core.List.{List}
use mathlib.Core.Bool.{Bool}
use Prim.Native.Nat.{ℕ}
use lib.Dec.{eqb}
use Rattle.bytes_at.specs.declared.Refusal.{Refusal}
use Rattle.bytes_at.specs.Stages.{OthersCarry0}
use Rattle.bytes_at.specs.Steps.{◌>>=◌}
use Rattle.bytes_at.proofs.Stages.{others_none, others_then, others_or, others_blaming, others_either}
use Rattle.aipsio_rules.specs.declared.Cursor.{Cursor}
use Rattle.table_rules.specs.declared.Description.{Description}
use Rattle.standard_rules.specs.declared.BucketFields.{BucketFields}
use Rattle.standard_rules.specs.declared.IndexFields.{IndexFields}
use Rattle.standard_rules.specs.declared.Sets.{Sets}
use Rattle.standard_rules.specs.declared.Header.{Header}
use Rattle.standard_rules.specs.declared.Index.{Index}
use Rattle.standard_rules.specs.Header.{headed, header_at}
use Rattle.standard_rules.specs.Index.{indexed, index_at}
use Rattle.standard_rules.specs.Check.{refusal_with, refusal_of}

headed_others : (c : Cursor) (b : BucketFields) (i : IndexFields) → OthersCarry0 (headed c b i).refused
unfolding headed
headed_others c b i =
    others_either (λ (x : Header). x.refused) (eqb c.refused 0) _ _ others_none (others_blaming c.refused c.at)

header_others : (s : List ℕ) (big : Bool) → OthersCarry0 (header_at s big).refused
unfolding header_at ◌>>=◌
header_others s big = headed_others _ _ _

indexed_others : (c : Cursor) (all : Sets) → OthersCarry0 (indexed c all).refused
unfolding indexed
indexed_others c all =
    others_either (λ (x : Index). x.refused) (eqb c.refused 0) _ _ others_none (others_blaming c.refused c.at)

index_others : (s : List ℕ) (big : Bool) (n : ℕ) → OthersCarry0 (index_at s big n).refused
unfolding index_at ◌>>=◌
index_others s big n = indexed_others _ _

pub refusal_others : (d : Description) (sequence : ℕ) (f : List ℕ) (refused : Refusal) (l : ℕ) → OthersCarry0 refused → OthersCarry0 (refusal_of d sequence f refused l)
unfolding refusal_with
refusal_others d sequence f refused l h =
    others_then _ _ h
    (others_then _ _ (header_others _ _)
    (others_then _ _ (others_or _ 1 _)
    (others_then _ _ (others_or _ 13 _)
    (others_then _ _ (others_or _ 10 _)
    (others_then _ _ (index_others _ _ _)
    (others_then _ _ (others_or _ 10 _)
    (others_or _ 11 _)))))))
