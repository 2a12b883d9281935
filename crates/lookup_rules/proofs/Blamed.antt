-- "Others carry 0": of every answer.
-- Assumes nothing.
use mathlib.Core.Path.{◌≡◌, refl}
use mathlib.Core.List.{List}
use mathlib.Core.Bool.{Bool, true, false}
use Prim.Native.Nat.{ℕ}
use Rattle.bytes_at.specs.Stages.{OthersCarry0}
use Rattle.bytes_at.specs.Steps.{◌>>=◌}
use Rattle.bytes_at.proofs.Stages.{others_then, others_or}
use Rattle.table_rules.specs.declared.Description.{Description}
use Rattle.table_rules.specs.Table.{described_as}
use Rattle.table_rules.proofs.Described.{described}
use Rattle.standard_rules.proofs.Blamed.{refusal_others}
use Rattle.incremental_rules.proofs.Blamed.{by_others}
use Rattle.lookup_rules.specs.declared.Request.{Request}
use Rattle.lookup_rules.specs.declared.Target.{Target}
use Rattle.lookup_rules.specs.Questions.{request_of, target_of, file_of, stages_after, stages_of}
use Rattle.lookup_rules.specs.Answers.{EveryByte}
use Rattle.lookup_rules.proofs.Files.{standard_refused, incremental_refused}
use Rattle.lookup_rules.proofs.Stages.{answer_refused}

target_others : (d : Description) (r : Request) → OthersCarry0 d.refused → OthersCarry0 (target_of d r).refused
unfolding target_of ◌>>=◌
target_others d r h = others_then _ _ (others_then _ _ h (others_or _ 8 _)) (others_or _ 8 _)

module _ (d : Description) (g : Target) (f : List ℕ) (own : Bool) (l row : ℕ) (h : OthersCarry0 g.refused) where
  by_kind : (b : Bool) → g.incremental ≡ b → OthersCarry0 (file_of d g f own row l).refused
  by_kind true e = rw (incremental_refused d g f l e own row) (by_others d g.sequence f g.refused h own row)
  by_kind false e = rw (standard_refused d g f l e own row) (refusal_others d g.sequence f g.refused l h)

  file_others : OthersCarry0 (file_of d g f own row l).refused
  file_others = by_kind g.incremental refl

stages_others : (t f : List ℕ) (r : Request) (l : ℕ) → OthersCarry0 (stages_of t f r l).refused
unfolding stages_of stages_after ◌>>=◌
stages_others t f r l =
    let d = described_as t in
    others_then _ _ (others_then _ _ (others_then _ _ (file_others d (target_of d r) f r.own l r.row (target_others d r (described t).others)) (others_or _ 12 _)) (others_or _ 9 _)) (others_or _ 14 _)

pub every_byte : EveryByte
every_byte t f q l = rw (answer_refused t f (request_of q) l) (stages_others t f (request_of q) l)
