-- "Others carry 0", of a table and of a name that is looked for.
-- Assumes nothing.
use mathlib.Core.List.{List}
use Prim.Native.Nat.{ℕ}
use lib.Dec.{eqb}
use Rattle.bytes_at.specs.declared.Refusal.{Refusal}
use Rattle.bytes_at.specs.Stages.{OthersCarry0}
use Rattle.bytes_at.specs.Steps.{◌>>=◌}
use Rattle.bytes_at.proofs.Stages.{others_none, others_then, others_or, others_either}
use Rattle.table_rules.specs.Table.{position_or, column_named, position_refusal, EveryTableByte}
use Rattle.table_rules.proofs.Described.{described}

positioned : (r : Refusal) (k : ℕ) → OthersCarry0 r → OthersCarry0 (position_refusal (position_or r k))
positioned r k h = others_either position_refusal (eqb r.number 0) _ _ others_none h

named : (t name : List ℕ) → OthersCarry0 (position_refusal (column_named t name))
unfolding column_named ◌>>=◌
named t name = positioned _ _ (others_then _ _ (described t).others (others_or _ 8 _))

pub every_table_byte : EveryTableByte
every_table_byte t name = ((described t).others, named t name)
