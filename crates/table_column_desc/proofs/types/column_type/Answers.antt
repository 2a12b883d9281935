-- `table_column_desc::types::column_type` meets its contract: a prefix is stripped where the bytes begin with it.
use mathlib.Core.Path.{◌≡◌, sym, refl, ◌∙◌}
use mathlib.Core.Bool.{true, false}
use lib.ListN.{take, drop}
use Rattle.bytes_at.specs.Bytes.{bytes, same_bytes}
use Rattle.bytes_at.proofs.Comparing.{same_pointwise}
use Rattle.table_rules.specs.ColumnDesc.{column_type_of}
use Rattle.table_column_desc.proofs.types.column_type.Goals as goal

pub returns-in-Some : goal.returns-in-Some
unfolding column_type_of
returns-in-Some c =
    let same : same_bytes (take 17 c.args.s.now) (bytes "ScalarColumnDesc<") ≡ true = sym (same_pointwise _ _) ∙ c.in-Some.ensures.cases.0 in
    let name : c.in-Some.name.now ≡ drop 17 c.args.s.now = c.in-Some.ensures.cases.1 in
    rw (same, ← name, ← c.from_name.ensures) refl

pub returns-in-Some-strip_prefix : goal.returns-in-Some-strip_prefix
unfolding column_type_of
returns-in-Some-strip_prefix c =
    let other : same_bytes (take 17 c.args.s.now) (bytes "ScalarColumnDesc<") ≡ false = sym (same_pointwise _ _) ∙ c.in_default.ensures.cases in
    let same : same_bytes (take 16 c.args.s.now) (bytes "ArrayColumnDesc<") ≡ true = sym (same_pointwise _ _) ∙ c.in-Some-strip_prefix.ensures.cases.0 in
    let name : c.in-Some-strip_prefix.name.now ≡ drop 16 c.args.s.now = c.in-Some-strip_prefix.ensures.cases.1 in
    rw (other, same, ← name, ← c.from_name-in-Some-strip_prefix.ensures) refl

pub returns-in_default-strip_prefix : goal.returns-in_default-strip_prefix
unfolding column_type_of
returns-in_default-strip_prefix c =
    let other : same_bytes (take 17 c.args.s.now) (bytes "ScalarColumnDesc<") ≡ false = sym (same_pointwise _ _) ∙ c.in_default.ensures.cases in
    let third : same_bytes (take 16 c.args.s.now) (bytes "ArrayColumnDesc<") ≡ false = sym (same_pointwise _ _) ∙ c.in_default-strip_prefix.ensures.cases in
    rw (other, third) refl
