-- The numbers that C gets for a keyword or a field: "A refusal carries its number and zeros", and behind them its byte.
use Rattle.std.specs.Prelude.{ℕ, List, [], ◌∷◌, Result, Ok, Err}
use Rattle.bytes_at.specs.declared.Refusal.{Refusal}
use Rattle.bytes_at.specs.Stages.{no_refusal}
use Rattle.c_numbers.specs.Numbers.{with_byte}
use Rattle.keyword_rules.specs.declared.Field.{Field}
use Rattle.keyword_rules.specs.declared.Sought.{Sought}
use Rattle.keyword_rules.specs.declared.Sought.TheVariants.{Value as NamedValue, Field as FieldOf}

-- type number, start and length of the value
abbrev pub keyword_numbers : Result Field Refusal → List ℕ
keyword_numbers (Ok x) = with_byte (x.number ∷ x.start ∷ x.len ∷ []) no_refusal
keyword_numbers (Err why) = with_byte (0 ∷ 0 ∷ 0 ∷ []) why

-- start and length of the name, then those of a keyword
abbrev pub field_numbers : Result Field Refusal → List ℕ
field_numbers (Ok x) = with_byte (x.name ∷ x.name_len ∷ x.number ∷ x.start ∷ x.len ∷ []) no_refusal
field_numbers (Err why) = with_byte (0 ∷ 0 ∷ 0 ∷ 0 ∷ 0 ∷ []) why

-- the numbers of what is asked
abbrev pub numbers_of : Sought → Result Field Refusal → List ℕ
numbers_of NamedValue x = keyword_numbers x
numbers_of (FieldOf n) x = field_numbers x
