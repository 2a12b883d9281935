-- How the code refuses a number of a bucket.
use Rattle.std.specs.Prelude.{ℕ}
use Rattle.aipsio_rules.specs.declared.Cursor.{Cursor}
use Rattle.aipsio_rules.specs.declared.Value.{Value}
use Rattle.aipsio_rules.specs.Field.{refused_at}

-- nothing read: the field that begins at `from` is refused with the number
abbrev pub refused_value : Cursor → ℕ → ℕ → Value
refused_value c from n = record { value = 0; next = refused_at c from n }
