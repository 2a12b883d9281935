-- The stages before a file's buckets are looked at, which both managers share.
use Rattle.std.specs.Prelude.{ℕ}
use Rattle.bytes_at.specs.declared.Refusal.{Refusal}
use Rattle.bytes_at.specs.Stages.{◌▷◌, or_at}
use Rattle.standard_rules.specs.Check.{long_enough}

-- "Order after the header: file length (1)": the refusal so far, the header's own, and the length of a file of len bytes
unfoldable pub before_buckets : Refusal → Refusal → ℕ → ℕ → ℕ → Refusal
before_buckets refused own len size count = refused ▷ own ▷ or_at (long_enough len size count) 1 len
