-- Demand 3 (RULES.md 9.2), on answers of Place.
use Rattle.std.specs.Prelude.{ℕ, ◌≡◌, List}
use Rattle.lookup_rules.specs.declared.Asked.{Asked}
use Rattle.lookup_rules.specs.declared.Question.TheVariants.{Place}
use Rattle.standard_rules.specs.Place.{Bits}
use Rattle.table_rules.specs.Table.{described_as, binding_in}
use Rattle.table_rules.specs.declared.Kind.TheVariants.{Standard, Incremental}
use Rattle.lookup_rules.specs.Questions.{column_of, kind_with, answer_of}
use Rattle.lookup_rules.specs.Answers.{answer_bits}
use Rattle.standard_rules.specs.Demand.{Demand3}
use Rattle.standard_rules.specs.Map.{map_of}
use Rattle.incremental_rules.specs.Header.{header_at}
use Rattle.incremental_rules.specs.Index.{index_of}
use Rattle.incremental_rules.specs.Place.{Safe}

-- "Both columns carry the sequence number the file was accepted for"
abbrev pub carries : List ℕ → Asked → ℕ → Type 0
carries t a sequence = (binding_in (described_as t) (column_of a)).sequence ≡ sequence

-- "Place in StandardStMan": the manager with the sequence number is one
abbrev pub in_standard : List ℕ → ℕ → Type 0
in_standard t sequence = kind_with (described_as t).managers (described_as t).manager_count sequence ≡ Standard

-- "a single statement on every two unrefused answers of Place in StandardStMan for the same table and file bytes, each with
-- its own index room", each asked by position or by plan
abbrev pub Places : Type 0
Places =
    (t f : List ℕ) (sequence l l' row row' : ℕ) (a a' : Asked)
    → in_standard t sequence
    → carries t a sequence
    → carries t a' sequence
    → (answer_of t f (Place row a) l).refused.number ≡ 0
    → (answer_of t f (Place row' a') l').refused.number ≡ 0
    → Demand3 (map_of (described_as t) sequence f)
    (answer_bits (answer_of t f (Place row a) l))
    (answer_bits (answer_of t f (Place row' a') l'))
    row
    (column_of a)
    row'
    (column_of a')

-- the manager with the sequence number is an IncrementalStMan
abbrev pub in_incremental : List ℕ → ℕ → Type 0
in_incremental t sequence = kind_with (described_as t).managers (described_as t).manager_count sequence ≡ Incremental

-- What holds of every unrefused answer of Place in IncrementalStMan: the place lies wholly inside the data part of the bucket that
-- the index gives to its row, off the header, off every free bucket and off the ISMIndex.
abbrev pub SafeThere : List ℕ → List ℕ → Bits → ℕ → Type 0
SafeThere t f place row =
    let h = header_at f (described_as t).big in
    Safe (described_as t).big f h (index_of f (described_as t).big h) place row

abbrev pub PlacesThere : Type 0
PlacesThere =
    (t f : List ℕ) (sequence l row : ℕ) (a : Asked)
    → in_incremental t sequence
    → carries t a sequence
    → (answer_of t f (Place row a) l).refused.number ≡ 0
    → SafeThere t f (answer_bits (answer_of t f (Place row a) l)) row
