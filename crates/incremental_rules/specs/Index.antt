-- RULES.md 6.2 and 6.3, and Note 260, 3.4.3, Bucket Index: the ISMIndex object, and the rule for its numbers.
use Rattle.std.specs.Prelude.{◌≡◌, ℕ, ◌+◌, ◌<◌, cond, Bool, ◌&&◌, false, eqb, ltb, List, [], ◌∷◌, ◌++◌, length, get_or}
use Rattle.aipsio_rules.specs.declared.Cursor.{Cursor}
use Rattle.incremental_rules.specs.declared.Index.{Index}
use Rattle.bytes_at.specs.Bytes.{bytes}
use Rattle.bytes_at.specs.Steps.{◌>>=◌}
use Rattle.bytes_at.specs.Stages.{no_refusal}
use Rattle.aipsio_rules.specs.Field.{refusal_in, uint_at, mark_at}
use Rattle.aipsio_rules.specs.Object.{opened, closed, block_at, row_block_at}
use Rattle.standard_rules.specs.Header.{bucket_start}
use Rattle.incremental_rules.specs.declared.Header.{Header}
use Rattle.standard_rules.specs.Index.{links}
use Rattle.bytes_at.specs.Number.{bytes_of, int_width, int_bytes, number_in, numbers_at}
use Rattle.bytes_at.specs.Lists.{all_apart}

-- "A refusal carries its number and zeros", and beside them its byte.
unfoldable pub indexed : Cursor → ℕ → Bool → ℕ → ℕ → Index
indexed c count wide firsts buckets =
    cond (eqb c.refused 0)
    (record { count = count; wide = wide; firsts = firsts; buckets = buckets; refused = no_refusal })
    (record { count = 0; wide = false; firsts = 0; buckets = 0; refused = refusal_in c })

-- "The ISMIndex (version 1 or 2, with mark): count n, Block of n + 1 first rows, Block of n bucket numbers (omitted by the note);
-- Block lengths that differ give 6", from a place on, in a table of this endianness. First rows are Int64 in version 2.
-- What stands after it is not read.
unfoldable pub index_at : List ℕ → Bool → ℕ → Index
index_at s big at = do
  m ← mark_at s (record { at = at; end = length s; big = big; refused = 0 })
  o ← opened s m (bytes "ISMIndex") 1 2
  n ← uint_at s o.next
  wide ← eqb o.value 2
  width ← int_width wide
  firsts ← row_block_at s n.next (n.value + 1) (bytes_of width)
  buckets ← block_at s firsts.next n.value
  e ← closed buckets.next m
  indexed e n.value wide firsts.value buckets.value

-- "The ISMIndex stands after the last bucket"
abbrev pub index_of : List ℕ → Bool → Header → Index
index_of f big h = index_at f big (bucket_start h.size h.count)

-- the first row of entry i of the index, which has the index's own width, and its bucket number, in the table's endianness
abbrev pub first_row : Bool → List ℕ → Index → ℕ → ℕ
first_row big f x i = number_in big (int_bytes x.wide) f x.firsts i

abbrev pub bucket_number : Bool → List ℕ → Index → ℕ → ℕ
bucket_number big f x i = number_in big 4 f x.buckets i

-- the free list
abbrev pub free_buckets : List ℕ → Header → List ℕ
free_buckets f h = links f h.size h.free_count h.first_free

-- "first rows start at 0, rise strictly and end at the row count": those that follow one
unfoldable pub rises_to : ℕ → ℕ → List ℕ → Bool
rises_to rows last [] = eqb last rows
rises_to rows last (x ∷ xs) = let rest = rises_to rows x xs in ltb last x && rest

-- all of them
unfoldable pub firsts_fit : ℕ → List ℕ → Bool
firsts_fit rows [] = false
firsts_fit rows (x ∷ xs) = let rest = rises_to rows x xs in eqb x 0 && rest

-- "bucket numbers are in range, all different, none free", and the rule above. The free buckets are in range and all different
-- already, since their chain ends.
unfoldable pub index_fits : ℕ → Bool → List ℕ → Header → Index → Bool
index_fits rows big f h x =
    all_apart h.count (numbers_at big 4 f x.buckets x.count ++ free_buckets f h)
    && firsts_fit rows (numbers_at big (int_bytes x.wide) f x.firsts (x.count + 1))

-- The sentence on the index's numbers as facts, one for each of its clauses.
pub record IndexAccepted (rows : ℕ) (big : Bool) (f : List ℕ) (h : Header) (x : Index) : Type 0 where
  -- "bucket numbers are in range"
  pub in_range : (i : ℕ) → i < x.count → bucket_number big f x i < h.count
  -- "all different"
  pub different : (i j : ℕ) → i < j → j < x.count → bucket_number big f x i ≡ bucket_number big f x j → ⊥
  -- "none free"
  pub not_free : (i j : ℕ) → i < x.count → j < length (free_buckets f h) → bucket_number big f x i ≡ get_or (free_buckets f h) j 0 → ⊥
  -- "first rows start at 0"
  pub from_zero : first_row big f x 0 ≡ 0
  -- "rise strictly"
  pub rise : (i : ℕ) → i < x.count → first_row big f x i < first_row big f x (i + 1)
  -- "and end at the row count"
  pub to_rows : first_row big f x x.count ≡ rows
