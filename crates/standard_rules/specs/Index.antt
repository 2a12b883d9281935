-- RULES.md 5.3 to 5.5, and Note 260, 3.4.2, Index Buckets: the chain of index buckets or the offset in one, the index text,
-- and the free list.
use Rattle.std.specs.Prelude.{ℕ, ◌+◌, zero, suc, ◌-◌, ◌*◌, true, false, Bool, ◌&&◌, cond, List, [], ◌∷◌, ◌++◌, ltb, eqb, leb, take, drop, length, set, replicate}
use Rattle.bytes_at.specs.Number.{uint_of, bytes_of, int_width}
use Rattle.standard_rules.specs.Header.{bucket_start}
use Rattle.standard_rules.specs.declared.Header.{Header}
use Rattle.bytes_at.specs.Bytes.{bytes}
use Rattle.bytes_at.specs.Steps.{◌>>=◌, after}
use Rattle.bytes_at.specs.Stages.{no_refusal}
use Rattle.aipsio_rules.specs.declared.Cursor.{Cursor}
use Rattle.aipsio_rules.specs.Field.{minus_one, refusal_in, uint_at, number_at, mark_at, judged}
use Rattle.aipsio_rules.specs.Object.{opened, closed, block_at, row_block_at, map_at}
use Rattle.standard_rules.specs.declared.SetRead.{SetRead}
use Rattle.standard_rules.specs.declared.Set.{Set}
use Rattle.standard_rules.specs.declared.Sets.{Sets}
use Rattle.standard_rules.specs.declared.Index.{Index}

-- "Links in index chains and free chains are big endian in every table." A link is an Int; this one is -1: no bucket.
abbrev pub no_bucket : ℕ
no_bucket = minus_one

-- the number of the next bucket, in the first 4 bytes of bucket b
abbrev pub next_of : List ℕ → ℕ → ℕ → ℕ
next_of f size b = uint_of true 4 f (bucket_start size b)

-- the same, in the 4 bytes after them
abbrev pub again_of : List ℕ → ℕ → ℕ → ℕ
again_of f size b = uint_of true 4 f (bucket_start size b + 4)

-- the numbers of k buckets of a chain from b on
unfoldable pub links : List ℕ → ℕ → ℕ → ℕ → List ℕ
links f size zero b = []
links f size (suc k) b = b ∷ links f size k (next_of f size b)

-- "With offset 0, a chain of exactly the stated number of buckets from the first, ended by -1. Each has the next number twice,
-- equal"; "other negative numbers and numbers not below the bucket count give 10".
-- A chain that returns to an earlier bucket never ends: it is wrong whatever number is stated, and so is one that is stated to
-- have more buckets than the file (proofs/Counted.antt).
unfoldable pub chain_ok : List ℕ → ℕ → ℕ → ℕ → ℕ → Bool
chain_ok f size nb zero b = eqb b no_bucket
chain_ok f size nb (suc k) b =
    let next = next_of f size b in
    let rest = chain_ok f size nb k next in
    ltb b nb && eqb next (again_of f size b) && rest

-- "in 8 bytes, then text": the text of k buckets
unfoldable pub chain_text : List ℕ → ℕ → ℕ → ℕ → List ℕ
chain_text f size zero b = []
chain_text f size (suc k) b = take (size - 8) (drop (bucket_start size b + 8) f) ++ chain_text f size k (next_of f size b)

-- "their text room holds the index length", n
unfoldable pub chain_holds : List ℕ → ℕ → ℕ → ℕ → ℕ → ℕ → Bool
chain_holds f size nb k b n = chain_ok f size nb k b && leb n (k * (size - 8))

-- "With offset above 0: one index bucket in range and the text within it", n bytes from the offset on
unfoldable pub offset_ok : ℕ → ℕ → ℕ → ℕ → ℕ → ℕ → Bool
offset_ok size nb k b offset n = eqb k 1 && ltb b nb && leb (offset + n) size

abbrev pub offset_text : List ℕ → ℕ → ℕ → ℕ → ℕ → List ℕ
offset_text f size b offset n = take n (drop (bucket_start size b + offset) f)

-- the index: k buckets from b on, an offset, and a length n
unfoldable pub index_ok : List ℕ → ℕ → ℕ → ℕ → ℕ → ℕ → ℕ → Bool
index_ok f size nb k b offset n =
    let chain = chain_holds f size nb k b n in
    let one = offset_ok size nb k b offset n in
    cond (eqb offset 0) chain one

unfoldable pub index_text : List ℕ → ℕ → ℕ → ℕ → ℕ → ℕ → List ℕ
index_text f size k b offset n =
    let chain = take n (chain_text f size k b) in
    let one = offset_text f size b offset n in
    cond (eqb offset 0) chain one

-- the index text that a header points at
unfoldable pub index_text_of : List ℕ → Header → List ℕ
index_text_of f h = index_text f h.size h.index_count h.first_index h.offset h.length

-- "one SSMIndex (version 1 or 2) per set, each with mark: the note's fields, then a Block of bucket numbers": number of entries,
-- "rows per bucket 1 to 8,388,608", number of columns, free-space map, last rows, which are Int64 in version 2, bucket numbers.
-- "Both Blocks' lengths equal the entry count (else 6)."
unfoldable pub ssm_index_at : List ℕ → Cursor → SetRead
ssm_index_at s c = do
  m ← mark_at s c
  o ← opened s m (bytes "SSMIndex") 1 2
  entries ← uint_at s o.next
  per ← number_at s entries.next 4 1 8388608
  columns ← uint_at s per.next
  free ← map_at s columns.next
  wide ← eqb o.value 2
  width ← int_width wide
  lasts ← row_block_at s free entries.value (bytes_of width)
  buckets ← block_at s lasts.next entries.value
  d ← closed buckets.next m
  record {
    set = record {
      entries = entries.value;
      per = per.value;
      columns = columns.value;
      wide = wide;
      lasts = lasts.value;
      buckets = buckets.value;
    };
    next = d;
  }

-- no set: zeros
abbrev pub no_set : Set
no_set = record { entries = 0; per = 0; columns = 0; wide = false; lasts = 0; buckets = 0 }

-- one set more, at i
unfoldable pub set_into : List ℕ → Sets → ℕ → Sets
set_into s all i = do
  read ← ssm_index_at s all.next
  record { sets = set all.sets i read.set; next = read.next }

-- no set yet
abbrev pub no_sets : Cursor → Sets
no_sets c = record { sets = replicate 16 no_set; next = c }

-- n sets
unfoldable pub sets_at : List ℕ → Cursor → ℕ → Sets
sets_at s c n = after (set_into s) (no_sets c) n

-- "A refusal carries its number and zeros", and beside them its byte: "In index text bytes count from its start".
unfoldable pub indexed : Cursor → Sets → Index
indexed c all =
    cond (eqb c.refused 0)
    (record { sets = all.sets; refused = no_refusal })
    (record { sets = replicate 16 no_set; refused = refusal_in c })

-- the n sets of an index text of a table of this endianness.
-- 7 where the "index text has a length other than its fields use": "text left over fails at its first byte"
unfoldable pub index_at : List ℕ → Bool → ℕ → Index
index_at s big n = do
  all ← sets_at s (record { at = 0; end = length s; big = big; refused = 0 }) n
  e ← judged all.next all.next.at (eqb all.next.at all.next.end) 7
  indexed e all

-- "Free chain (free list): exactly the stated number, first 4 bytes big endian, -1 ends it."
unfoldable pub free_ok : List ℕ → ℕ → ℕ → ℕ → ℕ → Bool
free_ok f size nb zero b = eqb b no_bucket
free_ok f size nb (suc k) b =
    let rest = free_ok f size nb k (next_of f size b) in
    ltb b nb && rest
