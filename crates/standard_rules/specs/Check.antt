-- RULES.md 5.7: when a file is accepted.
use Rattle.std.specs.Prelude.{ℕ, ◌+◌, ◌*◌, ◌-◌, ◌≤◌, ◌≡◌, ◌↔◌, Bool, cond, T, leb, eqb, List, ◌++◌, length, get_or, replicate}
use Rattle.bytes_at.specs.declared.Refusal.{Refusal}
use Rattle.bytes_at.specs.Stages.{no_refusal, ◌▷◌, or_at, or_no}
use Rattle.table_rules.specs.declared.Description.{Description}
use Rattle.standard_rules.specs.Index.{index_ok, free_ok, index_at, index_text_of, no_set}
use Rattle.standard_rules.specs.Map.{MapColumn, fits, map_with, columns_of, map_of, MapAccepted}
use Rattle.standard_rules.specs.Header.{header_at}
use Rattle.standard_rules.specs.declared.Header.{Header}
use Rattle.standard_rules.specs.declared.Checked.{Checked}

-- 1 where "the file is shorter than 512 + buckets x bucket size"
abbrev pub long_enough : ℕ → ℕ → ℕ → Bool
long_enough len size count = leb (512 + count * size) len

-- "Order after the header: file length (1), room (13), index chain, text, free chain, map." Of a table of so many rows, of this
-- endianness and these columns; `refused` is the refusal so far, and l the length of the lent room. "A missing bucket area is at the
-- file's end."
unfoldable pub refusal_with : ℕ → Bool → List MapColumn → List ℕ → Refusal → ℕ → Refusal
refusal_with rows big columns f refused l =
    let h = header_at f big in
    let text = index_text_of f h in
    refused
    ▷ h.refused
    ▷ or_at (long_enough (length f) h.size h.count) 1 (length f)
    ▷ or_no (leb h.length l) 13
    ▷ or_no (index_ok f h.size h.count h.index_count h.first_index h.offset h.length) 10
    ▷ (index_at text big h.sets).refused
    ▷ or_no (free_ok f h.size h.count h.free_count h.first_free) 10
    ▷ or_no (fits (map_with rows big columns f)) 11

-- What the check tells, where set k is asked for; "A refusal carries its number and zeros", and beside them its byte.
unfoldable pub checked_with : ℕ → Bool → List MapColumn → List ℕ → Refusal → ℕ → ℕ → Checked
checked_with rows big columns f refused k l =
    let h = header_at f big in
    let why = refusal_with rows big columns f refused l in
    cond (eqb why.number 0)
    (record { refused = no_refusal; size = h.size; set = get_or (index_at (index_text_of f h) big h.sets).sets k no_set })
    (record { refused = why; size = 0; set = no_set })

-- Both of a described table, in the file whose manager has the sequence number.
abbrev pub refusal_of : Description → ℕ → List ℕ → Refusal → ℕ → Refusal
refusal_of d sequence f refused l = refusal_with d.rows d.big (columns_of d sequence) f refused l

abbrev pub checked_as : Description → ℕ → List ℕ → Refusal → ℕ → ℕ → Checked
checked_as d sequence f refused k l = checked_with d.rows d.big (columns_of d sequence) f refused k l

-- The chapter as facts, in the order of that sentence, of a file with header h, whose index text is given, and a room of l bytes.
pub record FileAccepted (d : Description) (sequence : ℕ) (f : List ℕ) (l : ℕ) (h : Header) (text : List ℕ) : Type 0 where
  -- "header"
  pub header : h.refused.number ≡ 0
  -- "file length (1)"
  pub long : 512 + h.count * h.size ≤ length f
  -- "room (13)"
  pub room : h.length ≤ l
  -- "index chain", or the offset in one bucket
  pub index : T (index_ok f h.size h.count h.index_count h.first_index h.offset h.length)
  -- "text"
  pub sets : (index_at text d.big h.sets).refused.number ≡ 0
  -- "free chain"
  pub free : T (free_ok f h.size h.count h.free_count h.first_free)
  -- "map"
  pub map : MapAccepted (map_of d sequence f)

abbrev pub Accepted : Description → ℕ → List ℕ → ℕ → Type 0
Accepted d sequence f l = let h = header_at f d.big in FileAccepted d sequence f l h (index_text_of f h)

-- Of every table, every file and every room: nothing refuses exactly when nothing was refused before and the file is accepted.
abbrev pub AcceptedExactly : Type 0
AcceptedExactly =
    (d : Description) (sequence : ℕ) (f : List ℕ) (refused : Refusal) (l : ℕ)
    → ((refusal_of d sequence f refused l).number ≡ 0) ↔ ((refused.number ≡ 0) × Accepted d sequence f l)

-- a room of l bytes that holds the text, "then zeros"
unfoldable pub padded : ℕ → List ℕ → List ℕ
padded l t = t ++ replicate (l - length t) 0
