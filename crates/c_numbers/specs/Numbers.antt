-- The numbers that C gets for a column, a manager, a check, a plan, a place, a view or a place in one bucket, and a plan from its
-- numbers.
use Rattle.std.specs.Prelude.{ℕ, ◌/◌, List, [], ◌∷◌, ◌++◌, Bool, true, false, get_or}
use Rattle.bytes_at.specs.declared.Refusal.{Refusal}
use Rattle.table_rules.specs.declared.Column.{Column}
use Rattle.table_rules.specs.declared.Binding.{Binding}
use Rattle.table_rules.specs.declared.Manager.{Manager}
use Rattle.table_rules.specs.declared.Kind.{Kind}
use Rattle.table_rules.specs.declared.Kind.TheVariants.{Other, Standard, Incremental}
use Rattle.lookup_rules.specs.declared.Plan.{Plan}
use Rattle.lookup_rules.specs.declared.Answer.{Answer}

-- the numbers of an answer, and behind them the byte of its refusal: every function that can be refused tells it so
abbrev pub with_byte : List ℕ → Refusal → List ℕ
with_byte numbers why = numbers ++ (why.byte ∷ [])

abbrev pub flag_of : Bool → ℕ
flag_of true = 1
flag_of false = 0

abbrev pub kind_number : Kind → ℕ
kind_number Other = 0
kind_number Standard = 1
kind_number Incremental = 2

-- name start and length, data type, array, options, elements, maximum, cell bits, sequence number, set, offset
abbrev pub one_column : Column → Binding → List ℕ
one_column c b =
    c.start ∷ c.len ∷ c.datatype.number ∷ flag_of c.array ∷ c.options ∷ c.elements ∷ c.maximum ∷ c.bits
    ∷ b.sequence ∷ b.set ∷ b.offset ∷ []

-- sequence number, kind, name start and length
abbrev pub one_manager : Manager → List ℕ
one_manager m = m.number ∷ kind_number m.kind ∷ m.start ∷ m.len ∷ []

-- File check: the bucket size of the file
abbrev pub check_numbers : Answer → List ℕ
check_numbers a = with_byte (a.size ∷ []) a.refused

-- Plan: "position, sequence number, data type, element count, cell bits, set, offset, rows per bucket and bucket size"
abbrev pub plan_numbers : Answer → List ℕ
plan_numbers a =
    let p = a.plan in
    with_byte
    (p.position ∷ p.sequence ∷ p.datatype ∷ p.elements ∷ p.bits ∷ p.set ∷ p.offset ∷ p.per ∷ p.size ∷ [])
    a.refused

-- the plan of nine numbers in that order
unfoldable pub plan_from : List ℕ → Plan
plan_from s = record {
  position = get_or s 0 0;
  sequence = get_or s 1 0;
  datatype = get_or s 2 0;
  elements = get_or s 3 0;
  bits = get_or s 4 0;
  set = get_or s 5 0;
  offset = get_or s 6 0;
  per = get_or s 7 0;
  size = get_or s 8 0;
}

-- Place: "first bit and bit count, counted from the file's start", the looks of the search and the entries of the column's set
abbrev pub place_numbers : Answer → List ℕ
place_numbers a = with_byte (a.first ∷ a.count ∷ a.looks ∷ a.entries ∷ []) a.refused

-- View and padded view: the start of the part of the file, and its length, both in bytes
abbrev pub view_numbers : Answer → ℕ → List ℕ
view_numbers a len = with_byte (a.first / 8 ∷ len ∷ []) a.refused

-- Place in one bucket: first bit and bit count, and the bucket size of the file
abbrev pub in_bucket_numbers : Answer → List ℕ
in_bucket_numbers a = with_byte (a.first ∷ a.count ∷ a.size ∷ []) a.refused
