-- RULES.md 7.10 and 9.3, View: the part of the caller's file that a view is, padded or not, and what holds of it.
use Rattle.std.specs.Prelude.{ℕ, ◌+◌, ◌*◌, ◌/◌, ◌≤◌, ◌<◌, ◌≡◌, Bool, cond, List, [], T, length, get_or, take, drop}
use Rattle.bytes_at.specs.declared.Refusal.{Refusal}
use Rattle.bytes_at.specs.Bytes.{before_zero}
use Rattle.table_rules.specs.ColumnDesc.{is_padded}
use Rattle.table_rules.specs.Table.{described_as, column_in, binding_in}
use Rattle.lookup_rules.specs.declared.Asked.{Asked}
use Rattle.lookup_rules.specs.declared.Question.TheVariants.{Place, View}
use Rattle.lookup_rules.specs.declared.Answer.{Answer}
use Rattle.lookup_rules.specs.Questions.{column_of, answer_of}
use Rattle.lookup_rules.specs.Demand.{in_standard}

-- ---- the part
-- "the bytes first bit / 8 on, bit count / 8 of them: the whole cell"; "A refused view is the empty part"
unfoldable pub padded_of : List ℕ → Answer → List ℕ
padded_of f a = take (a.count / 8) (drop (a.first / 8) f)

-- "The view of a String scalar with a maximum .. stops before the first zero byte, or runs to the maximum if there is none"; "Every
-- other view is the padded one"
unfoldable pub view_of : List ℕ → Answer → List ℕ
view_of f a = let whole = padded_of f a in cond (is_padded a.column) (before_zero whole) whole

-- either of them, as a question asks for it
unfoldable pub view_by : Bool → List ℕ → Answer → List ℕ
view_by padded f a = cond padded (padded_of f a) (view_of f a)

-- ---- what holds of the padded view
-- The bits of an answer are whole bytes, and the file has them all.
pub record HoldsCell (f : List ℕ) (a : Answer) : Type 0 where
  pub starts : a.first ≡ 8 * (a.first / 8)
  pub bytes : a.count ≡ 8 * (a.count / 8)
  pub there : a.first / 8 + a.count / 8 ≤ length f

-- Of every unrefused answer of View, in both managers, by position or by plan.
abbrev pub EveryView : Type 0
EveryView = (t f : List ℕ) (l row : ℕ) (a : Asked) → (answer_of t f (View row a) l).refused.number ≡ 0 → HoldsCell f (answer_of t f (View row a) l)

-- A view is of the bits that Place gives.
abbrev pub ViewsPlace : Type 0
ViewsPlace =
    (t f : List ℕ) (l row : ℕ) (a : Asked) → (answer_of t f (View row a) l).refused.number ≡ 0
    → answer_of t f (View row a) l ≡ answer_of t f (Place row a) l

-- A place that is not refused is never empty, and so is a padded view, since it is of the same bits.
abbrev pub EveryPlaceHasBits : Type 0
EveryPlaceHasBits = (t f : List ℕ) (l row : ℕ) (a : Asked) → (answer_of t f (Place row a) l).refused.number ≡ 0 → 0 < (answer_of t f (Place row a) l).count

-- ---- what holds of the view
abbrev pub NoZero : List ℕ → Type 0
NoZero s = (i : ℕ) → i < length s → get_or s i 0 ≡ 0 → ⊥

-- "the longest beginning of the padded one without a zero byte"
pub record LongestText (text padded : List ℕ) : Type 0 where
  pub begins : text ≡ take (length text) padded
  pub no_zero : NoZero text
  pub longest : (n : ℕ) → n ≤ length padded → NoZero (take n padded) → n ≤ length text

-- "A text that begins with a zero byte"
abbrev pub EmptyText : List ℕ → Answer → Type 0
EmptyText f a = T (is_padded a.column) × (get_or f (a.first / 8) 0 ≡ 0)

-- Of a view that is not refused, where x is the answer that it is the part of.
pub record Shows (t f : List ℕ) (l row : ℕ) (a : Asked) (x : Answer) (view : List ℕ) : Type 0 where
  -- it is of the column that is asked for, which StandardStMan keeps if it is padded
  pub column : x.column ≡ column_in (described_as t) (column_of a)
  pub standard : T (is_padded x.column) → in_standard t (binding_in (described_as t) (column_of a)).sequence
  -- the padded one is the whole cell, and both are parts of the file that begin where the place does
  pub whole : 8 * length (padded_of f x) ≡ (answer_of t f (Place row a) l).count
  pub starts : 8 * (x.first / 8) ≡ (answer_of t f (Place row a) l).first
  pub part : view ≡ take (length view) (drop (x.first / 8) f)
  -- the text, and the padding off; of every other column the two are equal
  pub text : T (is_padded x.column) → LongestText view (padded_of f x)
  pub other : (T (is_padded x.column) → ⊥) → view ≡ padded_of f x
  -- empty exactly where a text is
  pub empty : view ≡ [] → EmptyText f x
  pub only : EmptyText f x → view ≡ []

-- Of every view, with the refusal that the second question gives: it alone tells an empty text from a refused view.
pub record Viewed (t f : List ℕ) (l row : ℕ) (a : Asked) (view : List ℕ) (why : Refusal) : Type 0 where
  pub refused : (why.number ≡ 0 → ⊥) → view ≡ []
  pub shows : why.number ≡ 0 → Shows t f l row a (answer_of t f (View row a) l) view

abbrev pub EveryViewed : Type 0
EveryViewed =
    (t f : List ℕ) (l row : ℕ) (a : Asked)
    → Viewed t f l row a (view_of f (answer_of t f (View row a) l)) (answer_of t f (View row a) l).refused
