-- What no refusal shows, and what a question takes of a table. Assumes nothing.
use mathlib.Core.Path.{◌≡◌, sym, ap, ◌∙◌}
use mathlib.Core.Bool.{Bool, true, false, false≢true}
use mathlib.Core.List.{List}
use Prim.Native.Nat.{ℕ}
use Rattle.bytes_at.specs.Steps.{◌>>=◌}
use Rattle.bytes_at.proofs.Stages.{then_left}
use Rattle.table_rules.specs.declared.Description.{Description}
use Rattle.table_rules.specs.Table.{described_as}
use Rattle.standard_rules.specs.Check.{padded, checked_as}
use Rattle.standard_rules.specs.declared.Set.{Set}
use Rattle.standard_rules.specs.Header.{header_at}
use Rattle.standard_rules.specs.Index.{no_set, index_text_of}
use Rattle.standard_rules.specs.declared.Checked.{Checked}
use Rattle.incremental_rules.specs.declared.Checked.{Checked as IncrementalChecked}
use Rattle.incremental_rules.specs.OneBucket.{checked_by}
use Rattle.lookup_rules.specs.declared.Request.{Request}
use Rattle.lookup_rules.specs.declared.FileChecked.{FileChecked}
use Rattle.lookup_rules.specs.declared.Staged.{Staged}
use Rattle.lookup_rules.specs.declared.Target.{Target}
use Rattle.lookup_rules.specs.Questions.{target_of, file_of, stages_after, stages_of}
use Rattle.lookup_rules.proofs.Files.{file_standard, file_incremental}

-- the stages after the file's check
module _ (r : Request) (g : Target) (m : FileChecked) (rows : ℕ) (big : Bool) {s : Staged} (e : s ≡ stages_after r g m rows big) where
  pub passed : s.refused.number ≡ 0 → m.refused.number ≡ 0
  unfolding stages_after ◌>>=◌
  passed z = then_left _ _ (then_left _ _ (then_left _ _ (sym (ap (λ (x : Staged). x.refused.number) e) ∙ z)))

  pub same_kind : s.incremental ≡ g.incremental
  unfolding stages_after ◌>>=◌
  same_kind = ap (λ (x : Staged). x.incremental) e

-- the text, by the description that was read
pub room_text : (t f : List ℕ) (l : ℕ) {d : Description} {x : List ℕ} → d ≡ described_as t → x ≡ padded l (index_text_of f (header_at f d.big))
    → x ≡ padded l (index_text_of f (header_at f (described_as t).big))
room_text t f l {d} {x} e h = rw (← e) h

pub no_text : {A : Type 0} {i r : Bool} → i ≡ true → r ≡ i → r ≡ false → A
no_text e q k = absurd (false≢true (sym k ∙ q ∙ e))

-- all stages, from those after the file's check
module _ (t f : List ℕ) (r : Request) (l : ℕ) {d : Description} (e : d ≡ described_as t) {g : Target} (h : g ≡ target_of d r) where
  all_stages : {m : FileChecked} {s : Staged} → m ≡ file_of d g f r.own r.row l → s ≡ stages_after r g m d.rows d.big → s ≡ stages_of t f r l
  unfolding stages_of ◌>>=◌
  all_stages p q = rw (← e, ← h, ← p) q

  pub stages_there : {m : IncrementalChecked} {none : Set} {s : Staged} → g.incremental ≡ true
      → m ≡ checked_by r.own d g.sequence f g.refused g.position r.row → none ≡ no_set
      → s ≡ stages_after r g (record { refused = m.refused; size = m.size; set = none; first = m.first }) d.rows d.big → s ≡ stages_of t f r l
  stages_there k p n q = all_stages (rw (file_incremental d g f l k r.own r.row, p, n)) q

  pub stages_here : {m : Checked} {s : Staged} → g.incremental ≡ false → m ≡ checked_as d g.sequence f g.refused g.binding.set l
      → s ≡ stages_after r g (record { refused = m.refused; size = m.size; set = m.set; first = 0 }) d.rows d.big → s ≡ stages_of t f r l
  stages_here k p q = all_stages (rw (file_standard d g f l k r.own r.row, p)) q
