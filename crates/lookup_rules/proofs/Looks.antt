-- The looks that Place tells.
-- Assumes nothing.
use mathlib.Core.Path.{◌≡◌, refl, ap, ◌∙◌}
use mathlib.Core.List.{List}
use mathlib.Core.Bool.{Bool, true, false}
use Prim.Native.Nat.{ℕ}
use native.Mathlib.Decide.{ℕ_discrete}
use native.Mathlib.Omega.{arith}
use Rattle.table_rules.specs.declared.Kind.{Kind}
use Rattle.table_rules.specs.declared.Kind.TheVariants.{Other, Standard, Incremental}
use Rattle.table_rules.specs.declared.Description.{Description}
use Rattle.table_rules.specs.Table.{described_as, binding_in}
use Rattle.standard_rules.specs.Map.{map_of}
use Rattle.standard_rules.specs.Looks.{Looks, looks_of, FewLooks}
use Rattle.standard_rules.proofs.Exactly.{accepted_exactly}
use Rattle.standard_rules.proofs.Looks.{every_search}
use Rattle.standard_rules.proofs.Columns.{map_rows}
use Rattle.lookup_rules.specs.declared.Asked.{Asked}
use Rattle.lookup_rules.specs.declared.Request.{Request}
use Rattle.lookup_rules.specs.declared.Question.TheVariants.{Place}
use Rattle.lookup_rules.specs.Questions.{column_of, request_of, kind_with, is_incremental, looks_in, no_looks, answer_of}
use Rattle.lookup_rules.specs.Answers.{answer_looks}
use Rattle.lookup_rules.specs.Looks.{Looked, EveryLook}
use Rattle.lookup_rules.proofs.CellAsked.{Cell}
use Rattle.lookup_rules.proofs.Places as standard
use Rattle.lookup_rules.proofs.Said.{refused_looks}
use Rattle.lookup_rules.proofs.Stages.{target_for, target_sequence, target_kind, target_held, passed}

none_few : FewLooks no_looks
none_few = record { bounded = omega arith; none = λ e. refl; most = omega arith; most_entries = omega arith }

pub looks_standard : (d : Description) (sequence : ℕ) (f : List ℕ) (row c : ℕ) → looks_in d false sequence f row c ≡ looks_of (map_of d sequence f) row c
unfolding looks_in
looks_standard d sequence f row c = refl

pub looks_there : (d : Description) (sequence : ℕ) (f : List ℕ) (row c : ℕ) → looks_in d true sequence f row c ≡ no_looks
unfolding looks_in
looks_there d sequence f row c = refl

module _ (t f : List ℕ) (row l : ℕ) (asked : Asked) where
  abbrev r : Request
  r = request_of (Place row asked)

  abbrev d : Description
  d = described_as t

  abbrev c : ℕ
  c = column_of asked

  abbrev kind : Kind
  kind = kind_with d.managers d.manager_count (binding_in d c).sequence

  held : Cell r
  held = record { cell = refl; column = refl }

  abbrev told : Looks
  told = answer_looks (answer_of t f (Place row asked) l)

  -- where nothing is refused
  module _ (h : (answer_of t f (Place row asked) l).refused.number ≡ 0) where
    same : (k : Bool) → (target_for t f r l).incremental ≡ k → told ≡ looks_in d k (target_for t f r l).sequence f row c
    same k e = ap answer_looks (passed t f r l h).same ∙ ap (λ (x : Bool). looks_in d x (target_for t f r l).sequence f row c) e

    there : (k : Kind) → kind ≡ k → is_incremental k ≡ true → told ≡ no_looks
    there k e i = same true (target_kind d r ∙ rw (target_sequence d r, e) i) ∙ looks_there d _ f row c

    by_kind : (k : Kind) → kind ≡ k → FewLooks told
    by_kind Other e = absurd (rw (target_sequence d r, e) at (target_held d r (passed t f r l h).held))
    by_kind Standard e =
        let x = standard.shown t f _ l r held e refl h in
        let a = ((accepted_exactly d _ f _ l).0 (standard.accepted t f _ l r held e refl h)).1 in
        rw (same false (standard.kind t f _ l r held e refl h), looks_standard d (target_for t f r l).sequence f row c, standard.own t f _ l r held e refl h)
        (every_search d _ f l row c (rw (standard.own t f _ l r held e refl h) at a) (rw map_rows at x.below) x.kept).few
    by_kind Incremental e = rw (there Incremental e refl) none_few

  looked : Looked t asked (answer_of t f (Place row asked) l)
  looked = record {
    few = elim (ℕ_discrete (answer_of t f (Place row asked) l).refused.number 0) [
      | yes h ↦ by_kind h kind refl
      | no h ↦ rw (refused_looks t f (Place row asked) l h) none_few
    ];
    refused = refused_looks t f (Place row asked) l;
    incremental = λ sequence i k. elim (ℕ_discrete (answer_of t f (Place row asked) l).refused.number 0) [
      | yes h ↦ there h Incremental (rw k i) refl
      | no h ↦ refused_looks t f (Place row asked) l h
    ];
  }

pub every_look : EveryLook
every_look t f row l asked = looked t f row l asked
