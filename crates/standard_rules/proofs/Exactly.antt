-- A file is not refused exactly when it is accepted: each stage passes exactly when its fact holds; and then no byte is told.
-- Assumes nothing.
use mathlib.Core.Path.{◌≡◌, ap, ◌∙◌}
use mathlib.Core.List.{List}
use Prim.Native.Nat.{ℕ}
use lib.ListN.{length}
use lib.Dec.{leb, leb→le, le→leb}
use Rattle.bytes_at.specs.declared.Refusal.{Refusal}
use Rattle.bytes_at.proofs.Tests.{is_true}
use Rattle.bytes_at.proofs.Stages.{then_left, then_right, or_passed, goes, passes, yes_is, Clear, clear_then, clear_or}
use Rattle.table_rules.specs.declared.Description.{Description}
use Rattle.standard_rules.specs.declared.Header.{Header}
use Rattle.standard_rules.specs.Header.{header_at}
use Rattle.standard_rules.specs.Map.{map_of}
use Rattle.standard_rules.specs.Check.{long_enough, refusal_with, refusal_of, Accepted, AcceptedExactly}
use Rattle.standard_rules.proofs.Fitting.{map_exactly}

module _ (d : Description) (sequence : ℕ) (f : List ℕ) (refused : Refusal) (l : ℕ) where
  abbrev header : Header
  header = header_at f d.big

  accepted : (refusal_of d sequence f refused l).number ≡ 0 → (refused.number ≡ 0) × Accepted d sequence f l
  unfolding refusal_with
  accepted z =
      let a = then_right _ _ z in
      let b = then_right _ _ a in
      let c = then_right _ _ b in
      let e = then_right _ _ c in
      let g = then_right _ _ e in
      let k = then_right _ _ g in (
        then_left _ _ z,
        record {
          header = then_left _ _ a;
          long = leb→le _ _ (or_passed (long_enough (length f) header.size header.count) 0 _ (then_left _ _ b));
          room = leb→le _ _ (or_passed (leb header.length l) 12 _ (then_left _ _ c));
          index = or_passed _ 9 _ (then_left _ _ e);
          sets = then_left _ _ g;
          free = or_passed _ 9 _ (then_left _ _ k);
          map = (map_exactly (map_of d sequence f)).0 (or_passed _ 10 _ (then_right _ _ k));
        },
      )

  not_refused : (refused.number ≡ 0) × Accepted d sequence f l → (refusal_of d sequence f refused l).number ≡ 0
  unfolding refusal_with
  not_refused v =
      let a = v.1 in
      ap (λ (r : Refusal). r.number) (
      goes _ _ v.0
      ∙ goes _ _ a.header
      ∙ goes _ _ (passes _ 1 _ (is_true _ (le→leb _ _ a.long)))
      ∙ goes _ _ (passes _ 13 _ (is_true _ (le→leb _ _ a.room)))
      ∙ goes _ _ (passes _ 10 _ (is_true _ a.index))
      ∙ goes _ _ a.sets
      ∙ goes _ _ (passes _ 10 _ (is_true _ a.free))
      ∙ yes_is _ 11 _ (is_true _ ((map_exactly (map_of d sequence f)).1 a.map)))

pub accepted_exactly : AcceptedExactly
accepted_exactly d sequence f refused l = (accepted d sequence f refused l, not_refused d sequence f refused l)

pub refusal_clear : (d : Description) (sequence : ℕ) (f : List ℕ) (refused : Refusal) (l : ℕ) → Clear (refusal_of d sequence f refused l)
unfolding refusal_with
refusal_clear d sequence f refused l =
    clear_then _ _ (clear_then _ _ (clear_then _ _ (clear_then _ _ (clear_then _ _ (clear_then _ _ (clear_then _ _ (clear_or _ 10 _)))))))
