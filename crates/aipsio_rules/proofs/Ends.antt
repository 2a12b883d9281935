-- Readers do not leave the object that they read in: the end of an unrefused cursor is not after the end before.
--     Stays      a refused cursor stays as it is, and an unrefused one ends no later
-- Assumes nothing.
use mathlib.Core.Path.{◌≡◌, ap}
use mathlib.Core.List.{List}
use Prim.Native.Nat.{ℕ, suc, ◌≤◌}
use native.Mathlib.Omega.{arith}
use Rattle.bytes_at.specs.Steps.{◌>>=◌}
use Rattle.aipsio_rules.specs.declared.Cursor.{Cursor}
use Rattle.aipsio_rules.specs.declared.Value.{Value}
use Rattle.aipsio_rules.specs.Field.{sized_at, uint_at, ranged_at, mark_at}
use Rattle.aipsio_rules.proofs.Kept.{Clean, Keeps, keeps_same, clean_before, sized_reads, ranged_reads, ◌⨟◌}
use Rattle.aipsio_rules.proofs.Accepted.{uint_is, sized_is, ranged_is}

pub record Stays (c d : Cursor) : Type 0 where
  pub keeps : Keeps c d
  pub ends : Clean d → d.end ≤ c.end

pub stays_same : (c : Cursor) → Stays c c
stays_same c = record { keeps = keeps_same c; ends = λ h. omega arith }

-- one reader after another
infixr 20 ◌then◌
pub ◌then◌ : {c d e : Cursor} → Stays c d → Stays d e → Stays c e
a then b = record {
  keeps = a.keeps ⨟ b.keeps;
  ends = λ h. let p = b.ends h in let q = a.ends (clean_before b.keeps h) in omega arith;
}

pub end_of : {c d : Cursor} → c ≡ d → c.end ≤ d.end
end_of e = let p = ap (λ (x : Cursor). x.end) e in omega arith

module _ (s : List ℕ) (c : Cursor) where
  sized_stays : (width : ℕ) → Stays c (sized_at s c width).next
  sized_stays width = record { keeps = (sized_reads s c width).keeps; ends = λ h. end_of (ap (λ (v : Value). v.next) (sized_is s c width h)) }

  pub uint_stays : Stays c (uint_at s c).next
  uint_stays = rw (uint_is s c) (sized_stays 4)

  pub ranged_stays : (width low high n : ℕ) → Stays c (ranged_at s c width low high (suc n)).next
  ranged_stays width low high n = record {
    keeps = (ranged_reads s c width low high (suc n)).keeps;
    ends = λ h. let r = ranged_is s c width low high n h in rw r ((sized_stays width).ends (rw r at h));
  }

  pub mark_stays : Stays c (mark_at s c)
  unfolding mark_at ◌>>=◌
  mark_stays = ranged_stays 4 0xbebebebe 0xbebebebe 1
