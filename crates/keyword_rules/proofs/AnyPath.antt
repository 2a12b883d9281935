-- What refuses a keyword set does not hang on the path, nor on what is asked: values are walked alike for all.
--     Same     two walks stand at the same place of description and values
-- Assumes nothing.
use mathlib.Core.Path.{◌≡◌, refl, ap}
use mathlib.Core.List.{List}
use mathlib.Core.Bool.{Bool, true, false, cond}
use Prim.Native.Nat.{ℕ, zero, suc}
use lib.Dec.{eqb}
use Rattle.bytes_at.specs.Steps.{after, ◌>>=◌}
use Rattle.aipsio_rules.specs.declared.Cursor.{Cursor}
use Rattle.keyword_rules.specs.declared.Held.{Held}
use Rattle.std.specs.declared.option.Option.{Option}
use Rattle.keyword_rules.specs.declared.Field.{Field}
use Rattle.keyword_rules.specs.declared.Sought.{Sought}
use Rattle.keyword_rules.specs.declared.Standing.{Standing}
use Rattle.keyword_rules.specs.declared.Walked.{Walked}
use Rattle.keyword_rules.specs.TableRecord.{left_at, field_once, field_into, walk_with, walk_at}

record Same (w x : Standing) : Type 0 where
  desc : w.desc ≡ x.desc
  values : w.values ≡ x.values

either : (t : Bool) {a b w x : Standing} → Same a b → Same w x → Same (cond t a w) (cond t b x)
either true k l = k
either false k l = l

module _ (s path other : List ℕ) (sought sought' : Sought) (f g : Held → Cursor → Option Field → Walked)
    (agree : (b : Held) (p q : Cursor) (h k : Option Field) → (f b p h).values ≡ (g b q k).values) (deeper version : ℕ) where
  once_same : {w x : Standing} (i : ℕ) → Same w x → Same (field_once f s path sought deeper version w i) (field_once g s other sought' deeper version x i)
  unfolding field_once ◌>>=◌
  once_same i r = record { desc = rw (r.desc, r.values); values = rw (r.desc, r.values) (agree _ _ _ _ _) }

  into_same : {w x : Standing} (i : ℕ) → Same w x → Same (field_into f s path sought deeper version w i) (field_into g s other sought' deeper version x i)
  unfolding field_into
  into_same {w} {x} i r =
      rw (ap (λ (c : Cursor). eqb c.refused 0) r.values) (either (eqb x.values.refused 0) (once_same i r) r)

  after_same : {w x : Standing} (n : ℕ) → Same w x → Same (after (field_into f s path sought deeper version) w n) (after (field_into g s other sought' deeper version) x n)
  unfolding after
  after_same zero r = r
  after_same (suc n) r = into_same n (after_same n r)

pub any_path : (s path other : List ℕ) (sought sought' : Sought) (deeper : ℕ) (b : Held) (p q : Cursor) (h k : Option Field)
    → (walk_at deeper s path sought b p h).values ≡ (walk_at deeper s other sought' b q k).values
unfolding walk_at walk_with ◌>>=◌
any_path s path other sought sought' zero b p q h k = refl
any_path s path other sought sought' (suc d) b p q h k =
    ap (λ (c : Cursor). left_at c b)
    (after_same s path other sought sought' (walk_at d s path sought) (walk_at d s other sought') (any_path s path other sought sought' d) d b.version b.count (record { desc = refl; values = refl })).values
