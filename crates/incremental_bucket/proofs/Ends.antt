-- Readers in a bucket leave its end as it is.
-- Assumes nothing.
use mathlib.Core.Path.{◌≡◌, refl, ap, ◌∙◌}
use mathlib.Core.List.{List}
use mathlib.Core.Bool.{Bool, true, false, cond}
use Prim.Native.Nat.{ℕ, ◌+◌}
use lib.Dec.{leb, eqb}
use Rattle.bytes_at.specs.Steps.{◌>>=◌}
use Rattle.aipsio_rules.specs.declared.Cursor.{Cursor}
use Rattle.aipsio_rules.specs.Field.{refused_at, moved_to, skipped, judged, settled, uint_at}
use Rattle.incremental_rules.specs.declared.BucketHead.{BucketHead}
use Rattle.incremental_rules.specs.Bucket.{bucket_head_at}
use Rattle.incremental_rules.proofs.Turns.{begun_next}

either : (t : Bool) (a b : Cursor) {e : ℕ} → a.end ≡ e → b.end ≡ e → (cond t a b).end ≡ e
either true a b p q = p
either false a b p q = q

skipped_end : (c : Cursor) (n : ℕ) → (skipped c n).end ≡ c.end
unfolding skipped
skipped_end c n = either (eqb c.refused 0) _ c (either (leb n _) (moved_to c (c.at + n)) (refused_at c c.at 1) refl refl) refl

judged_end : (c : Cursor) (from : ℕ) (ok : Bool) (n : ℕ) → (judged c from ok n).end ≡ c.end
unfolding judged
judged_end c from ok n = either (eqb c.refused 0) _ c (either ok c (refused_at c from n) refl refl) refl

uint_end : (s : List ℕ) (c : Cursor) → (uint_at s c).next.end ≡ c.end
unfolding uint_at settled ◌>>=◌
uint_end s c = skipped_end c 4

head_end : (s : List ℕ) (c : Cursor) (size : ℕ) → (bucket_head_at s c size).next.end ≡ c.end
unfolding bucket_head_at ◌>>=◌
head_end s c size = ap (λ (x : Cursor). x.end) (begun_next _ _ _) ∙ skipped_end _ _ ∙ judged_end _ _ _ 11 ∙ uint_end s c

-- of what `read_head` gave
pub head_of_end : (s : List ℕ) (c : Cursor) (size : ℕ) {h : BucketHead} → h ≡ bucket_head_at s c size → h.next.end ≡ c.end
head_of_end s c size e = ap (λ (x : BucketHead). x.next.end) e ∙ head_end s c size
