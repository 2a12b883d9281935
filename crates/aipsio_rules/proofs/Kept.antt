-- A refused cursor stays as it is through every reader, and what is read is then 0.
--     Keeps        a cursor made from another one; `clean_before`: unrefused after means unrefused before
--     Reads        a number read from a cursor
--     ReadsText    a String read from a cursor
-- Assumes nothing.
use mathlib.Core.Path.{◌≡◌, refl, sym, ap, ◌∙◌}
use mathlib.Core.List.{List}
use mathlib.Core.Bool.{Bool, true, false, cond}
use Prim.Native.Nat.{ℕ, zero, suc, ◌≤◌}
use native.Mathlib.Decide.{ℕ_discrete}
use borrow.Author.Tests.{eq-eqb, ne_eqb}
use Rattle.bytes_at.specs.Steps.{after, ◌>>=◌}
use Rattle.bytes_at.proofs.Loops.{after_stop}
use Rattle.aipsio_rules.specs.declared.Cursor.{Cursor}
use Rattle.aipsio_rules.specs.declared.Value.{Value}
use Rattle.aipsio_rules.specs.declared.Text.{Text}
use Rattle.aipsio_rules.specs.Field.{latched, skipped, skipped_each, judged, settled, sized_at, uint_at, ranged_at, agreed, text_before, text_at, container_of, string_at, name_at}

-- nothing was refused yet
abbrev pub Clean : Cursor → Type 0
Clean c = c.refused ≡ 0

abbrev pub Refused : Cursor → Type 0
Refused c = c.refused ≡ 0 → ⊥

-- d is c where c is refused
pub record Keeps (c d : Cursor) : Type 0 where
  pub stays : Refused c → d ≡ c

pub keeps_same : (c : Cursor) → Keeps c c
keeps_same c = record { stays = λ h. refl }

pub refused_after : {c d : Cursor} → Keeps c d → Refused c → Refused d
refused_after k h e = h (sym (ap (λ (x : Cursor). x.refused) (k.stays h)) ∙ e)

pub clean_before : {c d : Cursor} → Keeps c d → Clean d → Clean c
clean_before {c} k e = elim (ℕ_discrete c.refused 0) [ yes q ↦ q | no n ↦ absurd (refused_after k n e) ]

-- one reader after another
infixr 20 ◌⨟◌
pub ◌⨟◌ : {c d e : Cursor} → Keeps c d → Keeps d e → Keeps c e
k ⨟ l = record { stays = λ h. l.stays (refused_after k h) ∙ k.stays h }

-- a loop of readers
pub after_keeps : {A : Type 0} (step : A → ℕ → A) (next : A → Cursor) → ((y : A) (i : ℕ) → Keeps (next y) (next (step y i)))
    → (x : A) (n : ℕ) → Keeps (next x) (next (after step x n))
unfolding after
after_keeps step next k x zero = keeps_same (next x)
after_keeps step next k x (suc n) = after_keeps step next k x n ⨟ k (after step x n) n

-- a loop that is left at the first refusal: no further turn would change anything
pub stop : (step : Cursor → ℕ → Cursor) → ((d : Cursor) (j : ℕ) → Keeps d (step d j)) → (c : Cursor) (i n : ℕ) {d : Cursor}
    → d ≡ after step c i → i ≤ n → Refused d → d ≡ after step c n
stop step k c i n {d} p h r = after_stop step c i n p h (λ j. (k d j).stays r)

-- either of two readers
pub cond_keeps : (t : Bool) {c d e : Cursor} → Keeps c d → Keeps c e → Keeps c (cond t d e)
cond_keeps true k l = k
cond_keeps false k l = l

-- r was read from c
pub record Reads (c : Cursor) (r : Value) : Type 0 where
  pub keeps : Keeps c r.next
  pub none : Refused r.next → r.value ≡ 0

-- t was read from c
pub record ReadsText (c : Cursor) (t : Text) : Type 0 where
  pub keeps : Keeps c t.next
  pub none : Refused t.next → (t.start ≡ 0) × (t.len ≡ 0)

pub refused_reads : {c : Cursor} {r : Value} → Reads c r → Refused c → r ≡ record { value = 0; next = c }
refused_reads {c} {r} k h = rw (← (k.keeps.stays h), ← (k.none (refused_after k.keeps h)))

text_of : {t : Text} {a b : ℕ} {c : Cursor} → t.start ≡ a → t.len ≡ b → t.next ≡ c → t ≡ record { start = a; len = b; next = c }
text_of p q r = rw (← p, ← q, ← r)

pub refused_text : {c : Cursor} {t : Text} → ReadsText c t → Refused c → t ≡ record { start = 0; len = 0; next = c }
refused_text k h = let z = k.none (refused_after k.keeps h) in text_of z.0 z.1 (k.keeps.stays h)

pub latched_keeps : (c d : Cursor) → Keeps c (latched c d)
latched_keeps c d = record { stays = λ h. rw (ne_eqb c.refused 0 h) }

-- Steps.
pub skipped_keeps : (c : Cursor) (n : ℕ) → Keeps c (skipped c n)
unfolding skipped
skipped_keeps c n = latched_keeps c _

pub each_keeps : (c : Cursor) (n size : ℕ) → Keeps c (skipped_each c n size)
unfolding skipped_each
each_keeps c n size = latched_keeps c _

pub judged_keeps : (c : Cursor) (from : ℕ) (ok : Bool) (n : ℕ) → Keeps c (judged c from ok n)
unfolding judged
judged_keeps c from ok n = latched_keeps c _

-- Numbers and Strings.
pub settled_none : (v : ℕ) (c : Cursor) → Refused c → settled v c ≡ record { value = 0; next = c }
unfolding settled
settled_none v c h = rw (ne_eqb c.refused 0 h)

pub settled_reads : (v : ℕ) {c d : Cursor} → Keeps c d → Reads c (settled v d)
unfolding settled
settled_reads v {c} {d} k = record { keeps = k; none = λ h. ap (λ (r : Value). r.value) (settled_none v d h) }

pub text_none : (c : Cursor) (n : ℕ) → Refused c → text_before c n ≡ record { start = 0; len = 0; next = c }
unfolding text_before
text_none c n h = rw (ne_eqb c.refused 0 h)

pub text_next : (c : Cursor) (n : ℕ) → (text_before c n).next ≡ c
unfolding text_before
text_next c n =
    elim (ℕ_discrete c.refused 0) [ yes q ↦ rw (eq-eqb c.refused 0 q) | no q ↦ rw (ne_eqb c.refused 0 q) ]

pub text_reads : (n : ℕ) {c d : Cursor} → Keeps c d → ReadsText c (text_before d n)
text_reads n {c} {d} k = record {
  keeps = rw (text_next d n) k;
  none = λ h. let z = text_none d n (rw (text_next d n) at h) in (ap (λ (t : Text). t.start) z, ap (λ (t : Text). t.len) z);
}

pub sized_reads : (s : List ℕ) (c : Cursor) (width : ℕ) → Reads c (sized_at s c width)
unfolding sized_at ◌>>=◌
sized_reads s c width = settled_reads _ (skipped_keeps c width)

pub uint_reads : (s : List ℕ) (c : Cursor) → Reads c (uint_at s c)
unfolding uint_at ◌>>=◌
uint_reads s c = settled_reads _ (skipped_keeps c 4)

pub ranged_reads : (s : List ℕ) (c : Cursor) (width low high n : ℕ) → Reads c (ranged_at s c width low high n)
unfolding ranged_at ◌>>=◌
ranged_reads s c width low high n = settled_reads _ ((sized_reads s c width).keeps ⨟ judged_keeps _ _ _ n)

pub agreed_keeps : (s : List ℕ) (c : Cursor) (n : ℕ) → Keeps c (agreed s c n)
unfolding agreed ◌>>=◌
agreed_keeps s c n = (ranged_reads s c 4 n n 6).keeps

pub any_string_reads : (s : List ℕ) (c : Cursor) → ReadsText c (text_at s c)
unfolding text_at ◌>>=◌
any_string_reads s c = text_reads _ (skipped_keeps c _)

pub container_keeps : (t : Text) → Keeps t.next (container_of t)
unfolding container_of
container_keeps t = latched_keeps t.next _

pub string_reads : (s : List ℕ) (c : Cursor) (low high : ℕ) → ReadsText c (string_at s c low high)
unfolding string_at ◌>>=◌
string_reads s c low high = text_reads _ ((any_string_reads s c).keeps ⨟ judged_keeps _ _ _ 4)

pub name_keeps : (s : List ℕ) (c : Cursor) (expected : List ℕ) → Keeps c (name_at s c expected)
unfolding name_at ◌>>=◌
name_keeps s c expected = (any_string_reads s c).keeps ⨟ judged_keeps _ _ _ 2
