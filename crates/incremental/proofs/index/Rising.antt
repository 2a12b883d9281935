-- The loop over first rows: what is left of them decides.
-- Assumes nothing.
use mathlib.Core.Path.{◌≡◌, refl, sym, ap, ◌∙◌}
use mathlib.Core.Bool.{Bool, false}
use mathlib.Core.List.{List}
use Prim.Native.Nat.{ℕ, ◌+◌, ◌-◌, ◌*◌, ◌≤◌, ◌<◌}
use native.Mathlib.Omega.{arith}
use lib.Dec.{eqb}
use borrow.Author.Tests.{lt-ltb, le-ltb, ne_eqb}
use Rattle.bytes_at.specs.Number.{bytes_of, int_width, int_bytes, uint_of, numbers_at}
use Rattle.bytes_at.specs.declared.Width.{Width}
use Rattle.buckets.proofs.marks.Marking.{numbers_more, numbers_turn, numbers_end}
use Rattle.incremental_rules.specs.declared.Index.{Index}
use Rattle.incremental_rules.specs.Index.{rises_to, firsts_fit}

-- first rows of w bytes
module _ (big : Bool) (w : ℕ) (f : List ℕ) (rows from n : ℕ) where
  -- after i of those that follow the first, the last of which is given, the others decide
  abbrev pub Rising : ℕ → ℕ → Type 0
  Rising i last = rises_to rows 0 (numbers_at big w f (from + w) n) ≡ rises_to rows last (numbers_at big w f (from + w + i * w) (n - i))

  -- the first of all
  module _ {v : ℕ} (e : v ≡ uint_of big w f from) where
    pub rise_not : (v ≡ 0 → ⊥) → false ≡ firsts_fit rows (numbers_at big w f from (n + 1))
    unfolding firsts_fit
    rise_not y = sym (rw (numbers_more big w f from (n + 1) (omega arith) e, ne_eqb v 0 y))

    module _ (y : v ≡ 0) where
      rise_first : firsts_fit rows (numbers_at big w f from (n + 1)) ≡ rises_to rows 0 (numbers_at big w f (from + w) n)
      unfolding firsts_fit
      rise_first =
          let k : n + 1 - 1 ≡ n = omega arith in
          rw (numbers_more big w f from (n + 1) (omega arith) (sym y ∙ e), k)

      module _ (i last : ℕ) (r : Rising i last) where
        pub rise_end : n ≤ i → eqb last rows ≡ firsts_fit rows (numbers_at big w f from (n + 1))
        unfolding rises_to
        rise_end h = sym (rise_first ∙ r ∙ rw (numbers_end big w f (from + w + i * w) (n - i) (omega arith)))

        pub rise_out : {x : ℕ} → i < n → x ≡ uint_of big w f (from + w + i * w) → x ≤ last → false ≡ firsts_fit rows (numbers_at big w f from (n + 1))
        unfolding rises_to
        rise_out {x} h p l = sym (rise_first ∙ r ∙ rw (numbers_turn big w f (from + w) n i h p, le-ltb last x l))

  module _ (i last : ℕ) (r : Rising i last) where
    pub rise_again : {x : ℕ} → i < n → x ≡ uint_of big w f (from + w + i * w) → last < x → Rising (i + 1) x
    unfolding rises_to
    rise_again {x} h p l = r ∙ rw (numbers_turn big w f (from + w) n i h p, lt-ltb last x l) refl

-- the first rows of an index, by their width as the code has it
module _ (x : Index) {width : Width} (w : width ≡ int_width x.wide) where
  pub firsts_by : (rows : ℕ) (big : Bool) (f : List ℕ) {r : Bool} → r ≡ firsts_fit rows (numbers_at big (bytes_of width) f x.firsts (x.count + 1))
      → r ≡ firsts_fit rows (numbers_at big (int_bytes x.wide) f x.firsts (x.count + 1))
  firsts_by rows big f e = e ∙ ap (λ (y : Width). firsts_fit rows (numbers_at big (bytes_of y) f x.firsts (x.count + 1))) w
