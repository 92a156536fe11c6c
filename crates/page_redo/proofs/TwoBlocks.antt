-- An event that touches two blocks, which may be one: its change at each of them, and the pages after it.
use Rattle.std.proofs.Common.{◌≡◌, ℕ, zero, suc, List, [], ◌∷◌, Some, refl, sym, ap, ◌∙◌, arith, inl, inr}
use Rattle.std.specs.Prelude.{slice_get, slice_set, Contains}
use Rattle.std.specs.Option.{option_and_then}
use Rattle.std.proofs.lemmas.Bool.{eq-eqb, ne_eqb, cases_eq}
use Rattle.page_bytes.specs.Content.{Content}
use Rattle.page_redo.specs.PageChanges.{PageChange}
use Rattle.page_redo.specs.Redo.{at_two}
use Rattle.page_redo.proofs.Others.{set_apart}
use Rattle.page_redo.proofs.Putting.{set_here}
use Rattle.page_redo.proofs.RedoneOnce.{same_all}
use Rattle.page_redo.proofs.RedoneOnce.{same_all}

pub is_first : (a b : ℕ) → Contains (a ∷ b ∷ []) a
is_first a b = (0, omega arith, refl)

pub is_second : (a b : ℕ) → Contains (a ∷ b ∷ []) b
is_second a b = (1, omega arith, refl)

pub is_neither : (a b block : ℕ) → (a ≡ block → ⊥) → (b ≡ block → ⊥) → Contains (a ∷ b ∷ []) block → ⊥
is_neither a b block first second (zero, h, is) = first is
is_neither a b block first second (suc zero, h, is) = second is
is_neither a b block first second (suc (suc i), h, is) = absurd (omega (arith, h))

-- two pages of a list are others, and all else stays
pub two_set : (pages after : List Content) (a b : ℕ) (c d e f : Content) → slice_get pages a ≡ Some c
    → slice_get (slice_set pages a e) b ≡ Some d → ((a ≡ b → ⊥) → slice_get after a ≡ Some e) → slice_get after b ≡ Some f
    → ((block : ℕ) → (a ≡ block → ⊥) → (b ≡ block → ⊥) → slice_get after block ≡ slice_get pages block)
    → after ≡ slice_set (slice_set pages a e) b f
two_set pages after a b c d e f there list_there first second others =
    same_all after (slice_set (slice_set pages a e) b f) at_block
  where
    at_block : (i : ℕ) → slice_get after i ≡ slice_get (slice_set (slice_set pages a e) b f) i
    at_block i = elim (cases_eq b i) as (λ _. slice_get after i ≡ slice_get (slice_set (slice_set pages a e) b f) i) [
      | inl is ↦ ap (slice_get after) (sym is) ∙ second ∙ sym (set_here (slice_set pages a e) b d f list_there)
          ∙ ap (slice_get (slice_set (slice_set pages a e) b f)) is
      | inr not_b ↦ elim (cases_eq a i) as (λ _. slice_get after i ≡ slice_get (slice_set (slice_set pages a e) b f) i) [
        | inl is ↦
            ap (slice_get after) (sym is) ∙ first (λ same. not_b (sym same ∙ is)) ∙ sym (set_here pages a c e there)
            ∙ ap (slice_get (slice_set pages a e)) is
            ∙ sym (set_apart (slice_set pages a e) b i f not_b)
        | inr not_a ↦ others i not_a not_b ∙ sym (set_apart pages a i e not_a) ∙ sym (set_apart (slice_set pages a e) b i f not_b)
      ]
    ]

pub two_same : (a b block : ℕ) (first second : PageChange) (c : Content) → a ≡ block → b ≡ block
    → at_two a first b second block c ≡ option_and_then second (first c)
two_same a b block first second c is also = rw (eq-eqb a block is, eq-eqb b block also) refl

pub two_first : (a b block : ℕ) (first second : PageChange) (c : Content) → a ≡ block → (b ≡ block → ⊥)
    → at_two a first b second block c ≡ first c
two_first a b block first second c is other = rw (eq-eqb a block is, ne_eqb b block other) refl

pub two_second : (a b block : ℕ) (first second : PageChange) (c : Content) → (a ≡ block → ⊥) → b ≡ block
    → at_two a first b second block c ≡ second c
two_second a b block first second c other is = rw (ne_eqb a block other, eq-eqb b block is) refl
