-- The blocks that an event touches, as one or two.
use Rattle.std.proofs.Common.{◌≡◌, ◌≢◌, ◌⊎◌, ◌<◌, ℕ, zero, suc, List, [], ◌∷◌, length, slice_get, slice_index_or, Contains, Option, Some, None, refl, sym, ap, subst, ◌∙◌, inl, inr, arith, ◌==◌, Bool, true, false}
use Rattle.std.proofs.lemmas.Bool.{eq-eqb, eqb-true}
use Rattle.page_bytes.specs.Content.{Content}
use Rattle.page_sets.specs.Sets.{PageMap, HasPages}
use Rattle.page_sets.specs.declared.doing.Touched.{Touched}
use Rattle.page_sets.specs.Committing.{IsOf, AreThese}

pub same_or_other : (a b : ℕ) → (a ≡ b) ⊎ (a ≢ b)
same_or_other a b = by (a == b) refl where
  by : (t : Bool) → (a == b) ≡ t → (a ≡ b) ⊎ (a ≢ b)
  by true e = inl (eqb-true _ _ e)
  by false e = inr (λ same. let both : false ≡ true = sym e ∙ eq-eqb a b same in absurd cc)

in_one : (a b : ℕ) → Contains (a ∷ []) b → b ≡ a
in_one a b (zero, low, is) = sym is
in_one a b (suc k, low, is) = absurd (omega (arith, low))

in_two : (a c b : ℕ) → Contains (a ∷ c ∷ []) b → (b ≡ a) ⊎ (c ≡ b)
in_two a c b (zero, low, is) = inl (sym is)
in_two a c b (suc zero, low, is) = inr is
in_two a c b (suc (suc k), low, is) = absurd (omega (arith, low))

-- the same block named twice is one block
pub twice : (a b : ℕ) (t : Touched) → b ≡ a → AreThese (a ∷ []) t → AreThese (a ∷ b ∷ []) t
twice a b t same are = record {
  each = λ x is. are.each x (here x (in_two a b x is));
  back = λ x is. let k = in_one a x (are.back x is) in (0, omega arith, sym k);
  apart = are.apart;
} where
  here : (x : ℕ) → (x ≡ a) ⊎ (b ≡ x) → Contains (a ∷ []) x
  here x (inl is) = (0, omega arith, sym is)
  here x (inr is) = (0, omega arith, sym same ∙ is)

-- ---- pages of a set by their blocks

pub has_each : (set : PageMap) (all : List Content) (blocks : List ℕ) → HasPages set all blocks → (b : ℕ) → Contains blocks b → set b ≡ slice_get all b
has_each set all [] has b (k, low, is) = absurd (omega (arith, low))
has_each set all (x ∷ blocks) has b (zero, low, is) = subst (λ n. set n ≡ slice_get all n) is has.0
has_each set all (x ∷ blocks) has b (suc k, low, is) = has_each set all blocks has.1 b (k, omega (arith, low), is)

pub each_has : (set : PageMap) (all : List Content) (blocks : List ℕ) → ((b : ℕ) → Contains blocks b → set b ≡ slice_get all b) → HasPages set all blocks
each_has set all [] each = tt
each_has set all (x ∷ blocks) each = (
  each x (zero, omega arith, refl),
  each_has set all blocks (λ b is. each b (suc is.0, omega (arith, is.1), is.2)),
)
