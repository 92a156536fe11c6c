-- There are just one list of pages after redo of an event.
use Rattle.std.proofs.Common.{◌≡◌, inl, inr, ◌⊎◌, ℕ, zero, suc, List, [], ◌∷◌, length, Option, Some, None, refl, sym, ap₂, ◌∙◌, arith}
use Rattle.std.specs.Prelude.{slice_get, Contains}
use Rattle.std.proofs.lemmas.Bool.{cases_eq, cases_lt}
use Rattle.std.proofs.lemmas.Option.{slice_get_past, slice_get-get_or, none-some}
use Rattle.byte_fields.proofs.EachField.{some_is}
use Rattle.vec_names.specs.declared.params.Params.{Params}
use Rattle.vec_history.specs.declared.event.Event.{Event}
use Rattle.page_bytes.specs.declared.kind.PageKind.TheVariants.{Hnsw}
use Rattle.page_bytes.specs.Content.{Content}
use Rattle.page_redo.specs.Redo.{touched}
use Rattle.page_redo.specs.Growing.{AreRedone}

pub same_all : {X : Type 0} (xs ys : List X) → ((i : ℕ) → slice_get xs i ≡ slice_get ys i) → xs ≡ ys
same_all [] [] same = refl
same_all [] (y ∷ ys) same = absurd (none-some y (same 0))
same_all (x ∷ xs) [] same = absurd (none-some x (sym (same 0)))
same_all (x ∷ xs) (y ∷ ys) same = ap₂ (λ a l. a ∷ l) (some_is x y (same 0)) (same_all xs ys (λ i. same (suc i)))

neither : (a : ℕ) (xs : List ℕ) (b : ℕ) → (a ≡ b → ⊥) → (Contains xs b → ⊥) → Contains (a ∷ xs) b → ⊥
neither a xs b apart out (zero, h, e) = apart e
neither a xs b apart out (suc i, h, e) = out (i, omega (arith, h), e)

pub is_in : (xs : List ℕ) (b : ℕ) → Contains xs b ⊎ (Contains xs b → ⊥)
is_in [] b = inr (λ h. absurd (omega (arith, h.1)))
is_in (a ∷ xs) b = elim (cases_eq a b) as (λ _. Contains (a ∷ xs) b ⊎ (Contains (a ∷ xs) b → ⊥)) [
  | inl e ↦ inl (0, omega arith, e)
  | inr apart ↦ elim (is_in xs b) as (λ _. Contains (a ∷ xs) b ⊎ (Contains (a ∷ xs) b → ⊥)) [
    | inl h ↦ inl (suc h.0, omega (arith, h.1), h.2)
    | inr out ↦ inr (neither a xs b apart out)
  ]
]

module _ (params : Params) (wrap number : ℕ) (event : Event) (pages after again : List Content)
    (f : AreRedone params wrap number event pages after) (h : AreRedone params wrap number event pages again) where
  at_block : (block : ℕ) (o : Option Content) → slice_get pages block ≡ o → slice_get after block ≡ slice_get again block
  at_block block None is = elim (cases_lt block (length pages)) as (λ _. slice_get after block ≡ slice_get again block) [
    | inl there ↦ absurd (none-some _ (sym is ∙ slice_get-get_or pages block (record { kind = Hnsw; next = None; number = 0; items = [] }) there))
    | inr past ↦ slice_get_past after block (omega (arith, f.count)) ∙ sym (slice_get_past again block (omega (arith, h.count)))
  ]
  at_block block (Some page) is = elim (is_in (touched event params) block) as (λ _. slice_get after block ≡ slice_get again block) [
    | inl touches ↦ f.there block page touches is ∙ sym (h.there block page touches is)
    | inr apart ↦ f.elsewhere block apart ∙ sym (h.elsewhere block apart)
  ]

  pub redone_once : after ≡ again
  redone_once = same_all after again (λ block. at_block block (slice_get pages block) refl)
