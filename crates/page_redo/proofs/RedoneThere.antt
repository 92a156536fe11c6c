-- Where an event fits each page that it touches, there are the pages after its redo.
use Rattle.std.proofs.Common.{◌≡◌, inl, inr, ℕ, zero, suc, ◌<◌, List, [], ◌∷◌, length, get_or, Option, Some, refl, sym, ap, subst, ◌∙◌, arith}
use Rattle.std.specs.Prelude.{slice_get, slice_set, Contains}
use Rattle.std.proofs.lemmas.Bool.{cases_eq}
use Rattle.std.proofs.lemmas.List.{length-set}
use Rattle.std.proofs.lemmas.Option.{slice_get_within, slice_get-get_or}
use Rattle.byte_fields.proofs.EachField.{some_is}
use Rattle.vec_names.specs.declared.params.Params.{Params}
use Rattle.vec_history.specs.declared.event.Event.{Event}
use Rattle.page_bytes.specs.Content.{Content}
use Rattle.page_redo.specs.Redo.{touched, redone}
use Rattle.page_redo.proofs.Others.{set_apart}
use Rattle.page_redo.proofs.Putting.{set_here}
use Rattle.page_redo.specs.Fitting.{FitsEach}
use Rattle.page_redo.specs.Growing.{extended, AreAllRedone}

-- a change of the pages of some blocks
record IsEachChanged (change : ℕ → Content → Option Content) (blocks : List ℕ) (pages after : List Content) : Type 0 where
  count : length after ≡ length pages
  there : (block : ℕ) (page : Content) → Contains blocks block → slice_get pages block ≡ Some page → slice_get after block ≡ change block page
  elsewhere : (block : ℕ) → (Contains blocks block → ⊥) → slice_get after block ≡ slice_get pages block

none_in : (block : ℕ) → Contains [] block → ⊥
none_in block (i, h, e) = omega (arith, h)

behind : (a block : ℕ) (blocks : List ℕ) → (a ≡ block → ⊥) → Contains (a ∷ blocks) block → Contains blocks block
behind a block blocks apart (zero, h, e) = absurd (apart e)
behind a block blocks apart (suc i, h, e) = (i, omega (arith, h), e)

first_in : (a : ℕ) (blocks : List ℕ) → Contains (a ∷ blocks) a
first_in a blocks = (0, omega arith, refl)

further_in : (a block : ℕ) (blocks : List ℕ) → Contains blocks block → Contains (a ∷ blocks) block
further_in a block blocks (i, h, e) = (suc i, omega (arith, h), e)

abbrev Changes : (ℕ → Content → Option Content) → List ℕ → List Content → Type 0
Changes change blocks pages =
    (block : ℕ) → Contains blocks block → (page : Content) × (slice_get pages block ≡ Some page) × (after : Content) × (change block page ≡ Some after)

each_changed : (change : ℕ → Content → Option Content) (pages : List Content) (blocks : List ℕ) → Changes change blocks pages
    → (after : List Content) × IsEachChanged change blocks pages after
each_changed change pages [] fits =
    (pages, record { count = refl; there = λ block page touches is. absurd (none_in block touches); elsewhere = λ block apart. refl })
each_changed change pages (a ∷ blocks) fits =
    let rest = each_changed change pages blocks (λ block touches. fits block (further_in a block blocks touches)) in
    let f = fits a (first_in a blocks) in
    let within : a < length rest.0 = omega (arith, slice_get_within pages a f.0 f.1, rest.1.count) in
    let old = get_or rest.0 a f.0 in
    let now : slice_get (slice_set rest.0 a f.2) a ≡ Some f.2 = set_here rest.0 a old f.2 (slice_get-get_or rest.0 a f.0 within) in (
      slice_set rest.0 a f.2,
      record {
        count = length-set rest.0 a f.2 ∙ rest.1.count;
        there = λ block page touches is. elim (cases_eq a block) as (λ _. slice_get (slice_set rest.0 a f.2) block ≡ change block page) [
          | inl same ↦
              let one : f.0 ≡ page = some_is f.0 page (sym f.1 ∙ ap (slice_get pages) same ∙ is) in
              ap (slice_get (slice_set rest.0 a f.2)) (sym same) ∙ now ∙ sym f.3 ∙ ap (λ (b : ℕ). change b f.0) same ∙ ap (change block) one
          | inr apart ↦ set_apart rest.0 a block f.2 apart ∙ rest.1.there block page (behind a block blocks apart touches) is
        ];
        elsewhere = λ block apart.
            set_apart rest.0 a block f.2 (λ same. apart (subst (λ (b : ℕ). Contains (a ∷ blocks) b) same (first_in a blocks)))
            ∙ rest.1.elsewhere block (λ touches. apart (further_in a block blocks touches));
      },
    )

pub redone_there : (pages : List Content) (params : Params) (event : Event) (wrap number : ℕ) → FitsEach pages params event
    → (after : List Content) × AreAllRedone params wrap number event pages after
redone_there pages params event wrap number fits =
    let made = each_changed (redone event params wrap number) (extended event pages) (touched event params)
    (λ block touches. fits wrap number block touches) in
    (made.0, record { count = made.1.count; there = made.1.there; elsewhere = made.1.elsewhere })
