-- All pages of an index in one list, as a set of pages.
use Rattle.std.proofs.Common.{◌≡◌, ◌≢◌, ℕ, zero, suc, ◌≤◌, List, [], ◌∷◌, ◌++◌, length, Result, Ok, Err, Some, None, refl, sym, ap, ◌∙◌, inl, inr}
use Rattle.std.specs.Prelude.{slice_get, slice_set}
use Rattle.std.specs.Option.{option_and_then}
use Rattle.std.proofs.lemmas.Bool.{cases_eq}
use Rattle.std.proofs.lemmas.Option.{slice_get_past}
use Rattle.vec_names.specs.declared.params.Params.{Params}
use Rattle.vec_history.specs.declared.event.Event.{Event}
use Rattle.page_bytes.specs.Content.{Content}
use Rattle.page_redo.specs.declared.fault.RedoFault.{RedoFault}
use Rattle.page_redo.specs.Redo.{redone, Becomes}
use Rattle.page_redo.proofs.Putting.{set_here}
use Rattle.page_redo.proofs.Others.{set_apart}
use Rattle.page_sets.specs.Sets.{PageMap, redone_at, IsChangedTo, IsRedone}

abbrev pub in_list : List Content → PageMap
in_list pages block = slice_get pages block

pub none_there : (pages : List Content) (event : Event) (p : Params) (number block : ℕ) → length pages ≤ block
    → redone_at (in_list pages) event p number block ≡ None
none_there pages event p number block past = ap (option_and_then (redone event p 255 number block)) (slice_get_past pages block past)

set_same : (pages : List Content) (block : ℕ) (page : Content) → slice_get pages block ≡ Some page → (other : ℕ)
    → slice_get (slice_set pages block page) other ≡ slice_get pages other
set_same pages block page is other = elim (cases_eq block other) as (λ _. slice_get (slice_set pages block page) other ≡ slice_get pages other) [
  | inl e ↦ ap (slice_get (slice_set pages block page)) (sym e) ∙ set_here pages block page page is ∙ sym is ∙ ap (slice_get pages) e
  | inr apart ↦ set_apart pages block other page apart
]

pub redone_in : (pages : List Content) (event : Event) (p : Params) (number block : ℕ) (old new : Content) (r : Result (Unit {0}) RedoFault)
    → slice_get pages block ≡ Some old → Becomes (redone event p 255 number block old) old new r
    → IsRedone (in_list pages) (in_list (slice_set pages block new)) event p number block r
redone_in pages event p number block old new (Ok done) is became = (
  new,
  ap (option_and_then (redone event p 255 number block)) is ∙ became,
  record {
    here = set_here pages block old new is;
    elsewhere = λ other apart. set_apart pages block other new (λ e. apart (sym e));
  },
)
redone_in pages event p number block old new (Err fault) is became = (
  ap (option_and_then (redone event p 255 number block)) is ∙ became.0,
  λ other. ap (λ (c : Content). slice_get (slice_set pages block c) other) became.1 ∙ set_same pages block old is other,
)

last_is : (pages : List Content) (page : Content) → slice_get (pages ++ page ∷ []) (length pages) ≡ Some page
last_is [] page = refl
last_is (c ∷ pages) page = last_is pages page

others_stay : (pages : List Content) (page : Content) (other : ℕ) → other ≢ length pages → slice_get (pages ++ page ∷ []) other ≡ slice_get pages other
others_stay [] page zero apart = absurd (apart refl)
others_stay [] page (suc other) apart = refl
others_stay (c ∷ pages) page zero apart = refl
others_stay (c ∷ pages) page (suc other) apart = others_stay pages page other (λ e. apart (ap suc e))

pub added_to : (pages : List Content) (block : ℕ) (page : Content) → block ≡ length pages
    → IsChangedTo (in_list pages) (in_list (pages ++ page ∷ [])) block page
added_to pages block page is = record {
  here = ap (slice_get (pages ++ page ∷ [])) is ∙ last_is pages page;
  elsewhere = λ other apart. others_stay pages page other (λ e. apart (e ∙ sym is));
}
