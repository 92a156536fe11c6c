-- The entry point is looked for.
use Rattle.std.proofs.Common.{◌≡◌, ℕ, Bool, List, [], ◌∷◌, ◌++◌, map, ◌-◌, append-nil, Option, Some, None, refl, sym, subst, ◌∙◌}
use Rattle.std.proofs.lemmas.Option.{same_Some, none-some}
use Rattle.std.specs.List.{AllByRecursion}
use Rattle.vec_names.specs.declared.tid.Tid.{Tid}
use Rattle.vec_names.specs.declared.params.Ops.{Ops}
use Rattle.vec_history.specs.declared.event.Act.{Act}
use Rattle.neighbour_pick.specs.declared.found.Found.{Found}
use Rattle.graph_search.specs.Reads.{Look, AtMeta, AtNode, Answer, OfMeta}
use Rattle.graph_search.specs.Search.{element_of}
use Rattle.graph_search.specs.Descent.{Descent, IsLowered}
use Rattle.graph_search.specs.Descent as down
use Rattle.search_sets.specs.Standing.{spot_of}
use Rattle.vec_steps.specs.Index.{Index, OfNodes, OfLists, IsShaped, IsLegal}
use Rattle.vec_steps.specs.Desks.{Desk}
use Rattle.layer_search.specs.Telling.{OverSpots, StandThere, StandsAt}
use Rattle.layer_search.specs.Looking.{MadeLooks}
use Rattle.layer_search.specs.Running.{Enters, IsEntered, no_entry, entry_gone, there}
use Rattle.layer_search.proofs.Looks.{looks_then}
use Rattle.layer_search.proofs.Told.{all_told, spots_all}

-- where no place is asked about, neither the acts nor the layer count
pub still_over : {stands later : Index → Type 0} {acts more : List Act} (low high : ℕ) (base : Index) → OverSpots stands acts low [] base → later base
    → OverSpots later more high [] base
still_over low high (OfNodes g) o stood = record { stood = stood; there = tt }
still_over low high (OfLists g) o stood = absurd o.there

pub enters_none : {over : Index → Type 0} {d : Desk} {old new : List Act} {before now : List ℕ} (ops : Ops) (query : List Bool)
    (o : Option Tid) (level hint blocks : ℕ) (from : List Found) → o ≡ None → from ≡ []
    → MadeLooks over d old new before now ((AtMeta, OfMeta o level hint blocks) ∷ []) → Enters over d old new before now ops query None from
enters_none {over} {d} {old} {new} {before} {now} ops query o level hint blocks from none empty m = record {
  reads = (AtMeta, OfMeta None level hint blocks) ∷ [];
  made = subst (λ (t : Option Tid). MadeLooks over d old new before now ((AtMeta, OfMeta t level hint blocks) ∷ [])) none m;
  entered = subst (λ (l : List Found). IsEntered ops query ((AtMeta, OfMeta None level hint blocks) ∷ []) None l) (sym empty) (no_entry level hint blocks);
}

module _ {over later : Index → Type 0} {d e : Desk} {old mid new : List Act} {before then now : List ℕ} (ops : Ops) (query : List Bool)
    (o : Option Tid) (at : Tid) (level hint blocks : ℕ) (told : Answer) (is : o ≡ Some at) (same : e ≡ d) (on : (base : Index) → over base → later base)
    (meta : MadeLooks over d old mid before then ((AtMeta, OfMeta o level hint blocks) ∷ []))
    (node : MadeLooks later e mid new then now ((AtNode at level None, told) ∷ [])) where
  pub both_made : MadeLooks over d old new before now ((AtMeta, OfMeta (Some at) level hint blocks) ∷ (AtNode at level None, told) ∷ [])
  both_made = looks_then same on
      (subst (λ (t : Option Tid). MadeLooks over d old mid before then ((AtMeta, OfMeta t level hint blocks) ∷ [])) is meta) node

  pub enters_gone : (from : List Found) → from ≡ element_of ops query at told → from ≡ [] → Enters over d old new before now ops query None from
  enters_gone from put empty = record {
    reads = (AtMeta, OfMeta (Some at) level hint blocks) ∷ (AtNode at level None, told) ∷ [];
    made = both_made;
    entered = subst (λ (l : List Found). IsEntered ops query ((AtMeta, OfMeta (Some at) level hint blocks) ∷ (AtNode at level None, told) ∷ []) None l)
        (sym empty) (entry_gone at level hint blocks told (sym put ∙ empty));
  }

  pub enters_there : (from : List Found) (x : Found) → from ≡ element_of ops query at told → from ≡ x ∷ [] → Enters over d old new before now ops query (Some level) from
  enters_there from x put one = record {
    reads = (AtMeta, OfMeta (Some at) level hint blocks) ∷ (AtNode at level None, told) ∷ [];
    made = both_made;
    entered = subst (λ (l : List Found). IsEntered ops query ((AtMeta, OfMeta (Some at) level hint blocks) ∷ (AtNode at level None, told) ∷ []) (Some level) l)
        (sym one) (there at level hint blocks told x (sym put ∙ one));
  }

-- the element that was told stands there, and reaches its level
pub told_there : {over : Index → Type 0} {d : Desk} {old new : List Act} {before now : List ℕ} (ops : Ops) (query : List Bool) (at : Tid) (level : ℕ)
    (told : Answer) (from : List Found) → from ≡ element_of ops query at told → MadeLooks over d old new before now ((AtNode at level None, told) ∷ [])
    → (base : Index) → IsShaped base → IsLegal base new → over base → StandThere new level [] base → StandThere new level (map spot_of from) base
told_there {over} {d} {old} {new} ops query at level told from put m (OfNodes g) shaped legal on none =
    let all = all_told g shaped new legal d ops query level ((at, told) ∷ []) m.course m.is.deeds (m.does.happened (OfNodes g) on) in
    spots_all (StandsAt g new level) from
    (subst (AllByRecursion (λ e. StandsAt g new level (spot_of e))) (append-nil (element_of ops query at told) ∙ sym put) all)
told_there ops query at level told from put m (OfLists g) shaped legal on none = absurd none

-- ---- the descent

pub none_empty : {ops : Ops} {query : List Bool} {reads : List (Look × Answer)} {top : Option ℕ} {from : List Found} → IsEntered ops query reads top from
    → top ≡ None → from ≡ []
none_empty (no_entry level hint blocks) e = refl
none_empty (entry_gone at level hint blocks told none) e = refl
none_empty (there at level hint blocks told x one) e = absurd (none-some level (sym e))

pub descent_none : {ops : Ops} {query : List Bool} {reads : List (Look × Answer)} {top : Option ℕ} {from : List Found} (to : ℕ) → IsEntered ops query reads top from
    → top ≡ None → Descent ops query to reads None from
descent_none to (no_entry level hint blocks) e = down.no_entry level hint blocks
descent_none to (entry_gone at level hint blocks told none) e = down.entry_gone at level hint blocks told none
descent_none to (there at level hint blocks told x one) e = absurd (none-some level (sym e))

pub descent_some : {ops : Ops} {query : List Bool} {reads : List (Look × Answer)} {top : Option ℕ} {first : List Found} (to level : ℕ)
    → IsEntered ops query reads top first → top ≡ Some level → (later : List (Look × Answer)) (from : List Found)
    → IsLowered ops query to (level - to) first later from → Descent ops query to (reads ++ later) (Some level) from
descent_some to level (no_entry l hint blocks) e later from low = absurd (none-some level e)
descent_some to level (entry_gone at l hint blocks told none) e later from low = absurd (none-some level e)
descent_some {ops} {query} to level (there at l hint blocks told x one) e later from low =
    let same : l ≡ level = same_Some l level e in
    subst (λ (n : ℕ). Descent ops query to (((AtMeta, OfMeta (Some at) l hint blocks) ∷ (AtNode at l None, told) ∷ []) ++ later) (Some n) from) same
    (down.lowered at l hint blocks told x later from one (subst (λ (n : ℕ). IsLowered ops query to (n - to) (x ∷ []) later from) (sym same) low))
