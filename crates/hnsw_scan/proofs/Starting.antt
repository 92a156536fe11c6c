-- Where a search of the lowest layer stands, between the calls of a batch.
use Rattle.std.proofs.Common.{◌≡◌, ℕ, min, Bool, List, [], map, Option, Some, None, refl, sym, subst, arith}
use Rattle.vec_names.specs.declared.params.Ops.{Ops}
use Rattle.vec_history.specs.declared.event.Act.{Act}
use Rattle.neighbour_pick.specs.declared.found.Found.{Found}
use Rattle.graph_search.specs.Descent.{start_at}
use Rattle.graph_search.specs.Scan.{Given, Held}
use Rattle.search_sets.specs.Standing.{spot_of}
use Rattle.vec_steps.specs.Index.{Index}
use Rattle.vec_steps.specs.Desks.{Desk}
use Rattle.vec_steps.proofs.Following.{does_so_over}
use Rattle.layer_search.specs.declared.resuming.Search.{Search}
use Rattle.layer_search.specs.Resuming.{CanGoOn, CanTake, FirstTurns, holding, layer_of}
use Rattle.layer_search.specs.Running.{GoesOnSo, next_layer}
use Rattle.layer_search.specs.Telling.{OverSpots, StandThere, spots_held}
use Rattle.hnsw_scan.specs.Gathering.{TakesRows}

-- a descent to the lowest layer ends there
at_lowest : (top : Option ℕ) → next_layer 0 top ≡ 0
at_lowest None = refl
at_lowest (Some top) = let low : min 0 top ≡ 0 = omega arith in low

-- over the bases of a descent, the search that begins from there can go on
pub begins_over : {over stands : Index → Type 0} {acts : List Act} (top : Option ℕ) (from : List Found) (s : Search) → layer_of s ≡ 0
    → ((base : Index) → over base → OverSpots stands acts (next_layer 0 top) (map spot_of from) base)
    → ((more : List Act) (base : Index) → StandThere more 0 (map spot_of from) base → StandThere more 0 (spots_held (holding s)) base)
    → (base : Index) → over base → OverSpots stands acts (layer_of s) (spots_held (holding s)) base
begins_over {stands = stands} {acts = acts} top from s lowest told made base o =
    let t = told base o in
    record {
      stood = t.stood;
      there = subst (λ (l : ℕ). StandThere acts l (spots_held (holding s)) base) (sym lowest)
          (made acts base (subst (λ (l : ℕ). StandThere acts l (map spot_of from) base) (at_lowest top) t.there));
    }

-- what can go on can be taken from
pub can_take : (n : ℕ) (s : Search) → CanGoOn n s → CanTake s
can_take n s ready = record { whole = ready.whole; apart = ready.steady.found.apart }

pub at_layer : {stands : Index → Type 0} {acts : List Act} (s : Search) (layer : ℕ) → layer ≡ 0 → (base : Index)
    → OverSpots stands acts layer (spots_held (holding s)) base → OverSpots stands acts 0 (spots_held (holding s)) base
at_layer {stands} {acts} s layer lowest base o = subst (λ (l : ℕ). OverSpots stands acts l (spots_held (holding s)) base) lowest o

pub to_layer : {stands : Index → Type 0} {acts : List Act} (s : Search) (layer : ℕ) → layer ≡ 0 → (base : Index)
    → OverSpots stands acts 0 (spots_held (holding s)) base → OverSpots stands acts layer (spots_held (holding s)) base
to_layer {stands} {acts} s layer lowest base o = subst (λ (l : ℕ). OverSpots stands acts l (spots_held (holding s)) base) (sym lowest) o

-- ---- by the desk as it was, and in the lowest layer

module _ {over : Index → Type 0} {d e : Desk} {old new : List Act} {before now : List ℕ} (same : e ≡ d) (query : List Bool) where
  pub turns_at : (from : List Found) (layer ef : ℕ) (h : Held) → layer ≡ 0
      → FirstTurns over e old new before now (start_at e.params.ops query from layer) ef h
      → FirstTurns over e old new before now (start_at d.params.ops query from 0) ef h
  turns_at from layer ef h lowest t =
      subst (λ (k : Desk). FirstTurns over e old new before now (start_at k.params.ops query from 0) ef h) same
      (subst (λ (l : ℕ). FirstTurns over e old new before now (start_at e.params.ops query from l) ef h) lowest t)

  pub rows_at : (taken batch : List (Found × Bool)) (have : List Given) → taken ≡ batch
      → TakesRows over e old new before now e.params.ops query taken [] have
      → TakesRows over e old new before now d.params.ops query batch [] have
  rows_at taken batch have is t =
      subst (λ (k : Desk). TakesRows over e old new before now k.params.ops query batch [] have) same
      (subst (λ (ps : List (Found × Bool)). TakesRows over e old new before now e.params.ops query ps [] have) is t)

pub goes_on_at : {more fewer : Index → Type 0} {d : Desk} {old new : List Act} {before now : List ℕ} (ops : Ops) (query : List Bool)
    (from : List Found) (layer ef : ℕ) (most : Option ℕ) (g h : Held) → layer ≡ 0 → ((base : Index) → fewer base → more base)
    → GoesOnSo more d old new before now (start_at ops query from layer) ef most g h
    → GoesOnSo fewer d old new before now (start_at ops query from 0) ef most g h
goes_on_at {more} {fewer} {d} {old} {new} {before} {now} ops query from layer ef most g h lowest on t =
    let at : GoesOnSo more d old new before now (start_at ops query from 0) ef most g h =
    subst (λ (l : ℕ). GoesOnSo more d old new before now (start_at ops query from l) ef most g h) lowest t in
    record { turns = at.turns; are_turns = at.are_turns; left = at.left; made = does_so_over on at.made }
