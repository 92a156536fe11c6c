-- What lasts over a call of an insert, and over which bases the next one says something.
use Rattle.std.proofs.Common.{◌≡◌, ℕ, ◌≤◌, List, [], ◌∷◌, sym, subst, ◌∙◌, arith}
use Rattle.std.specs.List.{AllByRecursion}
use Rattle.vec_history.specs.declared.event.Event.{Event}
use Rattle.vec_history.specs.declared.event.Event.TheVariants as event
use Rattle.vec_history.specs.declared.event.Act.{Act}
use Rattle.vec_history.specs.declared.gate.Gate.TheVariants.{Update}
use Rattle.vec_history.specs.Gates.{IsOfGate}
use Rattle.vec_names.specs.declared.params.Params.{Params}
use Rattle.vec_names.specs.declared.params.Kind.TheVariants.{Hnsw, Ivf}
use Rattle.vec_graph.specs.declared.place.Place.{Place}
use Rattle.vec_graph.specs.declared.graph.Graph.{Graph}
use Rattle.vec_graph.specs.Shaped as nodes
use Rattle.vec_graph.specs.Legal as history
use Rattle.vec_graph.specs.Effect.{after, effect, joined, linked, relisted, dropped, marked}
use Rattle.vec_graph.proofs.Levels.{after_append}
use Rattle.vec_graph.proofs.Remaining.{blocks_changed}
use Rattle.neighbour_pick.specs.declared.found.Found.{Found}
use Rattle.search_sets.specs.declared.spot.Spot.{Spot}
use Rattle.search_sets.specs.Standing.{spot_of}
use Rattle.vec_steps.specs.Index.{Index, OfNodes, OfLists, IsLegal, IsShaped, IsOfParams}
use Rattle.vec_steps.specs.Calls.{Acts, NoneOf}
use Rattle.vec_steps.proofs.Lasting.{knows_last, put_asked_lasts}
use Rattle.layer_search.specs.Telling.{OverSpots, StandsAt}
use Rattle.layer_search.proofs.Told.{stand_later}
use Rattle.hnsw_insert.specs.Over.{AreBlocks, AreNeighbours, IsNew, MayAdd, MayFinish, MayPlace, OverGraphs, OverNodes}

-- ---- blocks never go away

more_blocks : (e : Event) (g : Graph) → g.blocks ≤ (effect 255 e g).blocks
more_blocks (event.Put at list_at version level id bits lists) g = omega arith
more_blocks (event.Join at version id) g = let s = blocks_changed g at (joined id) in omega (arith, s)
more_blocks (event.Link at list_at version slot to) g = let s = blocks_changed g at (linked slot to) in omega (arith, s)
more_blocks (event.Relist at list_at version lists) g = let s = blocks_changed g at (relisted lists) in omega (arith, s)
more_blocks (event.Drop at version gone) g = let s = blocks_changed g at (dropped gone) in omega (arith, s)
more_blocks (event.Mark at list_at version) g = let s = blocks_changed g at (marked 255) in omega (arith, s)
more_blocks (event.Entry to level) g = omega arith
more_blocks (event.Hint block) g = omega arith
more_blocks (event.IvfAdd block id bits) g = omega arith
more_blocks (event.IvfGrow list last block id bits) g = omega arith
more_blocks (event.IvfDrop block gone) g = omega arith
more_blocks (event.IvfHint list block) g = omega arith
more_blocks (event.Gate gate hold) g = omega arith
more_blocks (event.Ungate gate) g = omega arith
more_blocks (event.Phase stage) g = omega arith
more_blocks event.VacuumEnd g = omega arith
more_blocks (event.Cancel stage) g = omega arith
more_blocks (event.Settled upto) g = omega arith
more_blocks (event.DiskFaulted count) g = omega arith

pub blocks_along : (g : Graph) (acts : List Act) → g.blocks ≤ (after g acts).blocks
blocks_along g [] = omega arith
blocks_along g (a ∷ acts) =
    let one = more_blocks a.event g in
    let rest = blocks_along (effect 255 a.event g) acts in
    omega (arith, one, rest)

pub blocks_last : (g : Graph) {desk : ℕ} {old new : List Act} {es : List Event} → Acts desk old new es → (after g old).blocks ≤ (after g new).blocks
blocks_last g {old = old} {new = new} x =
    subst (λ (l : List Act). (after g old).blocks ≤ (after g l).blocks) (sym x.all)
    (subst (λ (h : Graph). (after g old).blocks ≤ h.blocks) (sym (after_append g old x.more)) (blocks_along (after g old) x.more))

-- ---- what lasts over a call that makes no event of the gate

module _ (g : Graph) (shaped : nodes.IsShaped g) {desk : ℕ} {old new : List Act} {es : List Event} (legal : history.IsLegal g new) (x : Acts desk old new es) where
  spot_stands : (layer : ℕ) (s : Spot) → StandsAt g old layer s → StandsAt g new layer s
  spot_stands layer s so = (stand_later layer (s ∷ []) (OfNodes g) shaped legal x (so, tt)).0

  picks_stand : (picks : List (ℕ × Found)) → AllByRecursion (λ p. StandsAt g old p.0 (spot_of p.1)) picks
      → AllByRecursion (λ p. StandsAt g new p.0 (spot_of p.1)) picks
  picks_stand [] all = tt
  picks_stand (p ∷ picks) all = (spot_stands p.0 (spot_of p.1) all.0, picks_stand picks all.1)

  pub on_blocks : (hint blocks : ℕ) → AreBlocks g old hint blocks → AreBlocks g new hint blocks
  on_blocks hint blocks b = record { from_1 = b.from_1; there = let more = blocks_last g x in omega (arith, b.there, more) }

  pub neighbours_last : (level : ℕ) (picks : List (ℕ × Found)) → AreNeighbours g old level picks → AreNeighbours g new level picks
  neighbours_last level picks a = record { stand = picks_stand picks a.stand; reached = a.reached }

  module _ (none : NoneOf (IsOfGate Update) es) where
    pub may_place_last : (hint blocks level : ℕ) (bits : _) (lists : _) → MayPlace g old desk hint blocks level bits lists
        → MayPlace g new desk hint blocks level bits lists
    may_place_last hint blocks level bits lists m = record {
      on = on_blocks hint blocks m.on;
      asked = put_asked_lasts x g level bits lists none m.asked;
    }

    pub new_lasts : (level : ℕ) (place : Place) → IsNew g old desk level place → IsNew g new desk level place
    new_lasts level place n = record {
      stands = (spot_stands level (record { at = place.at; list_at = place.list_at; level = level; version = place.version })
          (n.stands, let e : level ≤ level = omega arith in e)).0;
      known = knows_last x g place.at level none n.known;
    }

    pub may_add_last : (hint blocks level : ℕ) (bits : _) (lists : _) (picks : List (ℕ × Found))
        → MayAdd g old desk hint blocks level bits lists picks → MayAdd g new desk hint blocks level bits lists picks
    may_add_last hint blocks level bits lists picks m = record {
      may_place = may_place_last hint blocks level bits lists m.may_place;
      neighbours = neighbours_last level picks m.neighbours;
    }

    pub may_finish_last : (level : ℕ) (place : Place) (picks : List (ℕ × Found)) → MayFinish g old desk level place picks
        → MayFinish g new desk level place picks
    may_finish_last level place picks m = record {
      new = new_lasts level place m.new;
      neighbours = neighbours_last level picks m.neighbours;
    }

-- ---- bases

pub graphs_on : {stands later : Index → Type 0} {A B : Graph → Type 0} (new : List Act) (base : Index) → later base → IsShaped base → IsLegal base new
    → ((g : Graph) → stands (OfNodes g) → nodes.IsShaped g → history.IsLegal g new → A g → B g) → OverGraphs stands A base → OverGraphs later B base
graphs_on new (OfNodes g) stood shaped legal on o = record { stood = stood; so = on g o.stood shaped legal o.so }
graphs_on new (OfLists g) stood shaped legal on o = absurd o.so

-- the same desk
pub graphs_as : {stands : Index → Type 0} {A B : Graph → Type 0} (base : Index) → ((g : Graph) → stands (OfNodes g) → A g → B g)
    → OverGraphs stands A base → OverGraphs stands B base
graphs_as (OfNodes g) on o = record { stood = o.stood; so = on g o.stood o.so }
graphs_as (OfLists g) on o = absurd o.so

-- at a later state nothing is asked but that it is a graph
pub nodes_on : {stands later : Index → Type 0} {A : Graph → Type 0} (base : Index) → later base → OverGraphs stands A base → OverNodes later base
nodes_on (OfNodes g) stood o = record { stood = stood; so = tt }
nodes_on (OfLists g) stood o = absurd o.so

pub spots_on : {stands : Index → Type 0} {A : Graph → Type 0} {acts : List Act} (base : Index) → OverGraphs stands A base → OverSpots stands acts 0 [] base
spots_on (OfNodes g) o = record { stood = o.stood; there = tt }
spots_on (OfLists g) o = absurd o.so

pub on_spots : {stands : Index → Type 0} {acts : List Act} (base : Index) → OverSpots stands acts 0 [] base → OverNodes stands base
on_spots (OfNodes g) o = record { stood = o.stood; so = tt }
on_spots (OfLists g) o = absurd o.there

hnsw_ivf : Hnsw ≡ Ivf → ⊥
hnsw_ivf e = absurd cc

-- an index of nodes stands on graphs alone
pub nodes_of : {stands : Index → Type 0} (p : Params) → p.kind ≡ Hnsw → (base : Index) → IsOfParams p base → stands base → OverNodes stands base
nodes_of p is (OfNodes g) of stood = record { stood = stood; so = tt }
nodes_of p is (OfLists g) of stood = absurd (hnsw_ivf (sym is ∙ of.has.0))
