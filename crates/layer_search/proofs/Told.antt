-- Where elements stand, as looks told it.
use Rattle.std.proofs.Common.{◌≡◌, ℕ, ◌≤◌, ◌||◌, not, cond, Bool, true, false, List, [], ◌∷◌, ◌++◌, map, take, length, Option, Some, None, refl, sym, ap, subst, arith, nat_lt}
use Rattle.std.specs.List.{AllByRecursion}
use Rattle.std.proofs.lemmas.Bool.Decides.{nat_tests}
use Rattle.vec_names.specs.declared.tid.Tid.{Tid}
use Rattle.vec_names.specs.declared.params.Ops.{Ops}
use Rattle.vec_history.specs.declared.event.Event.{Event}
use Rattle.vec_history.specs.declared.event.Act.{Act}
use Rattle.vec_history.proofs.ByActs.{cut}
use Rattle.vec_graph.specs.declared.node.Node.{Node}
use Rattle.vec_graph.specs.declared.graph.Graph.{Graph}
use Rattle.vec_graph.specs.Graph.{node_at}
use Rattle.vec_graph.specs.Shaped as nodes
use Rattle.vec_graph.specs.Places.{IsOnBlocks}
use Rattle.vec_graph.specs.Effect.{after, state_after}
use Rattle.vec_graph.specs.Asking.{StandsSo}
use Rattle.vec_graph.specs.Legal as history
use Rattle.vec_graph.specs.Legal.{IsAllowed}
use Rattle.vec_graph.proofs.Lasting.{stays_placed}
use Rattle.vec_graph.proofs.Shaping.{on_blocks_of, shaped_after}
use Rattle.neighbour_pick.specs.declared.found.Found.{Found}
use Rattle.graph_search.specs.Reads.{Answer, AtNode, Gone, OfNode, is_version, node_answer}
use Rattle.graph_search.specs.Search.{element_of, elements_of}
use Rattle.graph_search.specs.Deeds.{looked, looks_of}
use Rattle.graph_search.specs.Scan.{Held}
use Rattle.search_sets.specs.declared.spot.Spot.{Spot}
use Rattle.search_sets.specs.Standing.{spot_of}
use Rattle.vec_steps.specs.Index.{Index, OfNodes, OfLists, IsShaped, IsLegal}
use Rattle.vec_steps.specs.Doing.{Step, did}
use Rattle.vec_steps.specs.Desks.{Desk}
use Rattle.vec_steps.specs.Calls.{Acts, AreDeeds, Happened, HappenedAt}
use Rattle.vec_steps.proofs.Following.{acts_longer}
use Rattle.vec_steps.proofs.Lasting.{front_is}
use Rattle.layer_search.specs.Waiting.{found_held}
use Rattle.layer_search.specs.Telling.{StandThere, StandsAt, spots_held}
use Rattle.layer_search.specs.Running.{node_reads}
use Rattle.layer_search.proofs.Steadiness.{all_both, no_first, no_second}

-- ---- a node stands where it stood, whatever anybody does

module _ (g : Graph) (shaped : nodes.IsShaped g) (acts : List Act) (legal : history.IsLegal g acts) where
  on_at : (n : ℕ) → IsOnBlocks (state_after g acts n)
  on_at n = on_blocks_of (after g (take n acts)) (shaped_after g shaped (take n acts) (cut (IsAllowed g) acts n legal))

  pub placed_since : (n : ℕ) → n ≤ length acts → (layer : ℕ) (s : Spot) → StandsSo (state_after g acts n) s.at s.list_at s.level → layer ≤ s.level
      → StandsAt g acts layer s
  placed_since n met layer s so reaches = (stays_placed g acts legal n met (on_at n) s.at s.list_at s.level so, reaches)

  all_since : (n : ℕ) → n ≤ length acts → (layer : ℕ) (spots : List Spot) → AllByRecursion (StandsAt g (take n acts) layer) spots
      → AllByRecursion (StandsAt g acts layer) spots
  all_since n met layer [] all = tt
  all_since n met layer (s ∷ spots) all = (placed_since n met layer s all.0.0 all.0.1, all_since n met layer spots all.1)

-- elements that stood there before a call stand there after it
pub stand_later : {desk : ℕ} {old new : List Act} {es : List Event} (layer : ℕ) (spots : List Spot) (base : Index) → IsShaped base → IsLegal base new
    → Acts desk old new es → StandThere old layer spots base → StandThere new layer spots base
stand_later {desk} {old} {new} layer spots (OfNodes g) shaped legal x there =
    all_since g shaped new legal (length old) (acts_longer x) layer spots
    (subst (λ (l : List Act). AllByRecursion (StandsAt g l layer) spots) (sym (front_is x)) there)
stand_later layer spots (OfLists g) shaped legal x there = absurd there

-- ---- what a look at a node told

not_less : (m n : ℕ) → nat_lt m n ≡ false → n ≤ m
not_less m n h = grind (arith, nat_tests)

node_stands : (g : Graph) (ops : Ops) (query : List Bool) (at : Tid) (layer : ℕ) (version : Option ℕ) (o : Option Node) → node_at g at ≡ o
    → AllByRecursion (λ e. StandsSo g e.at e.list_at e.level × layer ≤ e.level) (element_of ops query at (node_answer o layer version))
node_stands g ops query at layer version None is = tt
node_stands g ops query at layer version (Some n) is =
    elim (n.deleted || (nat_lt n.level layer || not (is_version version n.version))) as (λ b.
    (n.deleted || (nat_lt n.level layer || not (is_version version n.version))) ≡ b
    → AllByRecursion (λ e. StandsSo g e.at e.list_at e.level × layer ≤ e.level)
    (element_of ops query at (cond b Gone (OfNode n.level n.version n.list_at n.ids n.bits)))) [
      | true ↦ λ _. tt
      | false ↦ λ here. (
        (
          record { node = n; stands = is; listed = refl; of_level = refl },
          not_less n.level layer (no_first (nat_lt n.level layer) (not (is_version version n.version))
              (no_second n.deleted (nat_lt n.level layer || not (is_version version n.version)) here)),
        ),
        tt,
      )
    ] refl

told_since : (g : Graph) (shaped : nodes.IsShaped g) (acts : List Act) (legal : history.IsLegal g acts) (n : ℕ) → n ≤ length acts → (layer : ℕ)
    (es : List Found) → AllByRecursion (λ e. StandsSo (state_after g acts n) e.at e.list_at e.level × layer ≤ e.level) es
    → AllByRecursion (λ e. StandsAt g acts layer (spot_of e)) es
told_since g shaped acts legal n met layer [] all = tt
told_since g shaped acts legal n met layer (e ∷ es) all = (
  placed_since g shaped acts legal n met layer (spot_of e) all.0.0 all.0.1,
  told_since g shaped acts legal n met layer es all.1,
)

-- one look that happened in a history
one_told : (g : Graph) (shaped : nodes.IsShaped g) (acts : List Act) (legal : history.IsLegal g acts) (d : Desk) (n : ℕ) (ops : Ops) (query : List Bool)
    (at : Tid) (layer : ℕ) (version : Option ℕ) (told : Answer) → HappenedAt (OfNodes g) acts d n (did (looked (AtNode at layer version) told))
    → AllByRecursion (λ e. StandsAt g acts layer (spot_of e)) (element_of ops query at told)
one_told g shaped acts legal d n ops query at layer version told h =
    told_since g shaped acts legal n h.within layer (element_of ops query at told)
    (subst (λ (a : Answer). AllByRecursion (λ e. StandsSo (state_after g acts n) e.at e.list_at e.level × layer ≤ e.level) (element_of ops query at a))
    (sym h.says) (node_stands (state_after g acts n) ops query at layer version (node_at (state_after g acts n) at) refl))

-- all looks at nodes of a course
pub all_told : (g : Graph) (shaped : nodes.IsShaped g) (acts : List Act) (legal : history.IsLegal g acts) (d : Desk) (ops : Ops) (query : List Bool)
    (layer : ℕ) (nodes : List (Tid × Answer)) (course : List (ℕ × Step)) → AreDeeds course (looks_of (node_reads layer nodes))
    → Happened (OfNodes g) acts d course → AllByRecursion (λ e. StandsAt g acts layer (spot_of e)) (elements_of ops query nodes)
all_told g shaped acts legal d ops query layer [] course are h = tt
all_told g shaped acts legal d ops query layer (n ∷ nodes) [] are h = absurd are
all_told g shaped acts legal d ops query layer (n ∷ nodes) (s ∷ course) are h =
    all_both (λ e. StandsAt g acts layer (spot_of e)) (element_of ops query n.0 n.1) (elements_of ops query nodes)
    (one_told g shaped acts legal d s.0 ops query n.0 layer None n.1 (subst (HappenedAt (OfNodes g) acts d s.0) are.0 h.0))
    (all_told g shaped acts legal d ops query layer nodes course are.1 h.1)

-- ---- elements and their spots

pub spots_all : (P : Spot → Type 0) (es : List Found) → AllByRecursion (λ e. P (spot_of e)) es → AllByRecursion P (map spot_of es)
spots_all P [] all = tt
spots_all P (e ∷ es) all = (all.0, spots_all P es all.1)

pub all_spots : (P : Spot → Type 0) (es : List Found) → AllByRecursion P (map spot_of es) → AllByRecursion (λ e. P (spot_of e)) es
all_spots P [] all = tt
all_spots P (e ∷ es) all = (all.0, all_spots P es all.1)

-- the elements of those that were found, without their flags
spots_of_found : (found : List (Found × Bool)) → map (λ (p : Found × Bool). spot_of p.0) found ≡ map spot_of (map (λ (p : Found × Bool). p.0) found)
spots_of_found [] = refl
spots_of_found (p ∷ found) = ap (λ (l : List Spot). spot_of p.0 ∷ l) (spots_of_found found)

pub held_spots : (h : Held) → spots_held h ≡ map spot_of h.unexpanded ++ map spot_of (found_held h)
held_spots h = ap (λ (l : List Spot). map spot_of h.unexpanded ++ l) (spots_of_found h.found)
