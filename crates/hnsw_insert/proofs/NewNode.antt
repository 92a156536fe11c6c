-- The node that a Put brings: it stands, and the desk knows it; so it may be linked, and become the entry point.
use Rattle.std.proofs.Common.{◌≡◌, inl, inr, ℕ, zero, suc, ◌+◌, ◌<◌, ◌≤◌, cond, min, List, [], ◌∷◌, map, take, length, Option, Some, None, refl, sym, ap, subst, ◌∙◌, arith}
use Rattle.std.specs.List.{AllByRecursion}
use Rattle.std.specs.FinMap as fin
use Rattle.std.specs.Ordering.{is_eq}
use Rattle.std.specs.Cmp.{tied_itself}
use Rattle.std.proofs.lemmas.Option.{none-some, same_Some, slice_get_within}
use Rattle.vec_names.specs.declared.tid.Tid.{Tid}
use Rattle.vec_names.specs.Order.{tid_cmp_total}
use Rattle.vec_history.specs.declared.event.Event.{Event}
use Rattle.vec_history.specs.declared.event.Act.{Act}
use Rattle.vec_history.specs.declared.gate.Gate.TheVariants.{Update}
use Rattle.vec_history.specs.Acts.{IsActAt, IsRising, act_of}
use Rattle.vec_history.specs.Gates.{Holds, IsOfGate}
use Rattle.vec_graph.specs.declared.place.Place.{Place}
use Rattle.vec_graph.specs.declared.node.Node.{Node}
use Rattle.vec_graph.specs.declared.graph.Graph.{Graph}
use Rattle.vec_graph.specs.Graph.{IsLiveAt}
use Rattle.vec_graph.specs.Shaped as nodes
use Rattle.vec_graph.specs.Legal as history
use Rattle.vec_graph.specs.Effect.{after, effect, state_after}
use Rattle.vec_graph.specs.Effect as effects
use Rattle.vec_graph.specs.Knowing.{Knows}
use Rattle.vec_graph.specs.Asking.{StandsSo}
use Rattle.vec_graph.proofs.Shaping.{shaped_after}
use Rattle.neighbour_pick.specs.declared.found.Found.{Found}
use Rattle.graph_search.specs.Reads.{Look, Answer}
use Rattle.graph_search.specs.Deeds.{Deed, IsMadeAt, NewNode, NoRoom, Placed, PutsNew, PutsOn, asked, put_event}
use Rattle.graph_search.specs.Insert.{AsksForPlace, InsertLists, Lists, ListsDown, Newcomer, chosen, lists_below}
use Rattle.search_sets.specs.declared.spot.Spot.{Spot}
use Rattle.vec_steps.specs.declared.ask.Ask.TheVariants as ask
use Rattle.vec_steps.specs.Index.{Index, OfNodes, OfLists, IsLegal, IsShaped}
use Rattle.vec_steps.specs.Doing.{Step, did, step_events}
use Rattle.vec_steps.specs.Desks.{Asks, Desk}
use Rattle.vec_steps.specs.Calls.{Acts, AreDeeds, Happened, HappenedAt, NoneOf}
use Rattle.vec_steps.proofs.Lasting.{known_by_look}
use Rattle.layer_search.specs.Linking.{OverLinks}
use Rattle.layer_search.proofs.Steadiness.{all_both}
use Rattle.layer_search.proofs.Told.{placed_since}
use Rattle.hnsw_insert.specs.Over.{IsNew, MayFinish, OverGraphs}

-- ---- the state after a Put

pub state_next : (g : Graph) (acts : List Act) (n desk : ℕ) (e : Event) → IsActAt acts n desk e
    → after g (take (suc n) acts) ≡ effect 255 e (after g (take n acts))
state_next g [] n desk e is = absurd (none-some (act_of desk e) is)
state_next g (a ∷ acts) zero desk e is = ap (λ (b : Act). effect 255 b.event g) (same_Some a (act_of desk e) is)
state_next g (a ∷ acts) (suc n) desk e is = state_next (effect 255 a.event g) acts n desk e is

module _ (h : Graph) (n : NewNode) (place : Place) where
  abbrev brought : effects.NewNode
  brought = record { at = place.at; list_at = place.list_at; version = place.version; level = n.level; id = n.id; bits = n.bits; lists = n.slots }

  new : Node
  new = effects.node_of brought

  there : fin.get (fin.insert h.nodes place.at new) place.at ≡ Some new
  there =
      fin.get-insert tid_cmp_total h.nodes place.at new place.at
      ∙ ap (λ r. cond (is_eq r) (Some new) (fin.get h.nodes place.at)) (tied_itself tid_cmp_total place.at)

  stands_new : StandsSo (effect 255 (put_event n place) h) place.at place.list_at n.level
  unfolding new
  stands_new = record { node = new; stands = there; listed = refl; of_level = refl }

  lives_new : IsLiveAt (effect 255 (put_event n place) h) place.at n.level
  unfolding new
  lives_new = record { node = new; stands = there; live = record { not_deleted = refl; has_ids = λ e. absurd cc }; reaches = omega arith }

-- a Put of the desk in a call
pub record PutAt (acts : List Act) (d : Desk) (low : ℕ) (n : NewNode) (place : Place) : Type 0 where
  pub number : ℕ
  pub since : low ≤ number
  pub is : IsActAt acts number d.number (put_event n place)

module _ (g : Graph) (acts : List Act) (d : Desk) (n : NewNode) (place : Place) where
  put_last : (deed : Deed) → step_events d.params (did deed) ≡ put_event n place ∷ [] → (ds : List Deed) → ds ≡ deed ∷ [] → (course : List (ℕ × Step))
      → AreDeeds course ds → Happened (OfNodes g) acts d course → (low high : ℕ) → IsRising low (map (λ s. s.0) course) high → PutAt acts d low n place
  put_last deed makes ds is [] are h low high r = let none : AreDeeds [] (deed ∷ []) = subst (AreDeeds []) is are in absurd none
  put_last deed makes ds is (s ∷ course) are h low high r =
      let here : AreDeeds (s ∷ course) (deed ∷ []) = subst (AreDeeds (s ∷ course)) is are in
      let at : HappenedAt (OfNodes g) acts d s.0 (did deed) = subst (HappenedAt (OfNodes g) acts d s.0) here.0 h.0 in
      record { number = s.0; since = r.0; is = subst (IsMadeAt acts d.number s.0) makes at.made }

  pub put_at : (k block : ℕ) (ds : List Deed) → AsksForPlace n k block place ds → (course : List (ℕ × Step)) → AreDeeds course ds
      → Happened (OfNodes g) acts d course → (low high : ℕ) → IsRising low (map (λ s. s.0) course) high → PutAt acts d low n place
  put_at zero block ds is course are h low high r = put_last (asked (PutsNew n) (Placed place)) refl ds is course are h low high r
  put_at (suc k) block ds (inl p) course are h low high r = put_last (asked (PutsOn block n) (Placed place)) refl ds p.0 course are h low high r
  put_at (suc k) block ds (inr p) [] are h low high r =
      let none : AreDeeds [] (asked (PutsOn block n) NoRoom ∷ p.0) = subst (AreDeeds []) p.1 are in absurd none
  put_at (suc k) block ds (inr p) (s ∷ course) are h low high r =
      let here : AreDeeds (s ∷ course) (asked (PutsOn block n) NoRoom ∷ p.0) = subst (AreDeeds (s ∷ course)) p.1 are in
      let rest = put_at k (suc block) p.0 p.2 course here.1 h.1 s.0 high r.1 in
      record { number = rest.number; since = let low_s = r.0 in omega (arith, low_s, rest.since); is = rest.is }

-- the node stands at the end of the call, and the desk, which held the gate before it, knows it
pub is_new : (g : Graph) → nodes.IsShaped g → {d : Desk} {old new : List Act} {es : List Event} → history.IsLegal g new → Acts d.number old new es
    → NoneOf (IsOfGate Update) es → Holds old d.number Update → (n : NewNode) (place : Place) → PutAt new d (length old) n place
    → IsNew g new d.number n.level place
is_new g shaped {d} {old} {new} legal x none held n place p =
    let inside : p.number < length new = slice_get_within new p.number _ p.is in
    let met : suc p.number ≤ length new = omega (arith, inside) in
    let next = state_next g new p.number d.number (put_event n place) p.is in
    let before : Graph = state_after g new p.number in
    let spot : Spot = record { at = place.at; list_at = place.list_at; level = n.level; version = place.version } in
    record {
      stands = (placed_since g shaped new legal (suc p.number) met n.level spot
          (subst (λ (h : Graph). StandsSo h place.at place.list_at n.level) (sym next) (stands_new before n place)) (omega arith)).0;
      known = known_by_look x g place.at n.level (suc p.number) none held (let s = p.since in omega (arith, s)) met
          (subst (λ (h : Graph). IsLiveAt h place.at n.level) (sym next) (lives_new before n place));
    }

-- ---- what may be asked then

knows_lower : {g : Graph} {acts : List Act} {desk : ℕ} {at : Tid} {high low : ℕ} → low ≤ high → Knows g acts desk at high → Knows g acts desk at low
knows_lower le k = record {
  hold = k.hold;
  since = k.since;
  holds = k.holds;
  position = k.position;
  later = k.later;
  met = k.met;
  was_live = record {
    node = k.was_live.node;
    stands = k.was_live.stands;
    live = k.was_live.live;
    reaches = let r = k.was_live.reaches in omega (arith, le, r);
  };
}

known_below : (g : Graph) (acts : List Act) (desk : ℕ) (at : Tid) (level : ℕ) (picks : List (ℕ × Found)) → Knows g acts desk at level
    → AllByRecursion (λ p. p.0 ≤ level) picks → AllByRecursion (λ p. Knows g acts desk at p.0) picks
known_below g acts desk at level [] k all = tt
known_below g acts desk at level (p ∷ picks) k all = (knows_lower all.0 k, known_below g acts desk at level picks k all.1)

module _ {stands : Index → Type 0} {d : Desk} {acts : List Act} (held : Holds acts d.number Update) (level : ℕ) (place : Place) where
  pub links_on : (picks : List (ℕ × Found)) (base : Index) → OverGraphs stands (λ g. MayFinish g acts d.number level place picks) base
      → OverLinks stands d acts place.at picks base
  links_on picks (OfNodes g) o = record {
    stood = o.stood;
    may = record {
      update = held;
      stand = o.so.neighbours.stand;
      known = known_below g acts d.number place.at level picks o.so.new.known o.so.neighbours.reached;
    };
  }
  links_on picks (OfLists g) o = absurd o.so

  pub may_enter : (base : Index) → OverGraphs stands (λ g. IsNew g acts d.number level place) base
      → Asks stands d acts (ask.Entry (Some place.at) level) base
  may_enter (OfNodes g) o = record {
    stood = o.stood;
    may = record {
      update = held;
      node = o.so.stands.node;
      stands = o.so.stands.stands;
      of_level = o.so.stands.of_level;
      known = o.so.known;
    };
  }
  may_enter (OfLists g) o = absurd o.so

  pub may_hint : (base : Index) → IsShaped base → IsLegal base acts → OverGraphs stands (λ g. IsNew g acts d.number level place) base
      → Asks stands d acts (ask.Hint place.at.block) base
  may_hint (OfNodes g) shaped legal o =
      let s = o.so.stands in
      let node = (shaped_after g shaped acts legal).nodes place.at s.node s.stands in
      record {
        stood = o.stood;
        may = record { holds = inl held; counted_from_1 = node.from_1; within = let w = node.within in omega (arith, w) };
      }
  may_hint (OfLists g) shaped legal o = absurd o.so

-- ---- the layers of the neighbours

low_pairs : (layer k : ℕ) (es : List Found) → layer < k → AllByRecursion (λ (p : ℕ × Found). p.0 < k) (map (λ (e : Found). (layer, e)) es)
low_pairs layer k [] low = tt
low_pairs layer k (e ∷ es) low = (low, low_pairs layer k es low)

lower_all : (j k : ℕ) (picks : List (ℕ × Found)) → j ≤ k → AllByRecursion (λ p. p.0 < j) picks → AllByRecursion (λ p. p.0 < k) picks
lower_all j k [] le all = tt
lower_all j k (p ∷ picks) le all = (let a = all.0 in omega (arith, le, a), lower_all j k picks le all.1)

down_low : (n : Newcomer) (layers : ℕ) (from : List Found) (reads : List (Look × Answer)) (lists : Lists) → ListsDown n layers from reads lists
    → AllByRecursion (λ (p : ℕ × Found). p.0 < layers) lists.picks
down_low n zero from reads lists down = subst (λ (l : Lists). AllByRecursion (λ p. p.0 < 0) l.picks) (sym down.1) tt
down_low n (suc layer) from reads lists down =
    subst (AllByRecursion (λ p. p.0 < suc layer)) (sym down.picks_are)
    (all_both (λ (p : ℕ × Found). p.0 < suc layer) (map (λ e. (layer, e)) (chosen n layer down.found)) down.below.picks
    (low_pairs layer (suc layer) (chosen n layer down.found) (omega arith))
    (lower_all layer (suc layer) down.below.picks (omega arith) (down_low n layer _ down.later down.below down.deeper_is)))

within_level : (k level : ℕ) (picks : List (ℕ × Found)) → k ≤ level + 1 → AllByRecursion (λ p. p.0 < k) picks → AllByRecursion (λ p. p.0 ≤ level) picks
within_level k level [] le all = tt
within_level k level (p ∷ picks) le all = (let a = all.0 in omega (arith, le, a), within_level k level picks le all.1)

below_low : (n : Newcomer) (o : Option ℕ) (from : List Found) (reads : List (Look × Answer)) (lists : Lists) → lists_below n o from reads lists
    → AllByRecursion (λ p. p.0 ≤ n.level) lists.picks
below_low n None from reads lists none = subst (λ (l : Lists). AllByRecursion (λ p. p.0 ≤ n.level) l.picks) (sym none.1) tt
below_low n (Some top) from reads lists some =
    subst (λ (l : Lists). AllByRecursion (λ p. p.0 ≤ n.level) l.picks) (sym some.lists_are)
    (within_level (min top n.level + 1) n.level some.found.picks (omega arith) (down_low n (min top n.level + 1) from reads some.found some.down))

-- each neighbour is in a layer that the node reaches
pub picks_reached : (n : Newcomer) (reads : List (Look × Answer)) (top : Option ℕ) (lists : Lists) → InsertLists n reads top lists
    → AllByRecursion (λ p. p.0 ≤ n.level) lists.picks
picks_reached n reads top lists found = below_low n top found.from found.on lists found.searched
