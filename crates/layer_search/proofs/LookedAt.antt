-- Elements that a call found were looked at in it: where they stand, and that they were live.
use Rattle.std.proofs.Common.{◌≡◌, ℕ, zero, suc, ◌+◌, ◌-◌, ◌==◌, ◌<◌, ◌≤◌, ◌||◌, not, cond, Bool, true, false, true≢false, List, [], ◌∷◌, ◌++◌, map, min, length, slice_get, Option, Some, None, refl, sym, ap, subst, ◌∙◌, arith, append_assoc, nat_lt, if◌then◌else◌}
use Rattle.std.specs.List.{AllByRecursion}
use Rattle.std.proofs.lemmas.Bool.Decides.{nat_tests}
use Rattle.std.proofs.lemmas.Option.{none-some, same_Some}
use Rattle.vec_names.specs.declared.tid.Tid.{Tid}
use Rattle.vec_names.specs.declared.heap_id.HeapId.{HeapId}
use Rattle.vec_names.specs.declared.params.Ops.{Ops}
use Rattle.vec_history.specs.declared.event.Act.{Act}
use Rattle.vec_history.specs.Acts.{IsRising}
use Rattle.vec_graph.specs.declared.node.Node.{Node}
use Rattle.vec_graph.specs.declared.graph.Graph.{Graph}
use Rattle.vec_graph.specs.Graph.{IsLiveAt, node_at}
use Rattle.vec_graph.specs.Effect.{state_after}
use Rattle.neighbour_pick.specs.declared.found.Found.{Found}
use Rattle.neighbour_pick.specs.Order.{candidate_of}
use Rattle.neighbour_pick.specs.Selection.{picked}
use Rattle.graph_search.specs.Reads.{Look, Answer, AtMeta, AtNode, Gone, OfList, OfMeta, OfNode, OfPage, is_version, node_answer}
use Rattle.graph_search.specs.Search.{IsMet, LayerSearch, begun, element_of, has_some, is_live, read}
use Rattle.graph_search.specs.Descent.{Descent, IsLowered, LayersDown, or_from, start_at}
use Rattle.graph_search.specs.Descent as down
use Rattle.graph_search.specs.Insert.{InsertLists, Lists, ListsDown, Newcomer, chosen, lists_below, most_in, without}
use Rattle.graph_search.proofs.WhereFrom.{in_left, in_right, result_met}
use Rattle.graph_search.proofs.Ordered.{result_live}
use Rattle.vec_history.specs.declared.gate.Gate.TheVariants.{Update}
use Rattle.vec_history.specs.Gates.{Holds}
use Rattle.vec_names.specs.declared.params.Params.{Params}
use Rattle.vec_graph.specs.Shaped as nodes
use Rattle.vec_graph.specs.Legal as history
use Rattle.vec_graph.specs.Knowing.{Knows}
use Rattle.graph_search.specs.Deeds.{looked, looks_of}
use Rattle.search_sets.specs.Standing.{spot_of}
use Rattle.vec_steps.specs.Index.{Index, OfNodes, OfLists, IsLegal, IsShaped}
use Rattle.vec_steps.specs.Doing.{Step, did, step_events}
use Rattle.vec_steps.specs.Desks.{Desk}
use Rattle.vec_steps.specs.Calls.{Acts, AreDeeds, Happened, HappenedAt, events_of, steps_of}
use Rattle.vec_steps.proofs.Lasting.{known_by_look}
use Rattle.layer_search.specs.Telling.{StandThere, StandsAt}
use Rattle.layer_search.specs.Running.{next_layer}
use Rattle.layer_search.specs.Listing.{AreThere, FindsLists}
use Rattle.layer_search.proofs.Told.{placed_since, spots_all}
use Rattle.layer_search.proofs.LayersFound.{all_places}
use Rattle.layer_search.proofs.Steadiness.{all_both, all_kept, no_first, no_second}

-- ---- what was looked at

-- a look at a node told the element, at its place and in a layer not below this one
pub record IsMetAt (ops : Ops) (query : List Bool) (reads : List (Look × Answer)) (layer : ℕ) (e : Found) : Type 0 where
  pub place : ℕ
  pub high : ℕ
  pub told : Answer
  pub reaches : layer ≤ high
  pub is_read : slice_get reads place ≡ Some (AtNode e.at high None, told)
  pub tells : element_of ops query e.at told ≡ e ∷ []

module _ (ops : Ops) (query : List Bool) where
  met_left : (r s : List (Look × Answer)) (layer : ℕ) (e : Found) → IsMetAt ops query r layer e → IsMetAt ops query (r ++ s) layer e
  met_left r s layer e m = record {
    place = m.place;
    high = m.high;
    told = m.told;
    reaches = m.reaches;
    is_read = in_left r s m.place _ m.is_read;
    tells = m.tells;
  }

  met_lower : (r : List (Look × Answer)) (high low : ℕ) → low ≤ high → (e : Found) → IsMetAt ops query r high e → IsMetAt ops query r low e
  met_lower r high low h e m = record {
    place = m.place;
    high = m.high;
    told = m.told;
    reaches = omega (arith, h, m.reaches);
    is_read = m.is_read;
    tells = m.tells;
  }

  all_left : (r s : List (Look × Answer)) (layer : ℕ) (es : List Found) → AllByRecursion (IsMetAt ops query r layer) es
      → AllByRecursion (IsMetAt ops query (r ++ s) layer) es
  all_left r s layer [] all = tt
  all_left r s layer (e ∷ es) all = (met_left r s layer e all.0, all_left r s layer es all.1)

  all_lower : (r : List (Look × Answer)) (high low : ℕ) → low ≤ high → (es : List Found) → AllByRecursion (IsMetAt ops query r high) es
      → AllByRecursion (IsMetAt ops query r low) es
  all_lower r high low h [] all = tt
  all_lower r high low h (e ∷ es) all = (met_lower r high low h e all.0, all_lower r high low h es all.1)

  all_got : (P : Found → Type 0) (es : List Found) (i : ℕ) (e : Found) → slice_get es i ≡ Some e → AllByRecursion P es → P e
  all_got P [] i e is all = absurd (none-some e is)
  all_got P (x ∷ es) zero e is all = subst P (same_Some x e is) all.0
  all_got P (x ∷ es) (suc i) e is all = all_got P es i e is all.1

  all_each : (P : Found → Type 0) (es : List Found) → ((i : ℕ) (e : Found) → slice_get es i ≡ Some e → P e) → AllByRecursion P es
  all_each P [] each = tt
  all_each P (x ∷ es) each = (each 0 x refl, all_each P es (λ i e is. each (suc i) e is))

  -- a search from elements that were looked at finds such elements
  found_met : (before reads : List (Look × Answer)) (layer ef : ℕ) (from found : List Found) → AllByRecursion (IsMetAt ops query before layer) from
      → LayerSearch (start_at ops query from layer) ef reads found → AllByRecursion (IsMetAt ops query (before ++ reads) layer) found
  found_met before reads layer ef from found all s =
      all_each (IsMetAt ops query (before ++ reads) layer) found
      (λ i e is. by e (result_met (start_at ops query from layer) ef reads found s i e is))
    where
      by : (e : Found) → IsMet (start_at ops query from layer) reads e → IsMetAt ops query (before ++ reads) layer e
      by e (begun j is) = met_left before reads layer e (all_got (IsMetAt ops query before layer) from j e is all)
      by e (read j told at is) =
          let there = in_right before reads j _ at in
          record { place = there.0; high = layer; told = told; reaches = (let le : layer ≤ layer = omega arith in le); is_read = there.1; tells = is }

  or_met : (P : Found → Type 0) (found from : List Found) → AllByRecursion P found → AllByRecursion P from → AllByRecursion P (or_from found from)
  or_met P [] from a b = b
  or_met P (e ∷ found) from a b = a

  -- ---- the descent

  element_place : (at : Tid) (told : Answer) (e : Found) → element_of ops query at told ≡ e ∷ [] → e.at ≡ at
  element_place at (OfNode level version list_at ids bits) e is = sym (ap (λ (f : Found). f.at) (same_Some _ e (ap (λ (es : List Found). slice_get es 0) is)))
  element_place at Gone e is = absurd cc
  element_place at (OfMeta entry level hint blocks) e is = absurd cc
  element_place at (OfList slots) e is = absurd cc
  element_place at (OfPage nodes) e is = absurd cc

  lowered_met : (to k : ℕ) (from : List Found) (before later : List (Look × Answer)) (result : List Found) → AllByRecursion (IsMetAt ops query before (to + k)) from
      → IsLowered ops query to k from later result → AllByRecursion (IsMetAt ops query (before ++ later) to) result
  lowered_met to zero from before later result all low =
      subst (λ (r : List Found). AllByRecursion (IsMetAt ops query (before ++ later) to) r) (sym low.1)
      (all_left before later to from (all_lower before (to + 0) to (omega arith) from all))
  lowered_met to (suc k) from before later result all low =
      let above : ℕ = to + suc k in
      let found = found_met before low.first above 1 from low.found all low.search in
      let next = or_met (IsMetAt ops query (before ++ low.first) above) low.found from found (all_left before low.first above from all) in
      subst (λ (r : List (Look × Answer)). AllByRecursion (IsMetAt ops query r to) result)
      (append_assoc before low.first low.later ∙ ap (λ (r : List (Look × Answer)). before ++ r) (sym low.reads_are))
      (lowered_met to k (or_from low.found from) (before ++ low.first) low.later result
      (all_lower (before ++ low.first) above (to + k) (omega arith) (or_from low.found from) next) low.deeper_is)

  entered_met : (to level : ℕ) (e : Found) (before later : List (Look × Answer)) (result : List Found) → IsMetAt ops query before level e
      → IsLowered ops query to (level - to) (e ∷ []) later result → AllByRecursion (IsMetAt ops query (before ++ later) (min to level)) result
  entered_met to level e before later result met low = by (nat_lt to level) refl
    where
      by : (b : Bool) → nat_lt to level ≡ b → AllByRecursion (IsMetAt ops query (before ++ later) (min to level)) result
      by true is =
          let less : to < level = grind (arith, nat_tests) in
          let here : min to level ≡ to = omega (arith, less) in
          let high : level ≡ to + (level - to) = omega (arith, less) in
          subst (λ (k : ℕ). AllByRecursion (IsMetAt ops query (before ++ later) k) result) (sym here)
          (lowered_met to (level - to) (e ∷ []) before later result (subst (λ (k : ℕ). IsMetAt ops query before k e) high met, tt) low)
      by false is =
          let less : level ≤ to = grind (arith, nat_tests) in
          let here : min to level ≡ level = omega (arith, less) in
          let none : level - to ≡ 0 = omega (arith, less) in
          let at_once : (later ≡ []) × (result ≡ e ∷ []) = subst (λ (k : ℕ). IsLowered ops query to k (e ∷ []) later result) none low in
          subst (λ (k : ℕ). AllByRecursion (IsMetAt ops query (before ++ later) k) result) (sym here)
          (subst (λ (r : List Found). AllByRecursion (IsMetAt ops query (before ++ later) level) r) (sym at_once.1)
          (met_left before later level e met, tt))

  pub descent_met : (to : ℕ) (reads : List (Look × Answer)) (top : Option ℕ) (from : List Found) → Descent ops query to reads top from
      → AllByRecursion (IsMetAt ops query reads (next_layer to top)) from
  descent_met to reads top from (down.no_entry level hint blocks) = tt
  descent_met to reads top from (down.entry_gone at level hint blocks told none) = tt
  descent_met to reads top from (down.lowered at level hint blocks told e later result one low) =
      let same = element_place at told e one in
      entered_met to level e ((AtMeta, OfMeta (Some at) level hint blocks) ∷ (AtNode at level None, told) ∷ []) later result
      (record {
        place = 1;
        high = level;
        told = told;
        reaches = (let le : level ≤ level = omega arith in le);
        is_read = ap (λ (x : Tid). (let o : Option (Look × Answer) = Some (AtNode x level None, told) in o)) (sym same);
        tells = subst (λ (x : Tid). element_of ops query x told ≡ e ∷ []) (sym same) one;
      }) low

-- ---- the layers

-- the neighbour was looked at in its layer, and was live
abbrev pub IsPickMet : Ops → List Bool → List (Look × Answer) → (ℕ × Found) → Type 0
IsPickMet ops query reads p = IsMetAt ops query reads p.0 p.1 × (is_live p.1 ≡ true)

picks_left : (ops : Ops) (query : List Bool) (r s : List (Look × Answer)) (picks : List (ℕ × Found)) → AllByRecursion (IsPickMet ops query r) picks
    → AllByRecursion (IsPickMet ops query (r ++ s)) picks
picks_left ops query r s [] all = tt
picks_left ops query r s (p ∷ picks) all = ((met_left ops query r s p.0 p.1 all.0.0, all.0.1), picks_left ops query r s picks all.1)

pairs_met : (ops : Ops) (query : List Bool) (reads : List (Look × Answer)) (layer : ℕ) (es : List Found)
    → AllByRecursion (λ e. IsMetAt ops query reads layer e × (is_live e ≡ true)) es → AllByRecursion (IsPickMet ops query reads) (map (λ e. (layer, e)) es)
pairs_met ops query reads layer [] all = tt
pairs_met ops query reads layer (e ∷ es) all = (all.0, pairs_met ops query reads layer es all.1)

both_so : (P Q : Found → Type 0) (es : List Found) → AllByRecursion P es → AllByRecursion Q es → AllByRecursion (λ e. P e × Q e) es
both_so P Q [] a b = tt
both_so P Q (e ∷ es) a b = ((a.0, b.0), both_so P Q es a.1 b.1)

-- what was found and chosen in these layers
pub record AreMet (n : Newcomer) (reads : List (Look × Answer)) (lists : Lists) : Type 0 where
  pub picks : AllByRecursion (IsPickMet n.ops n.bits reads) lists.picks
  pub near : AllByRecursion (IsMetAt n.ops n.bits reads 0) lists.near

layers_met : (n : Newcomer) (layers : ℕ) (from : List Found) (before later : List (Look × Answer)) (lists : Lists)
    → AllByRecursion (IsMetAt n.ops n.bits before (layers - 1)) from → ListsDown n layers from later lists → AreMet n (before ++ later) lists
layers_met n zero from before later lists all down = record {
  picks = subst (λ (l : Lists). AllByRecursion (IsPickMet n.ops n.bits (before ++ later)) l.picks) (sym down.1) tt;
  near = subst (λ (l : Lists). AllByRecursion (IsMetAt n.ops n.bits (before ++ later) 0) l.near) (sym down.1) tt;
}
layers_met n (suc layer) from before later lists all down =
    let ops : Ops = n.ops in
    let query : List Bool = n.bits in
    let here : List (Look × Answer) = before ++ down.first in
    let at : suc layer - 1 ≡ layer = omega arith in
    let began : AllByRecursion (IsMetAt ops query before layer) from = subst (λ (k : ℕ). AllByRecursion (IsMetAt ops query before k) from) at all in
    let found = found_met ops query before down.first layer n.ef from down.found began down.search in
    let live = all_each ops query (λ (e : Found). is_live e ≡ true) down.found (result_live (start_at ops query from layer) n.ef down.first down.found down.search) in
    let others : List Found = without n.except down.found in
    let chosen_met = all_places (λ (e : Found). IsMetAt ops query here layer e × (is_live e ≡ true)) others (picked ops (map candidate_of others) (most_in n.m layer))
    (all_kept (λ (e : Found). IsMetAt ops query here layer e × (is_live e ≡ true)) _ down.found
    (both_so (IsMetAt ops query here layer) (λ (e : Found). is_live e ≡ true) down.found found live)) in
    let next = or_met ops query (IsMetAt ops query here layer) down.found from found (all_left ops query before down.first layer from began) in
    let deeper = layers_met n layer (or_from down.found from) here down.later down.below
    (all_lower ops query here layer (layer - 1) (omega arith) (or_from down.found from) next) down.deeper_is in
    let joined : here ++ down.later ≡ before ++ later =
    append_assoc before down.first down.later ∙ ap (λ (r : List (Look × Answer)). before ++ r) (sym down.reads_are) in
    let chosen_picks : List (ℕ × Found) = map (λ e. (layer, e)) (chosen n layer down.found) in
    subst (λ (r : List (Look × Answer)). AreMet n r lists) joined
    (record {
      picks = subst (λ (p : List (ℕ × Found)). AllByRecursion (IsPickMet ops query (here ++ down.later)) p) (sym down.picks_are)
          (all_both (IsPickMet ops query (here ++ down.later)) chosen_picks down.below.picks
          (picks_left ops query here down.later chosen_picks (pairs_met ops query here layer (chosen n layer down.found) chosen_met)) deeper.picks);
      near = subst (λ (es : List Found). AllByRecursion (IsMetAt ops query (here ++ down.later) 0) es) (sym down.near_is)
          (elim (layer == 0) as (λ b. AllByRecursion (IsMetAt ops query (here ++ down.later) 0) (if b then others else down.below.near)) [
            | true ↦ all_kept (IsMetAt ops query (here ++ down.later) 0) _ down.found
                (all_left ops query here down.later 0 down.found (all_lower ops query here layer 0 (omega arith) down.found found))
            | false ↦ deeper.near
          ]);
    })

-- the lists of a new node
pub lists_met : (n : Newcomer) (reads : List (Look × Answer)) (top : Option ℕ) (lists : Lists) → InsertLists n reads top lists → AreMet n reads lists
lists_met n reads top lists found =
    subst (λ (r : List (Look × Answer)). AreMet n r lists) (sym found.reads_are)
    (below top found.from found.on lists (descent_met n.ops n.bits n.level found.down top found.from found.descent) found.searched)
  where
    below : (o : Option ℕ) (from : List Found) (on : List (Look × Answer)) (ls : Lists)
        → AllByRecursion (IsMetAt n.ops n.bits found.down (next_layer n.level o)) from → lists_below n o from on ls → AreMet n (found.down ++ on) ls
    below None from on ls all none = record {
      picks = subst (λ (l : Lists). AllByRecursion (IsPickMet n.ops n.bits (found.down ++ on)) l.picks) (sym none.1) tt;
      near = subst (λ (l : Lists). AllByRecursion (IsMetAt n.ops n.bits (found.down ++ on) 0) l.near) (sym none.1) tt;
    }
    below (Some t) from on ls all some =
        let turned : min n.level t ≡ min t n.level + 1 - 1 = omega arith in
        let so = layers_met n (min t n.level + 1) from found.down on some.found
        (subst (λ (k : ℕ). AllByRecursion (IsMetAt n.ops n.bits found.down k) from) turned all) some.down in
        record {
          picks = subst (λ (l : Lists). AllByRecursion (IsPickMet n.ops n.bits (found.down ++ on)) l.picks) (sym some.lists_are) so.picks;
          near = subst (λ (l : Lists). AllByRecursion (IsMetAt n.ops n.bits (found.down ++ on) 0) l.near) (sym some.lists_are) so.near;
        }

-- ---- in a history

-- the node that a look told
record IsToldOf (g : Graph) (e : Found) (high : ℕ) : Type 0 where
  node : Node
  stands : node_at g e.at ≡ Some node
  not_deleted : node.deleted ≡ false
  reaches : high ≤ node.level
  ids_are : node.ids ≡ e.ids.items
  listed : node.list_at ≡ e.list_at
  of_level : node.level ≡ e.level

not_less : (m n : ℕ) → nat_lt m n ≡ false → n ≤ m
not_less m n h = grind (arith, nat_tests)

told_node : (g : Graph) (ops : Ops) (query : List Bool) (e : Found) (high : ℕ) (o : Option Node) → node_at g e.at ≡ o
    → element_of ops query e.at (node_answer o high None) ≡ e ∷ [] → IsToldOf g e high
told_node g ops query e high None is told = absurd cc
told_node g ops query e high (Some n) is told =
    (elim (n.deleted || (nat_lt n.level high || not (is_version None n.version))) as (λ b.
    (n.deleted || (nat_lt n.level high || not (is_version None n.version))) ≡ b
    → element_of ops query e.at (cond b Gone (OfNode n.level n.version n.list_at n.ids n.bits)) ≡ e ∷ [] → IsToldOf g e high) [
      | true ↦ λ here none. absurd cc
      | false ↦ λ here one.
          let same = same_Some _ e (ap (λ (es : List Found). slice_get es 0) one) in
          record {
            node = n;
            stands = is;
            not_deleted = no_first n.deleted (nat_lt n.level high || not (is_version None n.version)) here;
            reaches = not_less n.level high (no_first (nat_lt n.level high) (not (is_version None n.version))
                (no_second n.deleted (nat_lt n.level high || not (is_version None n.version)) here));
            ids_are = ap (λ (f : Found). f.ids.items) same;
            listed = ap (λ (f : Found). f.list_at) same;
            of_level = ap (λ (f : Found). f.level) same;
          }
    ]) refl told

some_ids : (ids : List HeapId) → has_some ids ≡ true → ids ≡ [] → ⊥
some_ids [] some none = true≢false (sym some)
some_ids (id ∷ ids) some none = absurd cc

-- a node was live at a position that is not before this one, and reached the layer
pub record WasLive (g : Graph) (acts : List Act) (low : ℕ) (at : Tid) (layer : ℕ) : Type 0 where
  pub position : ℕ
  pub since : low ≤ position
  pub met : position ≤ length acts
  pub live : IsLiveAt (state_after g acts position) at layer

module _ (g : Graph) (acts : List Act) (d : Desk) where
  read_at : (course : List (ℕ × Step)) (reads : List (Look × Answer)) (low high : ℕ) → AreDeeds course (looks_of reads) → Happened (OfNodes g) acts d course
      → IsRising low (map (λ s. s.0) course) high → (i : ℕ) (look : Look) (told : Answer) → slice_get reads i ≡ Some (look, told)
      → (n : ℕ) × (low ≤ n) × HappenedAt (OfNodes g) acts d n (did (looked look told))
  read_at course [] low high are h r i look told is = absurd (none-some (look, told) is)
  read_at [] (x ∷ reads) low high are h r i look told is = absurd are
  read_at (s ∷ course) (x ∷ reads) low high are h r zero look told is =
      let same : x ≡ (look, told) = same_Some x (look, told) is in
      let deed : s.1 ≡ did (looked look told) = are.0 ∙ ap (λ (y : Look × Answer). did (looked y.0 y.1)) same in
      (s.0, r.0, subst (HappenedAt (OfNodes g) acts d s.0) deed h.0)
  read_at (s ∷ course) (x ∷ reads) low high are h r (suc i) look told is =
      let there = read_at course reads s.0 high are.1 h.1 r.1 i look told is in
      (there.0, omega (arith, r.0, there.1), there.2)

  module _ (shaped : nodes.IsShaped g) (legal : history.IsLegal g acts) (course : List (ℕ × Step)) (reads : List (Look × Answer)) (low high : ℕ)
      (are : AreDeeds course (looks_of reads)) (h : Happened (OfNodes g) acts d course) (r : IsRising low (map (λ s. s.0) course) high) (ops : Ops)
      (query : List Bool) where
    met_stands : (layer : ℕ) (e : Found) → IsMetAt ops query reads layer e → StandsAt g acts layer (spot_of e)
    met_stands layer e m =
        let there = read_at course reads low high are h r m.place (AtNode e.at m.high None) m.told m.is_read in
        let state : Graph = state_after g acts there.0 in
        let node = told_node state ops query e m.high (node_at state e.at) refl (ap (element_of ops query e.at) (sym there.2.says) ∙ m.tells) in
        placed_since g shaped acts legal there.0 there.2.within layer (spot_of e)
        (record { node = node.node; stands = node.stands; listed = node.listed; of_level = node.of_level })
        (omega (arith, m.reaches, node.reaches, node.of_level))

    met_live : (layer : ℕ) (e : Found) → IsMetAt ops query reads layer e → is_live e ≡ true → WasLive g acts low e.at layer
    met_live layer e m live =
        let there = read_at course reads low high are h r m.place (AtNode e.at m.high None) m.told m.is_read in
        let state : Graph = state_after g acts there.0 in
        let node = told_node state ops query e m.high (node_at state e.at) refl (ap (element_of ops query e.at) (sym there.2.says) ∙ m.tells) in
        record {
          position = there.0;
          since = there.1;
          met = there.2.within;
          live = record {
            node = node.node;
            stands = node.stands;
            live = record { not_deleted = node.not_deleted; has_ids = λ none. some_ids e.ids.items live (sym node.ids_are ∙ none) };
            reaches = omega (arith, m.reaches, node.reaches);
          };
        }

    pub near_stand : (layer : ℕ) (es : List Found) → AllByRecursion (IsMetAt ops query reads layer) es → AllByRecursion (λ e. StandsAt g acts layer (spot_of e)) es
    near_stand layer [] all = tt
    near_stand layer (e ∷ es) all = (met_stands layer e all.0, near_stand layer es all.1)

    pub picks_stand : (picks : List (ℕ × Found)) → AllByRecursion (IsPickMet ops query reads) picks
        → AllByRecursion (λ p. StandsAt g acts p.0 (spot_of p.1)) picks
    picks_stand [] all = tt
    picks_stand (p ∷ picks) all = (met_stands p.0 p.1 all.0.0, picks_stand picks all.1)

    pub picks_live : (picks : List (ℕ × Found)) → AllByRecursion (IsPickMet ops query reads) picks
        → AllByRecursion (λ p. WasLive g acts low p.1.at p.0) picks
    picks_live [] all = tt
    picks_live (p ∷ picks) all = (met_live p.0 p.1 all.0.0 all.0.1, picks_live picks all.1)

-- a desk that held Update all along knows what was live
pub picks_known : (g : Graph) {desk : ℕ} {old new : List Act} (picks : List (ℕ × Found)) → Acts desk old new [] → Holds old desk Update
    → AllByRecursion (λ p. WasLive g new (length old) p.1.at p.0) picks → AllByRecursion (λ p. Knows g new desk p.1.at p.0) picks
picks_known g [] x held all = tt
picks_known g (p ∷ picks) x held all =
    (known_by_look x g p.1.at p.0 all.0.position tt held all.0.since all.0.met all.0.live, picks_known g picks x held all.1)

-- ---- what a call found

-- only looks make no event
looks_no_event : (p : Params) (course : List (ℕ × Step)) (reads : List (Look × Answer)) → AreDeeds course (looks_of reads) → events_of p (steps_of course) ≡ []
looks_no_event p [] [] are = refl
looks_no_event p [] (x ∷ reads) are = absurd are
looks_no_event p (s ∷ course) [] are = absurd are
looks_no_event p (s ∷ course) (x ∷ reads) are =
    ap (λ (q : Step). step_events p q ++ events_of p (steps_of course)) are.0 ∙ looks_no_event p course reads are.1

module _ {over : Index → Type 0} {d : Desk} {old new : List Act} {before now : List ℕ} (n : Newcomer) (top : Option ℕ) (lists : Lists)
    (found : FindsLists over d old new before now n top lists) where
  quiet : Acts d.number old new []
  quiet = subst (Acts d.number old new) (looks_no_event d.params found.made.course found.reads found.made.is.deeds) found.made.does.acts

  pub found_stand : (base : Index) → IsShaped base → IsLegal base new → over base → StandThere new 0 [] base → AreThere new lists base
  found_stand (OfNodes g) shaped legal on none =
      let met = lists_met n found.reads top lists found.found in
      record {
        picks = picks_stand g new d shaped legal found.made.course found.reads (length old) (length new) found.made.is.deeds
            (found.made.does.happened (OfNodes g) on) found.made.does.rises n.ops n.bits lists.picks met.picks;
        near = spots_all (StandsAt g new 0) lists.near
            (near_stand g new d shaped legal found.made.course found.reads (length old) (length new) found.made.is.deeds
            (found.made.does.happened (OfNodes g) on) found.made.does.rises n.ops n.bits 0 lists.near met.near);
      }
  found_stand (OfLists g) shaped legal on none = absurd none

  pub found_known : (g : Graph) → IsShaped (OfNodes g) → IsLegal (OfNodes g) new → over (OfNodes g) → Holds old d.number Update
      → AllByRecursion (λ p. Knows g new d.number p.1.at p.0) lists.picks
  found_known g shaped legal on held =
      let met = lists_met n found.reads top lists found.found in
      picks_known g lists.picks quiet held
      (picks_live g new d shaped legal found.made.course found.reads (length old) (length new) found.made.is.deeds
      (found.made.does.happened (OfNodes g) on) found.made.does.rises n.ops n.bits lists.picks met.picks)
