-- Nodes stay at their places, with their levels.
use Rattle.std.proofs.Common.{◌≡◌, ℕ, cond, List, [], ◌∷◌, ◌++◌, take, drop, Some, None, refl, sym, ap, subst, ◌∙◌, append_assoc, append-nil, take-append-drop}
use Rattle.std.specs.declared.cmp.Ordering.TheVariants.{Less, Equal, Greater}
use Rattle.std.specs.Ordering.{is_eq}
use Rattle.std.specs.FinMap as fin
use Rattle.std.proofs.lemmas.Option.{same_Some}
use Rattle.vec_names.specs.declared.tid.Tid.{Tid}
use Rattle.vec_names.specs.Order.{tid_cmp, tid_cmp_total, tid_cmp_exact}
use Rattle.vec_history.specs.declared.event.Event.{Event}
use Rattle.vec_history.specs.declared.event.Event.TheVariants.{Put, Join, Link, Relist, Drop, Mark, Entry, Hint, IvfAdd, IvfGrow, IvfDrop, IvfHint, Gate, Ungate, Phase, VacuumEnd, Cancel, Settled, DiskFaulted}
use Rattle.vec_history.specs.declared.event.Act.{Act}
use Rattle.vec_graph.specs.declared.node.Node.{Node}
use Rattle.vec_graph.specs.declared.graph.Graph.{Graph}
use Rattle.vec_graph.specs.Graph.{node_at, HasLevel}
use Rattle.vec_graph.specs.Places.{IsOnBlocks}
use Rattle.vec_graph.specs.Effect.{effect, after, state_after, changed, changed_from, joined, linked, relisted, dropped, marked}
use Rattle.vec_graph.specs.Rules.{IsEventAllowed}
use Rattle.vec_history.specs.Legal.{IsLegalAfter}
use Rattle.vec_history.proofs.Prefixes.{rest_after}
use Rattle.vec_graph.specs.Legal.{IsAllowed, IsLegal}
use Rattle.vec_graph.proofs.Placing.{free_place, on_effect}

-- ---- one event

-- another node at a place, of the level of the one that stood there
stays_at : (nodes : fin.FinMap tid_cmp Node) (at : Tid) (n : Node) → ((m : Node) → fin.get nodes at ≡ Some m → n.level ≡ m.level)
    → (q : Tid) (m : Node) → fin.get nodes q ≡ Some m → (p : Node) × (fin.get (fin.insert nodes at n) q ≡ Some p) × (p.level ≡ m.level)
stays_at nodes at n same q m stands =
    let inserted = fin.get-insert tid_cmp_total nodes at n q in
    elim (tid_cmp q at) as (λ r. tid_cmp q at ≡ r → fin.get (fin.insert nodes at n) q ≡ cond (is_eq r) (Some n) (fin.get nodes q)
    → (p : Node) × (fin.get (fin.insert nodes at n) q ≡ Some p) × (p.level ≡ m.level)) [
      | Less ↦ λ _ is. (m, is ∙ stands, refl)
      | Equal ↦ λ equal is. (n, is, same m (subst (λ (t : Tid). fin.get nodes t ≡ Some m) (tid_cmp_exact q at equal) stands))
      | Greater ↦ λ _ is. (m, is ∙ stands, refl)
    ] refl inserted

on_changed : (g : Graph) (at : Tid) (change : Node → Node) → ((n : Node) → (change n).level ≡ n.level) → (q : Tid) (level : ℕ)
    → HasLevel g q level → HasLevel (changed g at change) q level
on_changed g at change keeps q level has =
    elim (node_at g at) as (λ o. node_at g at ≡ o → HasLevel (changed_from g at change o) q level) [
      | None ↦ λ _. has
      | Some n ↦ λ there.
          let now = stays_at g.nodes at (change n) (λ m is. keeps n ∙ ap (λ (k : Node). k.level) (same_Some n m (sym there ∙ is))) q has.node has.stands in
          record { node = now.0; stands = now.1; of_level = now.2 ∙ has.of_level }
    ] refl

on_event : (base : Graph) (acts : List Act) (desk : ℕ) (e : Event) → IsEventAllowed base acts desk e → IsOnBlocks (after base acts)
    → (q : Tid) (level : ℕ) → HasLevel (after base acts) q level → HasLevel (effect 255 e (after base acts)) q level
on_event base acts desk (Put at list_at version high id bits lists) may on q level has =
    let free = free_place (after base acts) at high (record { at = at; list_at = list_at; version = version }) on may.placed in
    let now = stays_at (after base acts).nodes at _ (λ m is. sym (free m is).1) q has.node has.stands in
    record { node = now.0; stands = now.1; of_level = now.2 ∙ has.of_level }
on_event base acts desk (Join at version id) may on q level has = on_changed (after base acts) at (joined id) (λ n. refl) q level has
on_event base acts desk (Link at list_at version slot to) may on q level has = on_changed (after base acts) at (linked slot to) (λ n. refl) q level has
on_event base acts desk (Relist at list_at version lists) may on q level has = on_changed (after base acts) at (relisted lists) (λ n. refl) q level has
on_event base acts desk (Drop at version gone) may on q level has = on_changed (after base acts) at (dropped gone) (λ n. refl) q level has
on_event base acts desk (Mark at list_at version) may on q level has = on_changed (after base acts) at (marked 255) (λ n. refl) q level has
on_event base acts desk (Entry to high) may on q level has = record { node = has.node; stands = has.stands; of_level = has.of_level }
on_event base acts desk (Hint block) may on q level has = record { node = has.node; stands = has.stands; of_level = has.of_level }
on_event base acts desk (IvfAdd block id bits) may on q level has = absurd may
on_event base acts desk (IvfGrow list last block id bits) may on q level has = absurd may
on_event base acts desk (IvfDrop block gone) may on q level has = absurd may
on_event base acts desk (IvfHint list block) may on q level has = absurd may
on_event base acts desk (Gate gate hold) may on q level has = has
on_event base acts desk (Ungate gate) may on q level has = has
on_event base acts desk (Phase stage) may on q level has = has
on_event base acts desk VacuumEnd may on q level has = has
on_event base acts desk (Cancel stage) may on q level has = has
on_event base acts desk (Settled upto) may on q level has = has
on_event base acts desk (DiskFaulted count) may on q level has = has

-- ---- a history

pub after_append : (g : Graph) (acts more : List Act) → after g (acts ++ more) ≡ after (after g acts) more
after_append g [] more = refl
after_append g (a ∷ acts) more = after_append (effect 255 a.event g) acts more

along : (base : Graph) (before acts : List Act) → IsLegalAfter (IsAllowed base) before acts → IsOnBlocks (after base before) → (q : Tid) (level : ℕ)
    → HasLevel (after base before) q level → HasLevel (after base (before ++ acts)) q level
along base before [] legal on q level has = subst (λ h. HasLevel (after base h) q level) (sym (append-nil before)) has
along base before (a ∷ acts) legal on q level has =
    let one = sym (after_append base before (a ∷ [])) in
    let on_later = subst IsOnBlocks one (on_effect a.event (after base before) on) in
    let has_later = subst (λ g. HasLevel g q level) one (on_event base before a.desk a.event legal.0 on q level has) in
    subst (λ h. HasLevel (after base h) q level) (append_assoc before (a ∷ []) acts) (along base (before ++ a ∷ []) acts legal.1 on_later q level has_later)

pub level_stays : (base : Graph) (acts : List Act) (n : ℕ) (q : Tid) (level : ℕ) → IsLegal base acts → IsOnBlocks (state_after base acts n)
    → HasLevel (state_after base acts n) q level → HasLevel (after base acts) q level
level_stays base acts n q level legal on has =
    subst (λ h. HasLevel (after base h) q level) (take-append-drop n acts)
    (along base (take n acts) (drop n acts) (rest_after (IsAllowed base) [] acts n legal) on q level has)
