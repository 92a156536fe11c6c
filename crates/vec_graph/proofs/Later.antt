-- What is asked of a desk holds on while other desks act.
use Rattle.std.proofs.Common.{◌≡◌, ◌≢◌, inl, inr, ℕ, zero, suc, ◌+◌, ◌<◌, ◌≤◌, ◌^◌, false, List, [], ◌∷◌, ◌++◌, take, drop, length, slice_get, Option, Some, None, refl, sym, ap, subst, ◌∙◌, append_assoc, append-nil, take-append-drop, arith, true≢false}
use native.Mathlib.Nat.{two-pow-succ}
use Rattle.std.proofs.lemmas.Option.{same_Some, none-some}
use Rattle.std.proofs.lemmas.List.{length-append}
use Rattle.list_values.specs.Masks.{kept}
use Rattle.vec_names.specs.declared.tid.Tid.{Tid}
use Rattle.vec_history.specs.declared.event.Event.{Event}
use Rattle.vec_history.specs.declared.event.Event.TheVariants.{Put, Join, Link, Relist, Drop, Mark, Entry, Hint, IvfAdd, IvfGrow, IvfDrop, IvfHint, Gate, Ungate, Phase, VacuumEnd, Cancel, Settled, DiskFaulted}
use Rattle.vec_history.specs.declared.event.Act.{Act}
use Rattle.vec_history.specs.declared.gate.Gate.TheVariants as gate
use Rattle.vec_history.specs.declared.gate.Hold.TheVariants.{Alone}
use Rattle.vec_history.specs.declared.stage.Stage.{Stage}
use Rattle.vec_history.specs.declared.stage.Stage.TheVariants as stages
use Rattle.vec_history.specs.Gates.{HoldsAs, Holds, AreGatesAllowed}
use Rattle.vec_history.specs.Phases.{IsInPhase, IsAPhaseStanding}
use Rattle.vec_history.proofs.Alone.{one_alone}
use Rattle.vec_graph.specs.declared.place.Place.{Place}
use Rattle.vec_graph.specs.declared.node.Node.{Node}
use Rattle.vec_graph.specs.declared.graph.Graph.{Graph}
use Rattle.vec_graph.specs.Graph.{IsLive, IsLiveAt, IsDoomed, IsDoomedAt}
use Rattle.vec_graph.specs.Places.{IsOnBlocks}
use Rattle.vec_graph.specs.Effect.{effect, after, state_after, joined, linked, relisted, dropped, marked}
use Rattle.vec_graph.specs.Rules.{IsEventAllowed, IsPhaseAllowed, IsVacuumEndAllowed, IsCancelAllowed, IsDropAllowed, IsMarkAllowed, IsEntryAllowed, IsHintAllowed, IsThere}
use Rattle.vec_history.specs.Legal.{IsLegalAfter}
use Rattle.vec_graph.specs.Legal.{IsAllowed, IsLegal}
use Rattle.vec_graph.specs.Asking.{StandsSo, IsAsked}
use Rattle.vec_history.proofs.Prefixes.{cut_after, each_after, more_after, rest_after}
use Rattle.vec_graph.proofs.Placing.{free_place, same_list, on_effect}
use Rattle.vec_graph.proofs.Levels.{after_append}
use Rattle.vec_history.proofs.OneMore.{in_longer, in_one_more, phase_on}
use Rattle.vec_graph.proofs.Vacuuming.{its_phase, no_vacuum, no_drop}
use Rattle.vec_graph.proofs.Further.{holds_on, holds_as_on, holds_back, phase_back, removed_on, repaired_on, knows_on}
use Rattle.vec_graph.proofs.Remaining.{Has, has_inserted, had_before, has_changed, had_changed, blocks_changed}

not_empty : {X : Type 0} (xs : List X) (x : X) → xs ++ x ∷ [] ≡ [] → ⊥
not_empty [] x e = absurd cc
not_empty (y ∷ ys) x e = absurd cc

module _ (base : Graph) (acts : List Act) (legal : IsLegal base acts) (on : IsOnBlocks (after base acts)) (a : Act) (may : IsAllowed base acts a)
    (desk : ℕ) (other : a.desk ≢ desk) where
  g : Graph
  g = after base acts

  g' : Graph
  g' = effect 255 a.event g

  taken_by_rule : AreGatesAllowed acts
  taken_by_rule n d gate hold is = each_after (IsAllowed base) [] acts n _ legal is

  -- ---- phases

  pub in_phase_on : (stage : Stage) → IsInPhase acts desk stage → IsInPhase (acts ++ a ∷ []) desk stage
  in_phase_on stage p = (p.0, phase_on acts a desk stage p.0 (no_vacuum base acts desk a.desk other a.event may stage p) p.1)

  -- ---- nodes

  now : after base (acts ++ a ∷ []) ≡ g'
  unfolding g' g
  now = after_append base acts (a ∷ [])

  SoPlaced : Tid → ℕ → Node → Type 0
  SoPlaced list_at level n = (n.list_at ≡ list_at) × (n.level ≡ level)

  placed_on : (e : Event) → IsEventAllowed base acts a.desk e → (list_at : Tid) (level : ℕ) (q : Tid) → Has g.nodes (SoPlaced list_at level) q
      → Has (effect 255 e g).nodes (SoPlaced list_at level) q
  unfolding g SoPlaced
  placed_on (Put at list_place version high id bits lists) ok list_at level q has =
      let spot : Place = record { at = at; list_at = list_place; version = version } in
      has_inserted (SoPlaced list_at level) g.nodes at _
      (λ m is p. (sym (same_list g at high spot on ok.placed m is) ∙ p.0, sym (free_place g at high spot on ok.placed m is).1 ∙ p.1)) q has
  placed_on (Join at version id) ok list_at level q has = has_changed (SoPlaced list_at level) g at (joined id) (λ m is p. p) q has
  placed_on (Link at list_place version slot to) ok list_at level q has = has_changed (SoPlaced list_at level) g at (linked slot to) (λ m is p. p) q has
  placed_on (Relist at list_place version lists) ok list_at level q has = has_changed (SoPlaced list_at level) g at (relisted lists) (λ m is p. p) q has
  placed_on (Drop at version gone) ok list_at level q has = has_changed (SoPlaced list_at level) g at (dropped gone) (λ m is p. p) q has
  placed_on (Mark at list_place version) ok list_at level q has = has_changed (SoPlaced list_at level) g at (marked 255) (λ m is p. p) q has
  placed_on (Entry to high) ok list_at level q has = has
  placed_on (Hint block) ok list_at level q has = has
  placed_on (IvfAdd block id bits) ok list_at level q has = has
  placed_on (IvfGrow list last block id bits) ok list_at level q has = has
  placed_on (IvfDrop block gone) ok list_at level q has = has
  placed_on (IvfHint list block) ok list_at level q has = has
  placed_on (Gate gate hold) ok list_at level q has = has
  placed_on (Ungate gate) ok list_at level q has = has
  placed_on (Phase stage) ok list_at level q has = has
  placed_on VacuumEnd ok list_at level q has = has
  placed_on (Cancel stage) ok list_at level q has = has
  placed_on (Settled upto) ok list_at level q has = has
  placed_on (DiskFaulted count) ok list_at level q has = has

  stands_on : (q list_at : Tid) (level : ℕ) → StandsSo g q list_at level → StandsSo (after base (acts ++ a ∷ [])) q list_at level
  unfolding g g' SoPlaced
  stands_on q list_at level s =
      let n = placed_on a.event may list_at level q (record { node = s.node; stands = s.stands; is = (s.listed, s.of_level) }) in
      subst (λ h. StandsSo h q list_at level) (sym now) (record { node = n.node; stands = n.stands; listed = n.is.0; of_level = n.is.1 })

  -- ---- doomed nodes, while the desk is in a phase

  module _ (stage : Stage) (phase : IsInPhase acts desk stage) where
    doomed_on : (e : Event) → IsEventAllowed base acts a.desk e → (P : Node → Type 0) → ((n : Node) → P n → IsDoomed n)
        → ((n : Node) (slots : _) → P n → P (record n { slots = slots })) → (q : Tid) → Has g.nodes P q → Has (effect 255 e g).nodes P q
    unfolding g
    doomed_on (Put at list_place version high id bits lists) ok P doomed keeps q has =
        let spot : Place = record { at = at; list_at = list_place; version = version } in
        has_inserted P g.nodes at _ (λ m is p. absurd (true≢false (sym (free_place g at high spot on ok.placed m is).0 ∙ (doomed m p).not_deleted))) q has
    doomed_on (Join at version id) ok P doomed keeps q has =
        has_changed P g at (joined id)
        (λ m is p.
        let same : ok.node ≡ m = same_Some _ _ (sym ok.there.stands ∙ is) in
        let none : length ok.node.ids ≡ 0 = ap (λ (n : Node). length n.ids) same ∙ ap (λ (l : List _). length l) (doomed m p).no_ids in
        absurd (omega (arith, ok.some, none)))
        q has
    doomed_on (Link at list_place version slot to) ok P doomed keeps q has = has_changed P g at (linked slot to) (λ m is p. keeps m _ p) q has
    doomed_on (Relist at list_place version lists) ok P doomed keeps q has = has_changed P g at (relisted lists) (λ m is p. keeps m lists p) q has
    doomed_on (Drop at version gone) ok P doomed keeps q has = absurd (its_phase acts desk a.desk other stage stages.Remove phase ok.phase)
    doomed_on (Mark at list_place version) ok P doomed keeps q has = absurd (its_phase acts desk a.desk other stage stages.Mark phase ok.phase)
    doomed_on (Entry to high) ok P doomed keeps q has = has
    doomed_on (Hint block) ok P doomed keeps q has = has
    doomed_on (IvfAdd block id bits) ok P doomed keeps q has = has
    doomed_on (IvfGrow list last block id bits) ok P doomed keeps q has = has
    doomed_on (IvfDrop block gone) ok P doomed keeps q has = has
    doomed_on (IvfHint list block) ok P doomed keeps q has = has
    doomed_on (Gate gate hold) ok P doomed keeps q has = has
    doomed_on (Ungate gate) ok P doomed keeps q has = has
    doomed_on (Phase s) ok P doomed keeps q has = has
    doomed_on VacuumEnd ok P doomed keeps q has = has
    doomed_on (Cancel s) ok P doomed keeps q has = has
    doomed_on (Settled upto) ok P doomed keeps q has = has
    doomed_on (DiskFaulted count) ok P doomed keeps q has = has

    doomed_back : (e : Event) → IsEventAllowed base acts a.desk e → (q : Tid) → Has (effect 255 e g).nodes IsDoomed q → Has g.nodes IsDoomed q
    unfolding g
    doomed_back (Put at list_place version high id bits lists) ok q has = had_before IsDoomed g at _ (λ p. absurd (not_empty [] id p.no_ids)) q has
    doomed_back (Join at version id) ok q has = had_changed IsDoomed g at (joined id) (λ m is p. absurd (not_empty m.ids id p.no_ids)) q has
    doomed_back (Link at list_place version slot to) ok q has =
        had_changed IsDoomed g at (linked slot to) (λ m is p. record { not_deleted = p.not_deleted; no_ids = p.no_ids }) q has
    doomed_back (Relist at list_place version lists) ok q has =
        had_changed IsDoomed g at (relisted lists) (λ m is p. record { not_deleted = p.not_deleted; no_ids = p.no_ids }) q has
    doomed_back (Drop at version gone) ok q has = absurd (its_phase acts desk a.desk other stage stages.Remove phase ok.phase)
    doomed_back (Mark at list_place version) ok q has = absurd (its_phase acts desk a.desk other stage stages.Mark phase ok.phase)
    doomed_back (Entry to high) ok q has = has
    doomed_back (Hint block) ok q has = has
    doomed_back (IvfAdd block id bits) ok q has = has
    doomed_back (IvfGrow list last block id bits) ok q has = has
    doomed_back (IvfDrop block gone) ok q has = has
    doomed_back (IvfHint list block) ok q has = has
    doomed_back (Gate gate hold) ok q has = has
    doomed_back (Ungate gate) ok q has = has
    doomed_back (Phase s) ok q has = has
    doomed_back VacuumEnd ok q has = has
    doomed_back (Cancel s) ok q has = has
    doomed_back (Settled upto) ok q has = has
    doomed_back (DiskFaulted count) ok q has = has

    -- a node that ids may be dropped of keeps them, and may get more
    Droppable : ℕ → ℕ → Node → Type 0
    Droppable version gone n = (n.version ≡ version) × (n.deleted ≡ false) × (gone < 2 ^ length n.ids)

    droppable_on : (e : Event) → IsEventAllowed base acts a.desk e → (v gone : ℕ) (q : Tid) → Has g.nodes (Droppable v gone) q → Has (effect 255 e g).nodes (Droppable v gone) q
    unfolding g Droppable
    droppable_on (Put at list_place version high id bits lists) ok v gone q has =
        let spot : Place = record { at = at; list_at = list_place; version = version } in
        has_inserted (Droppable v gone) g.nodes at _ (λ m is p. absurd (true≢false (sym (free_place g at high spot on ok.placed m is).0 ∙ p.1))) q has
    droppable_on (Join at version id) ok v gone q has =
        has_changed (Droppable v gone) g at (joined id)
        (λ m is p.
        let more : length (m.ids ++ id ∷ []) ≡ suc (length m.ids) = omega (arith, length-append m.ids (id ∷ [])) in
        let twice : 2 ^ suc (length m.ids) ≡ 2 ^ length m.ids + 2 ^ length m.ids = two-pow-succ (length m.ids) in
        (p.0, p.1, subst (λ (k : ℕ). gone < 2 ^ k) (sym more) (omega (arith, p.2, twice))))
        q has
    droppable_on (Link at list_place version slot to) ok v gone q has = has_changed (Droppable v gone) g at (linked slot to) (λ m is p. p) q has
    droppable_on (Relist at list_place version lists) ok v gone q has = has_changed (Droppable v gone) g at (relisted lists) (λ m is p. p) q has
    droppable_on (Drop at version mask) ok v gone q has = absurd (its_phase acts desk a.desk other stage stages.Remove phase ok.phase)
    droppable_on (Mark at list_place version) ok v gone q has = absurd (its_phase acts desk a.desk other stage stages.Mark phase ok.phase)
    droppable_on (Entry to high) ok v gone q has = has
    droppable_on (Hint block) ok v gone q has = has
    droppable_on (IvfAdd block id bits) ok v gone q has = has
    droppable_on (IvfGrow list last block id bits) ok v gone q has = has
    droppable_on (IvfDrop block offs) ok v gone q has = has
    droppable_on (IvfHint list block) ok v gone q has = has
    droppable_on (Gate gate hold) ok v gone q has = has
    droppable_on (Ungate gate) ok v gone q has = has
    droppable_on (Phase s) ok v gone q has = has
    droppable_on VacuumEnd ok v gone q has = has
    droppable_on (Cancel s) ok v gone q has = has
    droppable_on (Settled upto) ok v gone q has = has
    droppable_on (DiskFaulted count) ok v gone q has = has

  -- ---- live nodes, while the desk holds Update alone

  module _ (alone : HoldsAs acts desk gate.Update Alone) where
    others_do_not : Holds acts a.desk gate.Update → ⊥
    others_do_not h = one_alone acts taken_by_rule gate.Update h.0 desk a.desk other alone h.1

    live_back : (e : Event) → IsEventAllowed base acts a.desk e → (q : Tid) → Has (effect 255 e g).nodes IsLive q → Has g.nodes IsLive q
    unfolding g
    live_back (Put at list_place version high id bits lists) ok q has = absurd (others_do_not ok.update)
    live_back (Join at version id) ok q has = absurd (others_do_not ok.update)
    live_back (Link at list_place version slot to) ok q has = absurd (others_do_not ok.update)
    live_back (Relist at list_place version lists) ok q has = absurd (others_do_not ok.update)
    live_back (Drop at version gone) ok q has =
        had_changed IsLive g at (dropped gone) (λ m is p. record { not_deleted = p.not_deleted; has_ids = λ e. p.has_ids (ap (kept gone) e) }) q has
    live_back (Mark at list_place version) ok q has = had_changed IsLive g at (marked 255) (λ m is p. absurd (true≢false p.not_deleted)) q has
    live_back (Entry to high) ok q has = has
    live_back (Hint block) ok q has = has
    live_back (IvfAdd block id bits) ok q has = has
    live_back (IvfGrow list last block id bits) ok q has = has
    live_back (IvfDrop block gone) ok q has = has
    live_back (IvfHint list block) ok q has = has
    live_back (Gate g1 hold) ok q has = has
    live_back (Ungate g1) ok q has = has
    live_back (Phase s) ok q has = has
    live_back VacuumEnd ok q has = has
    live_back (Cancel s) ok q has = has
    live_back (Settled upto) ok q has = has
    live_back (DiskFaulted count) ok q has = has

    pub live_before : (q : Tid) → Has (effect 255 a.event (after base acts)).nodes IsLive q → Has (after base acts).nodes IsLive q
    unfolding g
    live_before q has = live_back a.event may q has

  -- ---- blocks

  blocks_on : (e : Event) → g.blocks ≤ (effect 255 e g).blocks
  blocks_on (Put at list_place version high id bits lists) = omega arith
  blocks_on (Join at version id) = omega (arith, blocks_changed g at (joined id))
  blocks_on (Link at list_place version slot to) = omega (arith, blocks_changed g at (linked slot to))
  blocks_on (Relist at list_place version lists) = omega (arith, blocks_changed g at (relisted lists))
  blocks_on (Drop at version gone) = omega (arith, blocks_changed g at (dropped gone))
  blocks_on (Mark at list_place version) = omega (arith, blocks_changed g at (marked 255))
  blocks_on (Entry to high) = omega arith
  blocks_on (Hint block) = omega arith
  blocks_on (IvfAdd block id bits) = omega arith
  blocks_on (IvfGrow list last block id bits) = omega arith
  blocks_on (IvfDrop block gone) = omega arith
  blocks_on (IvfHint list block) = omega arith
  blocks_on (Gate g1 hold) = omega arith
  blocks_on (Ungate g1) = omega arith
  blocks_on (Phase s) = omega arith
  blocks_on VacuumEnd = omega arith
  blocks_on (Cancel s) = omega arith
  blocks_on (Settled upto) = omega arith
  blocks_on (DiskFaulted count) = omega arith

  -- ---- no phase begins while the desk holds the gate of vacuums

  BeginsPhase : Event → Type 0
  BeginsPhase (Phase stage) = Unit {0}
  BeginsPhase _ = ⊥

  none_begins : (e : Event) → IsEventAllowed base acts a.desk e → Holds acts desk gate.Vacuum → (IsAPhaseStanding acts → ⊥) → BeginsPhase e → ⊥
  unfolding BeginsPhase
  none_begins (Phase stages.Remove) ok held none begins = one_alone acts taken_by_rule gate.Vacuum held.0 a.desk desk (λ e. other (sym e)) ok.alone held.1
  none_begins (Phase stages.Repair) ok held none begins = none (a.desk, stages.Remove, (ok.1.begun, ok.1.phase))
  none_begins (Phase stages.Mark) ok held none begins = none (a.desk, stages.Repair, (ok.begun, ok.phase))
  none_begins (Put at list_at version level id bits lists) ok held none begins = begins
  none_begins (Join at version id) ok held none begins = begins
  none_begins (Link at list_at version slot to) ok held none begins = begins
  none_begins (Relist at list_at version lists) ok held none begins = begins
  none_begins (Drop at version gone) ok held none begins = begins
  none_begins (Mark at list_at version) ok held none begins = begins
  none_begins (Entry to level) ok held none begins = begins
  none_begins (Hint block) ok held none begins = begins
  none_begins (IvfAdd block id bits) ok held none begins = begins
  none_begins (IvfGrow list last block id bits) ok held none begins = begins
  none_begins (IvfDrop block gone) ok held none begins = begins
  none_begins (IvfHint list block) ok held none begins = begins
  none_begins (Gate g1 hold) ok held none begins = begins
  none_begins (Ungate g1) ok held none begins = begins
  none_begins VacuumEnd ok held none begins = begins
  none_begins (Cancel s) ok held none begins = begins
  none_begins (Settled upto) ok held none begins = begins
  none_begins (DiskFaulted count) ok held none begins = begins

  none_stands : Holds acts desk gate.Vacuum → (IsAPhaseStanding acts → ⊥) → IsAPhaseStanding (acts ++ a ∷ []) → ⊥
  unfolding BeginsPhase
  none_stands held none s =
      let since = s.2.1 in
      elim (in_one_more acts a s.2.0 _ since.begun) as (λ _. ⊥) [
        | inl there ↦ none (s.0, s.1, (s.2.0, record { begun = there; stands = λ j b after is p. since.stands j b after (in_longer acts (a ∷ []) j b is) p }))
        | inr last ↦ none_begins a.event may held none (subst (λ (b : Act). BeginsPhase b.event) (sym last.1) tt)
      ]

  -- ---- what is asked

  doomed_has : (h : Graph) (q : Tid) → IsDoomedAt h q → Has h.nodes IsDoomed q
  doomed_has h q d = record { node = d.node; stands = d.stands; is = d.doomed }

  has_doomed : (h : Graph) (q : Tid) → Has h.nodes IsDoomed q → IsDoomedAt h q
  has_doomed h q d = record { node = d.node; stands = d.stands; doomed = d.is }

  no_more_doomed : (stage : Stage) → IsInPhase acts desk stage → (q : Tid) → IsDoomedAt (after base (acts ++ a ∷ [])) q → IsDoomedAt (after base acts) q
  unfolding g g'
  no_more_doomed stage phase q d =
      has_doomed (after base acts) q (doomed_back stage phase a.event may q (doomed_has g' q (subst (λ h. IsDoomedAt h q) now d)))

  no_fewer_doomed : (stage : Stage) → IsInPhase acts desk stage → (q : Tid) → IsDoomedAt (after base acts) q → IsDoomedAt (after base (acts ++ a ∷ [])) q
  unfolding g g'
  no_fewer_doomed stage phase q d =
      subst (λ h. IsDoomedAt h q) (sym now)
      (has_doomed g' q (doomed_on stage phase a.event may IsDoomed (λ n p. p) (λ n slots p. record { not_deleted = p.not_deleted; no_ids = p.no_ids }) q (doomed_has (after base acts) q d)))

  drop_on : (at : Tid) (version gone : ℕ) → IsDropAllowed base acts desk at version gone → IsDropAllowed base (acts ++ a ∷ []) desk at version gone
  unfolding g g' Droppable
  drop_on at version gone k =
      let n = droppable_on stages.Remove k.phase a.event may version gone at
      (record { node = k.node; stands = k.there.stands; is = (k.there.of_version, k.there.not_deleted, k.names_no_others) }) in
      record {
        phase = in_phase_on stages.Remove k.phase;
        node = n.node;
        there = subst (λ h. IsThere h at version n.node) (sym now) (record { stands = n.stands; of_version = n.is.0; not_deleted = n.is.1 });
        names_some = k.names_some;
        names_no_others = n.is.2;
      }

  Markable : Tid → ℕ → Node → Type 0
  Markable list_at version n = (n.version ≡ version) × (n.list_at ≡ list_at) × IsDoomed n

  mark_on : (at list_at : Tid) (version : ℕ) → IsMarkAllowed base acts desk at list_at version → IsMarkAllowed base (acts ++ a ∷ []) desk at list_at version
  unfolding g g' Markable
  mark_on at list_at version k =
      let n = doomed_on stages.Mark k.phase a.event may (Markable list_at version) (λ n p. p.2)
      (λ n slots p. (p.0, p.1, record { not_deleted = p.2.not_deleted; no_ids = p.2.no_ids })) at
      (record { node = k.node; stands = k.there.stands; is = (k.there.of_version, k.listed, k.doomed) }) in
      record {
        phase = in_phase_on stages.Mark k.phase;
        node = n.node;
        there = subst (λ h. IsThere h at version n.node) (sym now) (record { stands = n.stands; of_version = n.is.0; not_deleted = n.is.2.not_deleted });
        listed = n.is.1;
        doomed = n.is.2;
      }

  entry_on : (to : Option Tid) (level : ℕ) → IsEntryAllowed base acts desk to level → IsEntryAllowed base (acts ++ a ∷ []) desk to level
  unfolding g g'
  entry_on (Some to) level k =
      let n = stands_on to k.node.list_at level (record { node = k.node; stands = k.stands; listed = refl; of_level = k.of_level }) in
      record {
        update = holds_on acts a desk other gate.Update k.update;
        node = n.node;
        stands = n.stands;
        of_level = n.of_level;
        known = knows_on acts a desk other base to level k.known;
      }
  entry_on None level k = record {
    alone = holds_as_on acts a desk other gate.Update Alone k.alone;
    level_0 = k.level_0;
    none_live = λ at live.
        let there : IsLiveAt g' at 0 = subst (λ h. IsLiveAt h at 0) now live in
        let was = live_back k.alone a.event may at (record { node = there.node; stands = there.stands; is = there.live }) in
        k.none_live at (record { node = was.node; stands = was.stands; live = was.is; reaches = omega arith });
  }

  hint_on : (block : ℕ) → IsHintAllowed base acts desk block → IsHintAllowed base (acts ++ a ∷ []) desk block
  unfolding g g'
  hint_on block k = record {
    holds = elim k.holds [
      | inl update ↦ inl (holds_on acts a desk other gate.Update update)
      | inr vacuum ↦ inr (holds_on acts a desk other gate.Vacuum vacuum)
    ];
    counted_from_1 = k.counted_from_1;
    within = omega (arith, k.within, blocks_on a.event, ap (λ (h : Graph). h.blocks) now);
  }

  phase_asked_on : (stage : Stage) → IsPhaseAllowed base acts desk stage → IsPhaseAllowed base (acts ++ a ∷ []) desk stage
  phase_asked_on stages.Remove k = record {
    alone = holds_as_on acts a desk other gate.Vacuum Alone k.alone;
    no_phase = none_stands (Alone, k.alone) k.no_phase;
  }
  phase_asked_on stages.Repair k =
      let phase : IsInPhase acts desk stages.Remove = (k.1.begun, k.1.phase) in
      (k.0, removed_on acts a desk other k.0 (no_vacuum base acts desk a.desk other a.event may stages.Remove phase) (no_drop base acts desk a.desk other a.event may stages.Remove phase) k.1)
  phase_asked_on stages.Mark k = repaired_on acts a desk other base (no_vacuum base acts desk a.desk other a.event may stages.Repair (k.begun, k.phase)) k

  end_on : IsVacuumEndAllowed base acts desk → IsVacuumEndAllowed base (acts ++ a ∷ []) desk
  end_on k = record { phase = in_phase_on stages.Mark k.phase; none_doomed = λ at d. k.none_doomed at (no_more_doomed stages.Mark k.phase at d) }

  cancel_on : (stage : Stage) → IsCancelAllowed base acts desk stage → IsCancelAllowed base (acts ++ a ∷ []) desk stage
  cancel_on stage k = record {
    phase = in_phase_on stage k.phase;
    not_done = λ v.
        k.not_done
        (record { phase = (v.phase.0, phase_back acts a desk other stages.Mark v.phase.0 v.phase.1); none_doomed = λ at d. v.none_doomed at (no_fewer_doomed stage k.phase at d) });
  }

  pub one_on : (e : Event) → IsAsked base acts desk e → IsAsked base (acts ++ a ∷ []) desk e
  unfolding g
  one_on (Put at list_at version level id bits lists) k = record {
    update = holds_on acts a desk other gate.Update k.update;
    as_long = k.as_long;
    not_high = k.not_high;
    as_many = k.as_many;
    known = λ layer to m. knows_on acts a desk other base to layer (k.known layer to m);
  }
  one_on (Join at version id) k = holds_on acts a desk other gate.Update k
  one_on (Link at list_at version slot to) k = record {
    update = holds_on acts a desk other gate.Update k.update;
    level = k.level;
    owner = stands_on at list_at k.level k.owner;
    slot_is = k.slot_is;
    known = knows_on acts a desk other base to _ k.known;
  }
  one_on (Relist at list_at version lists) k = record {
    update = holds_on acts a desk other gate.Update k.update;
    level = k.level;
    owner = stands_on at list_at k.level k.owner;
    as_many = k.as_many;
    known = λ layer to m. knows_on acts a desk other base to layer (k.known layer to m);
  }
  one_on (Drop at version gone) k = drop_on at version gone k
  one_on (Mark at list_at version) k = mark_on at list_at version k
  one_on (Entry to level) k = entry_on to level k
  one_on (Hint block) k = hint_on block k
  one_on (Gate g1 hold) k = λ h. k (holds_back acts a desk other g1 h)
  one_on (Ungate g1) k = record {
    held = holds_on acts a desk other g1 k.held;
    no_phase = λ is s. none_stands (subst (λ x. Holds acts desk x) is k.held) (k.no_phase is) s;
  }
  one_on (Phase stage) k = phase_asked_on stage k
  one_on VacuumEnd k = end_on k
  one_on (Cancel stage) k = cancel_on stage k
  one_on (IvfAdd block id bits) k = absurd k
  one_on (IvfGrow list last block id bits) k = absurd k
  one_on (IvfDrop block gone) k = absurd k
  one_on (IvfHint list block) k = absurd k
  one_on (Settled upto) k = absurd k
  one_on (DiskFaulted count) k = absurd k

-- ---- a history

along : (base : Graph) (before acts : List Act) → IsLegal base before → IsLegalAfter (IsAllowed base) before acts → IsOnBlocks (after base before) → (desk : ℕ) (e : Event)
    → ((k : ℕ) (a : Act) → slice_get acts k ≡ Some a → a.desk ≢ desk) → IsAsked base before desk e → IsAsked base (before ++ acts) desk e
along base before [] was legal on desk e others asked = subst (λ h. IsAsked base h desk e) (sym (append-nil before)) asked
along base before (a ∷ acts) was legal on desk e others asked =
    let one = sym (after_append base before (a ∷ [])) in
    let on_later = subst IsOnBlocks one (on_effect a.event (after base before) on) in
    let asked_later = one_on base before was on a legal.0 desk (others 0 a refl) e asked in
    let legal_later : IsLegal base (before ++ a ∷ []) = more_after (IsAllowed base) [] before a was legal.0 in
    subst (λ h. IsAsked base h desk e) (append_assoc before (a ∷ []) acts)
    (along base (before ++ a ∷ []) acts legal_later legal.1 on_later desk e (λ k b is. others (suc k) b is) asked_later)

in_rest : {X : Type 0} (n : ℕ) (xs : List X) (k : ℕ) (x : X) → slice_get (drop n xs) k ≡ Some x → slice_get xs (n + k) ≡ Some x
in_rest zero xs k x is =
    let same : k ≡ 0 + k = omega arith in
    subst (λ (i : ℕ). slice_get xs i ≡ Some x) same is
in_rest (suc n) [] k x is = absurd (none-some x is)
in_rest (suc n) (y ∷ ys) k x is =
    let same : suc (n + k) ≡ suc n + k = omega arith in
    subst (λ (i : ℕ). slice_get (y ∷ ys) i ≡ Some x) same (in_rest n ys k x is)

pub later : (base : Graph) (acts : List Act) → IsLegal base acts → (n desk : ℕ) (e : Event) → IsOnBlocks (state_after base acts n)
    → ((k : ℕ) (a : Act) → n ≤ k → slice_get acts k ≡ Some a → a.desk ≢ desk) → IsAsked base (take n acts) desk e → IsAsked base acts desk e
later base acts legal n desk e on others asked =
    subst (λ h. IsAsked base h desk e) (take-append-drop n acts)
    (along base (take n acts) (drop n acts) (cut_after (IsAllowed base) [] acts n legal) (rest_after (IsAllowed base) [] acts n legal) on desk e
    (λ k a is. others (n + k) a (omega arith) (in_rest n acts k a is)) asked)
