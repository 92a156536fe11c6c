-- The law, act by act.
use Rattle.std.proofs.Common.{◌<◌, ◌≡◌, ◌⊎◌, inl, inr, ℕ, ◌+◌, ◌-◌, ◌/◌, ◌≤◌, List, [], ◌∷◌, ◌++◌, take, length, refl, sym, subst, ◌∙◌, arith}
use Rattle.std.proofs.lemmas.Option.{slice_get_within, same_Some, none-some}
use Rattle.std.proofs.lemmas.List.{length-take-le}
use Rattle.vec_names.specs.declared.tid.Tid.{Tid}
use Rattle.vec_history.specs.declared.event.Event.TheVariants as event
use Rattle.vec_history.specs.declared.event.Act.{Act}
use Rattle.vec_history.specs.declared.gate.Gate.TheVariants.{Scan}
use Rattle.vec_history.specs.declared.gate.Hold.{Hold}
use Rattle.vec_history.specs.declared.stage.Stage.TheVariants as stages
use Rattle.vec_history.specs.Acts.{IsActAt}
use Rattle.vec_history.specs.Gates.{HoldsSince}
use Rattle.vec_history.specs.Phases.{IsInPhase}
use Rattle.list_values.proofs.Parts.{in_part, in_whole, in_order}
use Rattle.vec_graph.specs.declared.graph.Graph.{Graph}
use Rattle.vec_graph.specs.Graph.{HasLevel, IsLive, IsLiveAt, IsDoomedAt, IsUndeletedAt, HasMember}
use Rattle.vec_graph.specs.Places.{IsOnBlocks}
use Rattle.vec_graph.specs.Effect.{after, state_after}
use Rattle.vec_graph.specs.Knowing.{Knows}
use Rattle.vec_graph.specs.Rules.{IsMarkAllowed}
use Rattle.vec_graph.specs.Legal.{IsAllowed, IsLegal}
use Rattle.vec_graph.specs.Sound.{IsSound, IsAsHigh}
use Rattle.vec_graph.proofs.Placing.{on_blocks_after}
use Rattle.vec_graph.proofs.Levels.{level_stays}
use Rattle.graph_law.specs.Reaching.{IsRootWith, is_entry, is_live, is_more, IsSoundWith}
use Rattle.vec_graph.specs.Sound.{IsReachedFrom, from_root, through}
use Rattle.graph_law.specs.Touching.{IsTouchedAt, IsTouched}
use Rattle.graph_law.specs.Standing.{IsSinceMark, IsInHand, IsCleanFrom, IsLawful}
use Rattle.vec_graph.specs.Knowing.{IsKnown}
use Rattle.graph_law.proofs.Soundness.{sound_through, sound_by, sound_of, sound_with}
use Rattle.vec_graph.proofs.Steps.{IsStep}
use Rattle.vec_history.proofs.ByActs.{by_acts, cut, more, allowed_at}
use Rattle.vec_graph.proofs.Lasting.{gates_of, same_state, last_state}
use Rattle.vec_history.proofs.OneMore.{place_of}
use Rattle.vec_history.proofs.Alone.{not_before_alone}
use Rattle.graph_law.proofs.Known.{step_of, live_behind, known_live}
use Rattle.graph_law.proofs.Clean.{live_not_doomed, behind_before, no_drop_last, members_clean, entry_clean}
use Rattle.graph_law.proofs.Touched.{touched_within, touched_in, touched_before, touched_now, scan_before, in_hand_reached}
use Rattle.graph_law.proofs.Marking.{states_in, cleaned_from, barrier, barrier_before, taken_alone, clean_in_mark}

-- ---- nodes

-- a node that is not deleted and not doomed is live
undoomed : (g : Graph) (q : Tid) → IsUndeletedAt g q → (IsDoomedAt g q → ⊥) → IsLiveAt g q 0
undoomed g q u not = record {
  node = u.node;
  stands = u.stands;
  live = record { not_deleted = u.not_deleted; has_ids = λ none. not (record { node = u.node; stands = u.stands; doomed = record { not_deleted = u.not_deleted; no_ids = none } }) };
  reaches = omega arith;
}

undeleted : (g : Graph) (q : Tid) (layer : ℕ) → IsLiveAt g q layer → IsUndeletedAt g q
undeleted g q layer l = record { node = l.node; stands = l.stands; not_deleted = l.live.not_deleted }

-- a node that has a member in a layer reaches that layer
live_at_layer : (g : Graph) (q : Tid) (layer : ℕ) (to : Tid) → IsLiveAt g q 0 → HasMember g q layer to → IsLiveAt g q layer
live_at_layer g q layer to l has =
    let s : ℕ = has.member.slot / g.params.m in
    let within : has.node.level - s ≡ layer = has.member.within in
    record {
      node = has.node;
      stands = has.stands;
      live = subst IsLive (same_Some _ _ (sym l.stands ∙ has.stands)) l.live;
      reaches = omega (arith, within);
    }

as_high : (g : Graph) (q : Tid) (layer level : ℕ) → layer ≤ level → HasLevel g q level → IsAsHigh g q layer
as_high g q layer level low has = record { node = has.node; stands = has.stands; reaches = omega (arith, low, has.of_level) }

module _ (base : Graph) (on : IsOnBlocks base) where
  -- ---- levels stay

  pub high_after : (acts : List Act) → IsLegal base acts → (n : ℕ) (q : Tid) (layer : ℕ) → IsAsHigh (state_after base acts n) q layer → IsAsHigh (after base acts) q layer
  high_after acts legal n q layer h =
      as_high (after base acts) q layer h.node.level h.reaches (level_stays base acts n q h.node.level legal (on_blocks_after base (take n acts) on) (record { node = h.node; stands = h.stands; of_level = refl }))

  known_high : (acts : List Act) → IsLegal base acts → (desk : ℕ) (q : Tid) (layer : ℕ) → Knows base acts desk q layer → IsAsHigh (after base acts) q layer
  known_high acts legal desk q layer k =
      high_after acts legal k.position q layer (record { node = k.was_live.node; stands = k.was_live.stands; reaches = k.was_live.reaches })

  -- ---- where all was cleaned, what is reached from live nodes is live

  module _ (acts : List Act) (legal : IsLegal base acts) (p : ℕ) (clean : IsCleanFrom base acts p) (More : Tid → Type 0)
      (sound : IsSoundWith (after base acts) More) (more_live : (q : Tid) → More q → IsLiveAt (after base acts) q 0) where
    pub all_live : (q : Tid) → IsReachedFrom (after base acts) (IsRootWith (after base acts) More) q → IsLiveAt (after base acts) q 0
    all_live q (from_root _ (is_entry _ e)) = undoomed (after base acts) q (sound.not_deleted q (from_root q (is_entry q e))) (entry_clean base on acts legal p clean q e)
    all_live q (from_root _ (is_live _ l)) = l
    all_live q (from_root _ (is_more _ m)) = more_live q m
    all_live q (through at layer _ r has) =
        undoomed (after base acts) q (sound.not_deleted q (through at layer q r has))
        (members_clean base on acts legal p clean at layer q (live_at_layer (after base acts) at layer q (all_live at r) has) has)

  -- ---- what is in hand in phase Mark is live

  module _ (acts : List Act) (legal : IsLegal base acts) (lawful : IsLawful base acts) (desk m : ℕ) (phase : IsInPhase acts desk stages.Mark) where
    clean_now : IsCleanFrom base acts (barrier base acts legal desk phase.0 phase.1)
    clean_now = clean_in_mark base acts legal desk phase.0 phase.1

    scan_live : (reader since : ℕ) (hold : Hold) (q : Tid) → HoldsSince acts reader Scan hold since → IsTouched base acts since q → IsLiveAt (after base acts) q 0
    scan_live reader since hold q s t =
        let not_before = not_before_alone acts (gates_of base acts legal) Scan hold reader desk since (barrier base acts legal desk phase.0 phase.1)
        (taken_alone base acts legal desk phase.0 phase.1) s in
        lawful.touched_live reader since (barrier base acts legal desk phase.0 phase.1) hold q s clean_now not_before t

    hand_live : (q : Tid) → IsInHand base acts q → IsLiveAt (after base acts) q 0
    hand_live q (inl k) =
        let l = known_live base on acts legal clean_now.barrier clean_now.behind k.desk q k.layer k.knows in
        record { node = l.node; stands = l.stands; live = l.live; reaches = omega arith }
    hand_live q (inr (inl s)) = scan_live s.desk s.since s.hold q s.holds s.touched
    hand_live q (inr (inr m)) =
        elim (in_order phase.0 m.position) as (λ _. IsLiveAt (after base acts) q 0) [
          | inl before ↦
              let first = clean_now.later in
              let second = barrier_before base acts legal desk phase.0 phase.1 in
              live_behind base on acts legal clean_now.barrier clean_now.behind m.position (omega (arith, first, second, before)) m.met q 0 m.was_live
          | inr (inl same) ↦ absurd (m.none_later phase.0 desk (omega (arith, same)) phase.1.begun)
          | inr (inr behind) ↦ absurd (m.none_later phase.0 desk (omega (arith, behind)) phase.1.begun)
        ]

    reached_live : (q : Tid) → IsReachedFrom (after base acts) (IsRootWith (after base acts) (IsInHand base acts)) q → IsLiveAt (after base acts) q 0
    reached_live = all_live acts legal (barrier base acts legal desk phase.0 phase.1) clean_now (IsInHand base acts) lawful.sound hand_live

  -- ---- one more act

  module _ (acts : List Act) (legal : IsLegal base acts) (lawful : IsLawful base acts) (a : Act) (may : IsAllowed base acts a) where
    later : List Act
    later = acts ++ a ∷ []

    legal_later : IsLegal base (acts ++ a ∷ [])
    legal_later = more (IsAllowed base) acts a legal may

    here : IsStep base acts a.desk a.event (after base acts) (after base (acts ++ a ∷ []))
    here = step_of base on acts a may

    Reached : Tid → Type 0
    Reached q = IsReachedFrom (after base acts) (IsRootWith (after base acts) (IsInHand base acts)) q

    Part : Tid → Type 0
    Part q = Reached q ⊎ IsLiveAt (after base (acts ++ a ∷ [])) q 0

    by_knowing : (q : Tid) → IsKnown base acts q → Reached q
    unfolding Reached
    by_knowing q k = from_root q (is_more q (inl k))

    roots : (q : Tid) → IsRootWith (after base (acts ++ a ∷ [])) (IsInHand base acts) q → Part q
    unfolding Part Reached
    roots q (is_entry _ e) =
        elim (here.entry_back q e) as (λ _. Part q) [
          | inl was ↦ inl (from_root q (is_entry q was))
          | inr known ↦ inl (by_knowing q known)
        ]
    roots q (is_live _ l) = inr l
    roots q (is_more _ m) = inl (from_root q (is_more q m))

    good : (q : Tid) → Part q → IsUndeletedAt (after base (acts ++ a ∷ [])) q
    unfolding Part Reached
    good q (inl r) =
        elim (here.undeleted_on q (lawful.sound.not_deleted q r)) as (λ _. IsUndeletedAt (after base (acts ++ a ∷ [])) q) [
          | inl now ↦ now
          | inr marked ↦ absurd (live_not_doomed (after base acts) q 0 (reached_live acts legal lawful a.desk 0 marked.1 q r) marked.0)
        ]
    good q (inr l) = undeleted (after base (acts ++ a ∷ [])) q 0 l

    high_later : (q : Tid) (layer : ℕ) → IsAsHigh (after base acts) q layer → IsAsHigh (after base (acts ++ a ∷ [])) q layer
    high_later q layer h =
        let same = same_state base acts a (length acts) (omega arith) ∙ last_state base acts (length acts) (omega arith) in
        high_after (acts ++ a ∷ []) legal_later (length acts) q layer (subst (λ (g : Graph). IsAsHigh g q layer) (sym same) h)

    reached_if_stood : (q : Tid) → Part q → IsUndeletedAt (after base acts) q → Reached q
    unfolding Part Reached
    reached_if_stood q (inl r) u = r
    reached_if_stood q (inr l) u =
        elim (here.live_back q 0 l) as (λ _. Reached q) [
          | inl live ↦ from_root q (is_live q live)
          | inr new ↦ absurd (new u)
        ]

    closed : (q : Tid) (layer : ℕ) (to : Tid) → Part q → HasMember (after base (acts ++ a ∷ [])) q layer to → Part to × IsAsHigh (after base (acts ++ a ∷ [])) to layer
    unfolding Part Reached
    closed q layer to part has =
        elim (here.member_back q layer to (good q part) has) as (λ _. Part to × IsAsHigh (after base (acts ++ a ∷ [])) to layer) [
          | inl was ↦
              let r = reached_if_stood q part was.0 in
              (inl (through q layer to r was.1), high_later to layer (lawful.sound.high_enough q layer to r was.1))
          | inr known ↦
              (inl (by_knowing to (record { desk = a.desk; layer = layer; knows = known })), high_later to layer (known_high acts legal a.desk to layer known))
        ]

    -- sound from what was in hand before, and so from what is in hand now
    sound_before : IsSoundWith (after base (acts ++ a ∷ [])) (IsInHand base acts)
    sound_before = sound_by (after base (acts ++ a ∷ [])) (IsRootWith (after base (acts ++ a ∷ [])) (IsInHand base acts)) Part roots closed good

    now_reached : (q : Tid) → IsRootWith (after base (acts ++ a ∷ [])) (IsInHand base (acts ++ a ∷ [])) q
        → IsReachedFrom (after base (acts ++ a ∷ [])) (IsRootWith (after base (acts ++ a ∷ [])) (IsInHand base acts)) q
    now_reached q (is_entry _ e) = from_root q (is_entry q e)
    now_reached q (is_live _ l) = from_root q (is_live q l)
    now_reached q (is_more _ m) = in_hand_reached base acts a q m

    sound_now : IsSoundWith (after base (acts ++ a ∷ [])) (IsInHand base (acts ++ a ∷ []))
    sound_now = sound_through (after base (acts ++ a ∷ [])) (IsRootWith (after base (acts ++ a ∷ [])) (IsInHand base acts))
        (IsRootWith (after base (acts ++ a ∷ [])) (IsInHand base (acts ++ a ∷ []))) now_reached sound_before

    -- ---- what a scan has touched behind the barrier

    module _ (desk since p : ℕ) (hold : Hold) (holds : HoldsSince (acts ++ a ∷ []) desk Scan hold since) (clean : IsCleanFrom base (acts ++ a ∷ []) p) (p_low : p ≤ since) where
      clean_before : p ≤ length acts → IsCleanFrom base acts p
      clean_before low =
          let later_b = clean.later in
          record {
            barrier = clean.barrier;
            behind = behind_before acts a clean.barrier (omega (arith, later_b, low)) clean.behind;
            later = later_b;
            met = low;
            cleaned = cleaned_from base (acts ++ a ∷ []) acts (length acts) (clean.barrier + 1) p (omega (arith, later_b, low)) low (λ i h. same_state base acts a i h) clean.cleaned;
          }

      was_live : (q : Tid) → IsTouched base acts since q → IsLiveAt (after base (acts ++ a ∷ [])) q 0
      was_live q t =
          let within = touched_within base acts since t.position q t.is in
          let low : p ≤ length acts = omega (arith, p_low, within.0, within.1) in
          let later_b = clean.later in
          let before = lawful.touched_live desk since p hold q (scan_before base acts a desk since hold holds q t) (clean_before low) p_low t in
          elim (here.live_on q 0 before) as (λ _. IsLiveAt (after base (acts ++ a ∷ [])) q 0) [
            | inl now ↦ now
            | inr drop ↦ absurd (no_drop_last acts a clean.barrier (omega (arith, later_b, low)) clean.behind drop)
          ]

      fewer : (q : Tid) → IsRootWith (after base (acts ++ a ∷ [])) (IsTouched base acts since) q
          → IsReachedFrom (after base (acts ++ a ∷ [])) (IsRootWith (after base (acts ++ a ∷ [])) (IsInHand base acts)) q
      fewer q (is_entry _ e) = from_root q (is_entry q e)
      fewer q (is_live _ l) = from_root q (is_live q l)
      fewer q (is_more _ t) =
          from_root q (is_more q (inr (inl (record { desk = desk; hold = hold; since = since; holds = scan_before base acts a desk since hold holds q t; touched = t }))))

      sound_here : IsSoundWith (after base (acts ++ a ∷ [])) (IsTouched base acts since)
      sound_here = sound_through (after base (acts ++ a ∷ [])) (IsRootWith (after base (acts ++ a ∷ [])) (IsInHand base acts))
          (IsRootWith (after base (acts ++ a ∷ [])) (IsTouched base acts since)) fewer sound_before

      touched_live_now : (q : Tid) → IsTouched base (acts ++ a ∷ []) since q → IsLiveAt (after base (acts ++ a ∷ [])) q 0
      touched_live_now q t =
          let within = touched_within base (acts ++ a ∷ []) since t.position q t.is in
          elim (place_of acts a t.position within.1) as (λ _. IsLiveAt (after base (acts ++ a ∷ [])) q 0) [
            | inl low ↦ was_live q (touched_before base acts a since t.position q low t.is)
            | inr last ↦
                all_live (acts ++ a ∷ []) legal_later p clean (IsTouched base acts since) sound_here was_live q (touched_now base acts a since t.position q t.is last)
          ]

    lawful_now : IsLawful base (acts ++ a ∷ [])
    lawful_now = record {
      sound = sound_now;
      touched_live = λ desk since p hold q holds clean p_low t. touched_live_now desk since p hold holds clean p_low q t;
    }

  -- ---- any legal history

  first_roots : (q : Tid) → IsRootWith base (IsInHand base []) q → IsReachedFrom base (IsRootWith base (λ _. ⊥)) q
  first_roots q (is_entry _ e) = from_root q (is_entry q e)
  first_roots q (is_live _ l) = from_root q (is_live q l)
  first_roots q (is_more _ (inl k)) = absurd (none-some _ k.knows.holds.taken)
  first_roots q (is_more _ (inr (inl s))) = absurd (none-some _ s.holds.taken)
  first_roots q (is_more _ (inr (inr m))) = from_root q (is_live q (subst (λ (h : Graph). IsLiveAt h q 0) (last_state base [] m.position (omega arith)) m.was_live))

  -- what was touched by a position, in the front of the history up to there
  touched_front : (acts : List Act) (n since p : ℕ) (q : Tid) → n ≤ length acts → IsTouchedAt base acts since p q → p ≤ n → IsTouched base (take n acts) since q
  touched_front acts n since p q met t low =
      let long : length (take n acts) ≡ n = length-take-le n acts met in
      record { position = p; is = touched_in base acts (take n acts) since n (omega (arith, long)) (λ i h. sym (states_in base acts n i h)) p q t low }

  module _ (sound : IsSound base) where
    at_first : IsLawful base []
    at_first = record {
      sound = sound_through base (IsRootWith base (λ _. ⊥)) (IsRootWith base (IsInHand base [])) first_roots (sound_with base (λ _. ⊥) (λ q none. none) sound);
      touched_live = λ desk since p hold q holds clean p_low t. absurd (none-some _ holds.taken);
    }

    pub lawful : (acts : List Act) → IsLegal base acts → IsLawful base acts
    lawful = by_acts (IsAllowed base) (IsLawful base) (λ acts legal a may was. lawful_now acts legal was a may) at_first

    pub sound_at : (acts : List Act) → IsLegal base acts → (n : ℕ) → IsSound (state_after base acts n)
    sound_at acts legal n = sound_of (state_after base acts n) (IsInHand base (take n acts)) (lawful (take n acts) (cut (IsAllowed base) acts n legal)).sound

    -- what a desk knows is not deleted, and as high as it knows it
    pub known_stands : (acts : List Act) → IsLegal base acts → (desk : ℕ) (q : Tid) (layer : ℕ) → Knows base acts desk q layer → IsUndeletedAt (after base acts) q × IsAsHigh (after base acts) q layer
    known_stands acts legal desk q layer k =
        ((lawful acts legal).sound.not_deleted q (from_root q (is_more q (inl (record { desk = desk; layer = layer; knows = k })))), known_high acts legal desk q layer k)

    -- from the entry point and every node that was live since phase Mark last began
    marked_roots : (acts : List Act) (q : Tid) → IsRootWith (after base acts) (IsSinceMark base acts) q → IsReachedFrom (after base acts) (IsRootWith (after base acts) (IsInHand base acts)) q
    marked_roots acts q (is_entry _ e) = from_root q (is_entry q e)
    marked_roots acts q (is_live _ l) = from_root q (is_live q l)
    marked_roots acts q (is_more _ m) = from_root q (is_more q (inr (inr m)))

    pub sound_since_mark : (acts : List Act) → IsLegal base acts → IsSoundWith (after base acts) (IsSinceMark base acts)
    sound_since_mark acts legal =
        sound_through (after base acts) (IsRootWith (after base acts) (IsInHand base acts)) (IsRootWith (after base acts) (IsSinceMark base acts)) (marked_roots acts) (lawful acts legal).sound

    -- ---- scans

    pub touched_not_deleted : (acts : List Act) → IsLegal base acts → (desk since : ℕ) (hold : Hold) (q : Tid) → HoldsSince acts desk Scan hold since
        → IsTouched base acts since q → IsUndeletedAt (after base acts) q
    touched_not_deleted acts legal desk since hold q holds t =
        (lawful acts legal).sound.not_deleted q (from_root q (is_more q (inr (inl (record { desk = desk; hold = hold; since = since; holds = holds; touched = t })))))

    pub named_high : (acts : List Act) → IsLegal base acts → (desk since layer before p : ℕ) (hold : Hold) (owner q : Tid) → HoldsSince acts desk Scan hold since
        → IsTouchedAt base acts since before owner → before ≤ p → p ≤ length acts → HasMember (state_after base acts p) owner layer q → IsAsHigh (after base acts) q layer
    named_high acts legal desk since layer before p hold owner q holds touched order met member =
        let within = touched_within base acts since before owner touched in
        let long : length (take p acts) ≡ p = length-take-le p acts met in
        let holds_then : HoldsSince (take p acts) desk Scan hold since = record {
          taken = in_part p acts since _ (omega (arith, within.0, order)) holds.taken;
          kept = λ i a after_since is of. holds.kept i a after_since (in_whole p acts i a is) of;
        } in
        let root : IsInHand base (take p acts) owner =
        inr (inl (record { desk = desk; hold = hold; since = since; holds = holds_then; touched = touched_front acts p since before owner met touched order })) in
        high_after acts legal p q layer ((lawful (take p acts) (cut (IsAllowed base) acts p legal)).sound.high_enough owner layer q (from_root owner (is_more owner root)) member)

    pub touched_not_marked : (acts : List Act) → IsLegal base acts → (n desk marker since version : ℕ) (hold : Hold) (q list_at : Tid)
        → IsActAt acts n marker (event.Mark q list_at version) → HoldsSince (take n acts) desk Scan hold since → IsTouched base (take n acts) since q → ⊥
    touched_not_marked acts legal n desk marker since version hold q list_at is holds t =
        let rule : IsMarkAllowed base (take n acts) marker q list_at version = allowed_at (IsAllowed base) acts n _ legal is in
        let legal_then = cut (IsAllowed base) acts n legal in
        live_not_doomed (after base (take n acts)) q 0
        (scan_live (take n acts) legal_then (lawful (take n acts) legal_then) marker 0 rule.phase desk since hold q holds t)
        (record { node = rule.node; stands = rule.there.stands; doomed = rule.doomed })

  -- ---- what a desk knows

  pub known_not_marked : (acts : List Act) → IsLegal base acts → (n desk marker layer version : ℕ) (q list_at : Tid) → IsActAt acts n marker (event.Mark q list_at version)
      → Knows base (take n acts) desk q layer → ⊥
  known_not_marked acts legal n desk marker layer version q list_at is k =
      let rule : IsMarkAllowed base (take n acts) marker q list_at version = allowed_at (IsAllowed base) acts n _ legal is in
      let legal_then = cut (IsAllowed base) acts n legal in
      let clean = clean_in_mark base (take n acts) legal_then marker rule.phase.0 rule.phase.1 in
      live_not_doomed (after base (take n acts)) q layer
      (known_live base on (take n acts) legal_then clean.barrier clean.behind desk q layer k)
      (record { node = rule.node; stands = rule.there.stands; doomed = rule.doomed })

  -- ---- scans, by positions

  module _ (sound : IsSound base) (acts : List Act) (legal : IsLegal base acts) where
    pub scan_not_deleted : (n desk since p : ℕ) (hold : Hold) (q : Tid) → n ≤ length acts → HoldsSince (take n acts) desk Scan hold since → IsTouchedAt base acts since p q → p ≤ n
        → IsUndeletedAt (state_after base acts n) q
    scan_not_deleted n desk since p hold q met holds t low =
        touched_not_deleted sound (take n acts) (cut (IsAllowed base) acts n legal) desk since hold q holds (touched_front acts n since p q met t low)

    pub scan_high : (n desk since before p layer : ℕ) (hold : Hold) (owner q : Tid) → n ≤ length acts → HoldsSince (take n acts) desk Scan hold since
        → IsTouchedAt base acts since before owner → before ≤ p → p ≤ n → HasMember (state_after base acts p) owner layer q → IsAsHigh (state_after base acts n) q layer
    scan_high n desk since before p layer hold owner q met holds t order low member =
        let long : length (take n acts) ≡ n = length-take-le n acts met in
        named_high sound (take n acts) (cut (IsAllowed base) acts n legal) desk since layer before p hold owner q holds
        (touched_in base acts (take n acts) since n (omega (arith, long)) (λ i h. sym (states_in base acts n i h)) before owner t (omega (arith, order, low))) order (omega (arith, low, long))
        (subst (λ (h : Graph). HasMember h owner layer q) (sym (states_in base acts n p low)) member)

    pub scan_live_at : (n desk since p clean : ℕ) (hold : Hold) (q : Tid) → n ≤ length acts → HoldsSince (take n acts) desk Scan hold since → IsTouchedAt base acts since p q → p ≤ n
        → IsCleanFrom base (take n acts) clean → clean ≤ since → IsLiveAt (state_after base acts n) q 0
    scan_live_at n desk since p clean hold q met holds t low is behind =
        (lawful sound (take n acts) (cut (IsAllowed base) acts n legal)).touched_live desk since clean hold q holds is behind (touched_front acts n since p q met t low)

    pub scan_not_marked : (n desk marker since p version : ℕ) (hold : Hold) (q list_at : Tid) → IsActAt acts n marker (event.Mark q list_at version)
        → HoldsSince (take n acts) desk Scan hold since → IsTouchedAt base acts since p q → p ≤ n → ⊥
    scan_not_marked n desk marker since p version hold q list_at is holds t low =
        let within : n < length acts = slice_get_within acts n _ is in
        touched_not_marked sound acts legal n desk marker since version hold q list_at is holds (touched_front acts n since p q (omega (arith, within)) t low)
