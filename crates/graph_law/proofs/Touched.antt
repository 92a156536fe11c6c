-- What was touched, one act later and in a front of the history.
use Rattle.std.proofs.Common.{◌≡◌, inl, inr, ℕ, ◌<◌, ◌≤◌, List, [], ◌∷◌, ◌++◌, length, Some, subst, arith}
use Rattle.vec_names.specs.declared.tid.Tid.{Tid}
use Rattle.vec_history.specs.declared.event.Act.{Act}
use Rattle.vec_history.specs.declared.gate.Gate.TheVariants.{Update, Scan}
use Rattle.vec_history.specs.declared.gate.Hold.{Hold}
use Rattle.vec_history.specs.Gates.{HoldsSince}
use Rattle.vec_graph.specs.declared.graph.Graph.{Graph}
use Rattle.vec_graph.specs.Graph.{IsLiveAt, HasMember}
use Rattle.vec_graph.specs.Effect.{after, state_after}
use Rattle.vec_graph.specs.Knowing.{Knows}
use Rattle.vec_history.proofs.OneMore.{in_longer}
use Rattle.graph_law.specs.Reaching.{IsRootWith, is_entry, is_live, is_more}
use Rattle.vec_graph.specs.Sound.{IsReachedFrom, from_root, through}
use Rattle.graph_law.specs.Touching.{IsTouchedAt, as_entry, as_live, as_member, IsTouched}
use Rattle.graph_law.specs.Standing.{IsInScan, IsSinceMark, IsInHand}
use Rattle.vec_graph.specs.Knowing.{IsKnown}
use Rattle.graph_law.proofs.Soundness.{reached_through}
use Rattle.vec_graph.proofs.Lasting.{same_state, last_state}
use Rattle.vec_history.proofs.OneMore.{place_of, hold_before}

module _ (base : Graph) where
  pub touched_within : (acts : List Act) (since : ℕ) (p : ℕ) (q : Tid) → IsTouchedAt base acts since p q → (since < p) × (p ≤ length acts)
  touched_within acts since p q (as_entry _ _ later met e) = (later, met)
  touched_within acts since p q (as_live _ _ later met l) = (later, met)
  touched_within acts since p q (as_member before _ at layer _ t order met has) = let was = touched_within acts since before at t in (omega (arith, was.0, order), met)

  -- in another list of acts whose states are the same up to a position
  pub touched_in : (acts others : List Act) (since n : ℕ) → n ≤ length others → ((i : ℕ) → i ≤ n → state_after base acts i ≡ state_after base others i)
      → (p : ℕ) (q : Tid) → IsTouchedAt base acts since p q → p ≤ n → IsTouchedAt base others since p q
  touched_in acts others since n long same p q (as_entry _ _ later met e) low =
      as_entry p q later (omega (arith, low, long)) (subst (λ (h : Graph). h.entry ≡ Some q) (same p low) e)
  touched_in acts others since n long same p q (as_live _ _ later met l) low =
      as_live p q later (omega (arith, low, long)) (subst (λ (h : Graph). IsLiveAt h q 0) (same p low) l)
  touched_in acts others since n long same p q (as_member before _ at layer _ t order met has) low =
      as_member before p at layer q (touched_in acts others since n long same before at t (omega (arith, order, low))) order (omega (arith, low, long))
      (subst (λ (h : Graph). HasMember h at layer q) (same p low) has)

  module _ (acts : List Act) (a : Act) where
    pub touched_before : (since p : ℕ) (q : Tid) → p ≤ length acts → IsTouchedAt base (acts ++ a ∷ []) since p q → IsTouched base acts since q
    touched_before since p q low t = record {
      position = p;
      is = touched_in (acts ++ a ∷ []) acts since (length acts) (omega arith) (λ i h. same_state base acts a i h) p q t low;
    }

    -- what is touched at the last position is reached there from what was touched before
    pub touched_now : (since : ℕ) (p : ℕ) (q : Tid) → IsTouchedAt base (acts ++ a ∷ []) since p q → length (acts ++ a ∷ []) ≤ p
        → IsReachedFrom (after base (acts ++ a ∷ [])) (IsRootWith (after base (acts ++ a ∷ [])) (IsTouched base acts since)) q
    touched_now since p q (as_entry _ _ later met e) last =
        from_root q (is_entry q (subst (λ (h : Graph). h.entry ≡ Some q) (last_state base (acts ++ a ∷ []) p last) e))
    touched_now since p q (as_live _ _ later met l) last =
        from_root q (is_live q (subst (λ (h : Graph). IsLiveAt h q 0) (last_state base (acts ++ a ∷ []) p last) l))
    touched_now since p q (as_member before _ at layer _ t order met has) last =
        let member = subst (λ (h : Graph). HasMember h at layer q) (last_state base (acts ++ a ∷ []) p last) has in
        let within = touched_within (acts ++ a ∷ []) since before at t in
        elim (place_of acts a before within.1) as (λ _. IsReachedFrom (after base (acts ++ a ∷ [])) (IsRootWith (after base (acts ++ a ∷ [])) (IsTouched base acts since)) q) [
          | inl low ↦ through at layer q (from_root at (is_more at (touched_before since before at low t))) member
          | inr now ↦ through at layer q (touched_now since before at t now) member
        ]

    -- a hold of which something was touched before
    pub scan_before : (desk since : ℕ) (hold : Hold) → HoldsSince (acts ++ a ∷ []) desk Scan hold since → (q : Tid) → IsTouched base acts since q → HoldsSince acts desk Scan hold since
    scan_before desk since hold s q t =
        let within = touched_within acts since t.position q t.is in
        hold_before acts a desk Scan hold since (omega (arith, within.0, within.1)) s

    known_reached : (q : Tid) → IsKnown base (acts ++ a ∷ []) q → IsReachedFrom (after base (acts ++ a ∷ [])) (IsRootWith (after base (acts ++ a ∷ [])) (IsInHand base acts)) q
    known_reached q k =
        let later = k.knows.later in
        elim (place_of acts a k.knows.position k.knows.met) as (λ _. IsReachedFrom (after base (acts ++ a ∷ [])) (IsRootWith (after base (acts ++ a ∷ [])) (IsInHand base acts)) q) [
          | inl low ↦
              let was : Knows base acts k.desk q k.layer = record {
                hold = k.knows.hold;
                since = k.knows.since;
                holds = hold_before acts a k.desk Update k.knows.hold k.knows.since (omega (arith, later, low)) k.knows.holds;
                position = k.knows.position;
                later = later;
                met = low;
                was_live = subst (λ (h : Graph). IsLiveAt h q k.layer) (same_state base acts a k.knows.position low) k.knows.was_live;
              } in
              from_root q (is_more q (inl (record { desk = k.desk; layer = k.layer; knows = was })))
          | inr last ↦
              let now = subst (λ (h : Graph). IsLiveAt h q k.layer) (last_state base (acts ++ a ∷ []) k.knows.position last) k.knows.was_live in
              from_root q (is_live q (record { node = now.node; stands = now.stands; live = now.live; reaches = omega arith }))
        ]

    scan_roots : (desk since : ℕ) (hold : Hold) → HoldsSince (acts ++ a ∷ []) desk Scan hold since → (q : Tid)
        → IsRootWith (after base (acts ++ a ∷ [])) (IsTouched base acts since) q → IsReachedFrom (after base (acts ++ a ∷ [])) (IsRootWith (after base (acts ++ a ∷ [])) (IsInHand base acts)) q
    scan_roots desk since hold s q (is_entry _ e) = from_root q (is_entry q e)
    scan_roots desk since hold s q (is_live _ l) = from_root q (is_live q l)
    scan_roots desk since hold s q (is_more _ t) =
        from_root q (is_more q (inr (inl (record { desk = desk; hold = hold; since = since; holds = scan_before desk since hold s q t; touched = t }))))

    scan_reached : (q : Tid) → IsInScan base (acts ++ a ∷ []) q → IsReachedFrom (after base (acts ++ a ∷ [])) (IsRootWith (after base (acts ++ a ∷ [])) (IsInHand base acts)) q
    scan_reached q s =
        let within = touched_within (acts ++ a ∷ []) s.since s.touched.position q s.touched.is in
        elim (place_of acts a s.touched.position within.1) as (λ _. IsReachedFrom (after base (acts ++ a ∷ [])) (IsRootWith (after base (acts ++ a ∷ [])) (IsInHand base acts)) q) [
          | inl low ↦ scan_roots s.desk s.since s.hold s.holds q (is_more q (touched_before s.since s.touched.position q low s.touched.is))
          | inr last ↦
              reached_through (after base (acts ++ a ∷ [])) (IsRootWith (after base (acts ++ a ∷ [])) (IsInHand base acts))
              (IsRootWith (after base (acts ++ a ∷ [])) (IsTouched base acts s.since)) (scan_roots s.desk s.since s.hold s.holds) q
              (touched_now s.since s.touched.position q s.touched.is last)
        ]

    since_mark_reached : (q : Tid) → IsSinceMark base (acts ++ a ∷ []) q → IsReachedFrom (after base (acts ++ a ∷ [])) (IsRootWith (after base (acts ++ a ∷ [])) (IsInHand base acts)) q
    since_mark_reached q m =
        elim (place_of acts a m.position m.met) as (λ _. IsReachedFrom (after base (acts ++ a ∷ [])) (IsRootWith (after base (acts ++ a ∷ [])) (IsInHand base acts)) q) [
          | inl low ↦
              let was : IsSinceMark base acts q = record {
                position = m.position;
                met = low;
                none_later = λ j desk behind is. m.none_later j desk behind (in_longer acts (a ∷ []) j _ is);
                was_live = subst (λ (h : Graph). IsLiveAt h q 0) (same_state base acts a m.position low) m.was_live;
              } in
              from_root q (is_more q (inr (inr was)))
          | inr last ↦ from_root q (is_live q (subst (λ (h : Graph). IsLiveAt h q 0) (last_state base (acts ++ a ∷ []) m.position last) m.was_live))
        ]

    -- what is in hand after one more act is reached there from what was in hand before
    pub in_hand_reached : (q : Tid) → IsInHand base (acts ++ a ∷ []) q → IsReachedFrom (after base (acts ++ a ∷ [])) (IsRootWith (after base (acts ++ a ∷ [])) (IsInHand base acts)) q
    in_hand_reached q (inl known) = known_reached q known
    in_hand_reached q (inr (inl scan)) = scan_reached q scan
    in_hand_reached q (inr (inr live)) = since_mark_reached q live
