-- A vacuum of an index that has no node is legal.
use Rattle.std.proofs.Common.{◌≡◌, ℕ, zero, suc, ◌<◌, List, [], ◌∷◌, drop, slice_get, Some, None, refl, sym, ap, subst, ◌∙◌, arith}
use Rattle.std.specs.FinMap as fin
use Rattle.std.proofs.lemmas.Option.{same_Some, none-some, slice_get_within}
use Rattle.vec_history.specs.declared.event.Event.{Event}
use Rattle.vec_history.specs.declared.event.Event.TheVariants as event
use Rattle.vec_history.specs.declared.event.Act.{Act}
use Rattle.vec_history.specs.declared.gate.Gate.{Gate}
use Rattle.vec_history.specs.declared.gate.Gate.TheVariants.{Update, Scan, Vacuum}
use Rattle.vec_history.specs.declared.gate.Hold.TheVariants.{Alone}
use Rattle.vec_history.specs.declared.stage.Stage.TheVariants.{Remove, Repair, Mark}
use Rattle.vec_graph.specs.declared.graph.Graph.{Graph}
use Rattle.vec_history.specs.Acts.{act_of, NoneAfter}
use Rattle.vec_history.specs.Gates.{IsOfGate, HoldsSince}
use Rattle.vec_history.specs.Phases.{IsOfVacuum, IsAPhaseStanding, IsLastBarrier, IsDrop, IsRemoved}
use Rattle.vec_graph.specs.Cleaning.{IsRepaired}
use Rattle.vec_history.specs.Gates.{IsGateAllowed}
use Rattle.vec_history.specs.Phases.{IsUngateAllowed, IsPhaseRemoveAllowed}
use Rattle.vec_graph.specs.Rules.{IsVacuumEndAllowed}
use Rattle.vec_graph.specs.Legal.{IsLegal}
use Rattle.vec_graph.specs.Examples.{idle_vacuum}
use Rattle.vec_graph.proofs.Placing.{none_on_empty}

-- ---- which acts are not there

abbrev NoneOf : (Act → Type 0) → List Act → Type 0
NoneOf P [] = Unit {0}
NoneOf P (a ∷ acts) = (P a → ⊥) × NoneOf P acts

none_of : (P : Act → Type 0) (acts : List Act) → NoneOf P acts → (j : ℕ) (a : Act) → slice_get acts j ≡ Some a → P a → ⊥
none_of P [] none j a is p = none-some a is
none_of P (b ∷ acts) none zero a is p = none.0 (subst P (sym (same_Some b a is)) p)
none_of P (b ∷ acts) none (suc j) a is p = none_of P acts none.1 j a is p

none_after : (P : Act → Type 0) (acts : List Act) (k : ℕ) → NoneOf P (drop (suc k) acts) → NoneAfter acts k P
none_after P [] k none j a after is p = none-some a is
none_after P (b ∷ acts) k none zero a after is p = absurd (omega (arith, after))
none_after P (b ∷ acts) zero none (suc j) a after is p = none_of P acts none j a is p
none_after P (b ∷ acts) (suc k) none (suc j) a after is p = none_after P acts k none j a (omega (arith, after)) is p

abbrev IsAloneTake : Gate → Event → Type 0
IsAloneTake gate (event.Gate g Alone) = g ≡ gate
IsAloneTake gate _ = ⊥

-- ---- the three gates differ

abbrev number : Gate → ℕ
number Update = 0
number Scan = 1
number Vacuum = 2

apart : (g h : Gate) → (number g ≡ number h → ⊥) → g ≡ h → ⊥
apart g h n e = n (ap number e)

update_vacuum : Update ≡ Vacuum → ⊥
update_vacuum e = apart Update Vacuum (λ n. omega (arith, n)) e

update_scan : Update ≡ Scan → ⊥
update_scan e = apart Update Scan (λ n. omega (arith, n)) e

scan_vacuum : Scan ≡ Vacuum → ⊥
scan_vacuum e = apart Scan Vacuum (λ n. omega (arith, n)) e

less_one : (k : ℕ) → k < 9 → (k ≡ 8 → ⊥) → k < 8
less_one k inside not_last = omega (arith, inside, not_last)

-- ---- rules where acts are not there

gate_free : (acts : List Act) (desk : ℕ) (gate : Gate) → NoneOf (λ a. IsOfGate gate a.event) acts → IsGateAllowed acts desk gate Alone
gate_free acts desk gate none = record {
  not_held = λ h. none_of (λ a. IsOfGate gate a.event) acts none h.1.0 _ h.1.1.taken refl;
  beside = λ other theirs ne h. absurd (none_of (λ a. IsOfGate gate a.event) acts none h.0 _ h.1.taken refl);
}

no_phase : (acts : List Act) → NoneOf (λ a. IsOfVacuum a.event) acts → IsAPhaseStanding acts → ⊥
no_phase acts none p = none_of (λ a. IsOfVacuum a.event) acts none p.2.0 _ p.2.1.begun tt

holds : (acts : List Act) (desk : ℕ) (gate : Gate) (k : ℕ) → slice_get acts k ≡ Some (act_of desk (event.Gate gate Alone))
    → NoneOf (λ a. IsOfGate gate a.event) (drop (suc k) acts) → HoldsSince acts desk gate Alone k
holds acts desk gate k taken none = record {
  taken = taken;
  kept = λ j a after is of_gate. none_after (λ a. IsOfGate gate a.event) acts k none j a after is of_gate.1;
}

last_barrier : (acts : List Act) (desk : ℕ) (gate : Gate) (behind k released : ℕ) → behind < k → k < released
    → slice_get acts k ≡ Some (act_of desk (event.Gate gate Alone)) → slice_get acts released ≡ Some (act_of desk (event.Ungate gate))
    → NoneOf (λ a. IsAloneTake gate a.event) (drop (suc k) acts) → IsLastBarrier acts desk gate behind k
last_barrier acts desk gate behind k released after later taken given none = record {
  is = record { taken = taken; released = released; later = later; given = given };
  after = after;
  last = λ j further b. none_after (λ a. IsAloneTake gate a.event) acts k none j _ further b.taken refl;
}

module _ (base : Graph) (d : ℕ) where
  abbrev a0 : Act
  a0 = act_of d (event.Gate Vacuum Alone)

  abbrev a1 : Act
  a1 = act_of d (event.Phase Remove)

  abbrev a2 : Act
  a2 = act_of d (event.Gate Update Alone)

  abbrev a3 : Act
  a3 = act_of d (event.Ungate Update)

  abbrev a4 : Act
  a4 = act_of d (event.Phase Repair)

  abbrev a5 : Act
  a5 = act_of d (event.Gate Scan Alone)

  abbrev a6 : Act
  a6 = act_of d (event.Ungate Scan)

  abbrev a7 : Act
  a7 = act_of d (event.Phase Mark)

  abbrev a8 : Act
  a8 = act_of d event.VacuumEnd

  remove_may : IsPhaseRemoveAllowed (a0 ∷ []) d
  remove_may = record { alone = (0, holds (a0 ∷ []) d Vacuum 0 refl tt); no_phase = no_phase (a0 ∷ []) (λ x. x, tt) }

  update_may : IsGateAllowed (a0 ∷ a1 ∷ []) d Update Alone
  update_may = gate_free (a0 ∷ a1 ∷ []) d Update (λ e. update_vacuum (sym e), (λ x. x, tt))

  update_back : IsUngateAllowed (a0 ∷ a1 ∷ a2 ∷ []) d Update
  update_back = record { held = (Alone, (2, holds (a0 ∷ a1 ∷ a2 ∷ []) d Update 2 refl tt)); no_phase = λ e _. update_vacuum e }

  removed : IsRemoved (a0 ∷ a1 ∷ a2 ∷ a3 ∷ []) d 3
  removed = record {
    begun = 1;
    phase = record { begun = refl; stands = none_after (λ a. IsOfVacuum a.event) (a0 ∷ a1 ∷ a2 ∷ a3 ∷ []) 1 (λ x. x, (λ x. x, tt)) };
    barrier = 2;
    update = last_barrier (a0 ∷ a1 ∷ a2 ∷ a3 ∷ []) d Update 1 2 3 (omega arith) (omega arith) refl refl (λ x. x, tt);
    drops_before = none_after (λ a. IsDrop a.event) (a0 ∷ a1 ∷ a2 ∷ a3 ∷ []) 2 (λ x. x, tt);
    here = refl;
  }

  scan_may : IsGateAllowed (a0 ∷ a1 ∷ a2 ∷ a3 ∷ a4 ∷ []) d Scan Alone
  scan_may = gate_free (a0 ∷ a1 ∷ a2 ∷ a3 ∷ a4 ∷ []) d Scan (λ e. scan_vacuum (sym e), (λ x. x, (update_scan, (update_scan, (λ x. x, tt)))))

  scan_back : IsUngateAllowed (a0 ∷ a1 ∷ a2 ∷ a3 ∷ a4 ∷ a5 ∷ []) d Scan
  scan_back = record { held = (Alone, (5, holds (a0 ∷ a1 ∷ a2 ∷ a3 ∷ a4 ∷ a5 ∷ []) d Scan 5 refl tt)); no_phase = λ e _. scan_vacuum e }

  repaired : base.nodes ≡ fin.empty → base.entry ≡ None → IsRepaired base (a0 ∷ a1 ∷ a2 ∷ a3 ∷ a4 ∷ a5 ∷ a6 ∷ []) d
  repaired empty none = record {
    begun = 4;
    phase = record { begun = refl; stands = none_after (λ a. IsOfVacuum a.event) (a0 ∷ a1 ∷ a2 ∷ a3 ∷ a4 ∷ a5 ∷ a6 ∷ []) 4 (λ x. x, (λ x. x, tt)) };
    first = 3;
    removed = removed;
    barrier = 5;
    scan = last_barrier (a0 ∷ a1 ∷ a2 ∷ a3 ∷ a4 ∷ a5 ∷ a6 ∷ []) d Scan 4 5 6 (omega arith) (omega arith) refl refl (λ x. x, tt);
    cleaned = record {
      layers = λ at layer live. absurd (none_on_empty base.nodes empty at live.node live.stands);
      entry = record { position = 3; from_low = omega arith; to_high = omega arith; is = λ to is _. none-some to (sym none ∙ is) };
    };
  }

  end_may : base.nodes ≡ fin.empty → IsVacuumEndAllowed base (a0 ∷ a1 ∷ a2 ∷ a3 ∷ a4 ∷ a5 ∷ a6 ∷ a7 ∷ []) d
  end_may empty = record {
    phase = (7, record { begun = refl; stands = none_after (λ a. IsOfVacuum a.event) (a0 ∷ a1 ∷ a2 ∷ a3 ∷ a4 ∷ a5 ∷ a6 ∷ a7 ∷ []) 7 tt });
    none_doomed = λ at doomed. none_on_empty base.nodes empty at doomed.node doomed.stands;
  }

  abbrev whole : List Act
  whole = a0 ∷ a1 ∷ a2 ∷ a3 ∷ a4 ∷ a5 ∷ a6 ∷ a7 ∷ a8 ∷ []

  abbrev BeginsPhase : Event → Type 0
  BeginsPhase (event.Phase stage) = Unit {0}
  BeginsPhase _ = ⊥

  begun_before : (k : ℕ) (a : Act) → slice_get whole k ≡ Some a → BeginsPhase a.event → k < 8
  begun_before k a is p =
      let inside = slice_get_within whole k a is in
      let not_last : k ≡ 8 → ⊥ = λ e. subst (λ (x : Act). BeginsPhase x.event) (sym (same_Some a8 a (sym (ap (slice_get whole) e) ∙ is))) p in
      less_one k inside not_last

  vacuum_back : IsUngateAllowed whole d Vacuum
  vacuum_back = record {
    held = (Alone, (0, holds whole d Vacuum 0 refl (λ x. x, (update_vacuum, (update_vacuum, (λ x. x, (scan_vacuum, (scan_vacuum, (λ x. x, (λ x. x, tt))))))))));
    no_phase = λ _ p. p.2.1.stands 8 a8 (begun_before p.2.0 _ p.2.1.begun tt) refl tt;
  }

  pub vacuum_is_legal : base.nodes ≡ fin.empty → base.entry ≡ None → IsLegal base (idle_vacuum d)
  vacuum_is_legal empty none =
      (gate_free [] d Vacuum tt, (remove_may, (update_may, (update_back, ((3, removed), (scan_may, (scan_back, (repaired empty none, (end_may empty, (vacuum_back, tt))))))))))
