-- What one more act of another desk leaves of a history.
use Rattle.std.proofs.Common.{◌≡◌, ◌≢◌, ℕ, ◌<◌, ◌≤◌, List, [], ◌∷◌, ◌++◌, take, length, sym, ap, subst, arith}
use Rattle.std.proofs.lemmas.Option.{slice_get_within}
use Rattle.std.proofs.lemmas.List.{length-append, length-take, take-append-le}
use Rattle.vec_names.specs.declared.tid.Tid.{Tid}
use Rattle.vec_history.specs.declared.event.Event.{Event}
use Rattle.vec_history.specs.declared.event.Event.TheVariants as event
use Rattle.vec_history.specs.declared.event.Act.{Act}
use Rattle.vec_history.specs.declared.gate.Gate.{Gate}
use Rattle.vec_history.specs.declared.gate.Gate.TheVariants.{Update, Scan}
use Rattle.vec_history.specs.declared.gate.Hold.{Hold}
use Rattle.vec_history.specs.declared.stage.Stage.{Stage}
use Rattle.vec_history.specs.declared.stage.Stage.TheVariants.{Repair}
use Rattle.vec_history.specs.Acts.{act_of}
use Rattle.vec_history.specs.Gates.{IsOfGate, HoldsAs, Holds}
use Rattle.vec_history.specs.Phases.{IsOfVacuum, PhaseSince, IsDrop, IsRemoved}
use Rattle.vec_history.proofs.OneMore.{hold_on, hold_back, phase_on, last_on}
use Rattle.vec_history.proofs.OneMore.{phase_back as its_phase_back, removed_on as its_removed_on}
use Rattle.vec_graph.specs.declared.graph.Graph.{Graph}
use Rattle.vec_graph.specs.Graph.{IsLiveAt}
use Rattle.vec_graph.specs.Effect.{after, state_after}
use Rattle.vec_graph.specs.Knowing.{Knows}
use Rattle.vec_graph.specs.Cleaning.{SomeState, WereCleaned, IsRepaired}

-- ---- acts of another desk

module _ (acts : List Act) (a : Act) (desk : ℕ) (other : a.desk ≢ desk) where
  not_of_gate : (gate : Gate) → a.desk ≡ desk → IsOfGate gate a.event → ⊥
  not_of_gate gate same of_gate = other same

  not_its : (e : Event) → a ≡ act_of desk e → ⊥
  not_its e same = other (ap (λ (b : Act). b.desk) same)

  pub holds_on : (gate : Gate) → Holds acts desk gate → Holds (acts ++ a ∷ []) desk gate
  holds_on gate h = (h.0, (h.1.0, hold_on acts a desk gate h.0 h.1.0 (not_of_gate gate) h.1.1))

  pub holds_as_on : (gate : Gate) (hold : Hold) → HoldsAs acts desk gate hold → HoldsAs (acts ++ a ∷ []) desk gate hold
  holds_as_on gate hold h = (h.0, hold_on acts a desk gate hold h.0 (not_of_gate gate) h.1)

  pub holds_back : (gate : Gate) → Holds (acts ++ a ∷ []) desk gate → Holds acts desk gate
  holds_back gate h = (h.0, (h.1.0, hold_back acts a desk gate h.0 h.1.0 (not_of_gate gate) h.1.1))

  pub phase_back : (stage : Stage) (k : ℕ) → PhaseSince (acts ++ a ∷ []) desk stage k → PhaseSince acts desk stage k
  phase_back stage k s = its_phase_back acts a desk stage k (not_its (event.Phase stage)) s

  pub removed_on : (position : ℕ) → (IsOfVacuum a.event → ⊥) → (IsDrop a.event → ⊥) → IsRemoved acts desk position → IsRemoved (acts ++ a ∷ []) desk position
  removed_on position not_vacuum not_drop r = its_removed_on acts a desk position not_vacuum not_drop (not_its (event.Ungate Update)) r

  -- ---- states

  module _ (base : Graph) where
    same_state : (p : ℕ) → p ≤ length acts → state_after base acts p ≡ state_after base (acts ++ a ∷ []) p
    same_state p h = ap (after base) (sym (take-append-le p acts (a ∷ []) h))

    pub knows_on : (at : Tid) (layer : ℕ) → Knows base acts desk at layer → Knows base (acts ++ a ∷ []) desk at layer
    knows_on at layer k = record {
      hold = k.hold;
      since = k.since;
      holds = hold_on acts a desk Update k.hold k.since (not_of_gate Update) k.holds;
      position = k.position;
      later = k.later;
      met = omega (arith, k.met, length-append acts (a ∷ []));
      was_live = subst (λ g. IsLiveAt g at layer) (same_state k.position k.met) k.was_live;
    }

    some_on : (low high : ℕ) (P : Graph → Type 0) → high ≤ length acts → SomeState base acts low high P → SomeState base (acts ++ a ∷ []) low high P
    some_on low high P inside s = record {
      position = s.position;
      from_low = s.from_low;
      to_high = s.to_high;
      is = subst P (same_state s.position (omega (arith, s.to_high, inside))) s.is;
    }

    cleaned_on : (low high : ℕ) → low ≤ high → high ≤ length acts → WereCleaned base acts low high → WereCleaned base (acts ++ a ∷ []) low high
    cleaned_on low high rises inside w = record {
      layers = λ at layer live.
          some_on low high _ inside (w.layers at layer (subst (λ g. IsLiveAt g at layer) (sym (same_state low (omega (arith, rises, inside)))) live));
      entry = some_on low high _ inside w.entry;
    }

    pub repaired_on : (IsOfVacuum a.event → ⊥) → IsRepaired base acts desk → IsRepaired base (acts ++ a ∷ []) desk
    repaired_on not_vacuum r =
        let begun_inside : r.begun < length acts = slice_get_within acts r.begun _ r.phase.begun in
        let scan_inside : r.barrier < length acts = slice_get_within acts r.barrier _ r.scan.is.taken in
        let first_inside : r.removed.barrier < length (take r.begun acts) = slice_get_within (take r.begun acts) r.removed.barrier _ r.removed.update.is.taken in
        record {
          begun = r.begun;
          phase = phase_on acts a desk Repair r.begun not_vacuum r.phase;
          first = r.first;
          removed = subst (λ (h : List Act). IsRemoved h desk r.first) (sym (take-append-le r.begun acts (a ∷ []) (omega (arith, begun_inside)))) r.removed;
          barrier = r.barrier;
          scan = last_on acts a desk Scan r.begun r.barrier (not_its (event.Ungate Scan)) r.scan;
          cleaned = cleaned_on r.first r.barrier
              (omega (arith, r.removed.here, first_inside, length-take r.begun acts, r.scan.after))
              (omega (arith, scan_inside))
              r.cleaned;
        }
