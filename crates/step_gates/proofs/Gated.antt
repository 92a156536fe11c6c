-- The step of a gate, as a call.
use Rattle.std.proofs.Common.{◌≡◌, ℕ, true, false, List, [], ◌∷◌, ◌++◌, length, slice_get, Some, refl, sym, ap, subst, ◌∙◌}
use Rattle.std.proofs.lemmas.Option.{same_Some}
use Rattle.std.proofs.lemmas.List.{length-append}
use Rattle.vec_history.specs.declared.event.Event.{Event}
use Rattle.vec_history.specs.declared.event.Event.TheVariants as event
use Rattle.vec_history.specs.declared.event.Act.{Act}
use Rattle.vec_history.specs.declared.gate.Gate.{Gate}
use Rattle.vec_history.specs.declared.gate.Gate.TheVariants.{Vacuum}
use Rattle.vec_history.specs.declared.gate.Hold.{Hold}
use Rattle.vec_history.specs.Acts.{act_of}
use Rattle.vec_history.specs.Gates.{Holds, HoldsSince}
use Rattle.vec_history.specs.Settling.{is_lasting}
use Rattle.graph_search.specs.Deeds.{asked, Takes, Releases, Done}
use Rattle.vec_steps.specs.declared.ask.Ask.{Ask}
use Rattle.vec_steps.specs.declared.ask.Ask.TheVariants as ask
use Rattle.vec_steps.specs.declared.told.Told.{Told}
use Rattle.vec_steps.specs.declared.fault.StepFault.{StepFault}
use Rattle.vec_steps.specs.declared.fault.StepFault.TheVariants as fault
use Rattle.vec_steps.specs.declared.fault.OpFault.{OpFault}
use Rattle.vec_steps.specs.declared.fault.OpFault.TheVariants as op
use Rattle.vec_steps.specs.Faults.{op_fault}
use Rattle.vec_steps.specs.Index.{Index, OfNodes, OfLists}
use Rattle.vec_steps.specs.Doing.{did, step_events}
use Rattle.vec_steps.specs.Desks.{Asks, Desk}
use Rattle.vec_steps.specs.Calls.{Failed, IsCause, IsLogFault, Stepped}
use Rattle.vec_steps.proofs.Following.{fault_does, one_step}
use Rattle.step_gates.specs.Gating.{GateFailed, GivesBack, TakesGate}
use Rattle.step_gates.proofs.Holding.{held_by_last, not_held}

-- ---- faults

-- an event that passes is never one that lasts
passes : (e f : Event) → is_lasting e ≡ false → e ∷ [] ≡ f ∷ [] → is_lasting f ≡ true → ⊥
passes e f passing same lasting =
    let heads : Some e ≡ Some f = ap (λ (l : List Event). slice_get l 0) same in
    let both : is_lasting e ≡ is_lasting f = ap is_lasting (same_Some e f heads) in
    absurd (let never : false ≡ true = sym passing ∙ both ∙ lasting in cc)

never_of_take : (d : Desk) (base : Index) (acts : List Act) (gate : Gate) (hold : Hold) (f : StepFault)
    → IsCause d base acts (ask.Take gate hold) f → IsLogFault f → ⊥
never_of_take d base acts gate hold fault.Memory cause h = h
never_of_take d base acts gate hold (fault.Disk count) cause h = h
never_of_take d base acts gate hold (fault.LogFull used size) cause h =
    passes (event.Gate gate hold) cause.event refl
    (ap (step_events d.params) (same_Some (did (asked (Takes gate hold) Done)) cause.step cause.would) ∙ cause.makes) cause.lasting

never_of_give : (d : Desk) (base : Index) (acts : List Act) (gate : Gate) (f : StepFault)
    → IsCause d base acts (ask.Release gate) f → IsLogFault f → ⊥
never_of_give d base acts gate fault.Memory cause h = h
never_of_give d base acts gate (fault.Disk count) cause h = h
never_of_give d base acts gate (fault.LogFull used size) cause h =
    passes (event.Ungate gate) cause.event refl
    (ap (step_events d.params) (same_Some (did (asked (Releases gate) Done)) cause.step cause.would) ∙ cause.makes) cause.lasting

-- ---- steps

module _ {stands : Index → Type 0} {d : Desk} {old : List Act} where
  pub take_asks : (gate : Gate) (hold : Hold) → (Holds old d.number gate → ⊥) → (base : Index) → stands base
      → Asks stands d old (ask.Take gate hold) base
  take_asks gate hold free (OfNodes g) s = record { stood = s; may = free }
  take_asks gate hold free (OfLists g) s = record { stood = s; may = free }

  pub give_asks : (gate : Gate) → Holds old d.number gate → (gate ≡ Vacuum → ⊥) → (base : Index) → stands base
      → Asks stands d old (ask.Release gate) base
  give_asks gate held no_vacuum (OfNodes g) s = record { stood = s; may = record { held = held; no_phase = λ is. absurd (no_vacuum is) } }
  give_asks gate held no_vacuum (OfLists g) s = record { stood = s; may = record { held = held; no_phase = λ is. absurd (no_vacuum is) } }

module _ {stands : Index → Type 0} {d : Desk} {old new : List Act} where
  module _ {left : Ask} {told : Told} where
    pub gate_taken : (gate : Gate) (hold : Hold) → (Holds old d.number gate → ⊥)
        → Stepped (Asks stands d old (ask.Take gate hold)) d old new (ask.Take gate hold) left told → TakesGate stands d old new gate hold
    gate_taken gate hold free s =
        let others = s.came.others in
        let at_is : length (old ++ others) ≡ told.at = length-append old others ∙ sym s.came.here in
        record {
          at = told.at;
          does = one_step (take_asks gate hold free) s;
          holds = subst (λ (l : List Act). HoldsSince l d.number gate hold told.at) (sym s.came.all)
              (subst (λ (k : ℕ). HoldsSince ((old ++ others) ++ act_of d.number (event.Gate gate hold) ∷ []) d.number gate hold k) at_is
              (held_by_last (old ++ others) d.number gate hold));
        }

    pub gate_given : (gate : Gate) → Holds old d.number gate → (gate ≡ Vacuum → ⊥)
        → Stepped (Asks stands d old (ask.Release gate)) d old new (ask.Release gate) left told → GivesBack stands d old new gate
    gate_given gate held no_vacuum s = record {
      at = told.at;
      does = one_step (give_asks gate held no_vacuum) s;
      free = λ h. not_held (old ++ s.came.others) d.number gate (subst (λ (l : List Act). Holds l d.number gate) s.came.all h);
    }

  module _ (f : StepFault) (end : OpFault) (end_is : end ≡ op_fault f) where
    pub take_failed : (gate : Gate) (hold : Hold) → (Holds old d.number gate → ⊥)
        → Failed (Asks stands d old (ask.Take gate hold)) d old new (ask.Take gate hold) f → GateFailed stands d old new end
    take_failed gate hold free s = record {
      at = s.at;
      step_fault = f;
      fault_is = end_is;
      does = fault_does s;
      not_of_log = λ base o. never_of_take d base new gate hold f (s.cause base (take_asks gate hold free base o));
    }

    pub give_failed : (gate : Gate) → Holds old d.number gate → (gate ≡ Vacuum → ⊥)
        → Failed (Asks stands d old (ask.Release gate)) d old new (ask.Release gate) f → GateFailed stands d old new end
    give_failed gate held no_vacuum s = record {
      at = s.at;
      step_fault = f;
      fault_is = end_is;
      does = fault_does s;
      not_of_log = λ base o. never_of_give d base new gate f (s.cause base (give_asks gate held no_vacuum base o));
    }

-- a step's fault that is not want of memory ends no operation by want of memory
pub not_memory : (f : StepFault) → (f ≡ fault.Memory → ⊥) → op_fault f ≡ op.Memory → ⊥
not_memory fault.Memory never is = never refl
not_memory (fault.LogFull used size) never is = absurd cc
not_memory (fault.Disk count) never is = absurd cc
