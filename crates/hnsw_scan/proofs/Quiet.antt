-- Looks make no event of a gate, and neither does a fault: what is held before them is held after them, and no more.
use Rattle.std.proofs.Common.{◌≡◌, ℕ, true, List, [], ◌∷◌, ◌++◌, Result, Ok, Err, refl, sym, ap, subst, ◌∙◌}
use Rattle.std.specs.Prelude.{IfOk, IfErr}
use Rattle.vec_names.specs.declared.params.Params.{Params}
use Rattle.vec_history.specs.declared.event.Event.{Event}
use Rattle.vec_history.specs.declared.event.Act.{Act}
use Rattle.vec_history.specs.declared.gate.Gate.{Gate}
use Rattle.vec_history.specs.Gates.{IsOfGate}
use Rattle.graph_search.specs.Reads.{Look, Answer}
use Rattle.graph_search.specs.Deeds.{looked, asked}
use Rattle.vec_steps.specs.declared.fault.StepFault.{StepFault}
use Rattle.vec_steps.specs.declared.fault.StepFault.TheVariants as fault
use Rattle.vec_steps.specs.declared.fault.OpFault.{OpFault}
use Rattle.vec_steps.specs.Index.{Index}
use Rattle.vec_steps.specs.Doing.{Step, did, overfull, cleaned, viewed, placed, settled, faulted, step_events}
use Rattle.vec_steps.specs.Telling.{fault_step}
use Rattle.vec_steps.specs.Desks.{Desk}
use Rattle.vec_steps.specs.Calls.{Acts, DoesSo, Looks, NoneOf, course_at, events_of, is_look, steps_of}
use Rattle.vec_steps.proofs.Following.{events_both, steps_both}
use Rattle.layer_search.specs.Looking.{EndedBy, MadeLooks}
use Rattle.layer_search.proofs.Looks.{looks_are}

-- of a desk's own acts none took a gate or gave one back
pub record QuietActs (desk : ℕ) (old new : List Act) : Type 0 where
  pub events : List Event
  pub acts : Acts desk old new events
  pub quiet : (gate : Gate) → NoneOf (IsOfGate gate) events

none_both : (P : Event → Type 0) (a b : List Event) → NoneOf P a → NoneOf P b → NoneOf P (a ++ b)
none_both P [] b x y = y
none_both P (e ∷ a) b x y = (x.0, none_both P a b x.1 y)

look_makes : (p : Params) (s : Step) → is_look s ≡ true → step_events p s ≡ []
look_makes p (did (looked look told)) is = refl
look_makes p (did (asked change reply)) is = absurd cc
look_makes p (overfull node blocks need) is = absurd cc
look_makes p (cleaned change reply) is = absurd cc
look_makes p (viewed look told) is = refl
look_makes p (placed change reply) is = absurd cc
look_makes p (settled upto) is = absurd cc
look_makes p (faulted count) is = absurd cc

looks_make : (p : Params) (gate : Gate) (course : List (ℕ × Step)) → Looks course → NoneOf (IsOfGate gate) (events_of p (steps_of course))
looks_make p gate [] looks = tt
looks_make p gate (s ∷ course) looks =
    subst (λ (es : List Event). NoneOf (IsOfGate gate) (es ++ events_of p (steps_of course))) (sym (look_makes p s.1 looks.0))
    (looks_make p gate course looks.1)

fault_makes : (p : Params) (gate : Gate) (at : ℕ) (f : StepFault) → NoneOf (IsOfGate gate) (events_of p (steps_of (course_at at (fault_step f))))
fault_makes p gate at fault.Memory = tt
fault_makes p gate at (fault.LogFull used size) = tt
fault_makes p gate at (fault.Disk count) = ((λ never. never), tt)

pub quiet_fault : (d : Desk) {old new : List Act} (at : ℕ) (f : StepFault)
    → Acts d.number old new (events_of d.params (steps_of (course_at at (fault_step f)))) → QuietActs d.number old new
quiet_fault d at f acts = record {
  events = events_of d.params (steps_of (course_at at (fault_step f)));
  acts = acts;
  quiet = λ gate. fault_makes d.params gate at f;
}

pub quiet_looks : {over : Index → Type 0} {d : Desk} {old new : List Act} → DoesSo Looks over d old new → QuietActs d.number old new
quiet_looks {d = d} m = record {
  events = events_of d.params (steps_of m.course);
  acts = m.does.acts;
  quiet = λ gate. looks_make d.params gate m.course m.is;
}

pub only_looks : {over : Index → Type 0} {d : Desk} {old new : List Act} {before now : List ℕ} {reads : List (Look × Answer)}
    → MadeLooks over d old new before now reads → DoesSo Looks over d old new
only_looks {reads = reads} m = record { course = m.course; does = m.does; is = looks_are m.course reads m.is.deeds }

pub quiet_ended : {over : Index → Type 0} {d : Desk} {old new : List Act} {end : OpFault} → EndedBy over d old new end → QuietActs d.number old new
quiet_ended {d = d} {old = old} {new = new} b = record {
  events = events_of d.params (steps_of (b.looked ++ course_at b.at (fault_step b.step_fault)));
  acts = b.does.acts;
  quiet = λ gate. subst (NoneOf (IsOfGate gate))
      (sym (ap (events_of d.params) (steps_both b.looked (course_at b.at (fault_step b.step_fault)))
      ∙ events_both d.params (steps_of b.looked) (steps_of (course_at b.at (fault_step b.step_fault)))))
      (none_both (IsOfGate gate) (events_of d.params (steps_of b.looked)) (events_of d.params (steps_of (course_at b.at (fault_step b.step_fault))))
      (looks_make d.params gate b.looked b.only_looks) (fault_makes d.params gate b.at b.step_fault));
}

-- whichever way a call ended
pub quiet_either : {T E : Type 0} {P : T → Type 0} {Q : E → Type 0} {desk : ℕ} {old new : List Act} (r : Result T E)
    → ((t : T) → P t → QuietActs desk old new) → ((e : E) → Q e → QuietActs desk old new) → IfOk r P → IfErr r Q → QuietActs desk old new
quiet_either (Ok t) ok err p q = ok t p
quiet_either (Err e) ok err p q = err e q
