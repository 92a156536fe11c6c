-- Looks that follow each other, and calls that a fault ends.
use Rattle.std.proofs.Common.{◌≡◌, ℕ, List, [], ◌∷◌, ◌++◌, map, Some, sym, ap, subst, ◌∙◌, append_assoc, append-nil}
use Rattle.std.specs.Prelude.{Result, Ok, Err, IfErr}
use Rattle.std.specs.Result.{IsErrAnd}
use Rattle.std.proofs.lemmas.Option.{same_Some}
use Rattle.std.proofs.lemmas.List.{map-append}
use Rattle.vec_history.specs.declared.event.Event.{Event}
use Rattle.vec_history.specs.declared.event.Act.{Act}
use Rattle.ivf_graph.specs.Looks.{Look, Answer}
use Rattle.vec_steps.specs.declared.ask.Ask.{Ask}
use Rattle.vec_steps.specs.declared.fault.StepFault.{StepFault}
use Rattle.vec_steps.specs.declared.fault.StepFault.TheVariants as fault
use Rattle.vec_steps.specs.declared.fault.OpFault.{OpFault}
use Rattle.vec_steps.specs.declared.fault.OpFault.TheVariants as op
use Rattle.vec_steps.specs.Faults.{op_fault}
use Rattle.vec_steps.specs.Index.{Index}
use Rattle.vec_steps.specs.Doing.{Step, viewed, step_events}
use Rattle.vec_steps.specs.Telling.{fault_step}
use Rattle.vec_steps.specs.Desks.{Desk}
use Rattle.vec_steps.specs.Calls.{Does, Failed, IsCause, IsLogFault, Looks, course_at, is_look}
use Rattle.vec_steps.proofs.Following.{does_nothing, does_over, does_so_over, does_so_then, does_then, fault_does}
use Rattle.ivf_ops.specs.Viewing.{AreViews, EndedBy, MadeViews, View, ViewsSo}

-- ---- looks after each other

pub are_both : (a b : List (ℕ × Step)) (r s : List View) → AreViews a r → AreViews b s → AreViews (a ++ b) (r ++ s)
are_both [] b [] s x y = y
are_both [] b (v ∷ r) s x y = absurd x
are_both (t ∷ a) b [] s x y = absurd x
are_both (t ∷ a) b (v ∷ r) s x y = (x.0, are_both a b r s x.1 y)

views_both : (r s : List View) (before mid now : List ℕ) (a b : List (ℕ × Step)) → ViewsSo r before mid a → ViewsSo s mid now b
    → ViewsSo (r ++ s) before now (a ++ b)
views_both r s before mid now a b x y = record {
  are = are_both a b r s x.are y.are;
  traced = y.traced ∙ ap (λ (l : List ℕ). l ++ map (λ (t : ℕ × Step). t.0) b) x.traced
      ∙ append_assoc before (map (λ (t : ℕ × Step). t.0) a) (map (λ (t : ℕ × Step). t.0) b)
      ∙ ap (λ (l : List ℕ). before ++ l) (sym (map-append (λ (t : ℕ × Step). t.0) a b));
}

pub views_then : {over later : Index → Type 0} {d e : Desk} {old mid new : List Act} {before then now : List ℕ} {r s : List View} → e ≡ d
    → ((base : Index) → over base → later base) → MadeViews over d old mid before then r → MadeViews later e mid new then now s
    → MadeViews over d old new before now (r ++ s)
views_then {before = before} {then = then} {now = now} {r = r} {s = s} same on x y =
    does_so_then same (λ a b p q. views_both r s before then now a b p q) on x y

pub views_none : {over : Index → Type 0} {d : Desk} (acts : List Act) (trace : List ℕ) → MadeViews over d acts acts trace trace []
views_none acts trace = record { course = []; does = does_nothing acts; is = record { are = tt; traced = sym (append-nil trace) } }

pub views_over : {more fewer : Index → Type 0} {d : Desk} {old new : List Act} {before now : List ℕ} {r : List View}
    → ((base : Index) → fewer base → more base) → MadeViews more d old new before now r → MadeViews fewer d old new before now r
views_over on x = does_so_over on x

-- ---- faults

pub looks_are : (course : List (ℕ × Step)) (views : List View) → AreViews course views → Looks course
looks_are [] [] are = tt
looks_are [] (v ∷ views) are = absurd are
looks_are (s ∷ course) [] are = absurd are
looks_are (s ∷ course) (v ∷ views) are = (ap is_look are.0, looks_are course views are.1)

looks_both : (a b : List (ℕ × Step)) → Looks a → Looks b → Looks (a ++ b)
looks_both [] b x y = y
looks_both (s ∷ a) b x y = (x.0, looks_both a b x.1 y)

-- a look makes no event, and so it is never refused for want of room
pub no_event : (d : Desk) (look : Look) (told : Answer) (s : Step) (e : Event) → Some (viewed look (Some told)) ≡ Some s → step_events d.params s ≡ e ∷ [] → ⊥
no_event d look told s e is makes =
    let none : [] ≡ e ∷ [] = ap (step_events d.params) (same_Some (viewed look (Some told)) s is) ∙ makes in absurd cc

-- the step of this ask is a look, whatever is told
abbrev pub IsAskOfLook : Ask → Type 0
IsAskOfLook q = (d : Desk) (base : Index) (acts : List Act) (f : StepFault) → IsCause d base acts q f → IsLogFault f → ⊥

pub step_failed : {over under : Index → Type 0} {d : Desk} {old new : List Act} {q : Ask} (f : StepFault) (end : OpFault) → end ≡ op_fault f
    → IsAskOfLook q → ((base : Index) → over base → under base) → Failed under d old new q f → EndedBy over d old new end
step_failed {d = d} {new = new} f end end_is of_look on s = record {
  looked = [];
  only_looks = tt;
  at = s.at;
  step_fault = f;
  fault_is = end_is;
  does = fault_does s;
  not_of_log = λ base o. of_look d base new f (s.cause base (on base o));
}

-- no memory was found, after these looks
pub ended_memory : {over : Index → Type 0} {d : Desk} {old new : List Act} {before now : List ℕ} {r : List View} (end : OpFault)
    → end ≡ op.Memory → MadeViews over d old new before now r → EndedBy over d old new end
ended_memory {over} {d} {old} {new} {r = r} end is m = record {
  looked = m.course;
  only_looks = looks_are m.course r m.is.are;
  at = 0;
  step_fault = fault.Memory;
  fault_is = is;
  does = subst (Does over d old new) (sym (append-nil m.course)) m.does;
  not_of_log = λ base o h. h;
}

-- no memory was found, before anything was done
pub ended_first : {over : Index → Type 0} {d : Desk} (acts : List Act) (end : OpFault) → end ≡ op.Memory → EndedBy over d acts acts end
ended_first acts end is = ended_memory end is (views_none acts [])

-- a fault ended it after these looks
pub ended_then : {over later : Index → Type 0} {d e : Desk} {old mid new : List Act} {before now : List ℕ} {r : List View} {end : OpFault}
    → e ≡ d → ((base : Index) → over base → later base) → MadeViews over d old mid before now r → EndedBy later e mid new end
    → EndedBy over d old new end
ended_then {over} {later} {d} {e} {old} {mid} {new} {r = r} same on m b = record {
  looked = m.course ++ b.looked;
  only_looks = looks_both m.course b.looked (looks_are m.course r m.is.are) b.only_looks;
  at = b.at;
  step_fault = b.step_fault;
  fault_is = b.fault_is;
  does = subst (Does over d old new) (sym (append_assoc m.course b.looked (course_at b.at (fault_step b.step_fault))))
      (does_then on m.does
      (subst (λ (k : Desk). Does later k mid new (b.looked ++ course_at b.at (fault_step b.step_fault))) same b.does));
  not_of_log = λ base o. b.not_of_log base (on base o);
}

pub ended_over : {more fewer : Index → Type 0} {d : Desk} {old new : List Act} {end : OpFault} → ((base : Index) → fewer base → more base)
    → EndedBy more d old new end → EndedBy fewer d old new end
ended_over on b = record {
  looked = b.looked;
  only_looks = b.only_looks;
  at = b.at;
  step_fault = b.step_fault;
  fault_is = b.fault_is;
  does = does_over on b.does;
  not_of_log = λ base o. b.not_of_log base (on base o);
}

-- ---- exits

-- what an error that is handed on is, says what the call ended by
pub fails : {T E : Type 0} {Q P : E → Type 0} (r : Result T E) → ((e : E) → Q e → P e) → IsErrAnd r Q → IfErr r P
fails (Ok x) end h = absurd h
fails (Err e) end h = end e h
