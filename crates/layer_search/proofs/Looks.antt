-- Looks that follow each other, and calls that a fault ends.
use Rattle.std.proofs.Common.{◌≡◌, ℕ, List, [], ◌∷◌, ◌++◌, map, Option, Some, refl, sym, ap, subst, ◌∙◌, append_assoc, append-nil}
use Rattle.std.specs.Prelude.{Result, Ok, Err, IfErr}
use Rattle.std.specs.Result.{IsErrAnd}
use Rattle.std.proofs.lemmas.Option.{same_Some}
use Rattle.std.proofs.lemmas.List.{map-append}
use Rattle.vec_names.specs.declared.tid.Tid.{Tid}
use Rattle.vec_history.specs.declared.event.Event.{Event}
use Rattle.vec_history.specs.declared.event.Act.{Act}
use Rattle.graph_search.specs.Reads.{Look, AtMeta, AtNode, AtList, Answer, OfMeta}
use Rattle.graph_search.specs.Deeds.{looked, looks_of}
use Rattle.search_sets.specs.declared.spot.Spot.{Spot}
use Rattle.vec_steps.specs.declared.ask.Ask.{Ask}
use Rattle.vec_steps.specs.declared.ask.Ask.TheVariants as ask
use Rattle.vec_steps.specs.declared.told.Told.{Told}
use Rattle.vec_steps.specs.declared.fault.StepFault.{StepFault}
use Rattle.vec_steps.specs.declared.fault.StepFault.TheVariants as fault
use Rattle.vec_steps.specs.declared.fault.OpFault.{OpFault}
use Rattle.vec_steps.specs.declared.fault.OpFault.TheVariants as op
use Rattle.vec_steps.specs.Faults.{op_fault}
use Rattle.vec_steps.specs.Index.{Index, OfNodes, OfLists}
use Rattle.vec_steps.specs.Doing.{Step, did, step_events}
use Rattle.vec_steps.specs.Telling.{list_told, node_told, fault_step}
use Rattle.vec_steps.specs.Desks.{Asks, Desk}
use Rattle.vec_steps.specs.Calls.{AreDeeds, Does, Failed, IsCause, IsLogFault, Looks, Stepped, course_at, is_look}
use Rattle.vec_steps.proofs.Following.{does_nothing, does_over, does_so_then, does_then, fault_does, one_step}
use Rattle.vec_steps.proofs.AsDeeds.{deeds_both}
use Rattle.layer_search.specs.Telling.{OverSpots}
use Rattle.layer_search.specs.Looking.{EndedBy, LooksSo, MadeLooks}
use Rattle.layer_search.specs.Running.{list_look}

-- ---- looks after each other

looked_both : (r s : List (Look × Answer)) (before mid now : List ℕ) (a b : List (ℕ × Step)) → LooksSo r before mid a → LooksSo s mid now b
    → LooksSo (r ++ s) before now (a ++ b)
looked_both r s before mid now a b x y = record {
  deeds = subst (AreDeeds (a ++ b)) (sym (map-append (λ (l : Look × Answer). looked l.0 l.1) r s))
      (deeds_both a b (looks_of r) (looks_of s) x.deeds y.deeds);
  traced = y.traced ∙ ap (λ (l : List ℕ). l ++ map (λ (t : ℕ × Step). t.0) b) x.traced
      ∙ append_assoc before (map (λ (t : ℕ × Step). t.0) a) (map (λ (t : ℕ × Step). t.0) b)
      ∙ ap (λ (l : List ℕ). before ++ l) (sym (map-append (λ (t : ℕ × Step). t.0) a b));
}

pub looks_then : {over later : Index → Type 0} {d e : Desk} {old mid new : List Act} {before then now : List ℕ} {r s : List (Look × Answer)} → e ≡ d
    → ((base : Index) → over base → later base) → MadeLooks over d old mid before then r → MadeLooks later e mid new then now s
    → MadeLooks over d old new before now (r ++ s)
looks_then {before = before} {then = then} {now = now} {r = r} {s = s} same on x y =
    does_so_then same (λ a b p q. looked_both r s before then now a b p q) on x y

pub looks_none : {over : Index → Type 0} {d : Desk} (acts : List Act) (trace : List ℕ) → MadeLooks over d acts acts trace trace []
looks_none acts trace = record { course = []; does = does_nothing acts; is = record { deeds = tt; traced = sym (append-nil trace) } }

-- ---- one look

pub list_asks : {stands : Index → Type 0} {d : Desk} {acts : List Act} (spot : Spot) (layer : ℕ) (base : Index)
    → OverSpots stands acts layer (spot ∷ []) base → Asks stands d acts (ask.List spot.at spot.list_at spot.level spot.version layer) base
list_asks spot layer (OfNodes g) o = record { stood = o.stood; may = o.there.0 }
list_asks spot layer (OfLists g) o = absurd o.there

pub node_asks : {stands : Index → Type 0} {d : Desk} {acts : List Act} (at : Tid) (layer : ℕ) (version : Option ℕ) (over_layer : ℕ) (base : Index)
    → OverSpots stands acts over_layer [] base → Asks stands d acts (ask.Node at layer version) base
node_asks at layer version over_layer (OfNodes g) o = record { stood = o.stood; may = tt }
node_asks at layer version over_layer (OfLists g) o = absurd o.there

module _ {stands : Index → Type 0} {d : Desk} {old new : List Act} {before now : List ℕ} {left : Ask} {told : Told} where
  pub list_looked : (spot : Spot) (layer : ℕ)
      → Stepped (Asks stands d old (ask.List spot.at spot.list_at spot.level spot.version layer)) d old new
      (ask.List spot.at spot.list_at spot.level spot.version layer) left told → now ≡ before ++ told.at ∷ []
      → MadeLooks (OverSpots stands old layer (spot ∷ [])) d old new before now ((list_look spot layer, list_told told.word told) ∷ [])
  list_looked spot layer s traced = record {
    course = (told.at, did (looked (list_look spot layer) (list_told told.word told))) ∷ [];
    does = one_step (list_asks spot layer) s;
    is = record { deeds = (refl, tt); traced = traced };
  }

  pub node_looked : (at : Tid) (layer : ℕ) (version : Option ℕ) → Stepped (Asks stands d old (ask.Node at layer version)) d old new
      (ask.Node at layer version) left told → now ≡ before ++ told.at ∷ []
      → MadeLooks (OverSpots stands old layer []) d old new before now ((AtNode at layer version, node_told told.word told.list_at told) ∷ [])
  node_looked at layer version s traced = record {
    course = (told.at, did (looked (AtNode at layer version) (node_told told.word told.list_at told))) ∷ [];
    does = one_step (node_asks at layer version layer) s;
    is = record { deeds = (refl, tt); traced = traced };
  }

-- ---- faults

pub looks_are : (course : List (ℕ × Step)) (reads : List (Look × Answer)) → AreDeeds course (looks_of reads) → Looks course
looks_are [] [] are = tt
looks_are [] (r ∷ reads) are = absurd are
looks_are (s ∷ course) [] are = absurd are
looks_are (s ∷ course) (r ∷ reads) are = (ap is_look are.0, looks_are course reads are.1)

looks_both : (a b : List (ℕ × Step)) → Looks a → Looks b → Looks (a ++ b)
looks_both [] b x y = y
looks_both (s ∷ a) b x y = (x.0, looks_both a b x.1 y)

-- a look makes no event, and so it is never refused for want of room
no_event : (d : Desk) (look : Look) (told : Answer) (s : Step) (e : Event) → Some (did (looked look told)) ≡ Some s → step_events d.params s ≡ e ∷ [] → ⊥
no_event d look told s e is makes =
    let none : [] ≡ e ∷ [] = ap (step_events d.params) (same_Some (did (looked look told)) s is) ∙ makes in absurd cc

never_of_list : (d : Desk) (base : Index) (acts : List Act) (at list_at : Tid) (level version layer : ℕ) (f : StepFault)
    → IsCause d base acts (ask.List at list_at level version layer) f → IsLogFault f → ⊥
never_of_list d base acts at list_at level version layer fault.Memory cause h = h
never_of_list d base acts at list_at level version layer (fault.Disk count) cause h = h
never_of_list d base acts at list_at level version layer (fault.LogFull used size) cause h =
    no_event d (AtList at list_at level version layer) (list_told cause.told.word cause.told) cause.step cause.event cause.would cause.makes

never_of_node : (d : Desk) (base : Index) (acts : List Act) (at : Tid) (layer : ℕ) (version : Option ℕ) (f : StepFault)
    → IsCause d base acts (ask.Node at layer version) f → IsLogFault f → ⊥
never_of_node d base acts at layer version fault.Memory cause h = h
never_of_node d base acts at layer version (fault.Disk count) cause h = h
never_of_node d base acts at layer version (fault.LogFull used size) cause h =
    no_event d (AtNode at layer version) (node_told cause.told.word cause.told.list_at cause.told) cause.step cause.event cause.would cause.makes

module _ {stands : Index → Type 0} {d : Desk} {old new : List Act} (f : StepFault) (end : OpFault) (end_is : end ≡ op_fault f) where
  pub list_failed : (spot : Spot) (layer : ℕ) → Failed (Asks stands d old (ask.List spot.at spot.list_at spot.level spot.version layer)) d old new
      (ask.List spot.at spot.list_at spot.level spot.version layer) f → EndedBy (OverSpots stands old layer (spot ∷ [])) d old new end
  list_failed spot layer s = record {
    looked = [];
    only_looks = tt;
    at = s.at;
    step_fault = f;
    fault_is = end_is;
    does = fault_does s;
    not_of_log = λ base o. never_of_list d base new spot.at spot.list_at spot.level spot.version layer f (s.cause base (list_asks spot layer base o));
  }

  pub node_failed : (at : Tid) (layer : ℕ) (version : Option ℕ) → Failed (Asks stands d old (ask.Node at layer version)) d old new
      (ask.Node at layer version) f → EndedBy (OverSpots stands old layer []) d old new end
  node_failed at layer version s = record {
    looked = [];
    only_looks = tt;
    at = s.at;
    step_fault = f;
    fault_is = end_is;
    does = fault_does s;
    not_of_log = λ base o. never_of_node d base new at layer version f (s.cause base (node_asks at layer version layer base o));
  }

-- no memory was found, after these looks
pub ended_memory : {over : Index → Type 0} {d : Desk} {old new : List Act} {before now : List ℕ} {r : List (Look × Answer)} (end : OpFault)
    → end ≡ op.Memory → MadeLooks over d old new before now r → EndedBy over d old new end
ended_memory {over} {d} {old} {new} {r = r} end is m = record {
  looked = m.course;
  only_looks = looks_are m.course r m.is.deeds;
  at = 0;
  step_fault = fault.Memory;
  fault_is = is;
  does = subst (Does over d old new) (sym (append-nil m.course)) m.does;
  not_of_log = λ base o h. h;
}

-- no memory was found, before anything was done
pub ended_first : {over : Index → Type 0} {d : Desk} (acts : List Act) (end : OpFault) → end ≡ op.Memory → EndedBy over d acts acts end
ended_first acts end is = ended_memory end is (looks_none acts [])

-- a fault ended it after these looks
pub ended_then : {over later : Index → Type 0} {d e : Desk} {old mid new : List Act} {before now : List ℕ} {r : List (Look × Answer)} {end : OpFault}
    → e ≡ d → ((base : Index) → over base → later base) → MadeLooks over d old mid before now r → EndedBy later e mid new end
    → EndedBy over d old new end
ended_then {over} {later} {d} {e} {old} {mid} {new} {r = r} same on m b = record {
  looked = m.course ++ b.looked;
  only_looks = looks_both m.course b.looked (looks_are m.course r m.is.deeds) b.only_looks;
  at = b.at;
  step_fault = b.step_fault;
  fault_is = b.fault_is;
  does = subst (Does over d old new) (sym (append_assoc m.course b.looked (course_at b.at (fault_step b.step_fault))))
      (does_then on m.does
      (subst (λ (k : Desk). Does later k mid new (b.looked ++ course_at b.at (fault_step b.step_fault))) same b.does));
  not_of_log = λ base o. b.not_of_log base (on base o);
}

pub ended_over : {more fewer : Index → Type 0} {d : Desk} {old new : List Act} {end : OpFault} → ((base : Index) → fewer base → more base)
    → EndedBy more d old new end → EndedBy fewer d old new end
ended_over on b = record {
  looked = b.looked;
  only_looks = b.only_looks;
  at = b.at;
  step_fault = b.step_fault;
  fault_is = b.fault_is;
  does = does_over on b.does;
  not_of_log = λ base o. b.not_of_log base (on base o);
}

-- ---- exits

-- what an error that is handed on is, says what the call ended by
pub fails : {T E : Type 0} {Q P : E → Type 0} (r : Result T E) → ((e : E) → Q e → P e) → IsErrAnd r Q → IfErr r P
fails (Ok x) end h = absurd h
fails (Err e) end h = end e h

-- ---- the meta tuple

pub meta_asks : {stands : Index → Type 0} {d : Desk} {acts : List Act} (layer : ℕ) (base : Index) → OverSpots stands acts layer [] base
    → Asks stands d acts ask.Meta base
meta_asks layer (OfNodes g) o = record { stood = o.stood; may = tt }
meta_asks layer (OfLists g) o = absurd o.there

pub meta_looked : {stands : Index → Type 0} {d : Desk} {old new : List Act} {before now : List ℕ} {left : Ask} {told : Told} (layer : ℕ)
    → Stepped (Asks stands d old ask.Meta) d old new ask.Meta left told → now ≡ before ++ told.at ∷ []
    → MadeLooks (OverSpots stands old layer []) d old new before now ((AtMeta, OfMeta told.tid told.level told.hint told.blocks) ∷ [])
meta_looked {told = told} layer s traced = record {
  course = (told.at, did (looked AtMeta (OfMeta told.tid told.level told.hint told.blocks))) ∷ [];
  does = one_step (meta_asks layer) s;
  is = record { deeds = (refl, tt); traced = traced };
}

never_of_meta : (d : Desk) (base : Index) (acts : List Act) (f : StepFault) → IsCause d base acts ask.Meta f → IsLogFault f → ⊥
never_of_meta d base acts fault.Memory cause h = h
never_of_meta d base acts (fault.Disk count) cause h = h
never_of_meta d base acts (fault.LogFull used size) cause h =
    no_event d AtMeta (OfMeta cause.told.tid cause.told.level cause.told.hint cause.told.blocks) cause.step cause.event cause.would cause.makes

pub meta_failed : {stands : Index → Type 0} {d : Desk} {old new : List Act} (layer : ℕ) (f : StepFault) (end : OpFault) → end ≡ op_fault f
    → Failed (Asks stands d old ask.Meta) d old new ask.Meta f → EndedBy (OverSpots stands old layer []) d old new end
meta_failed {d = d} {new = new} layer f end end_is s = record {
  looked = [];
  only_looks = tt;
  at = s.at;
  step_fault = f;
  fault_is = end_is;
  does = fault_does s;
  not_of_log = λ base o. never_of_meta d base new f (s.cause base (meta_asks layer base o));
}
