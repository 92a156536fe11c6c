-- Asks of gates and of a vacuum's passes: what they make, and what an index says to them.
use Rattle.std.proofs.Common.{◌≡◌, ◌≤◌, ◌==◌, ℕ, zero, suc, Bool, true, false, cond, List, [], ◌∷◌, ◌++◌, length, Option, Some, None, IfSome, refl, sym, ap, subst, ◌∙◌, arith, inl, inr}
use Rattle.std.proofs.lemmas.Bool.{eqb-true}
use Rattle.vec_names.specs.declared.params.Params.{Params}
use Rattle.vec_history.specs.declared.event.Event.{Event}
use Rattle.vec_history.specs.declared.event.Event.TheVariants as event
use Rattle.vec_history.specs.declared.event.Act.{Act}
use Rattle.vec_history.specs.declared.gate.Gate.{Gate}
use Rattle.vec_history.specs.declared.gate.Hold.{Hold}
use Rattle.vec_history.specs.declared.stage.Stage.{Stage}
use Rattle.vec_history.specs.declared.stage.Stage.TheVariants.{Remove, Repair, Mark}
use Rattle.vec_history.specs.Acts.{act_of}
use Rattle.vec_history.specs.Phases.{IsInPhase}
use Rattle.vec_history.specs.Settling.{is_lasting}
use Rattle.vec_history.proofs.OneAtATime.{one_phase}
use Rattle.vec_graph.specs.declared.graph.Graph.{Graph}
use Rattle.vec_graph.specs.Effect as nodes
use Rattle.vec_graph.specs.Rules.{IsVacuumEndAllowed, IsCancelAllowed}
use Rattle.graph_law.specs.Counting.{doomed_count}
use Rattle.graph_law.proofs.NoneDoomed.{none_doomed}
use Rattle.graph_search.specs.Deeds.{asked, Takes, Releases}
use Rattle.graph_search.specs.Deeds as deed
use Rattle.page_bytes.specs.Content.{Content}
use Rattle.vec_steps.specs.declared.ask.Ask.{Ask}
use Rattle.vec_steps.specs.declared.ask.Ask.TheVariants as ask
use Rattle.vec_steps.specs.declared.told.Told.{Told}
use Rattle.vec_steps.specs.declared.told.Word.TheVariants as word
use Rattle.vec_steps.specs.declared.fault.StepFault.{StepFault}
use Rattle.vec_steps.specs.declared.fault.StepFault.TheVariants as fault
use Rattle.vec_steps.specs.Index.{Index, OfNodes, OfLists, IsLegal}
use Rattle.vec_steps.specs.Doing.{Step, did, cleaned, Cleaned, Begins, Ends, Cleared, Says, SaysCleaned, cleaned_events}
use Rattle.vec_steps.specs.Telling.{step_of}
use Rattle.vec_steps.specs.Granting.{AgreesAtTake}
use Rattle.vec_steps.specs.Desks.{Desk, MayAsk, Asks, WantsMemory}
use Rattle.vec_steps.specs.Calls.{Stepped, SaysOf, made_by}
use Rattle.vec_steps.proofs.Legality.{goes_on}
use Rattle.vec_board.specs.declared.board_core.Core.{Core}
use Rattle.vec_board.specs.Keeping.{one_if_ends}
use Rattle.vec_board.specs.Standing.{StandsOn, acts_of}
use Rattle.vec_board.specs.Acting.{IsCommitFault}
use Rattle.vec_board.specs.Looking.{desk_of}
use Rattle.vec_board.specs.Serving.{IsTurnOf, IsBusy, EndsPhase, SaysTurn, MakesTurn, MakesJust, StandsSomehow, ending_of, end_in, spare_of}
use Rattle.vec_board.proofs.SameIndex.{summary_still}
use Rattle.vec_board.proofs.SteppedBy.{made_step}

-- ---- events

end_makes : (stage : Stage) (doomed : ℕ) → cleaned_events Ends (ending_of (end_in stage doomed)) ≡ end_in stage doomed ∷ []
end_makes Remove doomed = refl
end_makes Repair doomed = refl
end_makes Mark doomed = by (doomed == 0) where
  by : (b : Bool) → cleaned_events Ends (ending_of (cond b event.VacuumEnd (event.Cancel Mark))) ≡ cond b event.VacuumEnd (event.Cancel Mark) ∷ []
  by true = refl
  by false = refl

-- the step of the ask makes the event
pub turn_makes : (p : Params) (a : Ask) (t : Told) (e : Event) → IsTurnOf a e → made_by p (step_of a t (ending_of e)) ≡ e ∷ []
turn_makes p (ask.Take gate hold) t e is = ap (λ (x : Event). x ∷ []) (sym is)
turn_makes p (ask.Release gate) t e is = ap (λ (x : Event). x ∷ []) (sym is)
turn_makes p (ask.Phase stage) t e is = ap (λ (x : Event). x ∷ []) (sym is)
turn_makes p ask.EndVacuum t e is =
    subst (λ (x : Event). cleaned_events Ends (ending_of x) ≡ x ∷ []) (sym is.2) (end_makes is.0 is.1)
turn_makes p _ t e is = absurd is

end_passes : (stage : Stage) (doomed : ℕ) → is_lasting (end_in stage doomed) ≡ false
end_passes Remove doomed = refl
end_passes Repair doomed = refl
end_passes Mark doomed = by (doomed == 0) where
  by : (b : Bool) → is_lasting (cond b event.VacuumEnd (event.Cancel Mark)) ≡ false
  by true = refl
  by false = refl

-- it goes to no page
pub turn_passes : (a : Ask) (e : Event) → IsTurnOf a e → is_lasting e ≡ false
turn_passes (ask.Take gate hold) e is = ap is_lasting is
turn_passes (ask.Release gate) e is = ap is_lasting is
turn_passes (ask.Phase stage) e is = ap is_lasting is
turn_passes ask.EndVacuum e is = ap is_lasting is.2 ∙ end_passes is.0 is.1
turn_passes _ e is = absurd is

-- ---- memory

none_spare : (n : ℕ) → (1 ≤ n → ⊥) → n ≡ 0
none_spare zero no_room = refl
none_spare (suc n) no_room = absurd (no_room (omega arith))

end_ends : (stage : Stage) (doomed : ℕ) → one_if_ends (end_in stage doomed) ≡ 1
end_ends Remove doomed = refl
end_ends Repair doomed = refl
end_ends Mark doomed = by (doomed == 0) where
  by : (b : Bool) → one_if_ends (cond b event.VacuumEnd (event.Cancel Mark)) ≡ 1
  by true = refl
  by false = refl

module _ (core : Core) (desk : ℕ) (e : Event) where
  by_spare : IsCommitFault core desk e 0 fault.Memory → spare_of core desk ≡ 0
  by_spare (inl none) = none_spare (spare_of core desk) (λ has. none (inr has))
  by_spare (inr pages) = absurd (omega (arith, pages))

  never_ends : one_if_ends e ≡ 1 → IsCommitFault core desk e 0 fault.Memory → ⊥
  never_ends ends (inl none) = none (inl ends)
  never_ends ends (inr pages) = omega (arith, pages)

  wants_by : (a : Ask) → IsTurnOf a e → IsCommitFault core desk e 0 fault.Memory → WantsMemory (spare_of core desk) a
  wants_by (ask.Take gate hold) is no_room = by_spare no_room
  wants_by (ask.Release gate) is no_room = never_ends (ap one_if_ends is) no_room
  wants_by (ask.Phase stage) is no_room = by_spare no_room
  wants_by ask.EndVacuum is no_room = never_ends (ap one_if_ends is.2 ∙ end_ends is.0 is.1) no_room
  wants_by _ is no_room = absurd is

  -- memory is wanted only where the ask may want it
  pub turn_wants : (a : Ask) → IsTurnOf a e → (f : StepFault) → IsCommitFault core desk e 0 f → f ≡ fault.Memory → WantsMemory (spare_of core desk) a
  turn_wants a of fault.Memory why is = wants_by a of why
  turn_wants a of (fault.LogFull used size) why is = absurd cc
  turn_wants a of (fault.Disk count) why is = absurd why

  pub never_disk : (f : StepFault) → IsCommitFault core desk e 0 f → (count : ℕ) → f ≡ fault.Disk count → ⊥
  never_disk fault.Memory why count is = cc
  never_disk (fault.LogFull used size) why count is = cc
  never_disk (fault.Disk n) why count is = why

-- ---- what an index says

pub take_says : (core : Core) (gate : Gate) (hold : Hold) (e : Event) → SaysTurn core (ask.Take gate hold) e
take_says core gate hold e = λ desk all base told s may. by desk base where
  by : (desk : ℕ) (base : Index) → Says core.params base (acts_of core) desk (did (asked (Takes gate hold) deed.Done))
  by desk (OfNodes g) = refl
  by desk (OfLists g) = refl

pub release_says : (core : Core) (gate : Gate) (e : Event) → SaysTurn core (ask.Release gate) e
release_says core gate e = λ desk all base told s may. by desk base where
  by : (desk : ℕ) (base : Index) → Says core.params base (acts_of core) desk (did (asked (Releases gate) deed.Done))
  by desk (OfNodes g) = refl
  by desk (OfLists g) = refl

phase_by : (core : Core) (stage : Stage) (desk : ℕ) (base : Index) → MayAsk (desk_of core desk) base (acts_of core) (ask.Phase stage)
    → Says core.params base (acts_of core) desk (cleaned (Begins stage) Cleared)
phase_by core stage desk (OfNodes g) may = refl
phase_by core stage desk (OfLists g) may = absurd may

pub phase_says : (core : Core) (stage : Stage) (e : Event) → SaysTurn core (ask.Phase stage) e
phase_says core stage e = λ desk all base told s may. phase_by core stage desk base may

module _ (g : Graph) (acts : List Act) (desk doomed : ℕ) (count : doomed ≡ doomed_count (nodes.after g acts)) where
  no_mark : (stage : Stage) → IsInPhase acts desk stage → (stage ≡ Mark → ⊥) → IsCancelAllowed g acts desk stage
  no_mark stage mine other = record {
    phase = mine;
    not_done = λ done. other (one_phase acts desk desk stage Mark mine.0 done.phase.0 mine.1 done.phase.1).2;
  }

  ends_marking : IsInPhase acts desk Mark → (b : Bool) → (doomed == 0) ≡ b
      → SaysCleaned g acts desk Ends (ending_of (cond b event.VacuumEnd (event.Cancel Mark)))
  ends_marking mine true none = record {
    phase = mine;
    none_doomed = (none_doomed (nodes.after g acts)).0 (sym count ∙ eqb-true doomed 0 none);
  }
  ends_marking mine false some = record {
    phase = mine;
    not_done = λ done.
        let zero_now : doomed ≡ 0 = count ∙ (none_doomed (nodes.after g acts)).1 done.none_doomed in
        let both : true ≡ false = sym (ap (λ n. n == 0) zero_now) ∙ some in
        absurd cc;
  }

  ends_in : (stage : Stage) → IsInPhase acts desk stage → SaysCleaned g acts desk Ends (ending_of (end_in stage doomed))
  ends_in Remove mine = no_mark Remove mine (λ is. absurd cc)
  ends_in Repair mine = no_mark Repair mine (λ is. absurd cc)
  ends_in Mark mine = ends_marking mine (doomed == 0) refl

end_by : (core : Core) (e : Event) → EndsPhase core e → (desk : ℕ) (all : List Content) (base : Index) → StandsOn core all base
    → MayAsk (desk_of core desk) base (acts_of core) ask.EndVacuum → Says core.params base (acts_of core) desk (cleaned Ends (ending_of e))
end_by core e ends desk all (OfNodes g) s may =
    let acts = acts_of core in
    let stands = ends.stands acts s.told in
    let one = one_phase acts ends.phase.desk desk ends.phase.stage may.0 stands.0 may.1.0 stands.1 may.1.1 in
    let mine : IsInPhase acts desk ends.phase.stage = subst (λ n. IsInPhase acts n ends.phase.stage) one.1 stands in
    subst (λ (x : Event). SaysCleaned g acts desk Ends (ending_of x)) (sym ends.is)
    (ends_in g acts desk core.summary.doomed s.summary.doomed ends.phase.stage mine)
end_by core e ends desk all (OfLists g) s may = absurd may

pub end_says : (core : Core) (e : Event) → EndsPhase core e → SaysTurn core ask.EndVacuum e
end_says core e ends = λ desk all base told s may. end_by core e ends desk all base s may

pub ends_say : (core : Core) (o : Option Event) → IfSome o (EndsPhase core) → IfSome o (SaysTurn core ask.EndVacuum)
ends_say core None ends = ends
ends_say core (Some e) ends = end_says core e ends

-- there is a phase, where the vacuum may be asked to end
pub phase_there : (core : Core) (desk : ℕ) (base : Index) → MayAsk (desk_of core desk) base (acts_of core) ask.EndVacuum
    → (stage : Stage) × IsInPhase (acts_of core) desk stage
phase_there core desk (OfNodes g) may = may
phase_there core desk (OfLists g) may = absurd may

-- ---- legality

module _ (core : Core) (desk : ℕ) (all : List Content) (base : Index) (s : StandsOn core all base) (a : Ask) (t : Told) (ending : Cleaned) (e : Event)
    (may : MayAsk (desk_of core desk) base (acts_of core) a) (agrees : AgreesAtTake (acts_of core) desk a) where
  by_step : (o : Option Step) → step_of a t ending ≡ o → SaysOf (desk_of core desk) base (acts_of core) o → made_by core.params o ≡ e ∷ []
      → IsLegal base (acts_of core ++ act_of desk e ∷ [])
  by_step None is says made = absurd cc
  by_step (Some step) is says made =
      goes_on base (acts_of core) (desk_of core desk) s.of_params.has s.shaped s.legal a t ending step e may agrees is says made

  -- the event of an ask that is granted keeps the history legal
  pub granted : SaysOf (desk_of core desk) base (acts_of core) (step_of a t ending) → made_by core.params (step_of a t ending) ≡ e ∷ []
      → IsLegal base (acts_of core ++ act_of desk e ∷ [])
  granted says made = by_step (step_of a t ending) refl says made

pub turn_legal : (core : Core) (desk : ℕ) (all : List Content) (base : Index) → StandsOn core all base → (a : Ask) (t : Told) (e : Event)
    → IsTurnOf a e → SaysTurn core a e → MayAsk (desk_of core desk) base (acts_of core) a → AgreesAtTake (acts_of core) desk a
    → IsLegal base (acts_of core ++ act_of desk e ∷ [])
turn_legal core desk all base s a t e of says may agrees =
    granted core desk all base s a t (ending_of e) e may agrees (says desk all base t s may) (turn_makes core.params a t e of)

-- a word of Done is not Busy
pub not_busy : (a : Ask) (t : Told) → t.word ≡ word.Done → IsBusy a t → ⊥
not_busy (ask.Take gate hold) t done busy = let both : word.Done ≡ word.Busy = sym done ∙ busy in cc
not_busy _ t done busy = busy

-- ---- the step

module _ (old new : Core) (desk : ℕ) (a : Ask) (t : Told) (made : MakesTurn old new desk a) where
  pub turned : t.at ≡ length (acts_of old)
      → Stepped (Asks (StandsSomehow old) (desk_of old desk) (acts_of old) a) (desk_of old desk) (acts_of old) (acts_of new) a ask.Spent t
  turned at =
      let passes = turn_passes a made.event made.of in
      made_step (Asks (StandsSomehow old) (desk_of old desk) (acts_of old) a) (desk_of old desk) (acts_of old) (acts_of new) a t
      (ending_of made.event) made.event (turn_makes old.params a t made.event made.of) at made.made.acts
      (λ base asks. made.says desk asks.stood.0 base t asks.stood.1 asks.may)
      (λ lasts. let both : true ≡ false = sym lasts ∙ passes in absurd cc)

  pub turn_made : (ending : Cleaned) × MakesJust old new desk (made_by old.params (step_of a t ending))
  turn_made = (ending_of made.event, subst (MakesJust old new desk) (sym (turn_makes old.params a t made.event made.of)) (0, made.made))

  -- what is known of the index stays
  pub turn_summary : new.summary ≡ old.summary
  turn_summary = made.made.summary ∙ summary_still old.summary made.event 0 (turn_passes a made.event made.of)
