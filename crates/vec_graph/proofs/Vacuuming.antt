-- One vacuum at a time: while a desk's phase stands, no other desk begins or ends one, drops ids or marks nodes.
use Rattle.std.proofs.Common.{◌≡◌, ◌≢◌, ◌⊎◌, inl, inr, ℕ, ◌≤◌, List, [], ◌∷◌, ◌++◌, take, drop, length, sym, subst, take-append-drop, arith}
use Rattle.std.proofs.lemmas.List.{length-take-le, take-take}
use Rattle.std.proofs.lemmas.Option.{slice_get_within}
use Rattle.list_values.proofs.Parts.{in_order}
use Rattle.vec_names.specs.declared.tid.Tid.{Tid}
use Rattle.vec_history.specs.declared.event.Event.{Event}
use Rattle.vec_history.specs.declared.event.Event.TheVariants.{Put, Join, Link, Relist, Drop, Mark, Entry, Hint, IvfAdd, IvfGrow, IvfDrop, IvfHint, Gate, Ungate, Phase, VacuumEnd, Cancel, Settled, DiskFaulted}
use Rattle.vec_history.specs.declared.event.Act.{Act}
use Rattle.vec_history.specs.declared.stage.Stage.{Stage}
use Rattle.vec_history.specs.declared.stage.Stage.TheVariants as stages
use Rattle.vec_history.specs.Acts.{NoneFrom}
use Rattle.vec_history.specs.Phases.{IsOfVacuum, IsInPhase, IsDrop}
use Rattle.vec_history.proofs.OneAtATime.{one_phase}
use Rattle.vec_history.proofs.Prefixes.{rest_after}
use Rattle.vec_history.proofs.ByActs.{along, cut, allowed_at}
use Rattle.vec_history.proofs.OneMore.{in_longer, act_last, one_longer, phase_on}
use Rattle.list_values.proofs.Parts.{in_whole}
use Rattle.vec_graph.specs.declared.graph.Graph.{Graph}
use Rattle.vec_graph.specs.Graph.{IsDoomedAt}
use Rattle.vec_graph.specs.Places.{IsOnBlocks}
use Rattle.vec_graph.specs.Effect.{after, state_after}
use Rattle.vec_graph.specs.Rules.{IsEventAllowed}
use Rattle.vec_graph.specs.Legal.{IsAllowed, IsLegal}
use Rattle.vec_graph.specs.Lasting.{IsMarkAt}
use Rattle.vec_graph.proofs.Steps.{IsStep}
use Rattle.vec_graph.proofs.Lasting.{stays, step_after}

module _ (acts : List Act) (desk another : ℕ) (other : another ≢ desk) where
  pub its_phase : (stage other_stage : Stage) → IsInPhase acts desk stage → IsInPhase acts another other_stage → ⊥
  its_phase stage other_stage p q = other (one_phase acts another desk other_stage stage q.0 p.0 q.1 p.1).1

module _ (base : Graph) (acts : List Act) (desk another : ℕ) (other : another ≢ desk) where
  pub no_vacuum : (e : Event) → IsEventAllowed base acts another e → (stage : Stage) → IsInPhase acts desk stage → IsOfVacuum e → ⊥
  no_vacuum (Phase stages.Remove) ok stage p of = ok.no_phase (desk, stage, p)
  no_vacuum (Phase stages.Repair) ok stage p of = its_phase acts desk another other stage stages.Remove p (ok.1.begun, ok.1.phase)
  no_vacuum (Phase stages.Mark) ok stage p of = its_phase acts desk another other stage stages.Repair p (ok.begun, ok.phase)
  no_vacuum VacuumEnd ok stage p of = its_phase acts desk another other stage stages.Mark p ok.phase
  no_vacuum (Cancel other_stage) ok stage p of = its_phase acts desk another other stage other_stage p ok.phase
  no_vacuum (Put at list_at version level id bits lists) ok stage p of = of
  no_vacuum (Join at version id) ok stage p of = of
  no_vacuum (Link at list_at version slot to) ok stage p of = of
  no_vacuum (Relist at list_at version lists) ok stage p of = of
  no_vacuum (Drop at version gone) ok stage p of = of
  no_vacuum (Mark at list_at version) ok stage p of = of
  no_vacuum (Entry to level) ok stage p of = of
  no_vacuum (Hint block) ok stage p of = of
  no_vacuum (IvfAdd block id bits) ok stage p of = of
  no_vacuum (IvfGrow list last block id bits) ok stage p of = of
  no_vacuum (IvfDrop block gone) ok stage p of = of
  no_vacuum (IvfHint list block) ok stage p of = of
  no_vacuum (Gate gate hold) ok stage p of = of
  no_vacuum (Ungate gate) ok stage p of = of
  no_vacuum (Settled upto) ok stage p of = of
  no_vacuum (DiskFaulted count) ok stage p of = of

  pub no_drop : (e : Event) → IsEventAllowed base acts another e → (stage : Stage) → IsInPhase acts desk stage → IsDrop e → ⊥
  no_drop (Drop at version gone) ok stage p is = its_phase acts desk another other stage stages.Remove p ok.phase
  no_drop (Phase s) ok stage p is = is
  no_drop VacuumEnd ok stage p is = is
  no_drop (Cancel s) ok stage p is = is
  no_drop (Put at list_at version level id bits lists) ok stage p is = is
  no_drop (Join at version id) ok stage p is = is
  no_drop (Link at list_at version slot to) ok stage p is = is
  no_drop (Relist at list_at version lists) ok stage p is = is
  no_drop (Mark at list_at version) ok stage p is = is
  no_drop (Entry to level) ok stage p is = is
  no_drop (Hint block) ok stage p is = is
  no_drop (IvfAdd block id bits) ok stage p is = is
  no_drop (IvfGrow list last block id bits) ok stage p is = is
  no_drop (IvfDrop block gone) ok stage p is = is
  no_drop (IvfHint list block) ok stage p is = is
  no_drop (Gate gate hold) ok stage p is = is
  no_drop (Ungate gate) ok stage p is = is
  no_drop (Settled upto) ok stage p is = is
  no_drop (DiskFaulted count) ok stage p is = is

  pub no_mark : (e : Event) → IsEventAllowed base acts another e → (stage : Stage) → IsInPhase acts desk stage → (q : Tid) → IsMarkAt q e → ⊥
  no_mark (Mark at list_at version) ok stage p q is = its_phase acts desk another other stage stages.Mark p ok.phase
  no_mark (Drop at version gone) ok stage p q is = is
  no_mark (Phase s) ok stage p q is = is
  no_mark VacuumEnd ok stage p q is = is
  no_mark (Cancel s) ok stage p q is = is
  no_mark (Put at list_at version level id bits lists) ok stage p q is = is
  no_mark (Join at version id) ok stage p q is = is
  no_mark (Link at list_at version slot to) ok stage p q is = is
  no_mark (Relist at list_at version lists) ok stage p q is = is
  no_mark (Entry to level) ok stage p q is = is
  no_mark (Hint block) ok stage p q is = is
  no_mark (IvfAdd block id bits) ok stage p q is = is
  no_mark (IvfGrow list last block id bits) ok stage p q is = is
  no_mark (IvfDrop block gone) ok stage p q is = is
  no_mark (IvfHint list block) ok stage p q is = is
  no_mark (Gate gate hold) ok stage p q is = is
  no_mark (Ungate gate) ok stage p q is = is
  no_mark (Settled upto) ok stage p q is = is
  no_mark (DiskFaulted count) ok stage p q is = is

drop_or_not : (e : Event) → IsDrop e ⊎ (IsDrop e → ⊥)
drop_or_not (Drop at version gone) = inl tt
drop_or_not (Put at list_at version level id bits lists) = inr (λ is. is)
drop_or_not (Join at version id) = inr (λ is. is)
drop_or_not (Link at list_at version slot to) = inr (λ is. is)
drop_or_not (Relist at list_at version lists) = inr (λ is. is)
drop_or_not (Mark at list_at version) = inr (λ is. is)
drop_or_not (Entry to level) = inr (λ is. is)
drop_or_not (Hint block) = inr (λ is. is)
drop_or_not (IvfAdd block id bits) = inr (λ is. is)
drop_or_not (IvfGrow list last block id bits) = inr (λ is. is)
drop_or_not (IvfDrop block gone) = inr (λ is. is)
drop_or_not (IvfHint list block) = inr (λ is. is)
drop_or_not (Gate gate hold) = inr (λ is. is)
drop_or_not (Ungate gate) = inr (λ is. is)
drop_or_not (Phase stage) = inr (λ is. is)
drop_or_not VacuumEnd = inr (λ is. is)
drop_or_not (Cancel stage) = inr (λ is. is)
drop_or_not (Settled upto) = inr (λ is. is)
drop_or_not (DiskFaulted count) = inr (λ is. is)

same_or_other : (a b : ℕ) → (a ≡ b) ⊎ (a ≢ b)
same_or_other a b =
    elim (in_order a b) as (λ _. (a ≡ b) ⊎ (a ≢ b)) [
      | inl less ↦ inr (λ e. absurd (omega arith))
      | inr (inl same) ↦ inl same
      | inr (inr more) ↦ inr (λ e. absurd (omega arith))
    ]

-- what was doomed after an act was so before it, if that was no Drop
doomed_one : {P : Type 0} (base : Graph) (h : List Act) (a : Act) → IsStep base h a.desk a.event (after base h) (after base (h ++ a ∷ [])) → (q : Tid)
    → (IsDoomedAt (after base h) q → P) → (IsDoomedAt (after base (h ++ a ∷ [])) q → P) ⊎ IsDrop a.event
doomed_one {P} base h a step q before =
    elim (drop_or_not a.event) as (λ _. (IsDoomedAt (after base (h ++ a ∷ [])) q → P) ⊎ IsDrop a.event) [
      | inl drop ↦ inr drop
      | inr not ↦ inl (λ d. elim (step.doomed_back q d) as (λ _. P) [
        | inl was ↦ before was
        | inr drop ↦ absurd (not drop)
      ])
    ]

-- ---- a phase stands until its maker ends it

module _ (base : Graph) (desk : ℕ) (stage : Stage) where
  record Phasing (p : ℕ) (h : List Act) : Type 0 where
    met : p ≤ length h
    so : NoneFrom h p (λ a. (a.desk ≡ desk) × IsOfVacuum a.event) → IsInPhase h desk stage

  phase_one : (p : ℕ) (h : List Act) → IsLegal base h → (a : Act) → IsAllowed base h a → Phasing p h → Phasing p (h ++ a ∷ [])
  phase_one p h legal a may s = record {
    met = omega (arith, s.met, one_longer h a);
    so = λ none.
        let was = s.so (λ j b low is. none j b low (in_longer h (a ∷ []) j b is)) in
        let not_vacuum : IsOfVacuum a.event → ⊥ = (λ of.
        elim (same_or_other a.desk desk) as (λ _. ⊥) [
          | inl same ↦ none (length h) a s.met (act_last h a) (same, of)
          | inr other ↦ no_vacuum base h desk a.desk other a.event may stage was of
        ]) in
        (was.0, phase_on h a desk stage was.0 not_vacuum was.1);
  }

  pub phase_stays : (acts : List Act) → IsLegal base acts → (p : ℕ) → p ≤ length acts → NoneFrom acts p (λ a. (a.desk ≡ desk) × IsOfVacuum a.event)
      → IsInPhase (take p acts) desk stage → IsInPhase acts desk stage
  phase_stays acts legal p met none was =
      let long : length (take p acts) ≡ p = length-take-le p acts met in
      let start : Phasing p (take p acts) = record { met = omega arith; so = λ _. was } in
      let end = along (IsAllowed base) (Phasing p) (phase_one p) (take p acts) (drop p acts) (cut (IsAllowed base) acts p legal) (rest_after (IsAllowed base) [] acts p legal) start in
      let whole : Phasing p acts = subst (Phasing p) (take-append-drop p acts) end in
      whole.so none

  -- an act of that time which only a maker of a phase may do is the desk's
  module _ (acts : List Act) (legal : IsLegal base acts) (p : ℕ) (none : NoneFrom acts p (λ a. (a.desk ≡ desk) × IsOfVacuum a.event))
      (was : IsInPhase (take p acts) desk stage) where
    then : (j : ℕ) → p ≤ j → j ≤ length acts → IsInPhase (take j acts) desk stage
    then j low met =
        let long : length (take j acts) ≡ j = length-take-le j acts met in
        phase_stays (take j acts) (cut (IsAllowed base) acts j legal) p (omega arith) (λ i a from is. none i a from (in_whole j acts i a is))
        (subst (λ (h : List Act). IsInPhase h desk stage) (sym (take-take p j acts low)) was)

    pub its_drops : NoneFrom acts p (λ a. (a.desk ≡ desk) × IsDrop a.event) → NoneFrom acts p (λ a. IsDrop a.event)
    its_drops mine j a low is drop =
        let inside = slice_get_within acts j a is in
        elim (same_or_other a.desk desk) as (λ _. ⊥) [
          | inl same ↦ mine j a low is (same, drop)
          | inr other ↦ no_drop base (take j acts) desk a.desk other a.event (allowed_at (IsAllowed base) acts j a legal is) stage (then j low (omega (arith, inside))) drop
        ]

    pub its_marks : (q : Tid) → NoneFrom acts p (λ a. (a.desk ≡ desk) × IsMarkAt q a.event) → NoneFrom acts p (λ a. IsMarkAt q a.event)
    its_marks q mine j a low is mark =
        let inside = slice_get_within acts j a is in
        elim (same_or_other a.desk desk) as (λ _. ⊥) [
          | inl same ↦ mine j a low is (same, mark)
          | inr other ↦ no_mark base (take j acts) desk a.desk other a.event (allowed_at (IsAllowed base) acts j a legal is) stage (then j low (omega (arith, inside))) q mark
        ]

    -- no node becomes doomed
    pub was_doomed : p ≤ length acts → IsOnBlocks (state_after base acts p) → NoneFrom acts p (λ a. (a.desk ≡ desk) × IsDrop a.event) → (q : Tid)
        → IsDoomedAt (after base acts) q → IsDoomedAt (state_after base acts p) q
    was_doomed met on mine q d =
        stays base (λ g. IsDoomedAt g q → IsDoomedAt (state_after base acts p) q) IsDrop
        (λ h on_h a may before.
        let step = step_after base h on_h a may in
        doomed_one base h a step q before) acts legal p met on (its_drops mine) (λ e. e) d
