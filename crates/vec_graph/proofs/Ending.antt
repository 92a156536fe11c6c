-- How a vacuum ends, and which events make the state.
use Rattle.std.proofs.Common.{◌≡◌, ◌⊎◌, inl, inr, ℕ, Bool, true, false, cond, not, ◌&&◌, List, [], ◌∷◌, find, filter, Option, Some, None, refl, sym, ap, subst, ◌∙◌, true≢false}
use Rattle.std.specs.declared.cmp.Ordering.TheVariants.{Less, Equal, Greater}
use Rattle.std.specs.Ordering.{is_eq}
use Rattle.std.specs.FinMap as fin
use Rattle.std.proofs.lemmas.Bool.{and_parts, and_from}
use Rattle.std.proofs.lemmas.Option.{same_Some, none-some}
use Rattle.vec_names.specs.declared.tid.Tid.{Tid}
use Rattle.vec_names.specs.declared.heap_id.HeapId.{HeapId}
use Rattle.vec_names.specs.Order.{tid_cmp, tid_cmp_total}
use Rattle.vec_history.specs.declared.event.Event.{Event}
use Rattle.vec_history.specs.declared.event.Event.TheVariants.{Put, Join, Link, Relist, Drop, Mark, Entry, Hint, IvfAdd, IvfGrow, IvfDrop, IvfHint, Gate, Ungate, Phase, VacuumEnd, Cancel, Settled, DiskFaulted}
use Rattle.vec_history.specs.declared.event.Act.{Act}
use Rattle.vec_history.specs.declared.stage.Stage.{Stage}
use Rattle.vec_history.specs.declared.stage.Stage.TheVariants as stages
use Rattle.vec_history.specs.Phases.{IsInPhase}
use Rattle.vec_history.specs.Settling.{is_lasting}
use Rattle.vec_history.proofs.OneAtATime.{one_phase}
use Rattle.vec_graph.specs.declared.node.Node.{Node}
use Rattle.vec_graph.specs.declared.graph.Graph.{Graph}
use Rattle.vec_graph.specs.Graph.{IsDoomedAt}
use Rattle.vec_graph.specs.Effect.{effect, after}
use Rattle.vec_graph.specs.Rules.{IsVacuumEndAllowed, IsCancelAllowed}
use Rattle.vec_graph.proofs.Placing.{stands_there, passes_there}

-- ---- a doomed node, or none

is_empty : List HeapId → Bool
is_empty [] = true
is_empty (id ∷ ids) = false

is_doomed_node : Node → Bool
is_doomed_node n = not n.deleted && is_empty n.ids

empty_is : (ids : List HeapId) → is_empty ids ≡ true → ids ≡ []
unfolding is_empty
empty_is [] e = refl
empty_is (id ∷ ids) e = absurd (true≢false (sym e))

not_is : (b : Bool) → not b ≡ true → b ≡ false
not_is true e = absurd (true≢false (sym e))
not_is false e = refl

none_left : (es : List (Tid × Node)) (q : Tid) (n : Node) → find (λ (e : Tid × Node). is_doomed_node e.1) es ≡ None → fin.find tid_cmp q es ≡ Some n
    → is_doomed_node n ≡ false
none_left [] q n none is = absurd (none-some n is)
none_left (e ∷ es) q n none is =
    elim (is_doomed_node e.1) as (λ b. is_doomed_node e.1 ≡ b → cond b (Some e) (find (λ (d : Tid × Node). is_doomed_node d.1) es) ≡ None → is_doomed_node n ≡ false) [
      | true ↦ λ _ found. absurd (none-some e (sym found))
      | false ↦ λ not_here rest.
          elim (tid_cmp q e.0) as (λ r. cond (is_eq r) (Some e.1) (fin.find tid_cmp q es) ≡ Some n → is_doomed_node n ≡ false) [
            | Less ↦ λ there. none_left es q n rest there
            | Equal ↦ λ here. sym (ap is_doomed_node (same_Some _ _ here)) ∙ not_here
            | Greater ↦ λ there. none_left es q n rest there
          ] is
    ] refl none

doomed_or_none : (g : Graph) (o : Option (Tid × Node)) → find (λ (e : Tid × Node). is_doomed_node e.1) (fin.entries g.nodes) ≡ o
    → ((q : Tid) × IsDoomedAt g q) ⊎ ((q : Tid) → IsDoomedAt g q → ⊥)
unfolding is_doomed_node is_empty
doomed_or_none g None found = inr (λ q d.
    let fails = none_left (fin.entries g.nodes) q d.node found (sym (fin.get-entries g.nodes q) ∙ d.stands) in
    let passes : is_doomed_node d.node ≡ true = and_from _ _ (ap not d.doomed.not_deleted) (ap is_empty d.doomed.no_ids) in
    true≢false (sym passes ∙ fails))
doomed_or_none g (Some e) found =
    let test = λ (d : Tid × Node). is_doomed_node d.1 in
    let stands = fin.get-entries g.nodes e.0 ∙ stands_there tid_cmp tid_cmp_total (fin.entries g.nodes) test e (fin.entries_sorted g.nodes) found in
    let both = and_parts _ _ (passes_there tid_cmp tid_cmp_total (fin.entries g.nodes) test e found) in
    inl (e.0, record { node = e.1; stands = stands; doomed = record { not_deleted = not_is _ both.0; no_ids = empty_is _ both.1 } })

-- ---- the maker of a phase may end it in one way

IsBefore : Stage → Type 0
IsBefore stages.Remove = Unit {0}
IsBefore stages.Repair = Unit {0}
IsBefore stages.Mark = ⊥

not_mark : (s : Stage) → IsBefore s → s ≡ stages.Mark → ⊥
unfolding IsBefore
not_mark s before same = subst IsBefore same before

pub may_end : (base : Graph) (acts : List Act) (desk : ℕ) (stage : Stage) → IsInPhase acts desk stage
    → IsVacuumEndAllowed base acts desk ⊎ IsCancelAllowed base acts desk stage
unfolding IsBefore
may_end base acts desk stages.Remove p =
    inr (record { phase = p; not_done = λ v. absurd (let same = (one_phase acts desk desk stages.Remove stages.Mark p.0 v.phase.0 p.1 v.phase.1).2 in not_mark stages.Remove tt same) })
may_end base acts desk stages.Repair p =
    inr (record { phase = p; not_done = λ v. absurd (let same = (one_phase acts desk desk stages.Repair stages.Mark p.0 v.phase.0 p.1 v.phase.1).2 in not_mark stages.Repair tt same) })
may_end base acts desk stages.Mark p =
    elim (doomed_or_none (after base acts) _ refl) as (λ _. IsVacuumEndAllowed base acts desk ⊎ IsCancelAllowed base acts desk stages.Mark) [
      | inl some ↦ inr (record { phase = p; not_done = λ v. v.none_doomed some.0 some.1 })
      | inr none ↦ inl (record { phase = p; none_doomed = none })
    ]

-- ---- the state is what the lasting events make

passing : (e : Event) (g : Graph) → is_lasting e ≡ false → effect 255 e g ≡ g
passing (Put at list_at version level id bits lists) g e = absurd (true≢false e)
passing (Join at version id) g e = absurd (true≢false e)
passing (Link at list_at version slot to) g e = absurd (true≢false e)
passing (Relist at list_at version lists) g e = absurd (true≢false e)
passing (Drop at version gone) g e = absurd (true≢false e)
passing (Mark at list_at version) g e = absurd (true≢false e)
passing (Entry to level) g e = absurd (true≢false e)
passing (Hint block) g e = absurd (true≢false e)
passing (IvfAdd block id bits) g e = refl
passing (IvfGrow list last block id bits) g e = refl
passing (IvfDrop block gone) g e = refl
passing (IvfHint list block) g e = refl
passing (Gate gate hold) g e = refl
passing (Ungate gate) g e = refl
passing (Phase stage) g e = refl
passing VacuumEnd g e = refl
passing (Cancel stage) g e = refl
passing (Settled upto) g e = refl
passing (DiskFaulted count) g e = refl

pub by_lasting : (base : Graph) (acts : List Act) → after base acts ≡ after base (filter (λ a. is_lasting a.event) acts)
by_lasting base [] = refl
by_lasting base (a ∷ acts) =
    elim (is_lasting a.event) as (λ b. is_lasting a.event ≡ b → after base (a ∷ acts) ≡ after base (cond b (a ∷ filter (λ c. is_lasting c.event) acts) (filter (λ c. is_lasting c.event) acts))) [
      | true ↦ λ _. by_lasting (effect 255 a.event base) acts
      | false ↦ λ is. ap (λ (g : Graph). after g acts) (passing a.event base is) ∙ by_lasting base acts
    ] refl
