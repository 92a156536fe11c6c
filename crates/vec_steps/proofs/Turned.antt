-- What a desk with one gate answers, and how it fails.
use Rattle.std.proofs.Common.{◌≡◌, ℕ, zero, suc, ◌+◌, ◌-◌, ◌≤◌, List, [], ◌∷◌, ◌++◌, take, length, Option, Some, None, refl, sym, ap, subst, ◌∙◌, append-nil, arith}
use Rattle.vec_history.specs.declared.event.Event.{Event}
use Rattle.vec_history.specs.declared.event.Act.{Act}
use Rattle.vec_history.specs.declared.gate.Gate.{Gate}
use Rattle.vec_graph.specs.declared.graph.Graph.{Graph}
use Rattle.vec_graph.specs.Effect.{after}
use Rattle.graph_search.specs.Reads.{Look, AtMeta, AtNode, AtList, Answer, answer_of}
use Rattle.graph_search.specs.Deeds.{looked}
use Rattle.vec_steps.specs.declared.ask.Ask.{Ask}
use Rattle.vec_steps.specs.declared.ask.Ask.TheVariants as ask
use Rattle.vec_steps.specs.declared.told.Told.{Told}
use Rattle.vec_steps.specs.declared.fault.StepFault.{StepFault}
use Rattle.vec_steps.specs.declared.fault.StepFault.TheVariants as fault
use Rattle.vec_steps.specs.declared.gate_desk.Turn.{Turn}
use Rattle.vec_steps.specs.declared.gate_desk.Turn.TheVariants as turn
use Rattle.vec_steps.specs.declared.gate_desk.GateDesk.{GateDesk}
use Rattle.vec_steps.specs.Index.{Index, OfNodes, OfLists}
use Rattle.vec_steps.specs.Doing.{Step, did, Cleaned, Ended}
use Rattle.vec_steps.specs.Telling.{step_of, left_of}
use Rattle.vec_steps.specs.Desks.{Desk, Asks, WantsMemory, spare_after}
use Rattle.vec_steps.specs.Calls.{Came, Failed, NotSettled, Stepped, SaysOf, made_by}
use Rattle.vec_steps.specs.Still.{AnswersLook, IsRefused}
use Rattle.vec_steps.specs.Turns.{acts_of, turn_desk, turn_seen, turn_stands}
use Rattle.vec_steps.proofs.Stillness.{no_odd, no_wide}
use Rattle.vec_steps.proofs.Turning.{no_phase_in}

nothing : (e : Event) → [] ≡ e ∷ [] → ⊥
nothing e is = absurd cc

not_both : fault.Memory ≡ fault.LogFull 0 0 → ⊥
not_both e = absurd cc

-- its acts leave the graph as it is
as_it_is : (b : Graph) (n : ℕ) (t : Turn) (k : ℕ) → after b (take k (acts_of n t)) ≡ b
as_it_is b n turn.Before zero = refl
as_it_is b n turn.Before (suc k) = refl
as_it_is b n (turn.Holding gate hold) zero = refl
as_it_is b n (turn.Holding gate hold) (suc zero) = refl
as_it_is b n (turn.Holding gate hold) (suc (suc k)) = refl
as_it_is b n (turn.After gate hold) zero = refl
as_it_is b n (turn.After gate hold) (suc zero) = refl
as_it_is b n (turn.After gate hold) (suc (suc zero)) = refl
as_it_is b n (turn.After gate hold) (suc (suc (suc k))) = refl

pub came_nothing : (d : Desk) (acts : List Act) (n : ℕ) → n ≡ length acts → Came d acts acts n None
came_nothing d acts n here = record {
  others = [];
  foreign = refl;
  all = sym (append-nil (acts ++ []) ∙ append-nil acts);
  here = let whole : n ≡ length acts + 0 = omega (arith, here) in whole;
}

look_says : (d : GateDesk) (k : ℕ) (look : Look) (told : Answer) → told ≡ answer_of d.still.graph look → (base : Index) → turn_stands d base
    → SaysOf (turn_desk d) base (take k (turn_seen d)) (Some (did (looked look told)))
look_says d k look told says (OfNodes b) s =
    says ∙ ap (λ (g : Graph). answer_of g look) (sym (as_it_is b d.still.number d.turn k ∙ s.0.same))
look_says d k look told says (OfLists b) s = absurd s.0

look_stepped : (d : GateDesk) (q : Ask) (told : Told) (look : Look) (answer : Answer) → told.at ≡ length (turn_seen d)
    → step_of q told Ended ≡ Some (did (looked look answer)) → ((ending : Cleaned) → step_of q told Ended ≡ step_of q told ending) → answer ≡ answer_of d.still.graph look
    → Stepped (Asks (turn_stands d) (turn_desk d) (turn_seen d) q) (turn_desk d) (turn_seen d) (turn_seen d) q q told
look_stepped d q told look answer here is any says =
    let o : Option Step = Some (did (looked look answer)) in
    record {
      ending = Ended;
      came = subst (Came (turn_desk d) (turn_seen d) (turn_seen d) told.at) (sym is) (came_look here);
      says = λ base a. subst (SaysOf (turn_desk d) base (take told.at (turn_seen d))) (sym is) (look_says d told.at look answer says base a.stood);
      left_is = subst (λ p. q ≡ left_of q (made_by (turn_desk d).params p)) (sym is) refl;
      fits = λ e none. absurd (nothing e (subst (λ p. made_by (turn_desk d).params p ≡ e ∷ []) is none));
    }
  where
    came_look : told.at ≡ length (turn_seen d) → Came (turn_desk d) (turn_seen d) (turn_seen d) told.at (Some (did (looked look answer)))
    came_look same = let c = came_nothing (turn_desk d) (turn_seen d) told.at same in record { others = c.others; foreign = c.foreign; all = c.all; here = c.here }

pub answered : (d : GateDesk) (q : Ask) (told : Told) → told.at ≡ length (turn_seen d) → AnswersLook d.still.graph q told
    → Stepped (Asks (turn_stands d) (turn_desk d) (turn_seen d) q) (turn_desk d) (turn_seen d) (turn_seen d) q q told
answered d ask.Spent told here says = record { ending = Ended; came = came_nothing (turn_desk d) (turn_seen d) told.at here; says = λ base o. tt; left_is = refl; fits = λ e none. absurd (nothing e none) }
answered d (ask.Reserve events) told here says = absurd says
answered d ask.Meta told here says = look_stepped d ask.Meta told AtMeta _ here refl (λ ending. refl) says
answered d (ask.Node at layer version) told here says = look_stepped d (ask.Node at layer version) told (AtNode at layer version) _ here refl (λ ending. refl) says
answered d (ask.List at list_at level version layer) told here says = look_stepped d (ask.List at list_at level version layer) told (AtList at list_at level version layer) _ here refl (λ ending. refl) says
answered d (ask.Page block) told here says = absurd says
answered d (ask.Put block node) told here says = absurd says
answered d (ask.PutNew node) told here says = absurd says
answered d (ask.Join at version id) told here says = absurd says
answered d (ask.Link at list_at level version layer slot held to) told here says = absurd says
answered d (ask.Relist at list_at version lists) told here says = absurd says
answered d (ask.Drop at version gone) told here says = absurd says
answered d (ask.Mark at list_at version) told here says = absurd says
answered d (ask.Entry to level) told here says = absurd says
answered d (ask.Hint block) told here says = absurd says
answered d (ask.Take gate hold) told here says = absurd says
answered d (ask.Release gate) told here says = absurd says
answered d (ask.Phase stage) told here says = absurd says
answered d ask.EndVacuum told here says = absurd says
answered d (ask.Centres block) told here says = absurd says
answered d (ask.Rows block) told here says = absurd says
answered d (ask.Add block id bits) told here says = absurd says
answered d (ask.Extend list last id bits) told here says = absurd says
answered d (ask.Cut block gone) told here says = absurd says
answered d (ask.Aim list block) told here says = absurd says

-- ---- how it fails

no_end_so : (d : GateDesk) (base : Index) → Asks (turn_stands d) (turn_desk d) (turn_seen d) ask.EndVacuum base → ⊥
no_end_so d (OfNodes b) o = no_phase_in d.still.number d.still.number d.turn o.may.0 o.may.1
no_end_so d (OfLists b) o = absurd o.stood.0

never_so : (d : GateDesk) (q : Ask) → ((base : Index) → Asks (turn_stands d) (turn_desk d) (turn_seen d) q base → ⊥) → (f : StepFault) → f ≡ fault.LogFull 0 0
    → Failed (Asks (turn_stands d) (turn_desk d) (turn_seen d) q) (turn_desk d) (turn_seen d) (turn_seen d) q f
never_so d q none f is =
    subst (Failed (Asks (turn_stands d) (turn_desk d) (turn_seen d) q) (turn_desk d) (turn_seen d) (turn_seen d) q) (sym is)
    (record { at = length (turn_seen d); came = came_nothing (turn_desk d) (turn_seen d) (length (turn_seen d)) refl; cause = λ base o. absurd (none base o) })

pub wants_so : (d : GateDesk) (q : Ask) (f : StepFault) → f ≡ fault.Memory
    → Failed (Asks (turn_stands d) (turn_desk d) (turn_seen d) q) (turn_desk d) (turn_seen d) (turn_seen d) q f
wants_so d q f is =
    subst (Failed (Asks (turn_stands d) (turn_desk d) (turn_seen d) q) (turn_desk d) (turn_seen d) (turn_seen d) q) (sym is)
    (record { at = length (turn_seen d); came = came_nothing (turn_desk d) (turn_seen d) (length (turn_seen d)) refl; cause = λ base o. tt })

pub not_settled : (d : GateDesk) → NotSettled (turn_desk d) (turn_seen d) (turn_seen d) fault.Memory
not_settled d = record { at = length (turn_seen d); came = came_nothing (turn_desk d) (turn_seen d) (length (turn_seen d)) refl; otherwise = λ x. x }

pub refused_so : (d : GateDesk) (q : Ask) (long : ℕ) (f : StepFault) → ((gate : Gate) → q ≡ ask.Release gate → ⊥) → long ≡ d.still.graph.params.bits
    → IsRefused d.still.graph long q f → Failed (Asks (turn_stands d) (turn_desk d) (turn_seen d) q) (turn_desk d) (turn_seen d) (turn_seen d) q f
refused_so d ask.Spent long f not_release same e = absurd e
refused_so d (ask.Reserve events) long f not_release same e = wants_so d (ask.Reserve events) f e
refused_so d ask.Meta long f not_release same e = absurd e
refused_so d (ask.Node at layer version) long f not_release same e = never_so d (ask.Node at layer version) (λ base o. no_odd d.still at layer version long same e.1 base o.stood.0) f e.0
refused_so d (ask.List at list_at level version layer) long f not_release same e = never_so d (ask.List at list_at level version layer) (λ base o. no_wide d.still at list_at level version layer e.1 base o.stood.0) f e.0
refused_so d (ask.Page block) long f not_release same e = wants_so d (ask.Page block) f e
refused_so d (ask.Put block node) long f not_release same e = wants_so d (ask.Put block node) f e
refused_so d (ask.PutNew node) long f not_release same e = wants_so d (ask.PutNew node) f e
refused_so d (ask.Join at version id) long f not_release same e = wants_so d (ask.Join at version id) f e
refused_so d (ask.Link at list_at level version layer slot held to) long f not_release same e = wants_so d (ask.Link at list_at level version layer slot held to) f e
refused_so d (ask.Relist at list_at version lists) long f not_release same e = wants_so d (ask.Relist at list_at version lists) f e
refused_so d (ask.Drop at version gone) long f not_release same e = wants_so d (ask.Drop at version gone) f e
refused_so d (ask.Mark at list_at version) long f not_release same e = wants_so d (ask.Mark at list_at version) f e
refused_so d (ask.Entry to level) long f not_release same e = wants_so d (ask.Entry to level) f e
refused_so d (ask.Hint block) long f not_release same e = wants_so d (ask.Hint block) f e
refused_so d (ask.Take gate hold) long f not_release same e = wants_so d (ask.Take gate hold) f e
refused_so d (ask.Release gate) long f not_release same e = absurd (not_release gate refl)
refused_so d (ask.Phase stage) long f not_release same e = wants_so d (ask.Phase stage) f e
refused_so d ask.EndVacuum long f not_release same e = never_so d ask.EndVacuum (no_end_so d) f e
refused_so d (ask.Centres block) long f not_release same e = wants_so d (ask.Centres block) f e
refused_so d (ask.Rows block) long f not_release same e = wants_so d (ask.Rows block) f e
refused_so d (ask.Add block id bits) long f not_release same e = wants_so d (ask.Add block id bits) f e
refused_so d (ask.Extend list last id bits) long f not_release same e = wants_so d (ask.Extend list last id bits) f e
refused_so d (ask.Cut block gone) long f not_release same e = wants_so d (ask.Cut block gone) f e
refused_so d (ask.Aim list block) long f not_release same e = wants_so d (ask.Aim list block) f e

pub memory_so : (g : Graph) (q : Ask) (long : ℕ) (f : StepFault) → IsRefused g long q f → f ≡ fault.Memory → WantsMemory 0 q
memory_so g ask.Spent long f e is = absurd e
memory_so g (ask.Reserve events) long f e is = tt
memory_so g ask.Meta long f e is = absurd e
memory_so g (ask.Node at layer version) long f e is = absurd (not_both (sym is ∙ e.0))
memory_so g (ask.List at list_at level version layer) long f e is = absurd (not_both (sym is ∙ e.0))
memory_so g (ask.Page block) long f e is = tt
memory_so g (ask.Put block node) long f e is = refl
memory_so g (ask.PutNew node) long f e is = tt
memory_so g (ask.Join at version id) long f e is = refl
memory_so g (ask.Link at list_at level version layer slot held to) long f e is = refl
memory_so g (ask.Relist at list_at version lists) long f e is = refl
memory_so g (ask.Drop at version gone) long f e is = refl
memory_so g (ask.Mark at list_at version) long f e is = refl
memory_so g (ask.Entry to level) long f e is = refl
memory_so g (ask.Hint block) long f e is = refl
memory_so g (ask.Take gate hold) long f e is = refl
memory_so g (ask.Release gate) long f e is = absurd (not_both (sym is ∙ e))
memory_so g (ask.Phase stage) long f e is = refl
memory_so g ask.EndVacuum long f e is = absurd (not_both (sym is ∙ e))
memory_so g (ask.Centres block) long f e is = tt
memory_so g (ask.Rows block) long f e is = tt
memory_so g (ask.Add block id bits) long f e is = refl
memory_so g (ask.Extend list last id bits) long f e is = tt
memory_so g (ask.Cut block gone) long f e is = refl
memory_so g (ask.Aim list block) long f e is = refl

pub spare_so : (g : Graph) (q : Ask) (told : Told) (k : ℕ) → AnswersLook g q told → spare_after q 0 k ≤ 0
spare_so g ask.Spent told k says = let low : 0 - k ≤ 0 = omega arith in low
spare_so g (ask.Reserve events) told k says = absurd says
spare_so g ask.Meta told k says = let low : 0 - k ≤ 0 = omega arith in low
spare_so g (ask.Node at layer version) told k says = let low : 0 - k ≤ 0 = omega arith in low
spare_so g (ask.List at list_at level version layer) told k says = let low : 0 - k ≤ 0 = omega arith in low
spare_so g (ask.Page block) told k says = let low : 0 - k ≤ 0 = omega arith in low
spare_so g (ask.Put block node) told k says = let low : 0 - k ≤ 0 = omega arith in low
spare_so g (ask.PutNew node) told k says = let low : 0 - k ≤ 0 = omega arith in low
spare_so g (ask.Join at version id) told k says = let low : 0 - k ≤ 0 = omega arith in low
spare_so g (ask.Link at list_at level version layer slot held to) told k says = let low : 0 - k ≤ 0 = omega arith in low
spare_so g (ask.Relist at list_at version lists) told k says = let low : 0 - k ≤ 0 = omega arith in low
spare_so g (ask.Drop at version gone) told k says = let low : 0 - k ≤ 0 = omega arith in low
spare_so g (ask.Mark at list_at version) told k says = let low : 0 - k ≤ 0 = omega arith in low
spare_so g (ask.Entry to level) told k says = let low : 0 - k ≤ 0 = omega arith in low
spare_so g (ask.Hint block) told k says = let low : 0 - k ≤ 0 = omega arith in low
spare_so g (ask.Take gate hold) told k says = let low : 0 - k ≤ 0 = omega arith in low
spare_so g (ask.Release gate) told k says = let low : 0 - k ≤ 0 = omega arith in low
spare_so g (ask.Phase stage) told k says = let low : 0 - k ≤ 0 = omega arith in low
spare_so g ask.EndVacuum told k says = let low : 0 - k ≤ 0 = omega arith in low
spare_so g (ask.Centres block) told k says = let low : 0 - k ≤ 0 = omega arith in low
spare_so g (ask.Rows block) told k says = let low : 0 - k ≤ 0 = omega arith in low
spare_so g (ask.Add block id bits) told k says = let low : 0 - k ≤ 0 = omega arith in low
spare_so g (ask.Extend list last id bits) told k says = let low : 0 - k ≤ 0 = omega arith in low
spare_so g (ask.Cut block gone) told k says = let low : 0 - k ≤ 0 = omega arith in low
spare_so g (ask.Aim list block) told k says = let low : 0 - k ≤ 0 = omega arith in low
