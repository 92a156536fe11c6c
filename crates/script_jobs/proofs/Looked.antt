-- Looks at the meta tuple and at pages, one after the other.
use Rattle.std.proofs.Common.{◌≡◌, ℕ, ◌+◌, ◌<◌, ◌≤◌, true, List, [], ◌∷◌, ◌++◌, map, take, length, Some, refl, sym, ap, subst, ◌∙◌, append-nil, append_assoc, length-append, arith}
use Rattle.std.specs.Prelude.{Result, Ok, Err, IfErr, IfOk, OnOk}
use Rattle.std.proofs.lemmas.Option.{same_Some}
use Rattle.std.proofs.lemmas.List.{take_all}
use Rattle.vec_names.specs.declared.params.Params.{Params}
use Rattle.vec_history.specs.declared.event.Event.{Event}
use Rattle.vec_history.specs.declared.event.Act.{Act}
use Rattle.vec_history.specs.declared.gate.Gate.{Gate}
use Rattle.vec_history.specs.Gates.{IsOfGate}
use Rattle.vec_graph.specs.declared.graph.Graph.{Graph}
use Rattle.vec_graph.specs.Effect.{after}
use Rattle.graph_search.specs.Reads.{Answer, AtMeta, AtPage, OfMeta, OfPage, answer_of, nodes_on}
use Rattle.graph_search.specs.Reads as read
use Rattle.graph_search.specs.Deeds.{looked, asked}
use Rattle.vec_steps.specs.declared.ask.Ask.{Ask}
use Rattle.vec_steps.specs.declared.ask.Ask.TheVariants as ask
use Rattle.vec_steps.specs.declared.told.Told.{Told}
use Rattle.vec_steps.specs.declared.fault.StepFault.{StepFault}
use Rattle.vec_steps.specs.declared.fault.StepFault.TheVariants as fault
use Rattle.vec_steps.specs.declared.fault.OpFault.{OpFault}
use Rattle.vec_steps.specs.declared.fault.OpFault.TheVariants as op
use Rattle.vec_steps.specs.Faults.{op_fault}
use Rattle.vec_steps.specs.Index.{Index, OfNodes, OfLists}
use Rattle.vec_steps.specs.Doing.{Step, Cleaned, did, overfull, cleaned, viewed, placed, settled, faulted, step_events}
use Rattle.vec_steps.specs.Telling.{seen_told, step_of, fault_step}
use Rattle.vec_steps.specs.Desks.{Asks, Desk}
use Rattle.vec_steps.specs.Calls.{Acts, Does, DoesSo, Failed, HoldsNone, IsCause, IsLogFault, Looks, NoneOf, Stepped, course_at, events_of, is_look, steps_of}
use Rattle.vec_steps.proofs.Following.{does_nothing, does_so_then, does_then, fault_does, one_step}
use Rattle.step_gates.proofs.Holding.{held_before}
use Rattle.layer_search.specs.Looking.{EndedBy}
use Rattle.hnsw_insert.specs.Over.{OverGraphs, OverNodes}
use Rattle.hnsw_insert.proofs.Lasts.{blocks_last}
use Rattle.hnsw_insert.proofs.Under.{meta_asks}
use Rattle.script_jobs.specs.Counting.{HasBlocks}

-- ---- looks after each other

looks_both : (a b : List (ℕ × Step)) → Looks a → Looks b → Looks (a ++ b)
looks_both [] b x y = y
looks_both (s ∷ a) b x y = (x.0, looks_both a b x.1 y)

pub looks_then : {over later : Index → Type 0} {d e : Desk} {old mid new : List Act} → e ≡ d → ((base : Index) → over base → later base)
    → DoesSo Looks over d old mid → DoesSo Looks later e mid new → DoesSo Looks over d old new
looks_then same on x y = does_so_then same (λ a b p q. looks_both a b p q) on x y

pub looks_none : {over : Index → Type 0} {d : Desk} (acts : List Act) → DoesSo Looks over d acts acts
looks_none acts = record { course = []; does = does_nothing acts; is = tt }

-- ---- faults

look_makes : (p : Params) (s : Step) → is_look s ≡ true → step_events p s ≡ []
look_makes p (did (looked look told)) is = refl
look_makes p (did (asked change reply)) is = absurd cc
look_makes p (overfull node blocks need) is = absurd cc
look_makes p (cleaned change reply) is = absurd cc
look_makes p (viewed look told) is = refl
look_makes p (placed change reply) is = absurd cc
look_makes p (settled upto) is = absurd cc
look_makes p (faulted count) is = absurd cc

looks_make : (p : Params) (gate : Gate) (course : List (ℕ × Step)) → Looks course → NoneOf (IsOfGate gate) (events_of p (steps_of course))
looks_make p gate [] looks = tt
looks_make p gate (s ∷ course) looks =
    subst (λ (es : List Event). NoneOf (IsOfGate gate) (es ++ events_of p (steps_of course))) (sym (look_makes p s.1 looks.0))
    (looks_make p gate course looks.1)

-- looks leave the gates as they were
pub looks_hold : {over : Index → Type 0} {d : Desk} {old new : List Act} → DoesSo Looks over d old new → HoldsNone old d.number → HoldsNone new d.number
looks_hold {d = d} m none gate held = none gate (held_before m.does.acts gate (looks_make d.params gate m.course m.is) held)

-- a look makes no event, and so it is never refused for want of room
never_of_look : (d : Desk) (base : Index) (acts : List Act) (q : Ask)
    → ((told : Told) (ending : Cleaned) (s : Step) → step_of q told ending ≡ Some s → is_look s ≡ true)
    → (f : StepFault) → IsCause d base acts q f → IsLogFault f → ⊥
never_of_look d base acts q looks fault.Memory cause h = h
never_of_look d base acts q looks (fault.Disk count) cause h = h
never_of_look d base acts q looks (fault.LogFull used size) cause h =
    let none : [] ≡ cause.event ∷ [] = sym (look_makes d.params cause.step (looks cause.told cause.ending cause.step cause.would)) ∙ cause.makes in
    absurd cc

look_failed : {over stands : Index → Type 0} {d : Desk} {old new : List Act} (q : Ask) (f : StepFault) (end : OpFault)
    → ((told : Told) (ending : Cleaned) (s : Step) → step_of q told ending ≡ Some s → is_look s ≡ true) → end ≡ op_fault f
    → ((base : Index) → over base → Asks stands d old q base) → Failed (Asks stands d old q) d old new q f → EndedBy over d old new end
look_failed {d = d} {new = new} q f end looks end_is asks s = record {
  looked = [];
  only_looks = tt;
  at = s.at;
  step_fault = f;
  fault_is = end_is;
  does = fault_does s;
  not_of_log = λ base o. never_of_look d base new q looks f (s.cause base (asks base o));
}

-- no memory was found, after looks
pub ended_memory : {over : Index → Type 0} {d : Desk} {old new : List Act} (end : OpFault) → end ≡ op.Memory → DoesSo Looks over d old new
    → EndedBy over d old new end
ended_memory {over} {d} {old} {new} end is m = record {
  looked = m.course;
  only_looks = m.is;
  at = 0;
  step_fault = fault.Memory;
  fault_is = is;
  does = subst (Does over d old new) (sym (append-nil m.course)) m.does;
  not_of_log = λ base o h. h;
}

-- a fault ended it after looks
pub ended_then : {over later : Index → Type 0} {d e : Desk} {old mid new : List Act} {end : OpFault} → e ≡ d
    → ((base : Index) → over base → later base) → DoesSo Looks over d old mid → EndedBy later e mid new end → EndedBy over d old new end
ended_then {over} {later} {d} {e} {old} {mid} {new} same on m b = record {
  looked = m.course ++ b.looked;
  only_looks = looks_both m.course b.looked m.is b.only_looks;
  at = b.at;
  step_fault = b.step_fault;
  fault_is = b.fault_is;
  does = subst (Does over d old new) (sym (append_assoc m.course b.looked (course_at b.at (fault_step b.step_fault))))
      (does_then on m.does
      (subst (λ (k : Desk). Does later k mid new (b.looked ++ course_at b.at (fault_step b.step_fault))) same b.does));
  not_of_log = λ base o. b.not_of_log base (on base o);
}

pub meta_failed : {stands : Index → Type 0} {d : Desk} {old new : List Act} (f : StepFault) (end : OpFault) → end ≡ op_fault f
    → Failed (Asks stands d old ask.Meta) d old new ask.Meta f → EndedBy (OverNodes stands) d old new end
meta_failed f end is s = look_failed ask.Meta f end (λ told ending t would. ap is_look (sym (same_Some _ t would))) is meta_asks s

pub page_asks : {stands : Index → Type 0} {d : Desk} {acts : List Act} (block : ℕ) (base : Index)
    → OverGraphs stands (λ g. block < (after g acts).blocks) base → Asks stands d acts (ask.Page block) base
page_asks block (OfNodes g) o = record { stood = o.stood; may = o.so }
page_asks block (OfLists g) o = absurd o.so

pub page_failed : {stands : Index → Type 0} {d : Desk} {old new : List Act} (block : ℕ) (f : StepFault) (end : OpFault) → end ≡ op_fault f
    → Failed (Asks stands d old (ask.Page block)) d old new (ask.Page block) f
    → EndedBy (OverGraphs stands (λ g. block < (after g old).blocks)) d old new end
page_failed block f end is s =
    look_failed (ask.Page block) f end (λ told ending t would. ap is_look (sym (same_Some _ t would))) is (page_asks block) s

-- ---- what was told, where no act came

no_more : {A : Type 0} (xs : List A) → length xs ≡ 0 → xs ≡ []
no_more [] e = refl
no_more (x ∷ xs) e = absurd (omega arith)

-- where no act came in two calls, none came in the first
pub between : {desk other : ℕ} {old mid new : List Act} {es fs : List Event} → Acts desk old mid es → Acts other mid new fs → new ≡ old → mid ≡ old
between {old = old} {mid = mid} {new = new} x y same =
    let a : length mid ≡ length old + length x.more = ap (λ (l : List Act). length l) x.all ∙ length-append old x.more in
    let b : length new ≡ length mid + length y.more = ap (λ (l : List Act). length l) y.all ∙ length-append mid y.more in
    let c : length new ≡ length old = ap (λ (l : List Act). length l) same in
    x.all ∙ ap (λ (l : List Act). old ++ l) (no_more x.more (omega (arith, a, b, c))) ∙ append-nil old

at_front : (old new : List Act) (n : ℕ) → new ≡ old → length old ≤ n → take n new ≡ old
at_front old new n same low = ap (take n) same ∙ take_all n old low

abbrev blocks_of : Answer → ℕ
blocks_of (OfMeta entry level hint blocks) = blocks
blocks_of _ = 0

abbrev nodes_of : Answer → List read.Seen
nodes_of (OfPage nodes) = nodes
nodes_of _ = []

module _ {stands : Index → Type 0} {d : Desk} {old new : List Act} {left : Ask} {told : Told} (s : Stepped (Asks stands d old ask.Meta) d old new ask.Meta left told) where
  meta_does : Does (OverNodes stands) d old new ((told.at, did (looked AtMeta (OfMeta told.tid told.level told.hint told.blocks))) ∷ [])
  meta_does = one_step meta_asks s

  pub meta_looked : DoesSo Looks (OverNodes stands) d old new
  meta_looked = record { course = (told.at, did (looked AtMeta (OfMeta told.tid told.level told.hint told.blocks))) ∷ []; does = meta_does; is = (refl, tt) }

  pub meta_exact : (g : Graph) → OverNodes stands (OfNodes g) → new ≡ old → told.blocks ≡ (after g old).blocks
  meta_exact g o same =
      let h = meta_does.happened (OfNodes g) o in
      let at : take told.at new ≡ old = at_front old new told.at same meta_does.rises.0 in
      let says : OfMeta told.tid told.level told.hint told.blocks ≡ answer_of (after g (take told.at new)) AtMeta = h.0.says in
      ap blocks_of says ∙ ap (λ (l : List Act). (after g l).blocks) at

module _ {stands : Index → Type 0} {d : Desk} {old new : List Act} {left : Ask} {told : Told} (block : ℕ)
    (s : Stepped (Asks stands d old (ask.Page block)) d old new (ask.Page block) left told) where
  page_does : Does (OverGraphs stands (λ g. block < (after g old).blocks)) d old new
      ((told.at, did (looked (AtPage block) (OfPage (map seen_told told.nodes)))) ∷ [])
  page_does = one_step (page_asks block) s

  pub page_looked : DoesSo Looks (OverGraphs stands (λ g. block < (after g old).blocks)) d old new
  page_looked = record { course = (told.at, did (looked (AtPage block) (OfPage (map seen_told told.nodes)))) ∷ []; does = page_does; is = (refl, tt) }

  pub page_exact : (g : Graph) → OverGraphs stands (λ g. block < (after g old).blocks) (OfNodes g) → new ≡ old
      → map seen_told told.nodes ≡ nodes_on (after g old) block
  page_exact g o same =
      let h = page_does.happened (OfNodes g) o in
      let at : take told.at new ≡ old = at_front old new told.at same page_does.rises.0 in
      let says : OfPage (map seen_told told.nodes) ≡ answer_of (after g (take told.at new)) (AtPage block) = h.0.says in
      ap nodes_of says ∙ ap (λ (l : List Act). nodes_on (after g l) block) at

-- a page that was told of is there later
pub page_there : {stands later : Index → Type 0} {desk : ℕ} {old mid : List Act} {es : List Event} (blocks block : ℕ) → block < blocks → Acts desk old mid es
    → (base : Index) → OverGraphs stands (HasBlocks old blocks) base → later base → OverGraphs later (λ g. block < (after g mid).blocks) base
page_there blocks block low x (OfNodes g) o stood = record { stood = stood; so = let more = blocks_last g x in let has = o.so in omega (arith, more, has, low) }
page_there blocks block low x (OfLists g) o stood = absurd o.so

-- ---- results

pub ok_both : {T E P : Type 0} {Q R : T → Type 0} (r : Result T E) → ((x : T) → P → Q x → R x) → OnOk r P → IfOk r Q → IfOk r R
ok_both (Ok x) f p q = f x p q
ok_both (Err e) f p q = tt

pub ok_as : {T E : Type 0} {Q R : T → Type 0} (r : Result T E) → ((x : T) → Q x → R x) → IfOk r Q → IfOk r R
ok_as (Ok x) f q = f x q
ok_as (Err e) f q = tt

pub err_as : {T E : Type 0} {P Q : E → Type 0} (r : Result T E) → ((e : E) → P e → Q e) → IfErr r P → IfErr r Q
err_as (Ok x) f p = tt
err_as (Err e) f p = f e p
