-- A still desk fails for want of memory alone, over the bases on which it stands.
use Rattle.std.proofs.Common.{◌≡◌, ℕ, ◌+◌, ◌-◌, ◌*◌, ◌≤◌, ◌==◌, Bool, true, false, if◌then◌else◌, List, [], take, drop, length, Option, refl, sym, subst, ◌∙◌, arith}
use Rattle.std.proofs.lemmas.Option.{none-some}
use Rattle.std.proofs.lemmas.List.{length-take, length-drop}
use Rattle.std.proofs.Math.Nat.{add-mul}
use Rattle.index_sizes.specs.Sizes.{slots_of_level}
use Rattle.vec_names.specs.declared.tid.Tid.{Tid}
use Rattle.vec_names.specs.declared.params.Kind.{Kind}
use Rattle.vec_names.specs.Params.{IsInRangeOf}
use Rattle.vec_history.specs.declared.gate.Gate.{Gate}
use Rattle.vec_graph.specs.declared.graph.Graph.{Graph}
use Rattle.vec_graph.specs.Graph.{node_at, layer_slots}
use Rattle.vec_steps.specs.declared.ask.Ask.{Ask}
use Rattle.vec_steps.specs.declared.ask.Ask.TheVariants as ask
use Rattle.vec_steps.specs.declared.fault.StepFault.{StepFault}
use Rattle.vec_steps.specs.declared.fault.StepFault.TheVariants as fault
use Rattle.vec_steps.specs.declared.still_desk.StillDesk.{StillDesk}
use Rattle.vec_steps.specs.Index.{Index, OfNodes, OfLists}
use Rattle.vec_steps.specs.Desks.{Asks}
use Rattle.vec_steps.specs.Calls.{Failed}
use Rattle.vec_steps.specs.Still.{IsOdd, IsWide, IsRefused, StandsStill, still_desk, still_stands}

-- ---- a layer has not more than twice m slots

above : (m level layer : ℕ) (slots : List (Option Tid)) (b : Bool) → (layer == 0) ≡ b → length slots ≡ slots_of_level m level
    → length (if b then drop (level * m) slots else take m (drop ((level - layer) * m) slots)) ≤ 2 * m
above m level layer slots true is long =
    let whole : (level + 2) * m ≡ level * m + 2 * m = add-mul level 2 m in
    omega (arith, length-drop (level * m) slots, long, whole)
above m level layer slots false is long = omega (arith, length-take m (drop ((level - layer) * m) slots))

few_slots : (m level layer : ℕ) (slots : List (Option Tid)) → length slots ≡ slots_of_level m level → length (layer_slots m level layer slots) ≤ 2 * m
few_slots m level layer slots long = above m level layer slots (layer == 0) refl long

-- ---- what is never so over a base

pub no_odd : (d : StillDesk) (at : Tid) (layer : ℕ) (version : Option ℕ) (long : ℕ) → long ≡ d.graph.params.bits → IsOdd (node_at d.graph at) long
    → (base : Index) → still_stands d base → ⊥
no_odd d at layer version long same odd (OfNodes b) o =
    let s = o.shaped.nodes at odd.node odd.stands in odd.odd (s.as_long ∙ sym same) s.few
no_odd d at layer version long same odd (OfLists b) o = absurd o

low_m : (d : StillDesk) (b : Graph) → StandsStill d.graph b → d.graph.params.m ≤ 100
low_m d b s = (subst (λ (k : Kind). IsInRangeOf k d.graph.params) s.of_nodes s.in_range.of_kind).m_high

pub no_wide : (d : StillDesk) (at list_at : Tid) (level version layer : ℕ) → IsWide d.graph.params.m (node_at d.graph at) layer
    → (base : Index) → still_stands d base → ⊥
no_wide d at list_at level version layer wide (OfNodes b) o =
    let s = o.shaped.nodes at wide.node wide.stands in
    let few = few_slots d.graph.params.m wide.node.level layer wide.node.slots s.as_many in
    let low = low_m d b o in
    let much = wide.wide in
    absurd (omega (arith, few, low, much))
no_wide d at list_at level version layer wide (OfLists b) o = absurd o

no_release : (d : StillDesk) (gate : Gate) (base : Index) → Asks (still_stands d) (still_desk d) [] (ask.Release gate) base → ⊥
no_release d gate (OfNodes b) o = none-some _ o.may.held.1.1.taken
no_release d gate (OfLists b) o = absurd o.stood

no_end : (d : StillDesk) (base : Index) → Asks (still_stands d) (still_desk d) [] ask.EndVacuum base → ⊥
no_end d (OfNodes b) o = none-some _ o.may.1.1.begun
no_end d (OfLists b) o = absurd o.stood

-- ---- how it fails

never : (d : StillDesk) (q : Ask) → ((base : Index) → Asks (still_stands d) (still_desk d) [] q base → ⊥) → (f : StepFault) → f ≡ fault.LogFull 0 0
    → Failed (Asks (still_stands d) (still_desk d) [] q) (still_desk d) [] [] q f
never d q none f is =
    subst (Failed (Asks (still_stands d) (still_desk d) [] q) (still_desk d) [] [] q) (sym is)
    (record { at = 0; came = record { others = []; foreign = refl; all = refl; here = refl }; cause = λ base o. absurd (none base o) })

wants : (d : StillDesk) (q : Ask) (f : StepFault) → f ≡ fault.Memory
    → Failed (Asks (still_stands d) (still_desk d) [] q) (still_desk d) [] [] q f
wants d q f is =
    subst (Failed (Asks (still_stands d) (still_desk d) [] q) (still_desk d) [] [] q) (sym is)
    (record { at = 0; came = record { others = []; foreign = refl; all = refl; here = refl }; cause = λ base o. tt })

pub refused : (d : StillDesk) (q : Ask) (long : ℕ) (f : StepFault) → long ≡ d.graph.params.bits → IsRefused d.graph long q f
    → Failed (Asks (still_stands d) (still_desk d) [] q) (still_desk d) [] [] q f
refused d ask.Spent long f same e = absurd e
refused d (ask.Reserve events) long f same e = wants d (ask.Reserve events) f e
refused d ask.Meta long f same e = absurd e
refused d (ask.Node at layer version) long f same e = never d (ask.Node at layer version) (λ base o. no_odd d at layer version long same e.1 base o.stood) f e.0
refused d (ask.List at list_at level version layer) long f same e = never d (ask.List at list_at level version layer) (λ base o. no_wide d at list_at level version layer e.1 base o.stood) f e.0
refused d (ask.Page block) long f same e = wants d (ask.Page block) f e
refused d (ask.Put block node) long f same e = wants d (ask.Put block node) f e
refused d (ask.PutNew node) long f same e = wants d (ask.PutNew node) f e
refused d (ask.Join at version id) long f same e = wants d (ask.Join at version id) f e
refused d (ask.Link at list_at level version layer slot held to) long f same e = wants d (ask.Link at list_at level version layer slot held to) f e
refused d (ask.Relist at list_at version lists) long f same e = wants d (ask.Relist at list_at version lists) f e
refused d (ask.Drop at version gone) long f same e = wants d (ask.Drop at version gone) f e
refused d (ask.Mark at list_at version) long f same e = wants d (ask.Mark at list_at version) f e
refused d (ask.Entry to level) long f same e = wants d (ask.Entry to level) f e
refused d (ask.Hint block) long f same e = wants d (ask.Hint block) f e
refused d (ask.Take gate hold) long f same e = wants d (ask.Take gate hold) f e
refused d (ask.Release gate) long f same e = never d (ask.Release gate) (no_release d gate) f e
refused d (ask.Phase stage) long f same e = wants d (ask.Phase stage) f e
refused d ask.EndVacuum long f same e = never d ask.EndVacuum (no_end d) f e
refused d (ask.Centres block) long f same e = wants d (ask.Centres block) f e
refused d (ask.Rows block) long f same e = wants d (ask.Rows block) f e
refused d (ask.Add block id bits) long f same e = wants d (ask.Add block id bits) f e
refused d (ask.Extend list last id bits) long f same e = wants d (ask.Extend list last id bits) f e
refused d (ask.Cut block gone) long f same e = wants d (ask.Cut block gone) f e
refused d (ask.Aim list block) long f same e = wants d (ask.Aim list block) f e
