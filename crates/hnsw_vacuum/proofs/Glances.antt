-- A look at a node, in any phase, and what it tells of one without rows.
use Rattle.std.proofs.Common.{◌≡◌, ℕ, Bool, true, false, cond, ◌||◌, not, nat_lt, List, [], ◌∷◌, ◌++◌, take, length, Option, Some, None, refl, sym, ap, subst, ◌∙◌, append-nil, arith, true≢false}
use Rattle.std.proofs.lemmas.Bool.Decides.{nat_tests}
use Rattle.std.proofs.lemmas.Option.{none-some, same_Some}
use Rattle.std.proofs.Math.Seq.{take-length}
use Rattle.std.proofs.lemmas.List.{length-append}
use Rattle.vec_names.specs.declared.tid.Tid.{Tid}
use Rattle.vec_history.specs.declared.event.Act.{Act}
use Rattle.vec_names.specs.declared.heap_id.HeapId.{HeapId}
use Rattle.vec_graph.specs.declared.node.Node.{Node}
use Rattle.vec_graph.specs.declared.graph.Graph.{Graph}
use Rattle.vec_graph.specs.Graph.{IsDoomedAt, node_at}
use Rattle.vec_graph.specs.Effect.{after}
use Rattle.graph_search.specs.Reads.{Answer, AtNode, Gone, OfNode, is_version, node_answer}
use Rattle.graph_search.specs.Deeds.{looked}
use Rattle.vec_steps.specs.declared.ask.Ask.TheVariants as ask
use Rattle.vec_steps.specs.declared.told.Told.{Told}
use Rattle.vec_steps.specs.declared.fault.OpFault.{OpFault}
use Rattle.vec_steps.specs.Index.{Index, OfNodes, OfLists}
use Rattle.vec_steps.specs.Doing.{did}
use Rattle.vec_steps.specs.Telling.{node_told}
use Rattle.vec_steps.specs.Desks.{Asks, Desk}
use Rattle.vec_steps.proofs.Following.{one_step}
use Rattle.hnsw_vacuum.specs.Courses.{IsGraphSo, IsNotStepped, IsStepped, Making, OverNodes, StopsBy}
use Rattle.hnsw_vacuum.specs.Removing.{IsOfLooks, SaysNoMore}
use Rattle.hnsw_vacuum.specs.declared.marking.Doomed.{Doomed}
use Rattle.hnsw_vacuum.specs.Marking.{StandsDoomed}
use Rattle.hnsw_vacuum.specs.Seeking.{TellsDoomed, doomed_told}
use Rattle.hnsw_vacuum.proofs.Stopped.{step_fails}
use Rattle.hnsw_vacuum.proofs.Pages.{looking}

module _ {stands : Index → Type 0} {d : Desk} {old : List Act} (at : Tid) where
  pub node_asks : (base : Index) → OverNodes stands base → Asks stands d old (ask.Node at 0 None) base
  node_asks (OfNodes g) o = record { stood = o.stood; may = tt }
  node_asks (OfLists g) o = absurd o.so

  pub node_fails : {new : List Act} (end : OpFault) → IsNotStepped (Asks stands d old (ask.Node at 0 None)) d old new (ask.Node at 0 None) end
      → StopsBy IsOfLooks SaysNoMore (OverNodes stands) d old new end
  node_fails end s = step_fails (λ count. tt) (λ base acts count. tt) node_asks end s

  module _ {new : List Act} {told : Told} (is : IsStepped (Asks stands d old (ask.Node at 0 None)) d old new (ask.Node at 0 None) told) where
    pub node_made : Making IsOfLooks SaysNoMore (OverNodes stands) d old new
        ((told.at, did (looked (AtNode at 0 None) (node_told told.word told.list_at told))) ∷ [])
    node_made = looking told.at (AtNode at 0 None) (node_told told.word told.list_at told) (one_step node_asks is.made)

    node_end : take told.at new ≡ new
    node_end =
        let all : new ≡ old ++ is.made.came.others = is.made.came.all ∙ append-nil (old ++ is.made.came.others) in
        let here : told.at ≡ length new = is.made.came.here ∙ sym (length-append old is.made.came.others) ∙ ap (λ (l : List Act). length l) (sym all) in
        ap (λ n. take n new) here ∙ take-length new

    pub node_is : (base : Index) → OverNodes stands base
        → IsGraphSo (λ g. node_told told.word told.list_at told ≡ node_answer (node_at (after g new) at) 0 None) base
    node_is (OfNodes g) o =
        let says : node_told told.word told.list_at told ≡ node_answer (node_at (after g (take told.at new)) at) 0 None = is.made.says (OfNodes g) (node_asks (OfNodes g) o) in
        says ∙ ap (λ (l : List Act). node_answer (node_at (after g l) at) 0 None) node_end
    node_is (OfLists g) o = absurd o.so

-- ---- a node without rows

or_false : (a b : Bool) → (a || b) ≡ false → a ≡ false
or_false true b e = absurd (true≢false e)
or_false false b e = refl

never_below : (n : ℕ) → nat_lt n 0 ≡ false
never_below n = grind (arith, nat_tests)

by_ids : (g : Graph) (at : Tid) (n : Node) (d : Doomed) (ids : List HeapId) → n.ids ≡ ids → node_at g at ≡ Some n → n.deleted ≡ false
    → doomed_told at (OfNode n.level n.version n.list_at ids n.bits) ≡ Some d → (d.at ≡ at) × StandsDoomed g d
by_ids g at n d (id ∷ ids) are stands alive told = absurd (none-some d told)
by_ids g at n d [] are stands alive told =
    let e : Doomed = record { at = at; list_at = n.list_at; version = n.version } in
    let so : StandsDoomed g e = record {
      node = n;
      there = record { stands = stands; of_version = refl; not_deleted = alive };
      listed = refl;
      doomed = record { not_deleted = alive; no_ids = are };
    } in
    let same : e ≡ d = same_Some e d told in
    (sym (ap (λ (f : Doomed). f.at) same), subst (StandsDoomed g) same so)

pub told_stands : (g : Graph) (at : Tid) (o : Option Node) (d : Doomed) → node_at g at ≡ o → doomed_told at (node_answer o 0 None) ≡ Some d
    → (d.at ≡ at) × StandsDoomed g d
told_stands g at None d stands told = absurd (none-some d told)
told_stands g at (Some n) d stands told =
    elim (n.deleted || (nat_lt n.level 0 || not (is_version None n.version))) as
    (λ b. (n.deleted || (nat_lt n.level 0 || not (is_version None n.version))) ≡ b
    → doomed_told at (cond b Gone (OfNode n.level n.version n.list_at n.ids n.bits)) ≡ Some d → (d.at ≡ at) × StandsDoomed g d) [
      | true ↦ λ t says. absurd (none-some d says)
      | false ↦ λ t says. by_ids g at n d n.ids refl stands (or_false n.deleted (nat_lt n.level 0 || not (is_version None n.version)) t) says
    ] refl told

some-none : {X : Type 0} (x : X) → Some x ≡ None → ⊥
some-none x e = none-some x (sym e)

-- a node without rows is told so
pub told_none : (g : Graph) (at : Tid) → doomed_told at (node_answer (node_at g at) 0 None) ≡ None → IsDoomedAt g at → ⊥
told_none g at told d =
    let test : (d.node.deleted || (nat_lt d.node.level 0 || not (is_version None d.node.version))) ≡ false =
    ap (λ b. b || (nat_lt d.node.level 0 || not (is_version None d.node.version))) d.doomed.not_deleted ∙ ap (λ b. b || false) (never_below d.node.level) in
    let here : node_answer (node_at g at) 0 None ≡ OfNode d.node.level d.node.version d.node.list_at [] d.node.bits =
    ap (λ (o : Option Node). node_answer o 0 None) d.stands
    ∙ ap (λ b. cond b Gone (OfNode d.node.level d.node.version d.node.list_at d.node.ids d.node.bits)) test
    ∙ ap (λ (l : List HeapId). OfNode d.node.level d.node.version d.node.list_at l d.node.bits) d.doomed.no_ids in
    let e : Doomed = record { at = at; list_at = d.node.list_at; version = d.node.version } in
    some-none e (sym (ap (doomed_told at) here) ∙ told)

pub tells : (acts : List Act) (told : Answer) (at : Tid) (o : Option Doomed) (base : Index) → o ≡ doomed_told at told
    → IsGraphSo (λ g. told ≡ node_answer (node_at (after g acts) at) 0 None) base → IsGraphSo (λ g. TellsDoomed (after g acts) at o) base
tells acts told at (Some d) (OfNodes g) is so =
    told_stands (after g acts) at (node_at (after g acts) at) d refl (sym (ap (doomed_told at) so) ∙ sym is)
tells acts told at None (OfNodes g) is so = told_none (after g acts) at (sym (ap (doomed_told at) so) ∙ sym is)
tells acts told at o (OfLists g) is so = absurd so
