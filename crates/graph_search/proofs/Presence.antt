-- What a read told stood in the history.
use Rattle.std.proofs.Common.{◌≡◌, ℕ, zero, suc, ◌≤◌, ◌||◌, not, nat_lt, Bool, true, false, cond, List, [], ◌∷◌, length, slice_get, Option, Some, None, refl, ap, subst, sym, ◌∙◌}
use Rattle.std.proofs.lemmas.Option.{none-some, same_Some}
use Rattle.vec_names.specs.declared.tid.Tid.{Tid}
use Rattle.vec_names.specs.declared.params.Ops.{Ops}
use Rattle.vec_history.specs.declared.event.Act.{Act}
use Rattle.vec_graph.specs.declared.node.Node.{Node}
use Rattle.vec_graph.specs.declared.graph.Graph.{Graph}
use Rattle.vec_graph.specs.Graph.{node_at}
use Rattle.vec_graph.specs.Effect.{state_after}
use Rattle.neighbour_pick.specs.declared.found.Found.{Found}
use Rattle.graph_search.specs.Reads.{Look, Answer, Gone, OfNode, is_version, node_answer, answer_of, AreReadAt}
use Rattle.graph_search.specs.Search.{element_of}
use Rattle.graph_search.specs.Scan.{IsTold, IsPresent}
use Rattle.graph_search.proofs.Words.{both_false}

module _ (base : Graph) (acts : List Act) where
  answered : (ps : List ℕ) (reads : List (Look × Answer)) (i : ℕ) (r : Look × Answer) → AreReadAt base acts ps reads → slice_get reads i ≡ Some r
      → (n : ℕ) × (n ≤ length acts) × (r.1 ≡ answer_of (state_after base acts n) r.0)
  answered [] [] i r all is = absurd (none-some r is)
  answered [] (q ∷ reads) i r all is = absurd all
  answered (n ∷ ps) [] i r all is = absurd all
  answered (n ∷ ps) (q ∷ reads) zero r all is =
      let same : q ≡ r = same_Some q r is in
      (n, all.0.0, subst (λ (x : Look × Answer). x.1 ≡ answer_of (state_after base acts n) x.0) same all.0.1)
  answered (n ∷ ps) (q ∷ reads) (suc i) r all is = answered ps reads i r all.1 is

  module _ (ops : Ops) (query : List Bool) (n : ℕ) (reached : n ≤ length acts) (at : Tid) (layer : ℕ) (version : Option ℕ) (e : Found) where
    present_from : (o : Option Node) → node_at (state_after base acts n) at ≡ o → element_of ops query at (node_answer o layer version) ≡ e ∷ []
        → IsPresent base acts ops query e
    present_from None stands is = absurd cc
    present_from (Some m) stands is =
        elim (m.deleted || (nat_lt m.level layer || not (is_version version m.version))) as
        (λ b. (m.deleted || (nat_lt m.level layer || not (is_version version m.version))) ≡ b
        → element_of ops query at (cond b Gone (OfNode m.level m.version m.list_at m.ids m.bits)) ≡ e ∷ [] → IsPresent base acts ops query e) [
          | true ↦ λ t told. absurd cc
          | false ↦ λ t told.
              let same = same_Some _ e (ap (λ (es : List Found). slice_get es 0) told) in
              subst (λ (f : Found). IsPresent base acts ops query f) same (record {
                position = n;
                reached = reached;
                node = m;
                stands = stands;
                not_deleted = (both_false m.deleted (nat_lt m.level layer || not (is_version version m.version)) t).0;
                of_version = refl;
                of_ids = refl;
                of_bits = refl;
                exact = refl;
              })
        ] refl is

  pub present : (ops : Ops) (query : List Bool) (ps : List ℕ) (reads : List (Look × Answer)) (e : Found) → AreReadAt base acts ps reads
      → IsTold ops query reads e → IsPresent base acts ops query e
  present ops query ps reads e all t =
      let was = answered ps reads t.number _ all t.among in
      present_from ops query was.0 was.1 t.at t.layer t.version e (node_at (state_after base acts was.0) t.at) refl
      (ap (λ (a : Answer). element_of ops query t.at a) (sym was.2) ∙ t.is)
