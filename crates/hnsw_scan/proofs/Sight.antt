-- The looks of a batch are reads of the history, and its rows are of nodes that were present when they were read.
use Rattle.std.proofs.Common.{◌≡◌, ℕ, zero, suc, ◌≤◌, ◌||◌, not, nat_lt, Bool, true, false, cond, List, [], ◌∷◌, ◌++◌, length, map, slice_get, Option, Some, None, refl, ap, subst, sym, ◌∙◌}
use Rattle.std.proofs.lemmas.Option.{none-some, same_Some}
use Rattle.vec_names.specs.declared.tid.Tid.{Tid}
use Rattle.vec_names.specs.declared.params.Ops.{Ops}
use Rattle.vec_history.specs.declared.event.Act.{Act}
use Rattle.vec_graph.specs.declared.node.Node.{Node}
use Rattle.vec_graph.specs.declared.graph.Graph.{Graph}
use Rattle.vec_graph.specs.Graph.{node_at}
use Rattle.vec_graph.specs.Effect.{state_after}
use Rattle.neighbour_pick.specs.declared.found.Found.{Found}
use Rattle.graph_search.specs.Reads.{Look, Answer, Gone, OfNode, is_version, node_answer, answer_of, AreReadAt}
use Rattle.graph_search.specs.Deeds.{looked, looks_of}
use Rattle.graph_search.specs.Search.{element_of}
use Rattle.graph_search.specs.Scan.{Given, IsRowRead}
use Rattle.graph_search.proofs.Words.{both_false}
use Rattle.vec_steps.specs.Index.{Index, OfNodes}
use Rattle.vec_steps.specs.Doing.{Step, did}
use Rattle.vec_steps.specs.Desks.{Desk}
use Rattle.vec_steps.specs.Calls.{AreDeeds, Happened, HappenedAt}
use Rattle.vec_steps.proofs.Following.{happened_longer}
use Rattle.hnsw_scan.specs.Gated.{MadeGated}
use Rattle.hnsw_scan.specs.Present.{IsAnswered, IsPresentAt}

-- ---- reads

reads_in : (g : Graph) (acts : List Act) (d : Desk) (course : List (ℕ × Step)) (reads : List (Look × Answer)) → AreDeeds course (looks_of reads)
    → Happened (OfNodes g) acts d course → AreReadAt g acts (map (λ s. s.0) course) reads
reads_in g acts d [] [] are h = tt
reads_in g acts d [] (r ∷ reads) are h = absurd are
reads_in g acts d (s ∷ course) [] are h = absurd are
reads_in g acts d (s ∷ course) (r ∷ reads) are h =
    let here : HappenedAt (OfNodes g) acts d s.0 (did (looked r.0 r.1)) = subst (HappenedAt (OfNodes g) acts d s.0) are.0 h.0 in
    ((here.within, here.says), reads_in g acts d course reads are.1 h.1)

-- over a graph on which the call stood, its looks are reads of the history at the positions that it tells
pub gated_reads : {over : Index → Type 0} {d : Desk} {old new : List Act} {now : List ℕ} {reads : List (Look × Answer)}
    → MadeGated over d old new [] now reads → (g : Graph) → over (OfNodes g) → AreReadAt g new now reads
gated_reads {over} {d} {old} {new} {now} {reads} m g o =
    let course = m.looks.course in
    subst (λ (l : List Act). AreReadAt g l now reads) (sym m.gives.does.acts.all)
    (subst (λ (ps : List ℕ). AreReadAt g (m.seen ++ m.gives.does.acts.more) ps reads) (sym m.looks.is.traced)
    (reads_in g (m.seen ++ m.gives.does.acts.more) d course reads m.looks.is.deeds
    (happened_longer (OfNodes g) m.seen m.gives.does.acts.more d course (m.looks.does.happened (OfNodes g) o))))

-- ---- rows

record ReadHere (base : Graph) (acts : List Act) (positions : List ℕ) (number : ℕ) (r : Look × Answer) : Type 0 where
  pub position : ℕ
  pub among : slice_get positions number ≡ Some position
  pub reached : position ≤ length acts
  pub told : r.1 ≡ answer_of (state_after base acts position) r.0

module _ (base : Graph) (acts : List Act) where
  read_here : (ps : List ℕ) (reads : List (Look × Answer)) (i : ℕ) (r : Look × Answer) → AreReadAt base acts ps reads → slice_get reads i ≡ Some r
      → ReadHere base acts ps i r
  read_here [] [] i r all is = absurd (none-some r is)
  read_here [] (q ∷ reads) i r all is = absurd all
  read_here (n ∷ ps) [] i r all is = absurd all
  read_here (n ∷ ps) (q ∷ reads) zero r all is =
      let same : q ≡ r = same_Some q r is in
      record {
        position = n;
        among = refl;
        reached = all.0.0;
        told = subst (λ (x : Look × Answer). x.1 ≡ answer_of (state_after base acts n) x.0) same all.0.1;
      }
  read_here (n ∷ ps) (q ∷ reads) (suc i) r all is =
      let below = read_here ps reads i r all.1 is in
      record { position = below.position; among = below.among; reached = below.reached; told = below.told }

  module _ (ops : Ops) (query : List Bool) (n : ℕ) (reached : n ≤ length acts) (at : Tid) (layer : ℕ) (version : Option ℕ) (e : Found) where
    present_from : (o : Option Node) → node_at (state_after base acts n) at ≡ o → element_of ops query at (node_answer o layer version) ≡ e ∷ []
        → IsPresentAt base acts n ops query e
    present_from None stands is = absurd cc
    present_from (Some m) stands is =
        elim (m.deleted || (nat_lt m.level layer || not (is_version version m.version))) as
        (λ b. (m.deleted || (nat_lt m.level layer || not (is_version version m.version))) ≡ b
        → element_of ops query at (cond b Gone (OfNode m.level m.version m.list_at m.ids m.bits)) ≡ e ∷ [] → IsPresentAt base acts n ops query e) [
          | true ↦ λ t told. absurd cc
          | false ↦ λ t told.
              let same = same_Some _ e (ap (λ (es : List Found). slice_get es 0) told) in
              subst (λ (f : Found). IsPresentAt base acts n ops query f) same (record {
                reached = reached;
                node = m;
                stands = stands;
                not_deleted = (both_false m.deleted (nat_lt m.level layer || not (is_version version m.version)) t).0;
                of_version = refl;
                of_ids = refl;
                of_bits = refl;
                exact = refl;
              })
        ] refl is

  pub row_answered : (ops : Ops) (query : List Bool) (ps : List ℕ) (reads : List (Look × Answer)) (g : Given) → AreReadAt base acts ps reads
      → IsRowRead ops query reads g → IsAnswered base acts ps ops query g
  row_answered ops query ps reads g all r =
      let t = r.told in
      let was = read_here ps reads t.number _ all t.among in
      record {
        element = r.element;
        look = t.number;
        position = was.position;
        looked_at = was.among;
        present = present_from ops query was.position was.reached t.at t.layer t.version r.element
            (node_at (state_after base acts was.position) t.at) refl
            (ap (λ (a : Answer). element_of ops query t.at a) (sym was.told) ∙ t.is);
        row = r.number;
        of_element = r.of_element;
      }
