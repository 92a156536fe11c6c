-- Which rows of the table are taken out of the nodes of all pages.
use Rattle.std.proofs.Common.{◌≡◌, ◌⊎◌, inl, inr, ℕ, ◌+◌, ◌<◌, ◌≤◌, Bool, true, false, cond, ◌==◌, List, [], ◌∷◌, length, filter, map, Some, refl, sym, ap, subst, ◌∙◌, arith, true≢false}
use Rattle.std.specs.Prelude.{⊤}
use Rattle.std.proofs.lemmas.Bool.{eq-eqb, eqb-true}
use Rattle.std.proofs.lemmas.Option.{none-some, same_Some, slice_get_within}
use Rattle.std.specs.declared.cmp.Ordering.{Ordering}
use Rattle.std.specs.declared.cmp.Ordering.TheVariants.{Less, Equal, Greater}
use Rattle.std.specs.Ordering.{is_eq}
use Rattle.std.specs.FinMap as fin
use Rattle.list_values.proofs.Parts.{in_order}
use Rattle.vec_names.specs.declared.tid.Tid.{Tid}
use Rattle.vec_names.specs.declared.heap_id.HeapId.{HeapId}
use Rattle.vec_names.specs.Order.{tid_cmp, tid_cmp_exact}
use Rattle.vec_history.specs.declared.event.Act.{Act}
use Rattle.vec_history.specs.declared.stage.Stage.TheVariants.{Remove}
use Rattle.vec_history.specs.Phases.{IsInPhase}
use Rattle.vec_graph.specs.declared.node.Node.{Node}
use Rattle.vec_graph.specs.declared.graph.Graph.{Graph}
use Rattle.vec_graph.specs.Effect.{after}
use Rattle.vec_graph.proofs.Shaping.{shaped_after}
use Rattle.graph_search.specs.Reads.{Seen, nodes_on, seen_of}
use Rattle.vec_steps.specs.Index.{Index, OfNodes, OfLists, IsLegal, IsShaped}
use Rattle.vec_steps.specs.Desks.{Desk}
use Rattle.vec_steps.specs.Calls.{Acts}
use Rattle.vec_steps.proofs.Following.{acts_longer}
use Rattle.hnsw_vacuum.specs.Courses.{IsGraphSo, OverGraphs, OverNodes}
use Rattle.hnsw_vacuum.specs.Removing.{HasBlocks}
use Rattle.hnsw_vacuum.specs.Taking.{IsEntry, IsOfBlocks, IsOfNode, IsOfNodes, IsOnBlock, IsPlaceOfAny, SeesTo, SeesToOver}
use Rattle.hnsw_vacuum.proofs.Pages.{Removing}
use Rattle.hnsw_vacuum.proofs.Entries.{entry_lasts, taken_earlier}

-- ---- what a page tells

is_same : (r : Ordering) → is_eq r ≡ true → r ≡ Equal
is_same Less e = absurd (true≢false (sym e))
is_same Equal e = refl
is_same Greater e = absurd (true≢false (sym e))

-- a node that stands is told by the page that its block is
found_in : (test : Tid × Node → Bool) (at : Tid) (node : Node) (n : ℕ) (es : List (Tid × Node)) → test (at, node) ≡ true → node.deleted ≡ false → n < length node.ids
    → fin.find tid_cmp at es ≡ Some node → IsOfNodes (map seen_of (filter test es)) at n
found_in test at node n [] passes alive low is = absurd (none-some node is)
found_in test at node n (e ∷ es) passes alive low is =
    by_key (tid_cmp at e.0) (tid_cmp_exact at e.0) is (found_in test at node n es passes alive low)
  where
    here : (key : at ≡ e.0) (value : e.1 ≡ node) → IsOfNodes (map seen_of (filter test (e ∷ es))) at n
    here key value =
        let one : test e ≡ true = ap (λ (q : Tid). test (q, e.1)) (sym key) ∙ ap (λ (m : Node). test (at, m)) value ∙ passes in
        let of : IsOfNode (seen_of e) at n = record {
          same = key;
          not_deleted = ap (λ (m : Node). m.deleted) value ∙ alive;
          told = subst (λ (m : Node). n < length m.ids) (sym value) low;
        } in
        subst (λ b. IsOfNodes (map seen_of (cond b (e ∷ filter test es) (filter test es))) at n) (sym one) (inl of)

    further : IsOfNodes (map seen_of (filter test es)) at n → IsOfNodes (map seen_of (filter test (e ∷ es))) at n
    further of =
        elim (test e) as (λ b. IsOfNodes (map seen_of (cond b (e ∷ filter test es) (filter test es))) at n) [
          | true ↦ inr of
          | false ↦ of
        ]

    by_key : (r : Ordering) → (r ≡ Equal → at ≡ e.0) → cond (is_eq r) (Some e.1) (fin.find tid_cmp at es) ≡ Some node
        → (fin.find tid_cmp at es ≡ Some node → IsOfNodes (map seen_of (filter test es)) at n) → IsOfNodes (map seen_of (filter test (e ∷ es))) at n
    by_key Equal exact found rest = here (exact refl) (same_Some e.1 node found)
    by_key Less exact found rest = further (rest found)
    by_key Greater exact found rest = further (rest found)

-- and it tells of no other block
of_block : (block : ℕ) (at : Tid) (es : List (Tid × Node)) → IsPlaceOfAny (map seen_of (filter (λ (e : Tid × Node). e.0.block == block) es)) at → at.block ≡ block
of_block block at [] any = absurd any
of_block block at (e ∷ es) any = by_test (e.0.block == block) refl (of_block block at es) any
  where
    by_test : (b : Bool) → (e.0.block == block) ≡ b
        → (IsPlaceOfAny (map seen_of (filter (λ (f : Tid × Node). f.0.block == block) es)) at → at.block ≡ block)
        → IsPlaceOfAny (map seen_of (cond b (e ∷ filter (λ (f : Tid × Node). f.0.block == block) es) (filter (λ (f : Tid × Node). f.0.block == block) es))) at → at.block ≡ block
    by_test true is rest (inl same) = ap (λ (q : Tid). q.block) same ∙ eqb-true e.0.block block is
    by_test true is rest (inr more) = rest more
    by_test false is rest more = rest more

told_on : (g : Graph) (block : ℕ) (at : Tid) (n : ℕ) (id : HeapId) → IsOnBlock block (block + 1) at → IsEntry g at n id → IsOfNodes (nodes_on g block) at n
told_on g block at n id on e =
    let b : at.block ≡ block = let low = on.from in let high = on.below in omega (arith, low, high) in
    found_in (λ (f : Tid × Node). f.0.block == block) at e.node n (fin.entries g.nodes) (eq-eqb at.block block b) e.not_deleted
    (slice_get_within e.node.ids n id e.is) (sym (fin.get-entries g.nodes at) ∙ e.stands)

-- ---- a page

-- the page was looked at, and its nodes seen to
pub page_seen : {stands : Index → Type 0} {old mid new : List Act} {d e : Desk} {block : ℕ} (seen : List Seen) (J : HeapId → Bool → Type 0) → e ≡ d
    → Acts d.number old mid [] → (base : Index) → IsShaped base → IsLegal base mid → Removing stands old d.number (block + 1) base
    → IsGraphSo (λ g. seen ≡ nodes_on (after g mid) block) base → SeesToOver J (IsOfNodes seen) (IsPlaceOfAny seen) mid new e.number base
    → SeesToOver J (IsOfBlocks block (block + 1)) (IsOnBlock block (block + 1)) old new d.number base
page_seen {old = old} {mid = mid} {new = new} {d = d} {e = e} {block = block} seen J same x (OfNodes g) shaped legal o told_are y =
    let longer = acts_longer x in
    let lasts : (at : Tid) (n : ℕ) (id : HeapId) → IsEntry (after g old) at n id → IsEntry (after g mid) at n id =
    (λ at n id t. entry_lasts g shaped legal x Remove tt o.so.phase at n id tt t) in
    let z : SeesTo J (IsOfNodes (nodes_on (after g mid) block)) (IsPlaceOfAny (nodes_on (after g mid) block)) g mid new d.number =
    subst (λ (l : List Seen). SeesTo J (IsOfNodes l) (IsPlaceOfAny l) g mid new d.number) told_are
    (subst (λ (k : Desk). SeesTo J (IsOfNodes seen) (IsPlaceOfAny seen) g mid new k.number) same y.so) in
    let all : SeesTo J (IsOfBlocks block (block + 1)) (IsOnBlock block (block + 1)) g old new d.number = record {
      taken = λ at n id on t dead.
          taken_earlier longer (z.taken at n id (told_on (after g mid) block at n id on (lasts at n id t)) (lasts at n id t) dead);
      kept = λ at n id off t.
          z.kept at n id
          (λ any. let b : at.block ≡ block = of_block block at (fin.entries (after g mid).nodes) any in off (record { from = omega (arith, b); below = omega (arith, b) }))
          (lasts at n id t);
    } in
    record { so = all }
page_seen seen J same x (OfLists g) shaped legal o told_are y = absurd o.so

-- ---- pages in turn

pub no_page_seen : {stands : Index → Type 0} {So : Graph → Type 0} {acts : List Act} {desk : ℕ} (J : HeapId → Bool → Type 0) (base : Index) → OverGraphs stands So base
    → SeesToOver J (IsOfBlocks 1 1) (IsOnBlock 1 1) acts acts desk base
no_page_seen J (OfNodes g) o = record {
  so = record {
    taken = λ at n id on e dead. absurd (let low = on.from in let high = on.below in omega (arith, low, high));
    kept = λ at n id off e. e;
  };
}
no_page_seen J (OfLists g) o = absurd o.so

pub before_or_here : (k : ℕ) (at : Tid) (n : ℕ) → IsOfBlocks 1 (k + 1) at n → IsOfBlocks 1 k at n ⊎ ((IsOnBlock 1 k at → ⊥) × IsOfBlocks k (k + 1) at n)
before_or_here k at n on =
    let from = on.from in
    let below = on.below in
    elim (in_order at.block k) as (λ _. IsOfBlocks 1 k at n ⊎ ((IsOnBlock 1 k at → ⊥) × IsOfBlocks k (k + 1) at n)) [
      | inl less ↦ inl (record { from = from; below = omega (arith, less) })
      | inr (inl same) ↦ inr (λ b. absurd (let high = b.below in omega (arith, high, same)), record { from = omega (arith, same); below = below })
      | inr (inr more) ↦ absurd (omega (arith, more, below))
    ]

pub neither : (k : ℕ) → 1 ≤ k → (at : Tid) → (IsOnBlock 1 (k + 1) at → ⊥) → (IsOnBlock 1 k at → ⊥) × (IsOnBlock k (k + 1) at → ⊥)
neither k from at off = (
  λ on. off (let low = on.from in let high = on.below in record { from = low; below = omega (arith, high) }),
  λ on. off (let low = on.from in let high = on.below in record { from = omega (arith, from, low); below = high }),
)

-- the blocks up to there are all that are asked for
pub pages_seen : {old new : List Act} {desk : ℕ} (J : HeapId → Bool → Type 0) (k count : ℕ) → count ≤ k → (base : Index)
    → SeesToOver J (IsOfBlocks 1 k) (IsOnBlock 1 k) old new desk base → SeesToOver J (IsOfBlocks 1 count) (λ at. ⊤) old new desk base
pages_seen J k count high (OfNodes g) x = record {
  so = record {
    taken = λ at n id on e dead. x.so.taken at n id (let low = on.from in let below = on.below in record { from = low; below = omega (arith, below, high) }) e dead;
    kept = λ at n id never e. absurd (never tt);
  };
}
pages_seen J k count high (OfLists g) x = absurd x.so

-- ---- the whole pass

pub all_seen : {stands later : Index → Type 0} {old mid new : List Act} {d e : Desk} {count : ℕ} (J : HeapId → Bool → Type 0) → e ≡ d → IsInPhase old d.number Remove
    → Acts d.number old mid [] → (base : Index) → IsShaped base → IsLegal base mid → OverNodes stands base → OverGraphs later (HasBlocks mid count) base
    → SeesToOver J (IsOfBlocks 1 count) (λ at. ⊤) mid new e.number base → SeesToOver J (λ at number. ⊤) (λ at. ⊤) old new d.number base
all_seen {old = old} {mid = mid} {new = new} {d = d} {e = e} {count = count} J same phase x (OfNodes g) shaped legal o there y =
    let z : SeesTo J (IsOfBlocks 1 count) (λ at. ⊤) g mid new d.number = subst (λ (k : Desk). SeesTo J (IsOfBlocks 1 count) (λ at. ⊤) g mid new k.number) same y.so in
    let all : SeesTo J (λ at number. ⊤) (λ at. ⊤) g old new d.number = record {
      taken = λ at n id every t dead.
          let now : IsEntry (after g mid) at n id = entry_lasts g shaped legal x Remove tt phase at n id tt t in
          let is = (shaped_after g shaped mid legal).nodes at now.node now.stands in
          let blocks : (after g mid).blocks ≡ count = there.so in
          let from = is.from_1 in
          let within = is.within in
          let longer = acts_longer x in
          taken_earlier longer (z.taken at n id (record { from = from; below = omega (arith, within, blocks) }) now dead);
      kept = λ at n id never e. absurd (never tt);
    } in
    record { so = all }
all_seen J same phase x (OfLists g) shaped legal o there y = absurd o.so
