-- The number of doomed nodes is 0 just where none is doomed.
use Rattle.std.proofs.Common.{◌≡◌, ◌↔◌, ◌+◌, ℕ, Bool, true, false, cond, T, List, [], ◌∷◌, map, sum_by, Some, refl, sym, ap, subst, ◌∙◌, arith}
use Rattle.std.specs.Ordering.{is_eq, eq_by_cmp}
use Rattle.std.specs.Cmp.{tied_itself}
use Rattle.std.specs.FinMap as fin
use Rattle.std.specs.FinMap.Entries.{find, is_sorted, below_all}
use Rattle.std.proofs.lemmas.Option.{same_Some, none-some}
use Rattle.std.proofs.lemmas.List.Sums.{sum_by-cons}
use Rattle.vec_names.specs.declared.tid.Tid.{Tid}
use Rattle.vec_names.specs.declared.heap_id.HeapId.{HeapId}
use Rattle.vec_names.specs.Order.{tid_cmp, tid_cmp_total, tid_cmp_exact}
use Rattle.vec_graph.specs.declared.node.Node.{Node}
use Rattle.vec_graph.specs.declared.graph.Graph.{Graph}
use Rattle.vec_graph.specs.Graph.{node_at, IsDoomed, IsDoomedAt}
use Rattle.vec_graph.proofs.Copies.{equal, left, right, missing}
use Rattle.graph_law.specs.Counting.{one_if_none, one_if_doomed, doomed_count}

-- ---- one node

counts_one : (n : Node) → IsDoomed n → one_if_doomed n ≡ 1
counts_one n is = ap (λ (b : Bool). cond b 0 (one_if_none n.ids)) is.not_deleted ∙ ap one_if_none is.no_ids

counts_none : (n : Node) → (IsDoomed n → ⊥) → one_if_doomed n ≡ 0
counts_none n not = by n.deleted n.ids refl refl where
  by : (b : Bool) (ids : List HeapId) → n.deleted ≡ b → n.ids ≡ ids → cond b 0 (one_if_none ids) ≡ 0
  by true ids deleted is = refl
  by false [] deleted is = absurd (not (record { not_deleted = deleted; no_ids = is }))
  by false (id ∷ ids) deleted is = refl

-- ---- the nodes of a map

none_found : (es : List (Tid × Node)) → sum_by one_if_doomed (map (λ e. e.1) es) ≡ 0 → (at : Tid) (n : Node) → find tid_cmp at es ≡ Some n
    → one_if_doomed n ≡ 0
none_found [] none at n found = absurd (none-some n found)
none_found (e ∷ es) none at n found =
    let parts : sum_by one_if_doomed (e.1 ∷ map (λ e. e.1) es) ≡ one_if_doomed e.1 + sum_by one_if_doomed (map (λ e. e.1) es) =
    sum_by-cons one_if_doomed e.1 (map (λ e. e.1) es) in
    let first : one_if_doomed e.1 ≡ 0 = omega (arith, none, parts) in
    let rest : sum_by one_if_doomed (map (λ e. e.1) es) ≡ 0 = omega (arith, none, parts) in
    elim (eq_by_cmp tid_cmp at e.0) as (λ b. cond b (Some e.1) (find tid_cmp at es) ≡ Some n → one_if_doomed n ≡ 0) [
      | true ↦ λ is. ap one_if_doomed (sym (same_Some _ _ is)) ∙ first
      | false ↦ λ is. none_found es rest at n is
    ] found

all_none : (es : List (Tid × Node)) → T (is_sorted tid_cmp es) → ((at : Tid) (n : Node) → find tid_cmp at es ≡ Some n → one_if_doomed n ≡ 0)
    → sum_by one_if_doomed (map (λ e. e.1) es) ≡ 0
all_none [] sorted none = refl
all_none (e ∷ es) sorted none =
    let parts : sum_by one_if_doomed (e.1 ∷ map (λ e. e.1) es) ≡ one_if_doomed e.1 + sum_by one_if_doomed (map (λ e. e.1) es) =
    sum_by-cons one_if_doomed e.1 (map (λ e. e.1) es) in
    let first : one_if_doomed e.1 ≡ 0 = none e.0 e.1 (ap (λ r. cond (is_eq r) (Some e.1) (find tid_cmp e.0 es)) (tied_itself tid_cmp_total e.0)) in
    let rest : sum_by one_if_doomed (map (λ e. e.1) es) ≡ 0 = all_none es (right _ _ sorted) (λ at n found.
    elim (eq_by_cmp tid_cmp at e.0) as (λ b. eq_by_cmp tid_cmp at e.0 ≡ b → one_if_doomed n ≡ 0) [
      | true ↦ λ tied.
          let at_e = tid_cmp_exact at e.0 (equal _ tied) in
          absurd (none-some n (sym (missing at es (subst (λ (k : Tid). T (below_all tid_cmp k es)) (sym at_e) (left _ _ sorted))) ∙ found))
      | false ↦ λ apart. none at n (ap (λ b. cond b (Some e.1) (find tid_cmp at es)) apart ∙ found)
    ] refl) in
    omega (arith, parts, first, rest)

-- ---- a graph

pub none_doomed : (g : Graph) → doomed_count g ≡ 0 ↔ ((at : Tid) → IsDoomedAt g at → ⊥)
none_doomed g = (
  λ none at there.
      let zero_here = none_found (fin.entries g.nodes) none at there.node (sym (fin.get-entries g.nodes at) ∙ there.stands) in
      let one = counts_one there.node there.doomed in
      absurd (omega (arith, zero_here, one)),
  λ none. all_none (fin.entries g.nodes) (fin.entries_sorted g.nodes) (λ at n found.
      counts_none n (λ is. none at (record { node = n; stands = fin.get-entries g.nodes at ∙ found; doomed = is }))),
)
