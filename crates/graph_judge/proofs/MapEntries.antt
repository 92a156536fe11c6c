-- What holds of each entry of a map holds at each place, and back.
use Rattle.std.proofs.Common.{◌≡◌, ◌↔◌, true, false, cond, T, List, [], ◌∷◌, Some, refl, sym, ap, subst, ◌∙◌, arith}
use Rattle.std.specs.Ordering.{is_eq, eq_by_cmp}
use Rattle.std.specs.Cmp.{tied_itself}
use Rattle.std.specs.FinMap as fin
use Rattle.std.specs.FinMap.Entries.{find, is_sorted, below_all}
use Rattle.std.proofs.lemmas.Option.{same_Some, none-some}
use Rattle.vec_names.specs.declared.tid.Tid.{Tid}
use Rattle.vec_names.specs.Order.{tid_cmp, tid_cmp_total, tid_cmp_exact}
use Rattle.vec_graph.specs.declared.node.Node.{Node}
use Rattle.vec_graph.specs.declared.graph.Graph.{Graph}
use Rattle.vec_graph.specs.Graph.{node_at, IsLive, IsLiveAt, IsDoomed, IsDoomedAt}
use Rattle.vec_graph.proofs.Copies.{equal, left, right, missing}
use Rattle.graph_judge.specs.Knowable.{EachEntry}

at_each : (P : Tid → Node → Type 0) (es : List (Tid × Node)) → EachEntry P es → (at : Tid) (n : Node) → find tid_cmp at es ≡ Some n → P at n
at_each P [] each at n found = absurd (none-some n found)
at_each P (e ∷ es) each at n found =
    elim (eq_by_cmp tid_cmp at e.0) as (λ b. eq_by_cmp tid_cmp at e.0 ≡ b → cond b (Some e.1) (find tid_cmp at es) ≡ Some n → P at n) [
      | true ↦ λ tied is. subst (λ k. P k n) (sym (tid_cmp_exact at e.0 (equal _ tied))) (subst (P e.0) (same_Some _ _ is) each.0)
      | false ↦ λ apart is. at_each P es each.1 at n is
    ] refl found

each_at : (P : Tid → Node → Type 0) (es : List (Tid × Node)) → T (is_sorted tid_cmp es) → ((at : Tid) (n : Node) → find tid_cmp at es ≡ Some n → P at n)
    → EachEntry P es
each_at P [] sorted all = tt
each_at P (e ∷ es) sorted all = (
  all e.0 e.1 (ap (λ r. cond (is_eq r) (Some e.1) (find tid_cmp e.0 es)) (tied_itself tid_cmp_total e.0)),
  each_at P es (right _ _ sorted) (
      λ at n found.
      elim (eq_by_cmp tid_cmp at e.0) as (λ b. eq_by_cmp tid_cmp at e.0 ≡ b → P at n) [
        | true ↦ λ tied.
            let at_e = tid_cmp_exact at e.0 (equal _ tied) in
            absurd (none-some n (sym (missing at es (subst (λ (k : Tid). T (below_all tid_cmp k es)) (sym at_e) (left _ _ sorted))) ∙ found))
        | false ↦ λ apart. all at n (ap (λ b. cond b (Some e.1) (find tid_cmp at es)) apart ∙ found)
      ] refl
      ),
)

pub by_entries : (P : Tid → Node → Type 0) (g : Graph) → EachEntry P (fin.entries g.nodes) ↔ ((at : Tid) (n : Node) → node_at g at ≡ Some n → P at n)
by_entries P g = (
  λ each at n stands. at_each P (fin.entries g.nodes) each at n (sym (fin.get-entries g.nodes at) ∙ stands),
  λ all. each_at P (fin.entries g.nodes) (fin.entries_sorted g.nodes) (λ at n found. all at n (fin.get-entries g.nodes at ∙ found)),
)

abbrev pub NotDoomed : Tid → Node → Type 0
NotDoomed at n = IsDoomed n → ⊥

abbrev pub NotLive : Tid → Node → Type 0
NotLive at n = IsLive n → ⊥

pub none_doomed_by_entries : (g : Graph) → EachEntry NotDoomed (fin.entries g.nodes) ↔ ((at : Tid) → IsDoomedAt g at → ⊥)
none_doomed_by_entries g =
    let by = by_entries NotDoomed g in
    (λ each at there. by.0 each at there.node there.stands there.doomed, λ none. by.1 (λ at n stands is. none at (record { node = n; stands = stands; doomed = is })))

pub none_live_by_entries : (g : Graph) → EachEntry NotLive (fin.entries g.nodes) ↔ ((at : Tid) → IsLiveAt g at 0 → ⊥)
none_live_by_entries g =
    let by = by_entries NotLive g in (
      λ each at there. by.0 each at there.node there.stands there.live,
      λ none. by.1 (λ at n stands is. none at (record { node = n; stands = stands; live = is; reaches = omega arith })),
    )

-- ---- going over the entries: what is left decides

pub refused : (P : Tid → Node → Type 0) (es all : List (Tid × Node)) (k : Tid) (n : Node) (rest : List (Tid × Node)) → es ≡ (k, n) ∷ rest
    → EachEntry P es ↔ EachEntry P all → (P k n → ⊥) → EachEntry P all → ⊥
refused P es all k n rest e same not each = not (subst (EachEntry P) e (same.1 each)).0

pub passed : (P : Tid → Node → Type 0) (es all : List (Tid × Node)) (k : Tid) (n : Node) (rest : List (Tid × Node)) → es ≡ (k, n) ∷ rest
    → EachEntry P es ↔ EachEntry P all → P k n → EachEntry P rest ↔ EachEntry P all
passed P es all k n rest e same is = (λ each. same.0 (subst (EachEntry P) (sym e) (is, each)), λ each. (subst (EachEntry P) e (same.1 each)).1)

pub ended : (P : Tid → Node → Type 0) (es all : List (Tid × Node)) → es ≡ [] → EachEntry P es ↔ EachEntry P all → EachEntry P all
ended P es all e same = same.0 (subst (EachEntry P) (sym e) tt)
