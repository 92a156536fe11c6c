-- What a look at a page tells of the nodes on it.
use Rattle.std.proofs.Common.{◌≡◌, ℕ, Bool, true, false, cond, ◌&&◌, T, ◌==◌, List, [], ◌∷◌, map, filter, Some, refl, sym, ap, ◌∙◌, append-nil}
use Rattle.std.specs.List.{AllByRecursion}
use Rattle.std.specs.declared.cmp.Ordering.{Ordering}
use Rattle.std.specs.declared.cmp.Ordering.TheVariants.{Less, Equal, Greater}
use Rattle.std.specs.Ordering.{is_lt, is_eq, ordering_reverse}
use Rattle.std.specs.Cmp.{IsTotalOrder, tied_itself}
use Rattle.std.specs.FinMap as fin
use Rattle.std.specs.FinMap.Entries.{is_sorted, below_all}
use Rattle.vec_names.specs.declared.tid.Tid.{Tid}
use Rattle.vec_names.specs.Order.{tid_cmp, tid_cmp_total}
use Rattle.vec_graph.specs.declared.node.Node.{Node}
use Rattle.vec_graph.specs.declared.graph.Graph.{Graph}
use Rattle.graph_search.specs.Reads.{Seen, nodes_on, seen_of}
use Rattle.hnsw_vacuum.specs.Dropping.{AreSeenApart, StandsTold}

pub first : (a b : Bool) → T (a && b) → T a
first true b p = tt
first false b p = absurd p

pub second : (a b : Bool) → T (a && b) → T b
second true b p = p
second false b p = absurd p

pub is_less : (r : Ordering) → T (is_lt r) → r ≡ Less
is_less Less p = refl
is_less Equal p = absurd p
is_less Greater p = absurd p

less_not_equal : Less ≡ Equal → ⊥
less_not_equal e = absurd cc

-- ---- entries

module _ {K X : Type 0} (R : K → K → Ordering) (total : IsTotalOrder R) where
  further : (f : K × X) (all es : List (K × X)) → T (below_all R f.0 es) → AllByRecursion (λ (e : K × X). fin.find R e.0 all ≡ Some e.1) es
      → AllByRecursion (λ (e : K × X). fin.find R e.0 (f ∷ all) ≡ Some e.1) es
  further f all [] h found = tt
  further f all (e ∷ es) h found = (
    ap (λ r. cond (is_eq r) (Some f.1) (fin.find R e.0 all)) (total.antisymm e.0 f.0 ∙ ap ordering_reverse (is_less _ (first _ _ h))) ∙ found.0,
    further f all es (second _ _ h) found.1,
  )

  -- each is found by its key
  pub all_found : (es : List (K × X)) → T (is_sorted R es) → AllByRecursion (λ (e : K × X). fin.find R e.0 es ≡ Some e.1) es
  all_found [] h = tt
  all_found (f ∷ fs) h = (
    ap (λ r. cond (is_eq r) (Some f.1) (fin.find R f.0 fs)) (tied_itself total f.0),
    further f fs fs (first _ _ h) (all_found fs (second _ _ h)),
  )

  other_keys : (x : K) (es : List (K × X)) → T (below_all R x es) → AllByRecursion (λ (e : K × X). e.0 ≡ x → ⊥) es
  other_keys x [] h = tt
  other_keys x (e ∷ es) h = (
    λ same. less_not_equal (sym (is_less _ (first _ _ h)) ∙ ap (R x) same ∙ tied_itself total x),
    other_keys x es (second _ _ h),
  )

-- ---- lists

-- what is kept of these, as it is told, is so too
pub all_told : {X Y : Type 0} (f : X → Y) (P : Y → Type 0) (test : X → Bool) (xs : List X) → AllByRecursion (λ x. P (f x)) xs → AllByRecursion P (map f (filter test xs))
all_told f P test [] all = tt
all_told f P test (x ∷ xs) all =
    elim (test x) as (λ b. AllByRecursion P (map f (cond b (x ∷ filter test xs) (filter test xs)))) [
      | true ↦ (all.0, all_told f P test xs all.1)
      | false ↦ all_told f P test xs all.1
    ]

told_apart : (test : Tid × Node → Bool) (es : List (Tid × Node)) → T (is_sorted tid_cmp es) → AreSeenApart (map seen_of (filter test es))
told_apart test [] h = tt
told_apart test (e ∷ es) h =
    elim (test e) as (λ b. AreSeenApart (map seen_of (cond b (e ∷ filter test es) (filter test es)))) [
      | true ↦ (
        all_told seen_of (λ (t : Seen). t.at ≡ e.0 → ⊥) test es (other_keys tid_cmp tid_cmp_total e.0 es (first _ _ h)),
        told_apart test es (second _ _ h),
      )
      | false ↦ told_apart test es (second _ _ h)
    ]

-- ---- nodes

stands_so : (g : Graph) (es : List (Tid × Node)) → AllByRecursion (λ (e : Tid × Node). fin.find tid_cmp e.0 (fin.entries g.nodes) ≡ Some e.1) es
    → AllByRecursion (λ (e : Tid × Node). StandsTold g (seen_of e)) es
stands_so g [] all = tt
stands_so g (e ∷ es) all = (
  λ alive. record {
    node = e.1;
    there = record { stands = fin.get-entries g.nodes e.0 ∙ all.0; of_version = refl; not_deleted = alive };
    more = [];
    front = sym (append-nil e.1.ids);
  },
  stands_so g es all.1,
)

pub nodes_stand : (g : Graph) (block : ℕ) → AllByRecursion (StandsTold g) (nodes_on g block)
nodes_stand g block =
    all_told seen_of (StandsTold g) (λ (e : Tid × Node). e.0.block == block) (fin.entries g.nodes)
    (stands_so g (fin.entries g.nodes) (all_found tid_cmp tid_cmp_total (fin.entries g.nodes) (fin.entries_sorted g.nodes)))

pub nodes_apart : (g : Graph) (block : ℕ) → AreSeenApart (nodes_on g block)
nodes_apart g block = told_apart (λ (e : Tid × Node). e.0.block == block) (fin.entries g.nodes) (fin.entries_sorted g.nodes)
