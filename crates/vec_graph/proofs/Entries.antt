-- What leaves the entries of a graph as they are.
use Rattle.std.proofs.Common.{◌≡◌, ◌⊎◌, inl, inr, ℕ, Bool, true, false, cond, ◌&&◌, T, List, [], ◌∷◌, ◌++◌, map, flat_map, Some, None, refl, sym, ap, ◌∙◌}
use Rattle.std.specs.declared.cmp.Ordering.{Ordering}
use Rattle.std.specs.declared.cmp.Ordering.TheVariants.{Less, Equal, Greater}
use Rattle.std.specs.Ordering.{is_lt, is_eq}
use Rattle.std.specs.Cmp.{IsTotalOrder}
use Rattle.std.specs.FinMap as fin
use Rattle.std.specs.FinMap.Entries.{find, put, is_sorted, below_all, by_order}
use Rattle.std.proofs.lemmas.Option.{same_Some, none-some}
use Rattle.vec_names.specs.declared.tid.Tid.{Tid}
use Rattle.vec_names.specs.Order.{tid_cmp, tid_cmp_total}
use Rattle.vec_history.specs.declared.event.Event.{Event}
use Rattle.vec_history.specs.declared.event.Event.TheVariants.{Put, Join, Link, Relist, Drop, Mark, Entry, Hint, IvfAdd, IvfGrow, IvfDrop, IvfHint, Gate, Ungate, Phase, VacuumEnd, Cancel, Settled, DiskFaulted}
use Rattle.vec_history.specs.declared.event.Act.{Act}
use Rattle.vec_graph.specs.declared.node.Node.{Node}
use Rattle.vec_graph.specs.declared.graph.Graph.{Graph}
use Rattle.vec_graph.specs.Graph.{node_at, rows_of, entries}
use Rattle.vec_graph.specs.Effect.{effect, after, changed, changed_from, with_node, linked, relisted, marked, AreIdsChanged}
use Rattle.vec_graph.specs.Rules.{IsEventAllowed}

left : (a b : Bool) → T (a && b) → T a
left true b p = tt
left false b p = p

right : (a b : Bool) → T (a && b) → T b
right true b p = p
right false b p = absurd p

is_less : (r : Ordering) → T (is_lt r) → r ≡ Less
is_less Less p = refl
is_less Equal p = absurd p
is_less Greater p = absurd p

module _ {K X A : Type 0} (R : K → K → Ordering) (total : IsTotalOrder R) (f : X → List A) where
  abbrev rows : List (K × X) → List A
  rows es = flat_map f (map (λ e. e.1) es)

  -- a key below one that stands before all others is not found
  not_found : (k x : K) (es : List (K × X)) → R k x ≡ Less → T (below_all R x es) → find R k es ≡ None
  not_found k x [] less h = refl
  not_found k x (e ∷ es) less h =
      let below = total.trans k x e.0 less (is_less _ (left _ _ h)) in
      ap (λ r. cond (is_eq r) (Some e.1) (find R k es)) below ∙ not_found k x es less (right _ _ h)

  -- another value at a key, of which f makes the same
  pub same_rows : (k : K) (v w : X) (es : List (K × X)) → T (is_sorted R es) → find R k es ≡ Some w → f v ≡ f w → rows (put R k v es) ≡ rows es
  same_rows k v w [] h is same = absurd (none-some w is)
  same_rows k v w (e ∷ es) h is same =
      elim (R k e.0) as (λ r. R k e.0 ≡ r → cond (is_eq r) (Some e.1) (find R k es) ≡ Some w
      → rows (by_order r ((k, v) ∷ e ∷ es) ((e.0, v) ∷ es) (e ∷ put R k v es)) ≡ rows (e ∷ es)) [
        | Less ↦ λ less found. absurd (none-some w (sym (not_found k e.0 es less (left _ _ h)) ∙ found))
        | Equal ↦ λ equal found. ap (λ l. l ++ rows es) (same ∙ sym (ap f (same_Some e.1 w found)))
        | Greater ↦ λ greater found. ap (λ l. f e.1 ++ l) (same_rows k v w es (right _ _ h) found same)
      ] refl is

-- ---- graphs

same_at : (g : Graph) (at : Tid) (n m : Node) → node_at g at ≡ Some m → rows_of n ≡ rows_of m → entries (with_node g at n) ≡ entries g
same_at g at n m stands same =
    ap (rows tid_cmp tid_cmp_total rows_of) (fin.entries-insert tid_cmp_total g.nodes at n)
    ∙ same_rows tid_cmp tid_cmp_total rows_of at n m (fin.entries g.nodes) (fin.entries_sorted g.nodes) (sym (fin.get-entries g.nodes at) ∙ stands) same

same_changed : (g : Graph) (at : Tid) (change : Node → Node) → ((n : Node) → node_at g at ≡ Some n → rows_of (change n) ≡ rows_of n)
    → entries (changed g at change) ≡ entries g
same_changed g at change same =
    elim (node_at g at) as (λ o. node_at g at ≡ o → entries (changed_from g at change o) ≡ entries g) [
      | None ↦ λ _. refl
      | Some n ↦ λ e. same_at g at (change n) n e (same n e)
    ] refl

either_way : {Y : Type 0} (b : Bool) (y : Y) → cond b y y ≡ y
either_way true y = refl
either_way false y = refl

no_rows : (n : Node) → n.ids ≡ [] → rows_of n ≡ []
no_rows n e = ap (λ ids. cond n.deleted [] (map (λ id. (id, n.bits)) ids)) e ∙ either_way n.deleted []

pub by_event : (base : Graph) (acts : List Act) (desk : ℕ) (e : Event) → IsEventAllowed base acts desk e
    → AreIdsChanged e ⊎ (entries (effect 255 e (after base acts)) ≡ entries (after base acts))
by_event base acts desk (Put at list_at version level id bits lists) may = inl tt
by_event base acts desk (Join at version id) may = inl tt
by_event base acts desk (Link at list_at version slot to) may = inr (same_changed (after base acts) at (linked slot to) (λ n _. refl))
by_event base acts desk (Relist at list_at version lists) may = inr (same_changed (after base acts) at (relisted lists) (λ n _. refl))
by_event base acts desk (Drop at version gone) may = inl tt
by_event base acts desk (Mark at list_at version) may =
    inr (same_changed (after base acts) at (marked 255) (λ n e. sym (no_rows n (ap (λ (m : Node). m.ids) (same_Some _ _ (sym e ∙ may.there.stands)) ∙ may.doomed.no_ids))))
by_event base acts desk (Entry to level) may = inr refl
by_event base acts desk (Hint block) may = inr refl
by_event base acts desk (IvfAdd block id bits) may = absurd may
by_event base acts desk (IvfGrow list last block id bits) may = absurd may
by_event base acts desk (IvfDrop block gone) may = absurd may
by_event base acts desk (IvfHint list block) may = absurd may
by_event base acts desk (Gate gate hold) may = inr refl
by_event base acts desk (Ungate gate) may = inr refl
by_event base acts desk (Phase stage) may = inr refl
by_event base acts desk VacuumEnd may = inr refl
by_event base acts desk (Cancel stage) may = inr refl
by_event base acts desk (Settled upto) may = inr refl
by_event base acts desk (DiskFaulted count) may = inr refl
