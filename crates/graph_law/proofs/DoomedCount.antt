-- What one act makes of the number of doomed nodes.
use Rattle.std.proofs.Common.{◌≡◌, ◌≢◌, ℕ, ◌+◌, ◌^◌, ◌<◌, ◌≤◌, Bool, true, false, cond, ◌&&◌, T, List, [], ◌∷◌, ◌++◌, length, map, sum_by, Option, Some, None, refl, sym, ap, subst, ◌∙◌, arith}
use Rattle.std.specs.declared.cmp.Ordering.{Ordering}
use Rattle.std.specs.declared.cmp.Ordering.TheVariants.{Less, Equal, Greater}
use Rattle.std.specs.Ordering.{is_lt, is_eq}
use Rattle.std.specs.Cmp.{IsTotalOrder}
use Rattle.std.specs.FinMap as fin
use Rattle.std.specs.FinMap.Entries.{find, put, is_sorted, below_all, by_order}
use Rattle.std.proofs.lemmas.Option.{same_Some}
use Rattle.std.proofs.lemmas.List.Sums.{sum_by-cons}
use Rattle.list_values.specs.Masks.{kept}
use Rattle.vec_names.specs.declared.tid.Tid.{Tid}
use Rattle.vec_names.specs.declared.heap_id.HeapId.{HeapId}
use Rattle.vec_names.specs.Order.{tid_cmp, tid_cmp_total}
use Rattle.vec_history.specs.declared.event.Event.{Event}
use Rattle.vec_history.specs.declared.event.Event.TheVariants as event
use Rattle.vec_history.specs.declared.event.Act.{Act}
use Rattle.vec_graph.specs.declared.node.Node.{Node}
use Rattle.vec_graph.specs.declared.graph.Graph.{Graph}
use Rattle.vec_graph.specs.Graph.{node_at}
use Rattle.vec_graph.specs.Effect.{effect, after, changed, changed_from, with_node, joined, linked, relisted, dropped, marked}
use Rattle.vec_graph.specs.Rules.{IsEventAllowed}
use Rattle.vec_graph.specs.Places.{IsOnBlocks, IsFree}
use Rattle.vec_graph.proofs.Placing.{free_place}
use Rattle.graph_law.specs.Counting.{one_if_none, one_if_doomed, doomed_count, added_at, added, ceased}

left : (a b : Bool) → T (a && b) → T a
left true b p = tt
left false b p = p

right : (a b : Bool) → T (a && b) → T b
right true b p = p
right false b p = absurd p

is_less : (r : Ordering) → T (is_lt r) → r ≡ Less
is_less Less p = refl
is_less Equal p = absurd p
is_less Greater p = absurd p

comes_first : (v s t n : ℕ) → n ≡ 0 → t ≡ v + s → t + n ≡ s + v
comes_first v s t n none first = omega (arith, none, first)

comes_for : (v e s t u : ℕ) → t ≡ v + s → u ≡ e + s → t + e ≡ u + v
comes_for v e s t u new old = omega (arith, new, old)

comes_behind : (e t f s v x y : ℕ) → x ≡ e + t → y ≡ e + s → t + f ≡ s + v → x + f ≡ y + v
comes_behind e t f s v x y new old rest = omega (arith, new, old, rest)

number_of : {X : Type 0} → (X → ℕ) → Option X → ℕ
number_of d None = 0
number_of d (Some x) = d x

module _ {K X : Type 0} (R : K → K → Ordering) (total : IsTotalOrder R) (d : X → ℕ) where
  abbrev sum : List (K × X) → ℕ
  sum es = sum_by d (map (λ e. e.1) es)

  first_more : (x : X) (xs : List X) → sum_by d (x ∷ xs) ≡ d x + sum_by d xs
  first_more x xs = sum_by-cons d x xs

  not_found : (k x : K) (es : List (K × X)) → R k x ≡ Less → T (below_all R x es) → find R k es ≡ None
  not_found k x [] less h = refl
  not_found k x (e ∷ es) less h =
      let below = total.trans k x e.0 less (is_less _ (left _ _ h)) in
      ap (λ r. cond (is_eq r) (Some e.1) (find R k es)) below ∙ not_found k x es less (right _ _ h)

  -- a value put at a key: what stood there goes from the sum, and the value comes
  put_sum : (k : K) (v : X) (es : List (K × X)) → T (is_sorted R es)
      → sum_by d (map (λ e. e.1) (put R k v es)) + number_of d (find R k es) ≡ sum_by d (map (λ e. e.1) es) + d v
  unfolding number_of
  put_sum k v [] h = omega arith
  put_sum k v (e ∷ es) h =
      elim (R k e.0) as (λ r. R k e.0 ≡ r
      → sum_by d (map (λ x. x.1) (by_order r ((k, v) ∷ e ∷ es) ((e.0, v) ∷ es) (e ∷ put R k v es))) + number_of d (cond (is_eq r) (Some e.1) (find R k es))
      ≡ sum_by d (map (λ x. x.1) (e ∷ es)) + d v) [
        | Less ↦ λ less.
            comes_first (d v) (sum_by d (map (λ x. x.1) (e ∷ es))) (sum_by d (map (λ x. x.1) ((k, v) ∷ e ∷ es))) (number_of d (find R k es))
            (ap (number_of d) (not_found k e.0 es less (left _ _ h))) (first_more v (map (λ x. x.1) (e ∷ es)))
        | Equal ↦ λ _.
            comes_for (d v) (d e.1) (sum_by d (map (λ x. x.1) es)) (sum_by d (map (λ x. x.1) ((e.0, v) ∷ es))) (sum_by d (map (λ x. x.1) (e ∷ es)))
            (first_more v (map (λ x. x.1) es)) (first_more e.1 (map (λ x. x.1) es))
        | Greater ↦ λ _.
            comes_behind (d e.1) (sum_by d (map (λ x. x.1) (put R k v es))) (number_of d (find R k es)) (sum_by d (map (λ x. x.1) es)) (d v)
            (sum_by d (map (λ x. x.1) (e ∷ put R k v es))) (sum_by d (map (λ x. x.1) (e ∷ es)))
            (first_more e.1 (map (λ x. x.1) (put R k v es))) (first_more e.1 (map (λ x. x.1) es)) (put_sum k v es (right _ _ h))
      ] refl

-- ---- graphs

node_put : (g : Graph) (at : Tid) (n : Node) → doomed_count (with_node g at n) + number_of one_if_doomed (node_at g at) ≡ doomed_count g + one_if_doomed n
node_put g at n =
    ap (λ (es : List (Tid × Node)). sum_by one_if_doomed (map (λ e. e.1) es) + number_of one_if_doomed (node_at g at)) (fin.entries-insert tid_cmp_total g.nodes at n)
    ∙ ap (λ (o : Option Node). sum_by one_if_doomed (map (λ e. e.1) (put tid_cmp at n (fin.entries g.nodes))) + number_of one_if_doomed o) (fin.get-entries g.nodes at)
    ∙ put_sum tid_cmp tid_cmp_total one_if_doomed at n (fin.entries g.nodes) (fin.entries_sorted g.nodes)

-- a node is changed to another
node_changed : (g : Graph) (at : Tid) (change : Node → Node) (n : Node) → node_at g at ≡ Some n
    → doomed_count (changed g at change) + one_if_doomed n ≡ doomed_count g + one_if_doomed (change n)
unfolding number_of
node_changed g at change n stands =
    ap (λ (o : Option Node). doomed_count (changed_from g at change o) + one_if_doomed n) stands
    ∙ ap (λ (o : Option Node). doomed_count (with_node g at (change n)) + number_of one_if_doomed o) (sym stands) ∙ node_put g at (change n)

same_number : (g : Graph) (at : Tid) (change : Node → Node) → ((n : Node) → node_at g at ≡ Some n → one_if_doomed (change n) ≡ one_if_doomed n)
    → doomed_count (changed g at change) ≡ doomed_count g
same_number g at change same =
    elim (node_at g at) as (λ o. node_at g at ≡ o → doomed_count (changed_from g at change o) ≡ doomed_count g) [
      | None ↦ λ _. refl
      | Some n ↦ λ stands.
          let one = ap (λ (o : Option Node). doomed_count (changed_from g at change o) + one_if_doomed n) (sym stands) ∙ node_changed g at change n stands in
          let as_many = same n stands in
          omega (arith, one, as_many)
    ] refl

-- ---- one act

some_none : (ids : List HeapId) → 1 ≤ length ids → one_if_none ids ≡ 0
some_none [] h = absurd (omega (arith, h))
some_none (id ∷ ids) h = refl

zero_either : (b : Bool) (x : ℕ) → x ≡ 0 → cond b 0 x ≡ 0
zero_either true x e = refl
zero_either false x e = e

not_doomed : (n : Node) → 1 ≤ length n.ids → one_if_doomed n ≡ 0
not_doomed n h = zero_either n.deleted (one_if_none n.ids) (some_none n.ids h)

free_none : (g : Graph) (at : Tid) (level : ℕ) → IsFree g at level → number_of one_if_doomed (node_at g at) ≡ 0
unfolding number_of
free_none g at level free =
    elim (node_at g at) as (λ o. node_at g at ≡ o → number_of one_if_doomed o ≡ 0) [
      | None ↦ λ _. refl
      | Some n ↦ λ stands. ap (λ (b : Bool). cond b 0 (one_if_none n.ids)) (free n stands).0
    ] refl

one_more_id : (ids : List HeapId) (id : HeapId) → 1 ≤ length (ids ++ id ∷ [])
one_more_id [] id = omega arith
one_more_id (x ∷ ids) id = omega arith

some_left : (ids : List HeapId) (gone : ℕ) → gone ≢ 0 → gone < 2 ^ length ids → 1 ≤ length ids
some_left [] gone some low = absurd (omega (arith, some, low))
some_left (id ∷ ids) gone some low = omega arith

module _ (base : Graph) (acts : List Act) (desk : ℕ) (on : IsOnBlocks (after base acts)) where
  pub counted : (e : Event) → IsEventAllowed base acts desk e
      → doomed_count (effect 255 e (after base acts)) + ceased e ≡ doomed_count (after base acts) + added (after base acts) e
  counted (event.Put at list_at version level id bits lists) may =
      let g : Graph = after base acts in
      let new : Node = record { level = level; version = version; deleted = false; bits = bits; ids = id ∷ []; list_at = list_at; slots = lists } in
      let none = free_none g at level (free_place g at level (record { at = at; list_at = list_at; version = version }) on may.placed) in
      let one = node_put g at new in
      omega (arith, one, none)
  counted (event.Join at version id) may =
      let g : Graph = after base acts in
      let same = same_number g at (joined id)
      (λ n stands.
      not_doomed (joined id n) (one_more_id n.ids id)
      ∙ sym (not_doomed n (subst (λ (m : Node). 1 ≤ length m.ids) (same_Some may.node n (sym may.there.stands ∙ stands)) may.some))) in
      omega (arith, same)
  counted (event.Link at list_at version slot to) may =
      let same = same_number (after base acts) at (linked slot to) (λ n stands. refl) in omega (arith, same)
  counted (event.Relist at list_at version lists) may =
      let same = same_number (after base acts) at (relisted lists) (λ n stands. refl) in omega (arith, same)
  counted (event.Drop at version gone) may =
      let g : Graph = after base acts in
      let n : Node = may.node in
      let one = node_changed g at (dropped gone) n may.there.stands in
      let was = not_doomed n (some_left n.ids gone may.names_some may.names_no_others) in
      let now : one_if_doomed (dropped gone n) ≡ one_if_none (kept gone n.ids) = ap (λ (b : Bool). cond b 0 (one_if_none (kept gone n.ids))) may.there.not_deleted in
      let add : added_at gone (node_at g at) ≡ one_if_none (kept gone n.ids) = ap (added_at gone) may.there.stands in
      omega (arith, one, was, now, add)
  counted (event.Mark at list_at version) may =
      let g : Graph = after base acts in
      let n : Node = may.node in
      let one = node_changed g at (marked 255) n may.there.stands in
      let was : one_if_doomed n ≡ 1 = ap (λ (b : Bool). cond b 0 (one_if_none n.ids)) may.there.not_deleted ∙ ap one_if_none may.doomed.no_ids in
      omega (arith, one, was)
  counted (event.Entry to level) may = refl
  counted (event.Hint block) may = refl
  counted (event.IvfAdd block id bits) may = absurd may
  counted (event.IvfGrow list last block id bits) may = absurd may
  counted (event.IvfDrop block gone) may = absurd may
  counted (event.IvfHint list block) may = absurd may
  counted (event.Gate gate hold) may = refl
  counted (event.Ungate gate) may = refl
  counted (event.Phase stage) may = refl
  counted event.VacuumEnd may = refl
  counted (event.Cancel stage) may = refl
  counted (event.Settled upto) may = refl
  counted (event.DiskFaulted count) may = refl
