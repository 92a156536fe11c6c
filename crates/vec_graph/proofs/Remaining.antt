-- What an event leaves of the nodes that stand.
use Rattle.std.proofs.Common.{◌≡◌, inl, inr, cond, Some, None, refl, sym, subst, ◌∙◌}
use Rattle.std.specs.declared.cmp.Ordering.TheVariants.{Less, Equal, Greater}
use Rattle.std.specs.Ordering.{is_eq}
use Rattle.std.specs.FinMap as fin
use Rattle.std.proofs.lemmas.Option.{same_Some}
use Rattle.vec_names.specs.declared.tid.Tid.{Tid}
use Rattle.vec_names.specs.Order.{tid_cmp, tid_cmp_total, tid_cmp_exact}
use Rattle.vec_graph.specs.declared.node.Node.{Node}
use Rattle.vec_graph.specs.declared.graph.Graph.{Graph}
use Rattle.vec_graph.specs.Graph.{node_at}
use Rattle.vec_graph.specs.Effect.{changed, changed_from}
use Rattle.vec_graph.proofs.Placing.{after_insert}

-- a node that stands at a place and has a property
pub record Has (nodes : fin.FinMap tid_cmp Node) (P : Node → Type 0) (at : Tid) : Type 0 where
  pub node : Node
  pub stands : fin.get nodes at ≡ Some node
  pub is : P node

-- one more node, or another one at a place, whose node had the property only if this one has
pub has_inserted : (P : Node → Type 0) (nodes : fin.FinMap tid_cmp Node) (at : Tid) (n : Node) → ((m : Node) → fin.get nodes at ≡ Some m → P m → P n)
    → (q : Tid) → Has nodes P q → Has (fin.insert nodes at n) P q
has_inserted P nodes at n passes q has =
    let inserted = fin.get-insert tid_cmp_total nodes at n q in
    elim (tid_cmp q at) as (λ r. tid_cmp q at ≡ r → fin.get (fin.insert nodes at n) q ≡ cond (is_eq r) (Some n) (fin.get nodes q) → Has (fin.insert nodes at n) P q) [
      | Less ↦ λ _ is. record { node = has.node; stands = is ∙ has.stands; is = has.is }
      | Equal ↦ λ equal is. record {
        node = n;
        stands = is;
        is = passes has.node (subst (λ (t : Tid). fin.get nodes t ≡ Some has.node) (tid_cmp_exact q at equal) has.stands) has.is;
      }
      | Greater ↦ λ _ is. record { node = has.node; stands = is ∙ has.stands; is = has.is }
    ] refl inserted

-- the other way round: a node that has the property after had it before, unless it is the one that was put
pub had_before : (P : Node → Type 0) (g : Graph) (at : Tid) (n : Node) → (P n → Has g.nodes P at) → (q : Tid) → Has (fin.insert g.nodes at n) P q → Has g.nodes P q
had_before P g at n passes q has =
    elim (after_insert g at n q has.node has.stands) as (λ _. Has g.nodes P q) [
      | inl same ↦ subst (λ (t : Tid). Has g.nodes P t) (sym same.0) (passes (subst P same.1 has.is))
      | inr stood ↦ record { node = has.node; stands = stood; is = has.is }
    ]

-- a change of the node at a place
pub has_changed : (P : Node → Type 0) (g : Graph) (at : Tid) (change : Node → Node) → ((m : Node) → node_at g at ≡ Some m → P m → P (change m))
    → (q : Tid) → Has g.nodes P q → Has (changed g at change).nodes P q
has_changed P g at change passes q has =
    elim (node_at g at) as (λ o. node_at g at ≡ o → Has (changed_from g at change o).nodes P q) [
      | None ↦ λ _. has
      | Some n ↦ λ there. has_inserted P g.nodes at (change n) (λ m is p. subst (λ (k : Node). P (change k)) (same_Some m n (sym is ∙ there)) (passes m is p)) q has
    ] refl

pub had_changed : (P : Node → Type 0) (g : Graph) (at : Tid) (change : Node → Node) → ((m : Node) → node_at g at ≡ Some m → P (change m) → P m)
    → (q : Tid) → Has (changed g at change).nodes P q → Has g.nodes P q
had_changed P g at change passes q has =
    elim (node_at g at) as (λ o. node_at g at ≡ o → Has (changed_from g at change o).nodes P q → Has g.nodes P q) [
      | None ↦ λ _ was. was
      | Some n ↦ λ there was. had_before P g at (change n) (λ p. record { node = n; stands = there; is = passes n there p }) q was
    ] refl has

-- ---- blocks

pub blocks_changed : (g : Graph) (at : Tid) (change : Node → Node) → (changed g at change).blocks ≡ g.blocks
blocks_changed g at change =
    elim (node_at g at) as (λ o. (changed_from g at change o).blocks ≡ g.blocks) [
      | None ↦ refl
      | Some n ↦ refl
    ]

pub params_changed : (g : Graph) (at : Tid) (change : Node → Node) → (changed g at change).params ≡ g.params
params_changed g at change =
    elim (node_at g at) as (λ o. (changed_from g at change o).params ≡ g.params) [
      | None ↦ refl
      | Some n ↦ refl
    ]
