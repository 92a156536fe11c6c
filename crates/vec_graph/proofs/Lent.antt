-- A node that was changed in place.
use Rattle.std.proofs.Common.{◌≡◌, Option, Some, sym, ap, subst, ◌∙◌}
use Rattle.std.specs.Borrow.{MutBor}
use Rattle.std.specs.Option.{option_copied_mut}
use Rattle.std.specs.Prelude.{OnSome}
use Rattle.std.specs.FinMap.{FinMap, get, insert}
use Rattle.vec_names.specs.declared.tid.Tid.{Tid}
use Rattle.vec_names.specs.Order.{tid_cmp}
use Rattle.vec_graph.specs.declared.node.Node.{Node}
use Rattle.vec_graph.specs.declared.graph.Graph.{Graph}
use Rattle.vec_graph.specs.Graph.{node_at}
use Rattle.vec_graph.specs.Effect.{changed, changed_from}

-- the graph whose node at a place was lent as r, and was left as the change makes it
pub lent : (g : Graph) (at : Tid) (change : Node → Node) (r : Option (MutBor Node)) (x : MutBor Node) (nodes : FinMap tid_cmp Node) (w : Node)
    → r ≡ Some x → option_copied_mut r ≡ get g.nodes at → OnSome r (nodes ≡ insert g.nodes at w) → w ≡ change x.now
    → ◌≡◌ {A = Graph} (record g { nodes = nodes }) (changed g at change)
lent g at change r x nodes w is value holds by =
    let there : node_at g at ≡ Some x.now = sym value ∙ ap option_copied_mut is in
    let put : nodes ≡ insert g.nodes at w = subst (λ (o : Option (MutBor Node)). OnSome o (nodes ≡ insert g.nodes at w)) is holds in
    ap (λ m. record g { nodes = m }) (put ∙ ap (insert g.nodes at) by) ∙ sym (ap (changed_from g at change) there)
