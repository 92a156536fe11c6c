use Rattle.std.proofs.Common.{◌≡◌, ◌∙◌}
use Rattle.std.specs.FinMap.{entries}
use Rattle.vec_graph.proofs.Copies.{put_all, all_made}
use Rattle.vec_graph.proofs.graph.nodes_of.Goals as goal

pub loop-place-init : goal.loop-place-init
loop-place-init c =
    let all : c.into_iter-place-iterator.result ≡ entries c.args.nodes.now = cc in
    (λ i. put_all (c.new-copy.ensures i) (all i)) ∙ all_made c.args.nodes.now
