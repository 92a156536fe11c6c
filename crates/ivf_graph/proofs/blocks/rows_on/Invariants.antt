use Rattle.std.proofs.Common.{◌≡◌, ◌==◌, take, None}
use Rattle.std.specs.List.{find, flat_map}
use Rattle.ivf_graph.proofs.blocks.rows_on.Given as goal

abbrev pub invariant-loop-list : goal.invariant-loop-list
invariant-loop-list l = find (λ p. p.0 == l.block) (flat_map (λ x. x.chain) (take l.list-index l.lists)) ≡ None
