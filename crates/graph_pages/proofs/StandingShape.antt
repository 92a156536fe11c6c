-- The shape of a graph that pages stand for: its blocks, its parameters and the slots of its nodes.
use Rattle.std.proofs.Common.{◌≡◌, ◌<◌, true, List, length, Some, refl, sym, ap, subst, ◌∙◌, arith}
use Rattle.std.specs.Prelude.{slice_get}
use Rattle.std.specs.List.{All}
use Rattle.std.specs.Option.{option_map}
use Rattle.std.proofs.lemmas.Option.{slice_get_within}
use Rattle.index_sizes.specs.Sizes.{slots_of_level}
use Rattle.vec_names.specs.declared.tid.Tid.{Tid}
use Rattle.vec_names.specs.declared.params.Kind.{Kind}
use Rattle.vec_names.specs.declared.params.Kind.TheVariants.{Hnsw, Ivf}
use Rattle.vec_names.specs.declared.params.Params.{Params}
use Rattle.vec_names.specs.Params.{IsInRange}
use Rattle.page_bytes.specs.Content.{Content, IsPage, item_at}
use Rattle.vec_tuples.specs.Reading.{links}
use Rattle.vec_graph.specs.declared.node.Node.{Node}
use Rattle.vec_graph.specs.declared.graph.Graph.{Graph}
use Rattle.vec_graph.specs.Graph.{node_at, HasAllSlots}
use Rattle.vec_graph.specs.Places.{IsOnBlocks}
use Rattle.page_redo.specs.PageTuples.{in_whole, is_graph}
use Rattle.graph_pages.specs.Standing.{item_in, element_in, links_in, node_with, Stands}
use Rattle.page_redo.proofs.Given.{then_is, map_is}
use Rattle.graph_pages.proofs.StandingLaws.{node_below}
use Rattle.graph_pages.proofs.HeadEffect.{params_in_range}
use Rattle.graph_pages.proofs.RoleFits.{node_there, list_alike, of_graph_kind}

pub list_below : (pages : List Content) (g : Graph) (at : Tid) (n : Node) → Stands pages g → node_at g at ≡ Some n → n.list_at.block < g.blocks
list_below pages g at n s stands =
    let p = s.meta.params in
    let e = then_is (λ e. option_map (node_with e) (links_in p pages e.list_at)) (element_in p pages at) n (sym (s.nodes at) ∙ stands) in
    let l = map_is (node_with e.0) (links_in p pages e.0.list_at) n e.2 in
    let x = then_is (λ x. in_whole (links p x)) (item_in pages e.0.list_at) l.0 l.1 in
    let c = then_is (λ (c : Content). item_at c.items e.0.list_at.off) (slice_get pages e.0.list_at.block) x.0 x.1 in
    let same : e.0.list_at.block ≡ n.list_at.block = ap (λ (n : Node). n.list_at.block) l.2 in
    omega (arith, slice_get_within pages e.0.list_at.block c.0 c.1, s.blocks, same)

pub on_blocks : (pages : List Content) (g : Graph) → Stands pages g → IsOnBlocks g
on_blocks pages g s at n stands = (node_below pages g at n s stands, list_below pages g at n s stands)

pub in_range : (pages : List Content) (g : Graph) → All IsPage pages → Stands pages g → IsInRange g.params
in_range pages g all s = subst IsInRange (sym s.params) (params_in_range pages g s all)

graph_kind : (k : Kind) → is_graph k ≡ true → k ≡ Hnsw
graph_kind Hnsw is = refl
graph_kind Ivf is = absurd cc

pub of_kind : (pages : List Content) (g : Graph) → All IsPage pages → Stands pages g → g.params.kind ≡ Hnsw
of_kind pages g all s = ap (λ (p : Params). p.kind) s.params ∙ graph_kind s.meta.params.kind (of_graph_kind pages g all s)

pub all_slots : (pages : List Content) (g : Graph) → All IsPage pages → Stands pages g → HasAllSlots g
all_slots pages g all s at n stands =
    let node = node_there pages g all s at n stands in
    let e = node.0 in
    let count = (list_alike pages g all s at e node.2 node.1 node.3).2 in
    ap (λ (n : Node). length n.slots) (sym node.4)
    ∙ count
    ∙ ap (λ (n : Node). slots_of_level s.meta.params.m n.level) node.4
    ∙ ap (λ (p : Params). slots_of_level p.m n.level) (sym s.params)
