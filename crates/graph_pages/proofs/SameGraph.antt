-- Pages stand for one graph at most.
use Rattle.std.proofs.Common.{◌≡◌, List, sym, ap, ◌∙◌}
use Rattle.std.proofs.lemmas.Option.{same_Some}
use Rattle.std.specs.FinMap.{same_map}
use Rattle.vec_names.specs.Order.{tid_cmp_total, tid_cmp_exact}
use Rattle.page_bytes.specs.Content.{Content}
use Rattle.vec_tuples.specs.declared.meta.Meta.{Meta}
use Rattle.vec_graph.specs.declared.graph.Graph.{Graph}
use Rattle.graph_pages.specs.Standing.{node_in, Stands}

pub same_graph : (pages : List Content) (g h : Graph) → Stands pages g → Stands pages h → g ≡ h
same_graph pages g h s t =
    let same : s.meta ≡ t.meta = same_Some s.meta t.meta (sym s.read ∙ t.read) in
    let params = s.params ∙ ap (λ (m : Meta). m.params) same ∙ sym t.params in
    let entry = s.entry ∙ ap (λ (m : Meta). m.entry) same ∙ sym t.entry in
    let level = s.level ∙ ap (λ (m : Meta). m.level) same ∙ sym t.level in
    let hint = s.hint ∙ ap (λ (m : Meta). m.hint) same ∙ sym t.hint in
    let blocks = s.blocks ∙ sym t.blocks in
    let nodes = same_map tid_cmp_total tid_cmp_exact g.nodes h.nodes (λ at. s.nodes at ∙ ap (λ (m : Meta). node_in m.params pages at) same ∙ sym (t.nodes at)) in
    λ i. record { params = params i; nodes = nodes i; entry = entry i; level = level i; hint = hint i; blocks = blocks i }
