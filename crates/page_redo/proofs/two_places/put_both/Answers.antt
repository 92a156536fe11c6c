use Rattle.std.proofs.Common.{◌≡◌, ◌∙◌, Some, sym, ap, refl}
use Rattle.vec_tuples.specs.Spelling.{element_bytes, element_with, links_bytes}
use Rattle.page_redo.specs.PageTuples.{element_at}
use Rattle.page_redo.specs.PageChanges.{is_old_element, new_element, new_links, put}
use Rattle.page_redo.specs.OfParts.{node_of}
use Rattle.page_redo.proofs.Pairs.{put_not_same, put_refused, put_done}
use Rattle.page_redo.proofs.two_places.put_both.Goals as goal

pub returns-then-off-list_off : goal.returns-then-off-list_off
returns-then-off-list_off c =
    let n = node_of c.args.node in
    (put_not_same c.args.params.now n c.args.page.now c.if-off-list_off.true, refl)

pub returns-then-not-may_put_after : goal.returns-then-not-may_put_after
returns-then-not-may_put_after c =
    let n = node_of c.args.node in
    let p = c.args.params.now in
    let page = c.args.page.now in
    let go = is_old_element n.version (element_at p page n.at.off) in
    let x = element_bytes (new_element n) in
    let y = links_bytes (new_links n) in (
      put_refused p n page (sym c.is_on_graph.ensures ∙ c.if-not-is_on_graph.false) (sym c.is_node.ensures ∙ c.if-not-is_node.false) c.if-off-list_off.false
          c.are_old_links-list_may_go.result c.are_old_links-list_may_go.ensures
          (λ d made. sym (c.may_put_after.ensures go x y d (c.element_long-long.ensures.spelled _) (c.links_long-list_long.ensures.spelled n.version) made) ∙ c.if-not-may_put_after.true),
      refl,
    )

pub returns : goal.returns
returns c =
    let n = node_of c.args.node in
    let p = c.args.params.now in
    let page = c.args.page.now in
    let goes = c.is_old_element-may_go.result in
    let x = element_bytes (new_element n) in
    let y = links_bytes (new_links n) in
    let made : put n.at.off goes x page ≡ Some c.place_element.new.page =
    ap (λ h. put n.at.off goes (element_bytes (element_with h n.bits)) page) (sym c.new_head-head.ensures) ∙ c.in_ok-place_element.ensures in
    put_done p n page (sym c.is_on_graph.ensures ∙ c.if-not-is_on_graph.false) (sym c.is_node.ensures ∙ c.if-not-is_node.false) c.if-off-list_off.false
    goes c.are_old_links-list_may_go.result c.is_old_element-may_go.ensures c.are_old_links-list_may_go.ensures c.place_element.new.page c.place_links.new.page c.place_links.result made
    (sym (c.may_put_after.ensures goes x y c.place_element.new.page (c.element_long-long.ensures.spelled _) (c.links_long-list_long.ensures.spelled n.version) made) ∙ c.if-not-may_put_after.false)
    c.place_links.ensures
