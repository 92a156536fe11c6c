use Rattle.std.proofs.Common.{◌∙◌, true, Some, None, replicate, sym, ap, arith, refl}
use Rattle.std.specs.Option.{option_and_then}
use Rattle.vec_tuples.specs.Spelling.{links_bytes, links_with}
use Rattle.page_bytes.specs.Content.{Content}
use Rattle.page_redo.specs.declared.items.LinksHead.{LinksHead}
use Rattle.page_redo.specs.PageTuples.{links_at, with_item}
use Rattle.page_redo.specs.PageChanges.{emptied}
use Rattle.page_redo.specs.PageTuples.{links_head}
use Rattle.page_redo.proofs.ItemLaws.{links_there}
use Rattle.page_redo.proofs.Pairs.{emptied_is, not_emptied, mark_not_same, mark_not_after, mark_pair, list_stays, no_option}
use Rattle.page_redo.proofs.two_places.mark_both.Goals as goal

pub returns-then-node-list_off : goal.returns-then-node-list_off
returns-then-node-list_off c = (mark_not_same c.args.params.now c.args.node c.args.page.now c.if-node-list_off.true, refl)

pub returns-in_default : goal.returns-in_default
returns-in_default c =
    let p = c.args.params.now in
    let n = c.args.node in
    let none = no_option links_head (links_at p c.args.page.now n.list_at.off) (sym c.links_head_at.ensures.told ∙ c.in_default.is) in
    (mark_not_after p n c.args.page.now (sym c.is_on_graph.ensures ∙ c.if-not-is_on_graph.false) c.if-node-list_off.false (ap (option_and_then (emptied n.wrap n.version)) none), refl)

pub returns-then-not-is_current : goal.returns-then-not-is_current
returns-then-not-is_current c =
    let p = c.args.params.now in
    let n = c.args.node in
    let h = c.in-Some.head in
    let t = links_there p c.args.page.now n.list_at.off h c.in-Some.ensures.told c.in-Some.ensures.spelled in
    let none = not_emptied n.wrap n.version h t.0 c.is_current.result t.4 c.is_current.ensures c.if-not-is_current.true in
    (mark_not_after p n c.args.page.now (sym c.is_on_graph.ensures ∙ c.if-not-is_on_graph.false) c.if-node-list_off.false (ap (option_and_then (emptied n.wrap n.version)) t.3 ∙ none), refl)

pub put_no_slots-requires-clause-there : goal.put_no_slots-requires-clause-there
put_no_slots-requires-clause-there c =
    let p = c.args.params.now in
    let n = c.args.node in
    let t = links_there p c.args.page.now n.list_at.off c.in-Some.head c.in-Some.ensures.told c.in-Some.ensures.spelled in
    let stays = list_stays p n c.args.page.now c.mark.new.page c.in_ok-mark.ensures c.if-node-list_off.false in
    (t.0, stays ∙ t.1, sym (ap (λ (h : LinksHead). h.count) t.4))

pub put_no_slots-requires-clause-few : goal.put_no_slots-requires-clause-few
put_no_slots-requires-clause-few c =
    let t = links_there c.args.params.now c.args.page.now c.args.node.list_at.off c.in-Some.head c.in-Some.ensures.told c.in-Some.ensures.spelled in
    omega (arith, t.2.count.0, ap (λ (h : LinksHead). h.count) t.4)

pub returns : goal.returns
returns c =
    let p = c.args.params.now in
    let n = c.args.node in
    let h = c.in-Some.head in
    let t = links_there p c.args.page.now n.list_at.off h c.in-Some.ensures.told c.in-Some.ensures.spelled in
    let is = emptied_is n.wrap n.version h t.0 c.is_current.result t.4 c.is_current.ensures c.if-not-is_current.false in
    mark_pair p n c.args.page.now (sym c.is_on_graph.ensures ∙ c.if-not-is_on_graph.false) c.if-node-list_off.false c.mark.new.page t.0 _ c.in_ok-mark.ensures t.3 is
    ∙ sym (ap (λ (m : Content). Some m) c.put_no_slots.ensures
    ∙ ap (λ v. Some (with_item c.mark.new.page n.list_at.off (links_bytes (links_with true v (replicate h.count None))))) c.next_version.ensures)
