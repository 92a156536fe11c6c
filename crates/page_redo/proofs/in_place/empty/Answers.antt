use Rattle.std.proofs.Common.{ap, arith}
use Rattle.page_redo.specs.declared.items.LinksHead.{LinksHead}
use Rattle.page_redo.proofs.ItemLaws.{links_there}
use Rattle.page_redo.proofs.in_place.empty.Goals as goal

pub put_no_slots-requires-clause-few : goal.put_no_slots-requires-clause-few
put_no_slots-requires-clause-few c =
    let t = links_there c.args.params.now c.args.page.now c.args.node.list_at.off _ c.in_ok-head.ensures.told c.in_ok-head.ensures.spelled in
    omega (arith, t.2.count.0, ap (λ (h : LinksHead). h.count) t.4)
