use Rattle.std.proofs.Common.{◌≡◌, ◌+◌, min, sym, ap, ◌∙◌, arith}
use Rattle.std.specs.Option.{option_map, option_copied}
use Rattle.graph_search.specs.Deeds.{join_reply}
use Rattle.vec_steps.specs.Doing.{clear_reply, drop_reply}
use Rattle.page_words.specs.Deciding.{head_node, page_add}
use Rattle.page_words.proofs.Decisions.{put_says, put_new_says, join_says, link_says, relist_says, drop_says, mark_says, add_says, extend_says, extend_made}
use Rattle.page_words.proofs.deciding.decide.Goals as goal

pub returns-in-Put-clause-nodes : goal.returns-in-Put-clause-nodes
returns-in-Put-clause-nodes g c = λ all graph few pages stands same count has kind may.
    put_says c.args.params.now (g.P.PageSet.held c.args.pages.now) all graph few pages stands same c.args.ask.now c.put_on.new.told has may
    c.in-Put.block c.in-Put.node (option_copied c.page.result) (option_copied c.page-in-Put.result) c.in-Put.is c.page.ensures
    (λ low. let next : min (c.in-Put.block + 1) 4294967295 ≡ c.in-Put.block + 1 = omega (arith, low, stands.blocks, few) in
    c.page-in-Put.ensures ∙ ap (g.P.PageSet.held c.args.pages.now) (c.saturating_add.ensures ∙ next))
    c.put_on.ensures.told

pub returns-in-PutNew-clause-nodes : goal.returns-in-PutNew-clause-nodes
returns-in-PutNew-clause-nodes g c = λ all graph few pages stands same count has kind may.
    let blocks : graph.blocks ≡ c.args.blocks = stands.blocks ∙ sym count in
    put_new_says c.args.params.now (g.P.PageSet.held c.args.pages.now) all graph few pages stands same c.args.ask.now c.put_new.new.told has may
    c.in-PutNew.node c.args.blocks c.in-PutNew.is (sym blocks) (c.put_new.ensures.counts graph same).0 (c.put_new.ensures.counts graph same).1
    (c.put_new.ensures.told graph same blocks)

pub returns-in-Join-clause-nodes : goal.returns-in-Join-clause-nodes
returns-in-Join-clause-nodes g c = λ all graph few pages stands same count has kind may.
    join_says c.args.params.now (g.P.PageSet.held c.args.pages.now) all graph few pages stands same c.args.ask.now c.join.new.told has may
    c.in-Join.at c.in-Join.version c.in-Join.id (option_copied c.page-in-Join.result) c.in-Join.is c.page-in-Join.ensures
    (c.join.ensures.told ∙ ap (λ o. join_reply (option_map head_node o) c.in-Join.version) c.head_on.ensures)

pub returns-in-Link-clause-nodes : goal.returns-in-Link-clause-nodes
returns-in-Link-clause-nodes g c = λ all graph few pages stands same count has kind may.
    link_says c.args.params.now (g.P.PageSet.held c.args.pages.now) all graph few pages stands same c.args.ask.now c.link.new.told has may
    c.in-Link.at c.in-Link.list_at c.in-Link.level c.in-Link.version c.in-Link.layer c.in-Link.slot c.in-Link.held c.in-Link.to
    (option_copied c.page-in-Link.result) c.in-Link.is c.page-in-Link.ensures c.link.ensures.told

pub returns-in-Relist-clause-nodes : goal.returns-in-Relist-clause-nodes
returns-in-Relist-clause-nodes g c = λ all graph few pages stands same count has kind may.
    relist_says c.args.params.now (g.P.PageSet.held c.args.pages.now) all graph few pages stands same c.args.ask.now c.relist.new.told has may
    c.in-Relist.at c.in-Relist.list_at c.in-Relist.version c.in-Relist.lists (option_copied c.page-in-Relist.result) c.in-Relist.is c.page-in-Relist.ensures
    c.relist.ensures.told

pub returns-in-Drop-clause-nodes : goal.returns-in-Drop-clause-nodes
returns-in-Drop-clause-nodes g c = λ all graph few pages stands same count has kind may.
    drop_says c.args.params.now (g.P.PageSet.held c.args.pages.now) all graph few pages stands same c.args.ask.now c.drop_rows.new.told has may
    c.in-Drop.at c.in-Drop.version c.in-Drop.gone (option_copied c.page-in-Drop.result) c.in-Drop.is c.page-in-Drop.ensures
    (c.drop_rows.ensures.told ∙ ap (λ o. drop_reply (option_map head_node o) c.in-Drop.version c.in-Drop.gone) c.head_on-in-Drop.ensures)

pub returns-in-Mark-clause-nodes : goal.returns-in-Mark-clause-nodes
returns-in-Mark-clause-nodes g c = λ all graph few pages stands same count has kind may.
    mark_says c.args.params.now (g.P.PageSet.held c.args.pages.now) all graph few pages stands same c.args.ask.now c.mark.new.told has may
    c.in-Mark.at c.in-Mark.list_at c.in-Mark.version (option_copied c.page-in-Mark.result) c.in-Mark.is c.page-in-Mark.ensures
    (c.mark.ensures.told ∙ ap (λ o. clear_reply (option_map head_node o) c.in-Mark.version) c.head_on-in-Mark.ensures)

pub returns-in-Add-clause-lists : goal.returns-in-Add-clause-lists
returns-in-Add-clause-lists g c = λ all graph pages stands count has kind may.
    add_says c.args.params.now (g.P.PageSet.held c.args.pages.now) all graph pages stands c.args.ask.now c.add.new.told has may
    c.in-Add.block c.in-Add.id c.in-Add.bits (option_copied c.page-in-Add.result) c.in-Add.is c.page-in-Add.ensures
    (c.add.ensures.told ∙ ap (page_add (option_copied c.page-in-Add.result)) c.count.ensures.count)

pub returns-in-Extend-clause-lists : goal.returns-in-Extend-clause-lists
returns-in-Extend-clause-lists g c = λ all graph pages stands count has kind may.
    extend_says c.args.params.now (g.P.PageSet.held c.args.pages.now) all graph pages stands c.args.ask.now c.extend.new.told has may
    c.in-Extend.list c.in-Extend.last c.in-Extend.id c.in-Extend.bits (option_copied c.page-in-Extend.result) c.args.blocks c.in-Extend.is c.page-in-Extend.ensures
    (count ∙ sym stands.blocks) c.extend.ensures.told

pub returns-in-Extend-clause-made_lists : goal.returns-in-Extend-clause-made_lists
returns-in-Extend-clause-made_lists g c = λ kind.
    extend_made c.args.params.now c.args.ask.now c.extend.new.told c.extend.result c.in-Extend.list c.in-Extend.last c.in-Extend.id c.in-Extend.bits
    c.in-Extend.is (c.extend.ensures.made c.in-Extend.list c.in-Extend.last c.in-Extend.id c.in-Extend.bits)
