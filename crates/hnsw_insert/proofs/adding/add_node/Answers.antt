use Rattle.std.proofs.Common.{◌∙◌, [], None, ap, sym, subst}
use Rattle.vec_steps.specs.Index.{Index}
use Rattle.vec_steps.specs.Telling.{node_of}
use Rattle.layer_search.specs.Listing.{lists_of, newcomer_in}
use Rattle.hnsw_insert.specs.Over.{MayFinish, OverGraphs}
use Rattle.hnsw_insert.specs.Parts.{FinishesSo}
use Rattle.vec_names.specs.Params.{IsInRange}
use Rattle.vec_steps.specs.declared.ask.NewNode.{NewNode}
use Rattle.vec_steps.specs.Desks.{Desk}
use Rattle.vec_steps.proofs.Following.{does_nothing, goes_over, goes_then}
use Rattle.layer_search.specs.Listing.{ArePicksLong}
use Rattle.layer_search.proofs.Looks.{fails}
use Rattle.hnsw_insert.proofs.Made.{did_over, did_then}
use Rattle.hnsw_insert.proofs.Stopped.{handed, never_full, stops_memory, stops_then}
use Rattle.hnsw_insert.proofs.Under.{full_as, full_then, place_on, puts_node, still_held}
use Rattle.hnsw_insert.proofs.AddedNode.{Adding, after_put, after_quiet, places_over, plain}
use Rattle.hnsw_insert.proofs.adding.add_node.Goals as goal

pub returns-in_err-node-clause-err : goal.returns-in_err-node-clause-err
returns-in_err-node-clause-err g c =
    fails c.from_residual.result (λ e is. stops_memory e (is ∙ c.in_err-node.ensures.memory) (does_nothing (g.S.Steps.seen c.args.steps.now)) tt) c.from_residual.ensures.1

pub returns-in_err-reserve-clause-goes : goal.returns-in_err-reserve-clause-goes
returns-in_err-reserve-clause-goes g c =
    goes_over plain c.in_err-reserve.ensures.goes

pub returns-in_err-reserve-clause-err : goal.returns-in_err-reserve-clause-err
returns-in_err-reserve-clause-err g c =
    handed _ c.from_residual-in_err-reserve.result (never_full plain c.in_err-reserve.ensures.err) c.from_residual-in_err-reserve.ensures.1

pub put_node-requires : goal.put_node-requires
put_node-requires g c =
    record { told = c.in_ok-reserve.ensures.told ∙ ap (λ (d : Desk). d.params.bits) (sym c.in_ok-reserve.ensures.goes.stays) }

pub returns-in_err-place-clause-goes : goal.returns-in_err-place-clause-goes
returns-in_err-place-clause-goes g c =
    let s1 = c.reserve.new.steps in
    let r = c.in_ok-reserve.ensures in
    let on_1 = after_quiet c.args.blocks.hint c.args.blocks.count c.args.coming.level c.args.bits.now c.args.found.now.lists c.args.found.now.picks r.goes.stays (g.met.S.Steps.shaped s1) (g.met.S.Steps.legal s1) r.goes.still_stands (r.ok c.args.trace.now.reads) in
    goes_then g.met.S.Steps.comes_on (λ base o. place_on c.args.blocks.hint c.args.blocks.count c.in_ok-node.node c.args.coming.level c.args.coming.id c.args.bits.now c.args.found.now.lists c.args.found.now.picks c.in_ok-node.ensures.node base (on_1 base o)) (goes_over plain r.goes) c.in_err-place.ensures.goes

pub returns-in_err-place-clause-told : goal.returns-in_err-place-clause-told
returns-in_err-place-clause-told g c =
    c.in_err-place.ensures.told ∙ ap (λ (d : Desk). d.params.bits) c.in_ok-reserve.ensures.goes.stays

pub returns-in_err-place-clause-err : goal.returns-in_err-place-clause-err
returns-in_err-place-clause-err g c =
    let s1 = c.reserve.new.steps in
    let r = c.in_ok-reserve.ensures in
    let on_1 = after_quiet c.args.blocks.hint c.args.blocks.count c.args.coming.level c.args.bits.now c.args.found.now.lists c.args.found.now.picks r.goes.stays (g.met.S.Steps.shaped s1) (g.met.S.Steps.legal s1) r.goes.still_stands (r.ok c.args.trace.now.reads) in
    let m = did_over plain (r.ok []) in
    handed _ c.from_residual-in_err-place.result
    (stops_then r.goes.stays (λ base o. place_on c.args.blocks.hint c.args.blocks.count c.in_ok-node.node c.args.coming.level c.args.coming.id c.args.bits.now c.args.found.now.lists c.args.found.now.picks c.in_ok-node.ensures.node base (on_1 base o)) (λ b k n full. full_then m.course b k n (full_as c.in_ok-node.node.level c.args.coming.level (ap (λ (x : NewNode). x.level) c.in_ok-node.ensures.node) full)) m.does m.is.only c.in_err-place.ensures.err)
    c.from_residual-in_err-place.ensures.1

pub finish-requires-clause-params : goal.finish-requires-clause-params
finish-requires-clause-params g c =
    let r = c.in_ok-reserve.ensures in
    let p = c.in_ok-place.ensures in
    subst (λ (d : Desk). IsInRange d.params) (sym (p.goes.stays ∙ r.goes.stays)) c.requires.params

pub finish-requires-clause-nodes : goal.finish-requires-clause-nodes
finish-requires-clause-nodes g c =
    let r = c.in_ok-reserve.ensures in
    let p = c.in_ok-place.ensures in
    ap (λ (d : Desk). d.params.kind) (p.goes.stays ∙ r.goes.stays) ∙ c.requires.nodes

pub finish-requires-clause-bits : goal.finish-requires-clause-bits
finish-requires-clause-bits g c =
    let r = c.in_ok-reserve.ensures in
    let p = c.in_ok-place.ensures in
    c.requires.bits ∙ ap (λ (d : Desk). d.params.bits) (sym (p.goes.stays ∙ r.goes.stays))

pub finish-requires-clause-told : goal.finish-requires-clause-told
finish-requires-clause-told g c =
    let r = c.in_ok-reserve.ensures in
    let p = c.in_ok-place.ensures in
    p.told ∙ ap (λ (d : Desk). d.params.bits) (sym p.goes.stays)

pub finish-requires-clause-long : goal.finish-requires-clause-long
finish-requires-clause-long g c =
    let r = c.in_ok-reserve.ensures in
    let p = c.in_ok-place.ensures in
    subst (λ (d : Desk). ArePicksLong d.params.bits c.args.found.now.picks) (sym (p.goes.stays ∙ r.goes.stays)) c.requires.long

pub finish-requires-clause-held : goal.finish-requires-clause-held
finish-requires-clause-held g c =
    let r = c.in_ok-reserve.ensures in
    let p = c.in_ok-place.ensures in
    still_held p.goes.stays (p.ok.made []) (still_held r.goes.stays (r.ok []) c.requires.held)

pub returns-in_err-finish-clause-goes : goal.returns-in_err-finish-clause-goes
returns-in_err-finish-clause-goes g c =
    let s1 = c.reserve.new.steps in
    let r = c.in_ok-reserve.ensures in
    let on_1 = after_quiet c.args.blocks.hint c.args.blocks.count c.args.coming.level c.args.bits.now c.args.found.now.lists c.args.found.now.picks r.goes.stays (g.met.S.Steps.shaped s1) (g.met.S.Steps.legal s1) r.goes.still_stands (r.ok c.args.trace.now.reads) in
    let held_1 = still_held r.goes.stays (r.ok []) c.requires.held in
    let s2 = c.put_node.new.steps in
    let p = c.in_ok-place.ensures in
    let on_2 = after_put c.args.blocks.hint c.args.blocks.count c.args.coming.level c.args.bits.now c.args.found.now.lists c.args.found.now.picks p.goes.stays (g.met.S.Steps.shaped s2) (g.met.S.Steps.legal s2) c.in_ok-node.node c.args.coming.id c.in_ok-node.ensures.node held_1 p.goes.still_stands p.ok in
    goes_then g.met.S.Steps.comes_on (λ base o. on_2 base (on_1 base o)) (goes_then g.met.S.Steps.comes_on (λ base o. place_on c.args.blocks.hint c.args.blocks.count c.in_ok-node.node c.args.coming.level c.args.coming.id c.args.bits.now c.args.found.now.lists c.args.found.now.picks c.in_ok-node.ensures.node base (on_1 base o)) (goes_over plain r.goes) p.goes) c.in_err-finish.ensures.goes

pub returns-in_err-finish-clause-told : goal.returns-in_err-finish-clause-told
returns-in_err-finish-clause-told g c =
    let r = c.in_ok-reserve.ensures in
    let p = c.in_ok-place.ensures in
    c.in_err-finish.ensures.told ∙ ap (λ (d : Desk). d.params.bits) (p.goes.stays ∙ r.goes.stays)

pub returns-in_err-finish-clause-err : goal.returns-in_err-finish-clause-err
returns-in_err-finish-clause-err g c =
    let s1 = c.reserve.new.steps in
    let r = c.in_ok-reserve.ensures in
    let on_1 = after_quiet c.args.blocks.hint c.args.blocks.count c.args.coming.level c.args.bits.now c.args.found.now.lists c.args.found.now.picks r.goes.stays (g.met.S.Steps.shaped s1) (g.met.S.Steps.legal s1) r.goes.still_stands (r.ok c.args.trace.now.reads) in
    let held_1 = still_held r.goes.stays (r.ok []) c.requires.held in
    let s2 = c.put_node.new.steps in
    let p = c.in_ok-place.ensures in
    let on_2 = after_put c.args.blocks.hint c.args.blocks.count c.args.coming.level c.args.bits.now c.args.found.now.lists c.args.found.now.picks p.goes.stays (g.met.S.Steps.shaped s2) (g.met.S.Steps.legal s2) c.in_ok-node.node c.args.coming.id c.in_ok-node.ensures.node held_1 p.goes.still_stands p.ok in
    let m = did_then r.goes.stays (λ base o. place_on c.args.blocks.hint c.args.blocks.count c.in_ok-node.node c.args.coming.level c.args.coming.id c.args.bits.now c.args.found.now.lists c.args.found.now.picks c.in_ok-node.ensures.node base (on_1 base o)) (did_over plain (r.ok [])) (p.ok.made []) in
    handed _ c.from_residual-in_err-finish.result
    (stops_then (p.goes.stays ∙ r.goes.stays) (λ base o. on_2 base (on_1 base o)) (λ b k n never. absurd never) m.does m.is.only c.in_err-finish.ensures.err)
    c.from_residual-in_err-finish.ensures.1

pub returns-clause-goes : goal.returns-clause-goes
returns-clause-goes g c =
    let s1 = c.reserve.new.steps in
    let r = c.in_ok-reserve.ensures in
    let on_1 = after_quiet c.args.blocks.hint c.args.blocks.count c.args.coming.level c.args.bits.now c.args.found.now.lists c.args.found.now.picks r.goes.stays (g.met.S.Steps.shaped s1) (g.met.S.Steps.legal s1) r.goes.still_stands (r.ok c.args.trace.now.reads) in
    let held_1 = still_held r.goes.stays (r.ok []) c.requires.held in
    let s2 = c.put_node.new.steps in
    let p = c.in_ok-place.ensures in
    let on_2 = after_put c.args.blocks.hint c.args.blocks.count c.args.coming.level c.args.bits.now c.args.found.now.lists c.args.found.now.picks p.goes.stays (g.met.S.Steps.shaped s2) (g.met.S.Steps.legal s2) c.in_ok-node.node c.args.coming.id c.in_ok-node.ensures.node held_1 p.goes.still_stands p.ok in
    goes_then g.met.S.Steps.comes_on (λ base o. on_2 base (on_1 base o)) (goes_then g.met.S.Steps.comes_on (λ base o. place_on c.args.blocks.hint c.args.blocks.count c.in_ok-node.node c.args.coming.level c.args.coming.id c.args.bits.now c.args.found.now.lists c.args.found.now.picks c.in_ok-node.ensures.node base (on_1 base o)) (goes_over plain r.goes) p.goes) c.in_ok-finish.ensures.goes

pub returns-clause-told : goal.returns-clause-told
returns-clause-told g c =
    let r = c.in_ok-reserve.ensures in
    let p = c.in_ok-place.ensures in
    c.in_ok-finish.ensures.told ∙ ap (λ (d : Desk). d.params.bits) (p.goes.stays ∙ r.goes.stays)

pub returns-clause-ok : goal.returns-clause-ok
returns-clause-ok g c =
    let s1 = c.reserve.new.steps in
    let r = c.in_ok-reserve.ensures in
    let on_1 = after_quiet c.args.blocks.hint c.args.blocks.count c.args.coming.level c.args.bits.now c.args.found.now.lists c.args.found.now.picks r.goes.stays (g.met.S.Steps.shaped s1) (g.met.S.Steps.legal s1) r.goes.still_stands (r.ok c.args.trace.now.reads) in
    let held_1 = still_held r.goes.stays (r.ok []) c.requires.held in
    let s2 = c.put_node.new.steps in
    let p = c.in_ok-place.ensures in
    let on_2 = after_put c.args.blocks.hint c.args.blocks.count c.args.coming.level c.args.bits.now c.args.found.now.lists c.args.found.now.picks p.goes.stays (g.met.S.Steps.shaped s2) (g.met.S.Steps.legal s2) c.in_ok-node.node c.args.coming.id c.in_ok-node.ensures.node held_1 p.goes.still_stands p.ok in
    let place_1 = λ (base : Index) (o : Adding (g.S.Steps.stands s1) (g.S.Steps.seen s1) (g.S.Steps.desk s1).number c.args.blocks.hint c.args.blocks.count c.args.coming.level c.args.bits.now c.args.found.now.lists c.args.found.now.picks base).
    place_on c.args.blocks.hint c.args.blocks.count c.in_ok-node.node c.args.coming.level c.args.coming.id c.args.bits.now c.args.found.now.lists c.args.found.now.picks c.in_ok-node.ensures.node base o in
    let d = g.S.Steps.desk c.args.steps.now in
    puts_node (newcomer_in d.params c.args.bits.now c.args.coming.level None) c.args.coming.id c.args.found.now.top (lists_of c.args.found.now) (node_of c.in_ok-node.node)
    (ap node_of c.in_ok-node.ensures.node) r.goes.stays p.goes.stays on_1 on_2 (λ trace. did_over plain (r.ok trace)) (places_over place_1 p.ok)
    (subst (λ (k : Desk). FinishesSo (OverGraphs (g.S.Steps.stands s2) (λ x. MayFinish x (g.S.Steps.seen s2) (g.S.Steps.desk s2).number c.args.coming.level c.in_ok-place.place
    c.args.found.now.picks)) (g.S.Steps.desk s2) (g.S.Steps.seen s2) (g.S.Steps.seen c.finish.new.steps) c.args.trace.now.reads c.finish.new.trace.reads
    (record { ops = k.params.ops; at = c.in_ok-place.place.at; bits = c.args.bits.now }) c.args.found.now.picks c.args.found.now.top c.args.coming.level c.args.blocks.hint)
    (p.goes.stays ∙ r.goes.stays) c.in_ok-finish.ensures.ok)
