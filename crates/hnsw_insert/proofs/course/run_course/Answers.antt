use Rattle.std.proofs.Common.{◌∙◌, [], None, ap, refl, sym, subst}
use Rattle.vec_names.specs.Params.{IsInRange}
use Rattle.vec_steps.specs.Desks.{Desk}
use Rattle.vec_steps.proofs.Following.{goes_over, goes_then}
use Rattle.layer_search.specs.Waiting.{AreLong}
use Rattle.layer_search.specs.Listing.{ArePicksLong, lists_of, newcomer_in}
use Rattle.layer_search.proofs.Looks.{ended_over}
use Rattle.hnsw_insert.specs.Parts.{AddsNode}
use Rattle.hnsw_insert.proofs.Made.{did_looks, did_over, did_then}
use Rattle.hnsw_insert.proofs.Stopped.{handed, looks_stop, stops_then}
use Rattle.hnsw_insert.proofs.Lasts.{spots_on}
use Rattle.hnsw_insert.proofs.Under.{asks_over, course_adds, course_joins, finds_over, full_then, lists_found, still_held}
use Rattle.hnsw_insert.proofs.AddedNode.{Adding, after_quiet, plain}
use Rattle.hnsw_insert.proofs.course.run_course.Goals as goal

pub returns-in_err-found-clause-goes : goal.returns-in_err-found-clause-goes
returns-in_err-found-clause-goes g c =
    goes_over spots_on c.in_err-found.ensures.goes

pub returns-in_err-found-clause-err : goal.returns-in_err-found-clause-err
returns-in_err-found-clause-err g c =
    handed _ c.from_residual.result (looks_stop (ended_over spots_on c.in_err-found.ensures.err)) c.from_residual.ensures.1

pub join_first-requires-clause-told : goal.join_first-requires-clause-told
join_first-requires-clause-told g c =
    c.requires.told ∙ ap (λ (d : Desk). d.params.bits) (sym c.in_ok-found.ensures.goes.stays)

pub join_first-requires-clause-held : goal.join_first-requires-clause-held
join_first-requires-clause-held g c =
    let f = c.in_ok-found.ensures in
    still_held f.goes.stays (did_looks f.ok.made) c.requires.held

pub join_first-requires-clause-bits : goal.join_first-requires-clause-bits
join_first-requires-clause-bits g c =
    c.requires.bits ∙ ap (λ (d : Desk). d.params.bits) (sym c.in_ok-found.ensures.goes.stays)

pub join_first-requires-clause-long : goal.join_first-requires-clause-long
join_first-requires-clause-long g c =
    let f = c.in_ok-found.ensures in
    subst (AreLong (g.S.Steps.desk c.find_lists.new.steps).params.bits) (sym c.as_slice.ensures)
    (subst (λ (d : Desk). AreLong d.params.bits c.in_ok-found.found.near) (sym f.goes.stays) f.near_long)

pub returns-in_err-joined-clause-goes : goal.returns-in_err-joined-clause-goes
returns-in_err-joined-clause-goes g c =
    let s0 = c.args.steps.now in
    let d0 = g.S.Steps.desk s0 in
    let s1 = c.find_lists.new.steps in
    let f = c.in_ok-found.ensures in
    let m1 = did_looks f.ok.made in
    let n = newcomer_in d0.params c.args.bits.now c.args.coming.level None in
    let held_1 = still_held f.goes.stays m1 c.requires.held in
    let on_1 = lists_found n c.args.blocks.hint c.args.blocks.count (lists_of c.in_ok-found.found) f.goes.stays (g.met.S.Steps.shaped s1) (g.met.S.Steps.legal s1) (g.met.S.Steps.index s0) f.goes.still_stands f.ok held_1
    c.requires.bits c.requires.level f.many f.there (λ x o. f.members x o c.requires.held) in
    goes_then g.met.S.Steps.comes_on (λ base o. plain base (on_1 base o)) (goes_over spots_on f.goes) c.in_err-joined.ensures.goes

pub returns-in_err-joined-clause-told : goal.returns-in_err-joined-clause-told
returns-in_err-joined-clause-told g c =
    c.in_err-joined.ensures.told ∙ ap (λ (d : Desk). d.params.bits) c.in_ok-found.ensures.goes.stays

pub returns-in_err-joined-clause-err : goal.returns-in_err-joined-clause-err
returns-in_err-joined-clause-err g c =
    let s0 = c.args.steps.now in
    let d0 = g.S.Steps.desk s0 in
    let s1 = c.find_lists.new.steps in
    let f = c.in_ok-found.ensures in
    let m1 = did_looks f.ok.made in
    let n = newcomer_in d0.params c.args.bits.now c.args.coming.level None in
    let held_1 = still_held f.goes.stays m1 c.requires.held in
    let on_1 = lists_found n c.args.blocks.hint c.args.blocks.count (lists_of c.in_ok-found.found) f.goes.stays (g.met.S.Steps.shaped s1) (g.met.S.Steps.legal s1) (g.met.S.Steps.index s0) f.goes.still_stands f.ok held_1
    c.requires.bits c.requires.level f.many f.there (λ x o. f.members x o c.requires.held) in
    let m = did_over spots_on m1 in
    handed _ c.from_residual-in_err-joined.result
    (stops_then f.goes.stays (λ base o. plain base (on_1 base o)) (λ b k i never. absurd never) m.does m.is.only c.in_err-joined.ensures.err)
    c.from_residual-in_err-joined.ensures.1

pub returns-in-Some-clause-goes : goal.returns-in-Some-clause-goes
returns-in-Some-clause-goes g c =
    let s0 = c.args.steps.now in
    let d0 = g.S.Steps.desk s0 in
    let s1 = c.find_lists.new.steps in
    let f = c.in_ok-found.ensures in
    let m1 = did_looks f.ok.made in
    let n = newcomer_in d0.params c.args.bits.now c.args.coming.level None in
    let held_1 = still_held f.goes.stays m1 c.requires.held in
    let on_1 = lists_found n c.args.blocks.hint c.args.blocks.count (lists_of c.in_ok-found.found) f.goes.stays (g.met.S.Steps.shaped s1) (g.met.S.Steps.legal s1) (g.met.S.Steps.index s0) f.goes.still_stands f.ok held_1
    c.requires.bits c.requires.level f.many f.there (λ x o. f.members x o c.requires.held) in
    goes_then g.met.S.Steps.comes_on (λ base o. plain base (on_1 base o)) (goes_over spots_on f.goes) c.in_ok-joined.ensures.goes

pub returns-in-Some-clause-told : goal.returns-in-Some-clause-told
returns-in-Some-clause-told g c =
    c.in_ok-joined.ensures.told ∙ ap (λ (d : Desk). d.params.bits) c.in_ok-found.ensures.goes.stays

pub returns-in-Some-clause-ok : goal.returns-in-Some-clause-ok
returns-in-Some-clause-ok g c =
    let s0 = c.args.steps.now in
    let d0 = g.S.Steps.desk s0 in
    let s1 = c.find_lists.new.steps in
    let f = c.in_ok-found.ensures in
    let m1 = did_looks f.ok.made in
    let n = newcomer_in d0.params c.args.bits.now c.args.coming.level None in
    let held_1 = still_held f.goes.stays m1 c.requires.held in
    let on_1 = lists_found n c.args.blocks.hint c.args.blocks.count (lists_of c.in_ok-found.found) f.goes.stays (g.met.S.Steps.shaped s1) (g.met.S.Steps.legal s1) (g.met.S.Steps.index s0) f.goes.still_stands f.ok held_1
    c.requires.bits c.requires.level f.many f.there (λ x o. f.members x o c.requires.held) in
    let s2 = c.join_first.new.steps in
    let j = c.in_ok-joined.ensures in
    let on_2 = after_quiet c.args.blocks.hint c.args.blocks.count c.args.coming.level c.args.bits.now c.in_ok-found.found.lists c.in_ok-found.found.picks j.goes.stays (g.met.S.Steps.shaped s2) (g.met.S.Steps.legal s2) j.goes.still_stands (j.ok.made []) in
    course_joins n c.args.coming.id c.args.blocks.hint c.args.blocks.count (lists_of c.in_ok-found.found) c.as_slice.result.now c.in-Some.spot _ f.goes.stays (λ base o. plain base (on_1 base o)) c.as_slice.ensures refl
    (finds_over spots_on f.ok) c.in_ok-joined.joined c.in-Some.is j.ok

pub add_node-requires-clause-params : goal.add_node-requires-clause-params
add_node-requires-clause-params g c =
    let s0 = c.args.steps.now in
    let d0 = g.S.Steps.desk s0 in
    let s1 = c.find_lists.new.steps in
    let f = c.in_ok-found.ensures in
    let m1 = did_looks f.ok.made in
    let n = newcomer_in d0.params c.args.bits.now c.args.coming.level None in
    let held_1 = still_held f.goes.stays m1 c.requires.held in
    let on_1 = lists_found n c.args.blocks.hint c.args.blocks.count (lists_of c.in_ok-found.found) f.goes.stays (g.met.S.Steps.shaped s1) (g.met.S.Steps.legal s1) (g.met.S.Steps.index s0) f.goes.still_stands f.ok held_1
    c.requires.bits c.requires.level f.many f.there (λ x o. f.members x o c.requires.held) in
    let s2 = c.join_first.new.steps in
    let j = c.in_ok-joined.ensures in
    let on_2 = after_quiet c.args.blocks.hint c.args.blocks.count c.args.coming.level c.args.bits.now c.in_ok-found.found.lists c.in_ok-found.found.picks j.goes.stays (g.met.S.Steps.shaped s2) (g.met.S.Steps.legal s2) j.goes.still_stands (j.ok.made []) in
    subst (λ (d : Desk). IsInRange d.params) (sym (j.goes.stays ∙ f.goes.stays)) c.requires.params

pub add_node-requires-clause-nodes : goal.add_node-requires-clause-nodes
add_node-requires-clause-nodes g c =
    let s0 = c.args.steps.now in
    let d0 = g.S.Steps.desk s0 in
    let s1 = c.find_lists.new.steps in
    let f = c.in_ok-found.ensures in
    let m1 = did_looks f.ok.made in
    let n = newcomer_in d0.params c.args.bits.now c.args.coming.level None in
    let held_1 = still_held f.goes.stays m1 c.requires.held in
    let on_1 = lists_found n c.args.blocks.hint c.args.blocks.count (lists_of c.in_ok-found.found) f.goes.stays (g.met.S.Steps.shaped s1) (g.met.S.Steps.legal s1) (g.met.S.Steps.index s0) f.goes.still_stands f.ok held_1
    c.requires.bits c.requires.level f.many f.there (λ x o. f.members x o c.requires.held) in
    let s2 = c.join_first.new.steps in
    let j = c.in_ok-joined.ensures in
    let on_2 = after_quiet c.args.blocks.hint c.args.blocks.count c.args.coming.level c.args.bits.now c.in_ok-found.found.lists c.in_ok-found.found.picks j.goes.stays (g.met.S.Steps.shaped s2) (g.met.S.Steps.legal s2) j.goes.still_stands (j.ok.made []) in
    ap (λ (d : Desk). d.params.kind) (j.goes.stays ∙ f.goes.stays) ∙ c.requires.nodes

pub add_node-requires-clause-bits : goal.add_node-requires-clause-bits
add_node-requires-clause-bits g c =
    let s0 = c.args.steps.now in
    let d0 = g.S.Steps.desk s0 in
    let s1 = c.find_lists.new.steps in
    let f = c.in_ok-found.ensures in
    let m1 = did_looks f.ok.made in
    let n = newcomer_in d0.params c.args.bits.now c.args.coming.level None in
    let held_1 = still_held f.goes.stays m1 c.requires.held in
    let on_1 = lists_found n c.args.blocks.hint c.args.blocks.count (lists_of c.in_ok-found.found) f.goes.stays (g.met.S.Steps.shaped s1) (g.met.S.Steps.legal s1) (g.met.S.Steps.index s0) f.goes.still_stands f.ok held_1
    c.requires.bits c.requires.level f.many f.there (λ x o. f.members x o c.requires.held) in
    let s2 = c.join_first.new.steps in
    let j = c.in_ok-joined.ensures in
    let on_2 = after_quiet c.args.blocks.hint c.args.blocks.count c.args.coming.level c.args.bits.now c.in_ok-found.found.lists c.in_ok-found.found.picks j.goes.stays (g.met.S.Steps.shaped s2) (g.met.S.Steps.legal s2) j.goes.still_stands (j.ok.made []) in
    c.requires.bits ∙ ap (λ (d : Desk). d.params.bits) (sym (j.goes.stays ∙ f.goes.stays))

pub add_node-requires-clause-told : goal.add_node-requires-clause-told
add_node-requires-clause-told g c =
    let s0 = c.args.steps.now in
    let d0 = g.S.Steps.desk s0 in
    let s1 = c.find_lists.new.steps in
    let f = c.in_ok-found.ensures in
    let m1 = did_looks f.ok.made in
    let n = newcomer_in d0.params c.args.bits.now c.args.coming.level None in
    let held_1 = still_held f.goes.stays m1 c.requires.held in
    let on_1 = lists_found n c.args.blocks.hint c.args.blocks.count (lists_of c.in_ok-found.found) f.goes.stays (g.met.S.Steps.shaped s1) (g.met.S.Steps.legal s1) (g.met.S.Steps.index s0) f.goes.still_stands f.ok held_1
    c.requires.bits c.requires.level f.many f.there (λ x o. f.members x o c.requires.held) in
    let s2 = c.join_first.new.steps in
    let j = c.in_ok-joined.ensures in
    let on_2 = after_quiet c.args.blocks.hint c.args.blocks.count c.args.coming.level c.args.bits.now c.in_ok-found.found.lists c.in_ok-found.found.picks j.goes.stays (g.met.S.Steps.shaped s2) (g.met.S.Steps.legal s2) j.goes.still_stands (j.ok.made []) in
    j.told ∙ ap (λ (d : Desk). d.params.bits) (sym j.goes.stays)

pub add_node-requires-clause-long : goal.add_node-requires-clause-long
add_node-requires-clause-long g c =
    let s0 = c.args.steps.now in
    let d0 = g.S.Steps.desk s0 in
    let s1 = c.find_lists.new.steps in
    let f = c.in_ok-found.ensures in
    let m1 = did_looks f.ok.made in
    let n = newcomer_in d0.params c.args.bits.now c.args.coming.level None in
    let held_1 = still_held f.goes.stays m1 c.requires.held in
    let on_1 = lists_found n c.args.blocks.hint c.args.blocks.count (lists_of c.in_ok-found.found) f.goes.stays (g.met.S.Steps.shaped s1) (g.met.S.Steps.legal s1) (g.met.S.Steps.index s0) f.goes.still_stands f.ok held_1
    c.requires.bits c.requires.level f.many f.there (λ x o. f.members x o c.requires.held) in
    let s2 = c.join_first.new.steps in
    let j = c.in_ok-joined.ensures in
    let on_2 = after_quiet c.args.blocks.hint c.args.blocks.count c.args.coming.level c.args.bits.now c.in_ok-found.found.lists c.in_ok-found.found.picks j.goes.stays (g.met.S.Steps.shaped s2) (g.met.S.Steps.legal s2) j.goes.still_stands (j.ok.made []) in
    subst (λ (d : Desk). ArePicksLong d.params.bits c.in_ok-found.found.picks) (sym (j.goes.stays ∙ f.goes.stays)) f.picks_long

pub add_node-requires-clause-held : goal.add_node-requires-clause-held
add_node-requires-clause-held g c =
    let s0 = c.args.steps.now in
    let d0 = g.S.Steps.desk s0 in
    let s1 = c.find_lists.new.steps in
    let f = c.in_ok-found.ensures in
    let m1 = did_looks f.ok.made in
    let n = newcomer_in d0.params c.args.bits.now c.args.coming.level None in
    let held_1 = still_held f.goes.stays m1 c.requires.held in
    let on_1 = lists_found n c.args.blocks.hint c.args.blocks.count (lists_of c.in_ok-found.found) f.goes.stays (g.met.S.Steps.shaped s1) (g.met.S.Steps.legal s1) (g.met.S.Steps.index s0) f.goes.still_stands f.ok held_1
    c.requires.bits c.requires.level f.many f.there (λ x o. f.members x o c.requires.held) in
    let s2 = c.join_first.new.steps in
    let j = c.in_ok-joined.ensures in
    let on_2 = after_quiet c.args.blocks.hint c.args.blocks.count c.args.coming.level c.args.bits.now c.in_ok-found.found.lists c.in_ok-found.found.picks j.goes.stays (g.met.S.Steps.shaped s2) (g.met.S.Steps.legal s2) j.goes.still_stands (j.ok.made []) in
    still_held j.goes.stays (j.ok.made []) held_1

pub returns-in_err-place-clause-goes : goal.returns-in_err-place-clause-goes
returns-in_err-place-clause-goes g c =
    let s0 = c.args.steps.now in
    let d0 = g.S.Steps.desk s0 in
    let s1 = c.find_lists.new.steps in
    let f = c.in_ok-found.ensures in
    let m1 = did_looks f.ok.made in
    let n = newcomer_in d0.params c.args.bits.now c.args.coming.level None in
    let held_1 = still_held f.goes.stays m1 c.requires.held in
    let on_1 = lists_found n c.args.blocks.hint c.args.blocks.count (lists_of c.in_ok-found.found) f.goes.stays (g.met.S.Steps.shaped s1) (g.met.S.Steps.legal s1) (g.met.S.Steps.index s0) f.goes.still_stands f.ok held_1
    c.requires.bits c.requires.level f.many f.there (λ x o. f.members x o c.requires.held) in
    let s2 = c.join_first.new.steps in
    let j = c.in_ok-joined.ensures in
    let on_2 = after_quiet c.args.blocks.hint c.args.blocks.count c.args.coming.level c.args.bits.now c.in_ok-found.found.lists c.in_ok-found.found.picks j.goes.stays (g.met.S.Steps.shaped s2) (g.met.S.Steps.legal s2) j.goes.still_stands (j.ok.made []) in
    goes_then g.met.S.Steps.comes_on (λ base o. on_2 base (on_1 base o)) (goes_then g.met.S.Steps.comes_on (λ base o. plain base (on_1 base o)) (goes_over spots_on f.goes) j.goes) c.in_err-place.ensures.goes

pub returns-in_err-place-clause-told : goal.returns-in_err-place-clause-told
returns-in_err-place-clause-told g c =
    let s0 = c.args.steps.now in
    let d0 = g.S.Steps.desk s0 in
    let s1 = c.find_lists.new.steps in
    let f = c.in_ok-found.ensures in
    let m1 = did_looks f.ok.made in
    let n = newcomer_in d0.params c.args.bits.now c.args.coming.level None in
    let held_1 = still_held f.goes.stays m1 c.requires.held in
    let on_1 = lists_found n c.args.blocks.hint c.args.blocks.count (lists_of c.in_ok-found.found) f.goes.stays (g.met.S.Steps.shaped s1) (g.met.S.Steps.legal s1) (g.met.S.Steps.index s0) f.goes.still_stands f.ok held_1
    c.requires.bits c.requires.level f.many f.there (λ x o. f.members x o c.requires.held) in
    let s2 = c.join_first.new.steps in
    let j = c.in_ok-joined.ensures in
    let on_2 = after_quiet c.args.blocks.hint c.args.blocks.count c.args.coming.level c.args.bits.now c.in_ok-found.found.lists c.in_ok-found.found.picks j.goes.stays (g.met.S.Steps.shaped s2) (g.met.S.Steps.legal s2) j.goes.still_stands (j.ok.made []) in
    c.in_err-place.ensures.told ∙ ap (λ (d : Desk). d.params.bits) (j.goes.stays ∙ f.goes.stays)

pub returns-in_err-place-clause-err : goal.returns-in_err-place-clause-err
returns-in_err-place-clause-err g c =
    let s0 = c.args.steps.now in
    let d0 = g.S.Steps.desk s0 in
    let s1 = c.find_lists.new.steps in
    let f = c.in_ok-found.ensures in
    let m1 = did_looks f.ok.made in
    let n = newcomer_in d0.params c.args.bits.now c.args.coming.level None in
    let held_1 = still_held f.goes.stays m1 c.requires.held in
    let on_1 = lists_found n c.args.blocks.hint c.args.blocks.count (lists_of c.in_ok-found.found) f.goes.stays (g.met.S.Steps.shaped s1) (g.met.S.Steps.legal s1) (g.met.S.Steps.index s0) f.goes.still_stands f.ok held_1
    c.requires.bits c.requires.level f.many f.there (λ x o. f.members x o c.requires.held) in
    let s2 = c.join_first.new.steps in
    let j = c.in_ok-joined.ensures in
    let on_2 = after_quiet c.args.blocks.hint c.args.blocks.count c.args.coming.level c.args.bits.now c.in_ok-found.found.lists c.in_ok-found.found.picks j.goes.stays (g.met.S.Steps.shaped s2) (g.met.S.Steps.legal s2) j.goes.still_stands (j.ok.made []) in
    let m = did_then f.goes.stays (λ base o. plain base (on_1 base o)) (did_over spots_on m1) (j.ok.made c.find_lists.new.trace.reads) in
    handed _ c.from_residual-in_err-place.result
    (stops_then (j.goes.stays ∙ f.goes.stays) (λ base o. on_2 base (on_1 base o)) (λ b k i full. full_then m.course b k i full) m.does m.is.only c.in_err-place.ensures.err)
    c.from_residual-in_err-place.ensures.1

pub returns-clause-goes : goal.returns-clause-goes
returns-clause-goes g c =
    let s0 = c.args.steps.now in
    let d0 = g.S.Steps.desk s0 in
    let s1 = c.find_lists.new.steps in
    let f = c.in_ok-found.ensures in
    let m1 = did_looks f.ok.made in
    let n = newcomer_in d0.params c.args.bits.now c.args.coming.level None in
    let held_1 = still_held f.goes.stays m1 c.requires.held in
    let on_1 = lists_found n c.args.blocks.hint c.args.blocks.count (lists_of c.in_ok-found.found) f.goes.stays (g.met.S.Steps.shaped s1) (g.met.S.Steps.legal s1) (g.met.S.Steps.index s0) f.goes.still_stands f.ok held_1
    c.requires.bits c.requires.level f.many f.there (λ x o. f.members x o c.requires.held) in
    let s2 = c.join_first.new.steps in
    let j = c.in_ok-joined.ensures in
    let on_2 = after_quiet c.args.blocks.hint c.args.blocks.count c.args.coming.level c.args.bits.now c.in_ok-found.found.lists c.in_ok-found.found.picks j.goes.stays (g.met.S.Steps.shaped s2) (g.met.S.Steps.legal s2) j.goes.still_stands (j.ok.made []) in
    goes_then g.met.S.Steps.comes_on (λ base o. on_2 base (on_1 base o)) (goes_then g.met.S.Steps.comes_on (λ base o. plain base (on_1 base o)) (goes_over spots_on f.goes) j.goes) c.in_ok-place.ensures.goes

pub returns-clause-told : goal.returns-clause-told
returns-clause-told g c =
    let s0 = c.args.steps.now in
    let d0 = g.S.Steps.desk s0 in
    let s1 = c.find_lists.new.steps in
    let f = c.in_ok-found.ensures in
    let m1 = did_looks f.ok.made in
    let n = newcomer_in d0.params c.args.bits.now c.args.coming.level None in
    let held_1 = still_held f.goes.stays m1 c.requires.held in
    let on_1 = lists_found n c.args.blocks.hint c.args.blocks.count (lists_of c.in_ok-found.found) f.goes.stays (g.met.S.Steps.shaped s1) (g.met.S.Steps.legal s1) (g.met.S.Steps.index s0) f.goes.still_stands f.ok held_1
    c.requires.bits c.requires.level f.many f.there (λ x o. f.members x o c.requires.held) in
    let s2 = c.join_first.new.steps in
    let j = c.in_ok-joined.ensures in
    let on_2 = after_quiet c.args.blocks.hint c.args.blocks.count c.args.coming.level c.args.bits.now c.in_ok-found.found.lists c.in_ok-found.found.picks j.goes.stays (g.met.S.Steps.shaped s2) (g.met.S.Steps.legal s2) j.goes.still_stands (j.ok.made []) in
    c.in_ok-place.ensures.told ∙ ap (λ (d : Desk). d.params.bits) (j.goes.stays ∙ f.goes.stays)

pub returns-clause-ok : goal.returns-clause-ok
returns-clause-ok g c =
    let s0 = c.args.steps.now in
    let d0 = g.S.Steps.desk s0 in
    let s1 = c.find_lists.new.steps in
    let f = c.in_ok-found.ensures in
    let m1 = did_looks f.ok.made in
    let n = newcomer_in d0.params c.args.bits.now c.args.coming.level None in
    let held_1 = still_held f.goes.stays m1 c.requires.held in
    let on_1 = lists_found n c.args.blocks.hint c.args.blocks.count (lists_of c.in_ok-found.found) f.goes.stays (g.met.S.Steps.shaped s1) (g.met.S.Steps.legal s1) (g.met.S.Steps.index s0) f.goes.still_stands f.ok held_1
    c.requires.bits c.requires.level f.many f.there (λ x o. f.members x o c.requires.held) in
    let s2 = c.join_first.new.steps in
    let j = c.in_ok-joined.ensures in
    let on_2 = after_quiet c.args.blocks.hint c.args.blocks.count c.args.coming.level c.args.bits.now c.in_ok-found.found.lists c.in_ok-found.found.picks j.goes.stays (g.met.S.Steps.shaped s2) (g.met.S.Steps.legal s2) j.goes.still_stands (j.ok.made []) in
    course_adds n c.args.coming.id c.args.blocks.hint c.args.blocks.count (lists_of c.in_ok-found.found) c.as_slice.result.now _ f.goes.stays j.goes.stays on_1 on_2 c.as_slice.ensures refl
    (finds_over spots_on f.ok) c.in_ok-joined.joined c.in_default.is (asks_over plain j.ok)
    (subst (λ (k : Desk). AddsNode (Adding (g.S.Steps.stands s2) (g.S.Steps.seen s2) (g.S.Steps.desk s2).number c.args.blocks.hint c.args.blocks.count c.args.coming.level c.args.bits.now
    c.in_ok-found.found.lists c.in_ok-found.found.picks) (g.S.Steps.desk s2) (g.S.Steps.seen s2) (g.S.Steps.seen c.add_node.new.steps)
    c.find_lists.new.trace.reads c.add_node.new.trace.reads (newcomer_in k.params c.args.bits.now c.args.coming.level None) c.args.coming.id c.args.blocks.hint c.args.blocks.count c.in_ok-found.found.top
    (lists_of c.in_ok-found.found) c.in_ok-place.place) (j.goes.stays ∙ f.goes.stays) c.in_ok-place.ensures.ok)
