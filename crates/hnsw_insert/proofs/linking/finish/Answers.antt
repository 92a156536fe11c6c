use Rattle.std.proofs.Common.{◌∙◌, refl}
use Rattle.vec_steps.proofs.Following.{goes_over, goes_then}
use Rattle.hnsw_insert.proofs.Made.{did_links, did_over, did_then}
use Rattle.hnsw_insert.proofs.Stopped.{handed, links_stop, never_full, stops_then}
use Rattle.hnsw_insert.proofs.NewNode.{links_on}
use Rattle.hnsw_insert.proofs.Under.{still_held}
use Rattle.hnsw_insert.proofs.Finish.{after_enter, after_links, as_new, finished}
use Rattle.hnsw_insert.proofs.linking.finish.Goals as goal

pub returns-in_err-link_back-clause-goes : goal.returns-in_err-link_back-clause-goes
returns-in_err-link_back-clause-goes g c =
    goes_over (links_on c.requires.held c.args.level c.args.place c.args.found.now.picks) c.in_err-link_back.ensures.goes

pub returns-in_err-link_back-clause-err : goal.returns-in_err-link_back-clause-err
returns-in_err-link_back-clause-err g c =
    handed _ c.from_residual.result (never_full (links_on c.requires.held c.args.level c.args.place c.args.found.now.picks) (links_stop c.in_err-link_back.ensures.err))
    c.from_residual.ensures.1

pub enter-requires-clause-held : goal.enter-requires-clause-held
enter-requires-clause-held g c = still_held c.in_ok-link_back.ensures.goes.stays (did_links c.in_ok-link_back.ensures.ok.made) c.requires.held

pub returns-in_err-enter-clause-goes : goal.returns-in_err-enter-clause-goes
returns-in_err-enter-clause-goes g c =
    let mid = c.link_back.new.steps in
    let l = c.in_ok-link_back.ensures in
    let links = links_on c.requires.held c.args.level c.args.place c.args.found.now.picks in
    let on = after_links c.args.level c.args.place c.args.found.now.picks l.goes.stays (g.met.S.Steps.shaped mid) (g.met.S.Steps.legal mid) c.requires.held l.goes.still_stands l.ok in
    goes_then g.met.S.Steps.comes_on (λ base o. as_new c.args.level c.args.place c.args.found.now.picks base (on base o)) (goes_over links l.goes) c.in_err-enter.ensures.goes

pub returns-in_err-enter-clause-err : goal.returns-in_err-enter-clause-err
returns-in_err-enter-clause-err g c =
    let mid = c.link_back.new.steps in
    let l = c.in_ok-link_back.ensures in
    let links = links_on c.requires.held c.args.level c.args.place c.args.found.now.picks in
    let on = after_links c.args.level c.args.place c.args.found.now.picks l.goes.stays (g.met.S.Steps.shaped mid) (g.met.S.Steps.legal mid) c.requires.held l.goes.still_stands l.ok in
    let m = did_over links (did_links l.ok.made) in
    handed _ c.from_residual-in_err-enter.result
    (stops_then l.goes.stays (λ base o. as_new c.args.level c.args.place c.args.found.now.picks base (on base o)) (λ b k n never. never) m.does m.is.only
    c.in_err-enter.ensures.err) c.from_residual-in_err-enter.ensures.1

pub move_hint-requires-clause-held : goal.move_hint-requires-clause-held
move_hint-requires-clause-held g c =
    let l = c.in_ok-link_back.ensures in
    still_held c.in_ok-enter.ensures.goes.stays (c.in_ok-enter.ensures.ok c.link_back.new.trace.reads) (still_held l.goes.stays (did_links l.ok.made) c.requires.held)

pub returns-in_err-move_hint-clause-goes : goal.returns-in_err-move_hint-clause-goes
returns-in_err-move_hint-clause-goes g c =
    let mid = c.link_back.new.steps in
    let amid = c.enter.new.steps in
    let l = c.in_ok-link_back.ensures in
    let n = c.in_ok-enter.ensures in
    let level = c.args.level in
    let place = c.args.place in
    let picks = c.args.found.now.picks in
    let links = links_on c.requires.held level place picks in
    let on = after_links level place picks l.goes.stays (g.met.S.Steps.shaped mid) (g.met.S.Steps.legal mid) c.requires.held l.goes.still_stands l.ok in
    let on_2 = after_enter level place picks n.goes.stays (g.met.S.Steps.shaped amid) (g.met.S.Steps.legal amid) n.goes.still_stands (n.ok c.link_back.new.trace.reads) in
    goes_then g.met.S.Steps.comes_on (λ base o. as_new level place picks base (on_2 base (on base o)))
    (goes_then g.met.S.Steps.comes_on (λ base o. as_new level place picks base (on base o)) (goes_over links l.goes) n.goes) c.in_err-move_hint.ensures.goes

pub returns-in_err-move_hint-clause-err : goal.returns-in_err-move_hint-clause-err
returns-in_err-move_hint-clause-err g c =
    let mid = c.link_back.new.steps in
    let amid = c.enter.new.steps in
    let l = c.in_ok-link_back.ensures in
    let n = c.in_ok-enter.ensures in
    let level = c.args.level in
    let place = c.args.place in
    let picks = c.args.found.now.picks in
    let trace = c.link_back.new.trace.reads in
    let on = after_links level place picks l.goes.stays (g.met.S.Steps.shaped mid) (g.met.S.Steps.legal mid) c.requires.held l.goes.still_stands l.ok in
    let on_2 = after_enter level place picks n.goes.stays (g.met.S.Steps.shaped amid) (g.met.S.Steps.legal amid) n.goes.still_stands (n.ok trace) in
    let m = did_then l.goes.stays on (did_over (links_on c.requires.held level place picks) (did_links l.ok.made)) (did_over (as_new level place picks) (n.ok trace)) in
    handed _ c.from_residual-in_err-move_hint.result
    (stops_then (n.goes.stays ∙ l.goes.stays) (λ base o. as_new level place picks base (on_2 base (on base o))) (λ b k j never. never) m.does m.is.only
    c.in_err-move_hint.ensures.err) c.from_residual-in_err-move_hint.ensures.1

pub returns-clause-goes : goal.returns-clause-goes
returns-clause-goes g c =
    let mid = c.link_back.new.steps in
    let amid = c.enter.new.steps in
    let l = c.in_ok-link_back.ensures in
    let n = c.in_ok-enter.ensures in
    let level = c.args.level in
    let place = c.args.place in
    let picks = c.args.found.now.picks in
    let links = links_on c.requires.held level place picks in
    let on = after_links level place picks l.goes.stays (g.met.S.Steps.shaped mid) (g.met.S.Steps.legal mid) c.requires.held l.goes.still_stands l.ok in
    let on_2 = after_enter level place picks n.goes.stays (g.met.S.Steps.shaped amid) (g.met.S.Steps.legal amid) n.goes.still_stands (n.ok c.link_back.new.trace.reads) in
    goes_then g.met.S.Steps.comes_on (λ base o. as_new level place picks base (on_2 base (on base o)))
    (goes_then g.met.S.Steps.comes_on (λ base o. as_new level place picks base (on base o)) (goes_over links l.goes) n.goes) c.in_ok-move_hint.ensures.goes

pub returns-clause-ok : goal.returns-clause-ok
returns-clause-ok g c =
    let mid = c.link_back.new.steps in
    let amid = c.enter.new.steps in
    let l = c.in_ok-link_back.ensures in
    let n = c.in_ok-enter.ensures in
    let level = c.args.level in
    let place = c.args.place in
    let picks = c.args.found.now.picks in
    let on = after_links level place picks l.goes.stays (g.met.S.Steps.shaped mid) (g.met.S.Steps.legal mid) c.requires.held l.goes.still_stands l.ok in
    let on_2 = after_enter level place picks n.goes.stays (g.met.S.Steps.shaped amid) (g.met.S.Steps.legal amid) n.goes.still_stands (n.ok c.link_back.new.trace.reads) in
    finished (record { ops = (g.S.Steps.desk c.args.steps.now).params.ops; at = place.at; bits = c.args.bits.now }) place refl level c.args.hint c.args.found.now.top picks
    l.goes.stays n.goes.stays c.requires.held on on_2 l.ok n.ok c.in_ok-move_hint.ensures.ok
