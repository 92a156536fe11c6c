use Rattle.std.proofs.Common.{◌≡◌, ◌∙◌, ◌∷◌, [], length, refl, sym, ap, subst, arith}
use Rattle.neighbour_pick.specs.declared.found.Found.{Found}
use Rattle.neighbour_pick.specs.Order.{candidate_of}
use Rattle.graph_search.specs.Insert.{entrant_to}
use Rattle.vec_steps.specs.Desks.{Desk}
use Rattle.vec_steps.proofs.Following.{goes_nowhere, goes_then}
use Rattle.layer_search.specs.Linking.{OverLink, StoppedBy, TriedSo, TriesOne, target_of}
use Rattle.layer_search.proofs.Looks.{fails}
use Rattle.layer_search.proofs.Linked.{over_made, stopped_then}
use Rattle.layer_search.proofs.TriesMade.{tries_ended, tries_more, tries_none, tries_spent}
use Rattle.layer_search.proofs.linking.try_thrice.Goals as goal

pub tries-init : goal.tries-init
tries-init g c = record {
  goes = goes_nowhere g.met.S.Steps.comes_itself c.args.steps.now (λ base o. o.stood);
  told = c.requires.told;
  entrant = refl;
  may = λ base o. o;
  so_far = tries_none (g.S.Steps.seen c.args.steps.now) c.args.trace.now.reads (target_of c.args.back c.args.room.now.entrant.bits) c.args.element.now c.args.back.layer;
}

pub try_link-requires-clause-m : goal.try_link-requires-clause-m
try_link-requires-clause-m g c = c.requires.m ∙ ap (λ (d : Desk). d.params.m) (sym c.tries.invariant.goes.stays)

pub try_link-requires-clause-told : goal.try_link-requires-clause-told
try_link-requires-clause-told g c = c.tries.invariant.told ∙ ap (λ (d : Desk). d.params.bits) (sym c.tries.invariant.goes.stays)

pub try_link-requires-clause-bits : goal.try_link-requires-clause-bits
try_link-requires-clause-bits g c =
    ap (λ (e : Found). length e.bits) c.tries.invariant.entrant ∙ c.requires.bits ∙ ap (λ (d : Desk). d.params.bits) (sym c.tries.invariant.goes.stays)

pub try_link-requires-clause-long : goal.try_link-requires-clause-long
try_link-requires-clause-long g c = c.requires.long ∙ ap (λ (d : Desk). d.params.bits) (sym c.tries.invariant.goes.stays)

pub try_link-requires-clause-entrant : goal.try_link-requires-clause-entrant
try_link-requires-clause-entrant g c =
    ap candidate_of c.tries.invariant.entrant ∙ c.requires.entrant
    ∙ ap (λ (f : Found). entrant_to (target_of c.args.back f.bits) c.args.element.now) (sym c.tries.invariant.entrant)

pub returns-in_err-tried-clause-goes : goal.returns-in_err-tried-clause-goes
returns-in_err-tried-clause-goes g c = goes_then g.met.S.Steps.comes_on c.tries.invariant.may c.tries.invariant.goes c.in_err-tried.ensures.goes

pub returns-in_err-tried-clause-told : goal.returns-in_err-tried-clause-told
returns-in_err-tried-clause-told g c = c.in_err-tried.ensures.told ∙ ap (λ (d : Desk). d.params.bits) c.tries.invariant.goes.stays

pub returns-in_err-tried-clause-entrant : goal.returns-in_err-tried-clause-entrant
returns-in_err-tried-clause-entrant g c = c.in_err-tried.ensures.entrant ∙ c.tries.invariant.entrant

pub returns-in_err-tried-clause-err : goal.returns-in_err-tried-clause-err
returns-in_err-tried-clause-err g c =
    let s = c.args.steps.now in
    let so = c.tries.invariant in
    let over = OverLink (g.S.Steps.stands s) (g.S.Steps.desk s) (g.S.Steps.seen s) c.args.back.at c.args.back.layer c.args.element.now in
    fails c.from_residual.result
    (λ e is. subst (StoppedBy c.args.back.at over (g.S.Steps.desk s) (g.S.Steps.seen s) (g.S.Steps.seen c.try_link.new.steps)) (sym is)
    (stopped_then so.goes.stays so.may so.so_far.made c.in_err-tried.ensures.err)) c.from_residual.ensures.1

-- the try, with the entrant as it was at first
pub returns-in_default-clause-goes : goal.returns-in_default-clause-goes
returns-in_default-clause-goes g c = goes_then g.met.S.Steps.comes_on c.tries.invariant.may c.tries.invariant.goes c.in_ok-tried.ensures.goes

pub returns-in_default-clause-told : goal.returns-in_default-clause-told
returns-in_default-clause-told g c = c.in_ok-tried.ensures.told ∙ ap (λ (d : Desk). d.params.bits) c.tries.invariant.goes.stays

pub returns-in_default-clause-entrant : goal.returns-in_default-clause-entrant
returns-in_default-clause-entrant g c = c.in_ok-tried.ensures.entrant ∙ c.tries.invariant.entrant

pub returns-in_default-clause-ok : goal.returns-in_default-clause-ok
returns-in_default-clause-ok g c =
    let s = c.args.steps.now in
    let mid = c.tries.steps in
    let new = c.try_link.new.steps in
    let so = c.tries.invariant in
    let e = c.args.element.now in
    let layer = c.args.back.layer in
    let t = target_of c.args.back c.args.room.now.entrant.bits in
    subst (TriesOne (OverLink (g.S.Steps.stands s) (g.S.Steps.desk s) (g.S.Steps.seen s) c.args.back.at layer e) (g.S.Steps.desk s) (g.S.Steps.seen s)
    (g.S.Steps.seen new) c.args.trace.now.reads c.try_link.new.trace.reads t e layer 3) (sym c.links_of.ensures)
    (tries_ended t e layer c.tries.left so.goes.stays so.may c.tries-test.true so.so_far c.in_ok-tried.tried
    (subst (λ (f : Found). TriedSo (OverLink (g.S.Steps.stands mid) (g.S.Steps.desk mid) (g.S.Steps.seen mid) c.args.back.at layer e) (g.S.Steps.desk mid)
    (g.S.Steps.seen mid) (g.S.Steps.seen new) c.tries.trace.reads c.try_link.new.trace.reads (target_of c.args.back f.bits) e layer c.in_ok-tried.tried)
    so.entrant c.in_ok-tried.ensures.ok) c.in_default.not-Again)

pub tries-preserved : goal.tries-preserved
tries-preserved g c =
    let s = c.args.steps.now in
    let mid = c.tries.steps in
    let new = c.try_link.new.steps in
    let so = c.tries.invariant in
    let now = c.in_ok-tried.ensures in
    let e = c.args.element.now in
    let layer = c.args.back.layer in
    let at = c.args.back.at in
    let t = target_of c.args.back c.args.room.now.entrant.bits in
    record {
      goes = goes_then g.met.S.Steps.comes_on so.may so.goes now.goes;
      told = now.told ∙ ap (λ (d : Desk). d.params.bits) so.goes.stays;
      entrant = now.entrant ∙ so.entrant;
      may = λ base o.
          let before = so.may base o in
          let st = now.goes.still_stands base before in
          over_made at ((layer, e) ∷ []) base now.goes.stays now.ok.made (g.met.S.Steps.shaped new base st) (g.met.S.Steps.legal new base st) st before;
      so_far = tries_more t e layer c.tries.left so.goes.stays so.may c.tries-test.true so.so_far c.in_ok-tried.tried
          (subst (λ (f : Found). TriedSo (OverLink (g.S.Steps.stands mid) (g.S.Steps.desk mid) (g.S.Steps.seen mid) at layer e) (g.S.Steps.desk mid)
          (g.S.Steps.seen mid) (g.S.Steps.seen new) c.tries.trace.reads c.try_link.new.trace.reads (target_of c.args.back f.bits) e layer c.in_ok-tried.tried)
          so.entrant now.ok) c.in-Again.is;
    }

pub returns-clause-ok : goal.returns-clause-ok
returns-clause-ok g c =
    let none : c.tries.left ≡ 0 = omega (arith, c.tries-test.false) in
    tries_spent (target_of c.args.back c.args.room.now.entrant.bits) c.args.element.now c.args.back.layer c.tries.left none c.tries.invariant.so_far
