use Rattle.std.proofs.Common.{◌≡◌, ◌∙◌, ◌<◌, ◌≤◌, Bool, List, length, refl, sym, ap, subst, arith}
use Rattle.std.proofs.lemmas.List.{drop_all}
use Rattle.vec_steps.specs.Desks.{Desk}
use Rattle.vec_steps.specs.declared.fault.OpFault.TheVariants as op
use Rattle.vec_steps.proofs.Following.{goes_nowhere, goes_then}
use Rattle.layer_search.specs.Linking.{OverLink, OverLinks, StoppedBy, TriesOne, target_of}
use Rattle.layer_search.proofs.Looks.{fails}
use Rattle.layer_search.proofs.Linked.{at_of, links_then, one_link, over_made, stopped_memory, stopped_then}
use Rattle.layer_search.proofs.TriesMade.{all_ended, all_more, all_none}
use Rattle.layer_search.proofs.linking.link_all.Goals as goal

pub loop-k-init : goal.loop-k-init
loop-k-init g c = record {
  goes = goes_nowhere g.met.S.Steps.comes_itself c.args.steps.now (λ base o. o.stood);
  told = c.requires.told;
  at = c.requires.at;
  bits = refl;
  may = λ base o. o;
  so_far = all_none (g.S.Steps.seen c.args.steps.now) c.args.trace.now.reads (target_of c.args.back c.args.room.now.entrant.bits) c.args.picks.now;
}

pub link_one-requires-clause-m : goal.link_one-requires-clause-m
link_one-requires-clause-m g c = c.requires.m ∙ ap (λ (d : Desk). d.params.m) (sym c.loop-k.invariant.goes.stays)

pub link_one-requires-clause-told : goal.link_one-requires-clause-told
link_one-requires-clause-told g c = c.loop-k.invariant.told ∙ ap (λ (d : Desk). d.params.bits) (sym c.loop-k.invariant.goes.stays)

pub link_one-requires-clause-bits : goal.link_one-requires-clause-bits
link_one-requires-clause-bits g c =
    ap (λ (l : List Bool). length l) c.loop-k.invariant.bits ∙ c.requires.bits ∙ ap (λ (d : Desk). d.params.bits) (sym c.loop-k.invariant.goes.stays)

pub link_one-requires-clause-long : goal.link_one-requires-clause-long
link_one-requires-clause-long g c =
    let n = (g.S.Steps.desk c.args.steps.now).params.bits in
    at_of (λ p. length p.1.bits ≡ n) c.args.picks.now c.loop-k.k c.index-picks-k.result (omega (arith, c.loop-k-test.true)) c.index-picks-k.is
    c.requires.long ∙ ap (λ (d : Desk). d.params.bits) (sym c.loop-k.invariant.goes.stays)

pub returns-in_err-one-clause-goes : goal.returns-in_err-one-clause-goes
returns-in_err-one-clause-goes g c =
    let so = c.loop-k.invariant in
    goes_then g.met.S.Steps.comes_on
    (λ base o. one_link c.args.back.at c.args.picks.now c.loop-k.k c.index-picks-k.result.0 c.index-picks-k.result.1 base
    (omega (arith, c.loop-k-test.true)) c.index-picks-k.is (so.may base o)) so.goes c.in_err-one.ensures.goes

pub returns-in_err-one-clause-err : goal.returns-in_err-one-clause-err
returns-in_err-one-clause-err g c =
    let s = c.args.steps.now in
    let so = c.loop-k.invariant in
    let over = OverLinks (g.S.Steps.stands s) (g.S.Steps.desk s) (g.S.Steps.seen s) c.args.back.at c.args.picks.now in
    fails c.from_residual.result
    (λ e is. subst (StoppedBy c.args.back.at over (g.S.Steps.desk s) (g.S.Steps.seen s) (g.S.Steps.seen c.link_one.new.steps)) (sym is)
    (stopped_then so.goes.stays
    (λ base o. one_link c.args.back.at c.args.picks.now c.loop-k.k c.index-picks-k.result.0 c.index-picks-k.result.1 base
    (omega (arith, c.loop-k-test.true)) c.index-picks-k.is (so.may base o)) so.so_far.made c.in_err-one.ensures.err))
    c.from_residual.ensures.1

pub returns-in_default-clause-goes : goal.returns-in_default-clause-goes
returns-in_default-clause-goes g c =
    let so = c.loop-k.invariant in
    goes_then g.met.S.Steps.comes_on
    (λ base o. one_link c.args.back.at c.args.picks.now c.loop-k.k c.index-picks-k.result.0 c.index-picks-k.result.1 base
    (omega (arith, c.loop-k-test.true)) c.index-picks-k.is (so.may base o)) so.goes c.in_ok-one.ensures.goes

pub returns-in_default-clause-err : goal.returns-in_default-clause-err
returns-in_default-clause-err g c =
    let so = c.loop-k.invariant in
    stopped_memory op.Memory refl
    (links_then so.goes.stays
    (λ base o. one_link c.args.back.at c.args.picks.now c.loop-k.k c.index-picks-k.result.0 c.index-picks-k.result.1 base
    (omega (arith, c.loop-k-test.true)) c.index-picks-k.is (so.may base o)) so.so_far.made c.in_ok-one.ensures.ok.made)

pub loop-k-preserved : goal.loop-k-preserved
loop-k-preserved g c =
    let mid = c.loop-k.steps in
    let new = c.link_one.new.steps in
    let so = c.loop-k.invariant in
    let now = c.in_ok-one.ensures in
    let pick = c.index-picks-k.result in
    let at = c.args.back.at in
    let within : c.loop-k.k < length c.args.picks.now = omega (arith, c.loop-k-test.true) in
    record {
      goes = goes_then g.met.S.Steps.comes_on
          (λ base o. one_link at c.args.picks.now c.loop-k.k pick.0 pick.1 base within c.index-picks-k.is (so.may base o)) so.goes now.goes;
      told = now.told ∙ ap (λ (d : Desk). d.params.bits) so.goes.stays;
      at = now.at ∙ so.at;
      bits = now.bits ∙ so.bits;
      may = λ base o.
          let before = so.may base o in
          let st = now.goes.still_stands base (one_link at c.args.picks.now c.loop-k.k pick.0 pick.1 base within c.index-picks-k.is before) in
          over_made at c.args.picks.now base now.goes.stays now.ok.made (g.met.S.Steps.shaped new base st) (g.met.S.Steps.legal new base st) st before;
      so_far = all_more (target_of c.args.back c.args.room.now.entrant.bits) c.args.picks.now c.loop-k.k pick.0 c.loop-k.count c.in_ok-one.one c.in-Some.sum pick.1
          so.goes.stays (λ base o. one_link at c.args.picks.now c.loop-k.k pick.0 pick.1 base within c.index-picks-k.is (so.may base o)) within c.index-picks-k.is
          c.in-Some.ensures.1 so.so_far
          (subst (λ (b : List Bool). TriesOne (OverLink (g.S.Steps.stands mid) (g.S.Steps.desk mid) (g.S.Steps.seen mid) at pick.0 pick.1) (g.S.Steps.desk mid)
          (g.S.Steps.seen mid) (g.S.Steps.seen new) c.loop-k.trace.reads c.link_one.new.trace.reads (target_of c.args.back b) pick.1 pick.0 3 c.in_ok-one.one)
          so.bits now.ok);
    }

pub returns-clause-ok : goal.returns-clause-ok
returns-clause-ok g c =
    let past : length c.args.picks.now ≤ c.loop-k.k = omega (arith, c.loop-k-test.false) in
    all_ended (target_of c.args.back c.args.room.now.entrant.bits) c.args.picks.now c.loop-k.k c.loop-k.count (drop_all c.loop-k.k c.args.picks.now past)
    c.loop-k.invariant.so_far
