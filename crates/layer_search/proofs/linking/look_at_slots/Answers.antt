use Rattle.std.proofs.Common.{◌≡◌, ◌<◌, [], List, Option, length, get_or, refl, sym, ap, subst, ◌∙◌, arith}
use Rattle.vec_names.specs.declared.tid.Tid.{Tid}
use Rattle.neighbour_pick.specs.declared.found.SlotSeen.{SlotSeen}
use Rattle.vec_steps.proofs.Following.{goes_nowhere, goes_then}
use Rattle.layer_search.specs.Telling.{OverSpots}
use Rattle.layer_search.specs.Looking.{EndedBy}
use Rattle.layer_search.specs.Linking.{LooksSlots}
use Rattle.layer_search.proofs.Looks.{ended_then, fails}
use Rattle.layer_search.proofs.SlotsSeen.{slots_none, slots_then}
use Rattle.layer_search.proofs.Turns.{none_over}
use Rattle.layer_search.proofs.linking.look_at_slots.Goals as goal

pub loop-k-init : goal.loop-k-init
loop-k-init g c =
    let over = OverSpots (g.S.Steps.stands c.args.steps.now) (g.S.Steps.seen c.args.steps.now) c.args.back.layer [] in
    record {
      goes = goes_nowhere g.met.S.Steps.comes_itself c.args.steps.now (λ base o. o.stood);
      told = c.requires.told;
      tids = refl;
      entrant = refl;
      looked = subst (λ (l : List SlotSeen). LooksSlots over (g.S.Steps.desk c.args.steps.now) (g.S.Steps.seen c.args.steps.now) (g.S.Steps.seen c.args.steps.now)
          c.args.trace.now.reads c.args.trace.now.reads c.args.back.ops c.args.owner.now c.args.back.layer [] l) (sym c.requires.none)
          (slots_none (g.S.Steps.seen c.args.steps.now) c.args.trace.now.reads c.args.back.ops c.args.owner.now c.args.back.layer);
    }

pub returns-in_err-look_at_slot-clause-err : goal.returns-in_err-look_at_slot-clause-err
returns-in_err-look_at_slot-clause-err g c =
    let so = c.loop-k.invariant in
    let over = OverSpots (g.S.Steps.stands c.args.steps.now) (g.S.Steps.seen c.args.steps.now) c.args.back.layer [] in
    fails c.from_residual.result
    (λ e is. subst (EndedBy over (g.S.Steps.desk c.args.steps.now) (g.S.Steps.seen c.args.steps.now) (g.S.Steps.seen c.look_at_slot.new.steps)) (sym is)
    (ended_then so.goes.stays (none_over so.goes.still_stands) so.looked.made c.in_err-look_at_slot.ensures.err)) c.from_residual.ensures.1

pub loop-k-preserved : goal.loop-k-preserved
loop-k-preserved g c =
    let so = c.loop-k.invariant in
    let now = c.in_ok-look_at_slot.ensures in
    let tids : List (Option Tid) = c.args.room.now.tids in
    let places : c.as_slice.result.now ≡ tids = c.as_slice.ensures ∙ so.tids in
    let within : c.loop-k.k < length tids = omega (arith, c.loop-k-test.true, c.len-k-end.ensures) in
    record {
      goes = goes_then g.met.S.Steps.comes_on (none_over so.goes.still_stands) so.goes now.goes;
      told = now.told ∙ ap (λ d. d.params.bits) so.goes.stays;
      tids = now.tids ∙ so.tids;
      entrant = now.entrant ∙ so.entrant;
      looked = slots_then c.args.back.ops c.args.owner.now c.args.back.layer tids c.loop-k.k c.index-as_slice-k.result so.goes.stays
          (none_over so.goes.still_stands) within
          (c.index-as_slice-k.is ∙ ap (λ (l : List (Option Tid)). get_or l c.loop-k.k c.index-as_slice-k.result) places) so.looked now.ok;
    }
