use Rattle.std.proofs.Common.{◌≡◌, ◌∙◌, ◌∷◌, [], List, Option, length, sym, ap, subst, arith}
use Rattle.vec_names.specs.declared.tid.Tid.{Tid}
use Rattle.neighbour_pick.specs.declared.found.Found.{Found}
use Rattle.neighbour_pick.specs.declared.found.SlotSeen.{SlotSeen}
use Rattle.neighbour_pick.specs.Order.{candidate_of}
use Rattle.neighbour_pick.specs.Slots.{slot_of}
use Rattle.vec_steps.specs.Desks.{Desk}
use Rattle.vec_steps.proofs.Following.{does_so_over, goes_over, goes_then}
use Rattle.layer_search.specs.Looking.{EndedBy}
use Rattle.layer_search.specs.Linking.{ChoosesSlot, OverLink, target_of}
use Rattle.layer_search.proofs.Looks.{ended_memory, ended_over, ended_then, fails}
use Rattle.layer_search.proofs.Linked.{at_spot, no_spot}
use Rattle.layer_search.proofs.SlotChosen.{list_gone, most_few, most_some, slot_chosen, slots_alike}
use Rattle.layer_search.proofs.linking.choose_slot.Goals as goal

pub returns-in_err-look_at_list-clause-goes : goal.returns-in_err-look_at_list-clause-goes
returns-in_err-look_at_list-clause-goes g c =
    goes_over (at_spot c.args.back.at c.args.back.layer c.args.element.now c.spot_at.result c.spot_at.ensures) c.in_err-look_at_list.ensures.goes

pub returns-in_err-look_at_list-clause-err : goal.returns-in_err-look_at_list-clause-err
returns-in_err-look_at_list-clause-err g c =
    let s = c.args.steps.now in
    let over = OverLink (g.S.Steps.stands s) (g.S.Steps.desk s) (g.S.Steps.seen s) c.args.back.at c.args.back.layer c.args.element.now in
    fails c.from_residual.result
    (λ e is. subst (EndedBy over (g.S.Steps.desk s) (g.S.Steps.seen s) (g.S.Steps.seen c.look_at_list.new.steps)) (sym is)
    (ended_over (at_spot c.args.back.at c.args.back.layer c.args.element.now c.spot_at.result c.spot_at.ensures) c.in_err-look_at_list.ensures.err))
    c.from_residual.ensures.1

pub returns-in_default-clause-goes : goal.returns-in_default-clause-goes
returns-in_default-clause-goes g c =
    goes_over (at_spot c.args.back.at c.args.back.layer c.args.element.now c.spot_at.result c.spot_at.ensures) c.in_ok-look_at_list.ensures.goes

pub returns-in_default-clause-ok : goal.returns-in_default-clause-ok
returns-in_default-clause-ok g c =
    let told = c.look_at_list.new.told in
    list_gone (target_of c.args.back c.args.room.now.entrant.bits) c.args.element.now c.args.back.layer c.args.back.m c.args.room.now.tids c.spot_at.result told.word told
    c.spot_at.ensures
    (does_so_over (at_spot c.args.back.at c.args.back.layer c.args.element.now c.spot_at.result c.spot_at.ensures) c.in_ok-look_at_list.ensures.ok)
    c.in_default.not-List

pub returns-in_err-take_slots-clause-goes : goal.returns-in_err-take_slots-clause-goes
returns-in_err-take_slots-clause-goes g c =
    goes_over (at_spot c.args.back.at c.args.back.layer c.args.element.now c.spot_at.result c.spot_at.ensures) c.in_ok-look_at_list.ensures.goes

pub returns-in_err-take_slots-clause-err : goal.returns-in_err-take_slots-clause-err
returns-in_err-take_slots-clause-err g c =
    fails c.from_residual-in_err-take_slots.result
    (λ e is. ended_memory e (is ∙ c.in_err-take_slots.ensures.memory)
    (does_so_over (at_spot c.args.back.at c.args.back.layer c.args.element.now c.spot_at.result c.spot_at.ensures) c.in_ok-look_at_list.ensures.ok))
    c.from_residual-in_err-take_slots.ensures.1

pub returns-in_err-look_at_slots-clause-goes : goal.returns-in_err-look_at_slots-clause-goes
returns-in_err-look_at_slots-clause-goes g c =
    let list = c.in_ok-look_at_list.ensures in
    let spot = c.spot_at.result in
    goes_then g.met.S.Steps.comes_on
    (λ base o. let over = at_spot c.args.back.at c.args.back.layer c.args.element.now spot c.spot_at.ensures base o in
    no_spot c.args.back.layer (spot ∷ []) base (list.goes.still_stands base over) over)
    (goes_over (at_spot c.args.back.at c.args.back.layer c.args.element.now spot c.spot_at.ensures) list.goes) c.in_err-look_at_slots.ensures.goes

pub returns-in_err-look_at_slots-clause-err : goal.returns-in_err-look_at_slots-clause-err
returns-in_err-look_at_slots-clause-err g c =
    let list = c.in_ok-look_at_list.ensures in
    let spot = c.spot_at.result in
    let s = c.args.steps.now in
    let over = OverLink (g.S.Steps.stands s) (g.S.Steps.desk s) (g.S.Steps.seen s) c.args.back.at c.args.back.layer c.args.element.now in
    fails c.from_residual-in_err-look_at_slots.result
    (λ e is. subst (EndedBy over (g.S.Steps.desk s) (g.S.Steps.seen s) (g.S.Steps.seen c.look_at_slots.new.steps)) (sym is)
    (ended_then list.goes.stays
    (λ base o. let over = at_spot c.args.back.at c.args.back.layer c.args.element.now spot c.spot_at.ensures base o in
    no_spot c.args.back.layer (spot ∷ []) base (list.goes.still_stands base over) over)
    (does_so_over (at_spot c.args.back.at c.args.back.layer c.args.element.now spot c.spot_at.ensures) list.ok) c.in_err-look_at_slots.ensures.err))
    c.from_residual-in_err-look_at_slots.ensures.1

pub slot_for-requires-clause-some : goal.slot_for-requires-clause-some
slot_for-requires-clause-some g c =
    omega (
      arith,
      ap (λ (l : List SlotSeen). length l) c.as_slice.ensures,
      c.in_ok-look_at_slots.ensures.ok.many,
      c.in_ok-take_slots.ensures.many,
      most_some c.args.back.m c.args.back.layer c.requires.some,
    )

pub slot_for-requires-clause-few : goal.slot_for-requires-clause-few
slot_for-requires-clause-few g c =
    omega (
      arith,
      ap (λ (l : List SlotSeen). length l) c.as_slice.ensures,
      c.in_ok-look_at_slots.ensures.ok.many,
      c.in_ok-take_slots.ensures.many,
      most_few c.args.back.m c.args.back.layer c.requires.few,
    )

pub slot_for-requires-clause-one_length : goal.slot_for-requires-clause-one_length
slot_for-requires-clause-one_length g c =
    let n = length c.args.element.now.bits in
    let k = length c.look_at_slots.new.room.entrant.bits in
    let same : n ≡ k =
    c.requires.long ∙ sym c.requires.bits
    ∙ sym (ap (λ (e : Found). length e.bits) (c.in_ok-look_at_slots.ensures.entrant ∙ c.in_ok-take_slots.ensures.entrant)) in
    slots_alike n k c.look_at_slots.new.room.seen c.as_slice.result.now c.as_slice.ensures same c.in_ok-look_at_slots.ensures.ok.long

pub returns-clause-goes : goal.returns-clause-goes
returns-clause-goes g c =
    let list = c.in_ok-look_at_list.ensures in
    let spot = c.spot_at.result in
    goes_then g.met.S.Steps.comes_on
    (λ base o. let over = at_spot c.args.back.at c.args.back.layer c.args.element.now spot c.spot_at.ensures base o in
    no_spot c.args.back.layer (spot ∷ []) base (list.goes.still_stands base over) over)
    (goes_over (at_spot c.args.back.at c.args.back.layer c.args.element.now spot c.spot_at.ensures) list.goes) c.in_ok-look_at_slots.ensures.goes

pub returns-clause-told : goal.returns-clause-told
returns-clause-told g c = c.in_ok-look_at_slots.ensures.told ∙ ap (λ (d : Desk). d.params.bits) c.in_ok-look_at_list.ensures.goes.stays

pub returns-clause-entrant : goal.returns-clause-entrant
returns-clause-entrant g c = c.in_ok-look_at_slots.ensures.entrant ∙ c.in_ok-take_slots.ensures.entrant

pub returns-clause-ok : goal.returns-clause-ok
returns-clause-ok g c =
    let list = c.in_ok-look_at_list.ensures in
    let spot = c.spot_at.result in
    let s = c.args.steps.now in
    let told = c.look_at_list.new.told in
    let t = target_of c.args.back c.args.room.now.entrant.bits in
    let seen = c.look_at_slots.new.room.seen in
    let over = OverLink (g.S.Steps.stands s) (g.S.Steps.desk s) (g.S.Steps.seen s) c.args.back.at c.args.back.layer c.args.element.now in
    subst (λ (l : List (Option Tid)). ChoosesSlot over (g.S.Steps.desk s) (g.S.Steps.seen s) (g.S.Steps.seen c.look_at_slots.new.steps) c.args.trace.now.reads
    c.look_at_slots.new.trace.reads t c.args.element.now c.args.back.layer c.args.back.m l c.slot_for.result) (sym c.in_ok-look_at_slots.ensures.tids)
    (slot_chosen t c.args.element.now c.args.back.layer c.args.back.m c.take_slots.new.room.tids spot told.word told c.spot_at.ensures
    (does_so_over (at_spot c.args.back.at c.args.back.layer c.args.element.now spot c.spot_at.ensures) list.ok) seen c.slot_for.result list.goes.stays
    (λ base o. let over = at_spot c.args.back.at c.args.back.layer c.args.element.now spot c.spot_at.ensures base o in
    no_spot c.args.back.layer (spot ∷ []) base (list.goes.still_stands base over) over)
    c.in-List.is c.in_ok-take_slots.ensures.tids c.in_ok-take_slots.ensures.many c.in_ok-look_at_slots.ensures.ok
    (c.slot_for.ensures
    ∙ ap (λ (l : List SlotSeen). slot_of c.args.back.ops l (candidate_of c.look_at_slots.new.room.entrant)) c.as_slice.ensures
    ∙ ap (slot_of c.args.back.ops seen) (ap candidate_of (c.in_ok-look_at_slots.ensures.entrant ∙ c.in_ok-take_slots.ensures.entrant) ∙ c.requires.entrant)))
