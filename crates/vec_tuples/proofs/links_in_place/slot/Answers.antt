use Rattle.std.proofs.Common.{◌≡◌, Option, Some, None, sym, ◌∙◌}
use Rattle.vec_tuples.proofs.SlotPlaces.{slot_inside, slot_below, slot_six, slot_get}
use Rattle.vec_tuples.proofs.links_in_place.slot.Goals as goal

none_is_no_some : {A : Type 0} (o : Option A) (v : A) → o ≡ None → o ≡ Some v → ⊥
none_is_no_some o v none some = let e = sym none ∙ some in cc

pub six_at-requires : goal.six_at-requires
six_at-requires c = slot_inside c.args.bytes.now c.args.at c.requires

pub unreachable-requires : goal.unreachable-requires
unreachable-requires c =
    let has = c.requires in
    none_is_no_some c.read_option.result _ c.in-None.is
    (c.read_option.ensures.all _ (c.six_at.ensures ∙ slot_six c.args.bytes.now c.args.at has.links has.spelled has.below))

pub returns : goal.returns
returns c = λ l is.
    let below = slot_below c.args.bytes.now c.args.at l (slot_inside c.args.bytes.now c.args.at c.requires) is in
    slot_get c.args.at l below
    ∙ sym (c.read_option.ensures.all _ (c.six_at.ensures ∙ slot_six c.args.bytes.now c.args.at l is below)) ∙ c.in-Some.is
