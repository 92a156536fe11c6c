use Rattle.std.proofs.Common.{length, sym, ap, subst, ◌∙◌, take}
use Rattle.bit_code.specs.Places.{Packed, unpacked}
use Rattle.vec_steps.proofs.Filling.{packed_of, unpacked_of}
use Rattle.page_sets.proofs.ElementTold.{value_long}
use Rattle.page_sets.proofs.nodes.refill_from.Goals as goal

pub refill-requires : goal.refill-requires
refill-requires c =
    let value = c.requires.0 in
    let some = value_long c.args.item.now value c.requires.1 in
    subst (Packed (length c.args.bits.now)) (sym (c.packed.ensures value c.requires.1))
    (packed_of (length c.args.bits.now) value c.requires.2 some.0 some.1)

pub returns : goal.returns
returns c = λ value has long.
    c.refill.ensures.value
    ∙ ap (λ bytes. take (length c.args.bits.now) (unpacked bytes)) (c.packed.ensures value has)
    ∙ unpacked_of (length c.args.bits.now) value long
