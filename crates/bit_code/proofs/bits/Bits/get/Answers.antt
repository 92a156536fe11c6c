use Rattle.std.proofs.Common.{◌∙◌}
use Rattle.bit_code.proofs.PackedPlaces.{slice_get-view}
use Rattle.bit_code.proofs.bits.Bits.get.Goals as goal

pub returns : goal.returns
returns c =
    slice_get-view c.self.inside.count c.self.inside.bytes.items c.args.self.now c.args.place c.index-byte.result.now c.self.view_is c.self.invariant c.requires c.index-byte.ensures
    ∙ c.is_one.ensures
