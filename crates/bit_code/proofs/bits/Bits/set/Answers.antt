use Rattle.bit_code.proofs.ChangedPlaces.{set_packed, set_view}
use Rattle.bit_code.proofs.bits.Bits.set.Goals as goal

pub invariant_of-self : goal.invariant_of-self
invariant_of-self c =
    set_packed c.self.inside.count c.args.place c.with_place.result c.index.result.now c.self.inside.bytes.items c.args.self.now c.args.one
    c.self.view_is c.self.invariant c.requires c.index.ensures c.with_place.ensures

pub returns : goal.returns
returns c =
    set_view c.self.inside.count c.args.place c.with_place.result c.index.result.now c.self.inside.bytes.items c.args.self.now c.args.one
    c.self.view_is c.self.invariant c.requires c.index.ensures c.with_place.ensures
