use Rattle.std.proofs.Common.{◌≤◌, length, arith}
use Rattle.vec_tuples.proofs.PackedAt.{value_stands, rest_behind}
use Rattle.vec_tuples.proofs.packed_places.packed.Goals as goal

pub places_at-requires : goal.places_at-requires
places_at-requires c = (value_stands c.args.bytes.now c.requires.0 c.requires.1).long

pub slice_bounds-result-count : goal.slice_bounds-result-count
slice_bounds-result-count c = omega (arith, c.places_at.ensures, (value_stands c.args.bytes.now c.requires.0 c.requires.1).inside)

pub slice_bounds-result-start : goal.slice_bounds-result-start
slice_bounds-result-start c =
    let inside : c.places_at.result ≤ length c.args.bytes.now = omega (arith, c.places_at.ensures, (value_stands c.args.bytes.now c.requires.0 c.requires.1).inside) in
    inside

pub returns : goal.returns
returns c = λ bits has. rest_behind c.args.bytes.now bits c.places_at.result has c.places_at.ensures
