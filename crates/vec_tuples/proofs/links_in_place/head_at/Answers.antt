use Rattle.std.proofs.Common.{eqb, refl}
use Rattle.vec_tuples.specs.Spelling.{links_with}
use Rattle.vec_tuples.specs.Reading.{links}
use Rattle.vec_tuples.proofs.links_in_place.head_at.Goals as goal

pub returns : goal.returns
unfolding links
returns c =
    let slots = c.in_ok-rest.ensures in (
      links_with (eqb c.in_ok-kind.kind 3) c.in_ok-version.version slots.0,
      rw (c.in_ok-kind.ensures.reads, c.in_ok-version.ensures.reads, c.in_ok-count.ensures, slots.1) refl,
      rw (← slots.2) refl,
    )
