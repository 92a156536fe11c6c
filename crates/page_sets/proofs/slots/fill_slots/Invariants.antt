use Rattle.std.proofs.Common.{◌≡◌, ◌-◌, take, drop}
use Rattle.vec_tuples.specs.declared.links.Links.{Links}
use Rattle.vec_tuples.specs.Spelling.{links_bytes}
use Rattle.page_sets.proofs.slots.fill_slots.Given as goal

abbrev pub invariant-slots : goal.invariant-slots
invariant-slots l = (k : Links) → l.item ≡ links_bytes k → l.slots ≡ take (l.at - l.from) (drop l.from k.tids)
