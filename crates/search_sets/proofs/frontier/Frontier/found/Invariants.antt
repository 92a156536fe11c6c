use Rattle.std.proofs.Common.{◌≡◌, map, take}
use Rattle.search_sets.specs.Standing.{element_in}
use Rattle.search_sets.proofs.frontier.Frontier.found.Given as goal

abbrev pub invariant-loop-key : goal.invariant-loop-key
invariant-loop-key l = l.found ≡ map (element_in l.self.known) (take l.key-index l.key-items)
