use Rattle.std.proofs.Common.{◌≡◌, map, take}
use Rattle.search_sets.proofs.HeldSo.{flagged}
use Rattle.search_sets.proofs.frontier.Frontier.batch.Given as goal

abbrev pub invariant-loop-key : goal.invariant-loop-key
invariant-loop-key l = l.batch ≡ map (flagged l.self.earlier l.self.known) (take l.key-index l.key-items)
