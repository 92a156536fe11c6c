use Rattle.std.proofs.Common.{List, ℕ, ap}
use Rattle.search_sets.specs.declared.key.Key.{Key}
use Rattle.search_sets.specs.declared.frontier.Frontier.{Frontier}
use Rattle.search_sets.proofs.HeldSo.{nothing_held}
use Rattle.search_sets.proofs.frontier.Frontier.clear.Goals as goal

pub returns-clause-nothing : goal.returns-clause-nothing
returns-clause-nothing c =
    let f : Frontier = record { known = c.clear.new.self; named = c.clear-2.new.self; ahead = c.clear-3.new.self; found = c.clear-4.new.self; earlier = 0 } in
    nothing_held f c.clear.ensures c.clear-2.ensures c.clear-3.ensures (ap (λ (n : ℕ × List Key). n.1) c.clear-4.ensures)
