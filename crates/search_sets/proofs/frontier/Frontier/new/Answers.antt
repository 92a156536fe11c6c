use Rattle.std.proofs.Common.{List, ℕ, ap}
use Rattle.search_sets.specs.declared.key.Key.{Key}
use Rattle.search_sets.specs.declared.frontier.Frontier.{Frontier}
use Rattle.search_sets.proofs.HeldSo.{nothing_held}
use Rattle.search_sets.proofs.frontier.Frontier.new.Goals as goal

pub returns-clause-nothing : goal.returns-clause-nothing
returns-clause-nothing c =
    let f : Frontier = record { known = c.new.result; named = c.in_ok-new.field-0; ahead = c.new-3.result; found = c.new-4.result; earlier = 0 } in
    nothing_held f c.new.ensures c.in_ok-new.ensures c.new-3.ensures (ap (λ (n : ℕ × List Key). n.1) c.new-4.ensures)
