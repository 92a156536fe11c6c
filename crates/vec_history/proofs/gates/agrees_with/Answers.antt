use Rattle.std.proofs.Common.{rules}
use Rattle.vec_history.proofs.GateHolds.{agrees_by_hold}
use Rattle.vec_history.proofs.gates.agrees_with.Goals as goal

pub returns-then-eq : goal.returns-then-eq
returns-then-eq c =
    let by_hold = agrees_by_hold c.args.acts.now c.args.other c.args.gate c.args.hold c.in-Some.theirs c.in-Some.field-0-1 c.in-Some.ensures.since in
    (λ t. by_hold.0 (search rules, search rules), λ agrees. let theirs = (by_hold.1 agrees).1 in search rules)

pub returns-else-eq : goal.returns-else-eq
returns-else-eq c =
    let by_hold = agrees_by_hold c.args.acts.now c.args.other c.args.gate c.args.hold c.in-Some.theirs c.in-Some.field-0-1 c.in-Some.ensures.since in
    (λ t. absurd (cc), λ agrees. let mine = (by_hold.1 agrees).0 in search rules)
