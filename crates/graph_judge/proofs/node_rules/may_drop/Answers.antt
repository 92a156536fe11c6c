use Rattle.std.proofs.Common.{ℕ, ◌<◌, ◌≢◌, ◌^◌, ◌↔◌, subst}
use Rattle.std.specs.Bool.{IsTrue}
use Rattle.graph_judge.proofs.AllowedNodes.{drop_by}
use Rattle.graph_judge.proofs.node_rules.may_drop.Goals as goal

pub returns-in-Some : goal.returns-in-Some
returns-in-Some c =
    let phase = c.is_in_phase.ensures.0 c.if-not-is_in_phase.false in
    let by = drop_by c.args.course.now.base.now c.args.course.now.acts.now c.last.result.now c.last.ensures c.args.desk c.args.at c.args.version c.args.gone c.in-Some.node.now c.in-Some.ensures.found phase in
    let P : ℕ → Type 0 = λ k. IsTrue c.names_some_of.result ↔ ((c.args.gone ≢ 0) × (c.args.gone < 2 ^ k)) in
    let tells = subst P c.len.ensures c.names_some_of.ensures in
    (λ t. by.0 (tells.0 t), λ may. tells.1 (by.1 may))
