use Rattle.std.proofs.Common.{ℕ, ◌↔◌, subst, arith, rules}
use Rattle.std.specs.Bool.{IsTrue}
use Rattle.vec_graph.specs.Knowing.{Knows}
use Rattle.graph_judge.proofs.AllowedNodes.{link_by}
use Rattle.graph_judge.proofs.linking_rules.may_link.Goals as goal

pub returns : goal.returns
returns c =
    let base = c.args.course.now.base.now in
    let acts = c.args.course.now.acts.now in
    let update = c.holds.ensures.0 c.if-not-holds.false in
    let listed = c.are_same.ensures.0 c.if-not-are_same.false in
    let by = link_by base acts c.last-graph.result.now c.last-graph.ensures c.args.desk c.args.place.at c.args.place.list_at c.args.place.version c.args.slot c.args.to
    c.in-Some.owner.now c.in-Some.ensures.found update listed (omega arith) in
    let P : ℕ → Type 0 = λ layer. IsTrue c.knows.result ↔ Knows base acts c.args.desk c.args.to layer in
    let tells = subst P (search rules) c.knows.ensures in
    (λ t. by.0 (tells.0 t), λ may. tells.1 (by.1 may))
