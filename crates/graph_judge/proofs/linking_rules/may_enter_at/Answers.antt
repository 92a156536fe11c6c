use Rattle.std.proofs.Common.{ℕ, ◌↔◌, sym, subst, ◌∙◌, rules}
use Rattle.std.specs.Bool.{IsTrue}
use Rattle.std.proofs.lemmas.Bool.{false≢true}
use Rattle.vec_graph.specs.Graph.{HasLevel}
use Rattle.vec_graph.specs.Knowing.{Knows}
use Rattle.graph_judge.proofs.AllowedNodes.{entry_by}
use Rattle.graph_judge.proofs.linking_rules.may_enter_at.Goals as goal

pub returns-then-has_level : goal.returns-then-has_level
returns-then-has_level c =
    let base = c.args.course.now.base.now in
    let acts = c.args.course.now.acts.now in
    let update = c.holds.ensures.0 c.if-not-holds.false in
    let has = c.has_level.ensures.0 c.if-has_level.true in
    let by = entry_by base acts c.last.result.now c.last.ensures c.args.desk c.args.to c.args.level has update in
    let P : ℕ → Type 0 = λ layer. IsTrue c.knows.result ↔ Knows base acts c.args.desk c.args.to layer in
    let tells = subst P (search rules) c.knows.ensures in
    (λ t. by.0 (tells.0 t), λ may. tells.1 (by.1 may))

pub returns-else-has_level : goal.returns-else-has_level
returns-else-has_level c = (
  λ t. absurd (false≢true (sym c.if-has_level.false ∙ t)),
  λ may. c.has_level.ensures.1 (subst (λ h. HasLevel h c.args.to c.args.level) (sym c.last.ensures) (record { node = may.node; stands = may.stands; of_level = may.of_level })),
)
