use Rattle.std.proofs.Common.{take, ap, sym, subst, ◌∙◌}
use Rattle.std.proofs.lemmas.Bool.{false≢true}
use Rattle.ivf_graph.specs.Effect.{effect}
use Rattle.ivf_graph.specs.Rules.{IsEventAllowed}
use Rattle.ivf_graph.specs.Legal.{IsAllowed}
use Rattle.ivf_graph.proofs.Judging.{state_more, legal_more, first_illegal}
use Rattle.ivf_graph.proofs.audit.audit_ivf.Goals as goal

pub returns-then-not-is_allowed-clause-fault : goal.returns-then-not-is_allowed-clause-fault
returns-then-not-is_allowed-clause-fault c =
    let not_allowed : IsAllowed c.args.base.now (take c.loop-at.at c.args.acts.now) c.index-acts-at.result → ⊥ =
    λ may. false≢true (sym c.if-not-is_allowed.true ∙ c.is_allowed.ensures.1 (subst (λ g. IsEventAllowed g (take c.loop-at.at c.args.acts.now) c.index-acts-at.result.desk c.index-acts-at.result.event) (sym c.loop-at.invariant.0) may)) in
    first_illegal c.args.base.now c.args.acts.now c.loop-at.at c.index-acts-at.result c.loop-at-test.true c.index-acts-at.is c.loop-at.invariant.1 not_allowed

pub loop-at-preserved : goal.loop-at-preserved
loop-at-preserved c =
    let may : IsAllowed c.args.base.now (take c.loop-at.at c.args.acts.now) c.index-acts-at.result =
    subst (λ g. IsEventAllowed g (take c.loop-at.at c.args.acts.now) c.index-acts-at.result.desk c.index-acts-at.result.event) c.loop-at.invariant.0
    (c.is_allowed.ensures.0 c.if-not-is_allowed.false) in (
      c.in_ok-apply.ensures ∙ ap (effect c.index-acts-at.result.event) c.loop-at.invariant.0
          ∙ state_more c.args.base.now c.args.acts.now c.loop-at.at c.index-acts-at.result c.loop-at-test.true c.index-acts-at.is,
      legal_more c.args.base.now c.args.acts.now c.loop-at.at c.index-acts-at.result c.loop-at-test.true c.index-acts-at.is c.loop-at.invariant.1 may,
    )
