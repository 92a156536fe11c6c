use Rattle.std.proofs.Common.{refl, sym, ◌∙◌, below_more, arith}
use Rattle.vec_graph.specs.Cleaning.{IsCleanAt}
use Rattle.graph_judge.specs.Knowable.{IsSomewhere}
use Rattle.graph_judge.proofs.cleaning.were_layers_clean.Goals as goal

pub returns-then-not-some_clean : goal.returns-then-not-some_clean
returns-then-not-some_clean c = (
  λ f. absurd (cc),
  λ all. sym c.if-not-some_clean.true ∙ c.some_clean.ensures.1 (all c.loop-layer.layer (omega arith)),
)

pub loop-layer-preserved : goal.loop-layer-preserved
loop-layer-preserved c =
    below_more (λ layer. IsSomewhere (λ g. IsCleanAt g c.args.at layer) c.args.states.now) _ c.loop-layer.invariant (c.some_clean.ensures.0 c.if-not-some_clean.false)

pub returns : goal.returns
returns c = (λ _ layer low. c.loop-layer.invariant layer (omega arith), λ _. refl)
