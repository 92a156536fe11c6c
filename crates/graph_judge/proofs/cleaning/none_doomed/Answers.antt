use Rattle.std.proofs.Common.{refl}
use Rattle.graph_judge.proofs.MapEntries.{NotDoomed, none_doomed_by_entries, refused, ended}
use Rattle.graph_judge.proofs.cleaning.none_doomed.Goals as goal

pub returns-then-is_doomed : goal.returns-then-is_doomed
returns-then-is_doomed c = (
  λ f. absurd (cc),
  λ none. absurd (
      refused NotDoomed _ _ _ _ _ c.in-Some.ensures.steps c.loop-node.invariant (λ not. not (c.is_doomed.ensures.0 c.if-is_doomed.true))
      ((none_doomed_by_entries c.args.graph.now).1 none)
      ),
)

pub returns : goal.returns
returns c = (λ _. (none_doomed_by_entries c.args.graph.now).0 (ended NotDoomed _ _ c.in-None.ensures.steps.0 c.loop-node.invariant), λ _. refl)
