use Rattle.std.proofs.Common.{refl}
use Rattle.graph_judge.proofs.MapEntries.{NotLive, none_live_by_entries, refused, ended}
use Rattle.graph_judge.proofs.cleaning.none_live.Goals as goal

pub returns-then-is_live : goal.returns-then-is_live
returns-then-is_live c = (
  λ f. absurd (cc),
  λ none. absurd (
      refused NotLive _ _ _ _ _ c.in-Some.ensures.steps c.loop-node.invariant (λ not. not (c.is_live.ensures.0 c.if-is_live.true))
      ((none_live_by_entries c.args.graph.now).1 none)
      ),
)

pub returns : goal.returns
returns c = (λ _. (none_live_by_entries c.args.graph.now).0 (ended NotLive _ _ c.in-None.ensures.steps.0 c.loop-node.invariant), λ _. refl)
