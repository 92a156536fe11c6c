use Rattle.std.proofs.Common.{◌∙◌}
use Rattle.search_sets.specs.Standing.{held}
use Rattle.search_sets.proofs.HeldSo.{begun_next}
use Rattle.search_sets.proofs.frontier.Frontier.begin.Goals as goal

pub loop-element-preserved : goal.loop-element-preserved
loop-element-preserved c = record {
  whole = c.in_ok-begin_with.ensures.whole;
  wanted = c.in_ok-begin_with.ensures.wanted ∙ c.loop-element.invariant.wanted;
  begun = begun_next (held c.loop-element.self) (held c.begin_with.new.self) c.args.from.now c.loop-element.element-index c.element-item.result
      c.loop-element-test.true c.element-item.is c.loop-element.invariant.begun c.in_ok-begin_with.ensures.added;
}
