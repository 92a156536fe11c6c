use Rattle.ivf_graph.proofs.OwnBlocks.{none_own}
use Rattle.ivf_graph.proofs.tests.laws_before_any_act.Goals as goal

pub law_blocks-requires-clause-own : goal.law_blocks-requires-clause-own
law_blocks-requires-clause-own c = none_own _ c.new.ensures

pub law_reads-requires : goal.law_reads-requires
law_reads-requires c = (none_own (record { lists = c.new.result; blocks = 2 }) c.new.ensures).apart

pub law_still-requires-clause-own : goal.law_still-requires-clause-own
law_still-requires-clause-own c = none_own _ c.new.ensures

pub law_stands-requires-clause-own : goal.law_stands-requires-clause-own
law_stands-requires-clause-own c = none_own _ c.new.ensures

pub law_answered_once-requires-clause-own : goal.law_answered_once-requires-clause-own
law_answered_once-requires-clause-own c = none_own _ c.new.ensures
