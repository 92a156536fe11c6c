use Rattle.std.proofs.Common.{take}
use Rattle.vec_history.proofs.ByActs.{cut}
use Rattle.vec_graph.specs.Legal.{IsAllowed}
use Rattle.vec_graph.proofs.Shaping.{on_blocks_of, shaped_after}
use Rattle.vec_graph.proofs.law.law_shaped.Goals as goal

pub returns-clause-on_blocks : goal.returns-clause-on_blocks
returns-clause-on_blocks c = on_blocks_of c.args.base.now

pub returns-clause-all_slots : goal.returns-clause-all_slots
returns-clause-all_slots c = λ shaped at n stands. (shaped.nodes at n stands).as_many

pub returns-clause-kept : goal.returns-clause-kept
returns-clause-kept c = λ legal shaped n.
    shaped_after c.args.base.now shaped (take n c.args.acts.now) (cut (IsAllowed c.args.base.now) c.args.acts.now n legal)
