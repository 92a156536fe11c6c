use Rattle.std.proofs.Common.{refl, take}
use Rattle.vec_graph.proofs.Shaping.{on_blocks_of}
use Rattle.vec_graph.proofs.Lasting.{stays_doomed}
use Rattle.vec_graph.proofs.Placing.{on_blocks_after}
use Rattle.graph_law.proofs.Facts.{was_doomed}
use Rattle.graph_law.proofs.may_mark.law_marks.Goals as goal

pub returns-clause-may : goal.returns-clause-may
returns-clause-may c = λ desk at phase d. (
  d.node.list_at,
  d.node.version,
  record {
    phase = phase;
    node = d.node;
    there = record { stands = d.stands; of_version = refl; not_deleted = d.doomed.not_deleted };
    listed = refl;
    doomed = d.doomed;
  },
)

pub returns-clause-no_other : goal.returns-clause-no_other
returns-clause-no_other c = λ b p desk version at list_at may behind later met.
    was_doomed c.args.base.now (on_blocks_of c.args.base.now c.requires.shaped) c.args.acts.now c.requires.legal b behind p later met at
    (record { node = may.node; stands = may.there.stands; doomed = may.doomed })

pub returns-clause-stays : goal.returns-clause-stays
returns-clause-stays c = λ p at met none d.
    stays_doomed c.args.base.now c.args.acts.now c.requires.legal p met
    (on_blocks_after c.args.base.now (take p c.args.acts.now) (on_blocks_of c.args.base.now c.requires.shaped)) at none d
