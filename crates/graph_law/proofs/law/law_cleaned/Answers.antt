use Rattle.vec_graph.proofs.Shaping.{on_blocks_of}
use Rattle.graph_law.proofs.Marking.{clean_if_repaired, barrier, clean_in_mark, taken_alone}
use Rattle.graph_law.proofs.Facts.{members_live, entry_live}
use Rattle.graph_law.proofs.law.law_cleaned.Goals as goal

pub returns-clause-repaired : goal.returns-clause-repaired
returns-clause-repaired c = λ desk r. (r.barrier, clean_if_repaired c.args.base.now c.args.acts.now c.requires.legal desk r, r.scan.is.taken)

pub returns-clause-marking : goal.returns-clause-marking
returns-clause-marking c = λ desk m. (
  barrier c.args.base.now c.args.acts.now c.requires.legal desk m.0 m.1,
  clean_in_mark c.args.base.now c.args.acts.now c.requires.legal desk m.0 m.1,
  taken_alone c.args.base.now c.args.acts.now c.requires.legal desk m.0 m.1,
)

pub returns-clause-members : goal.returns-clause-members
returns-clause-members c = members_live c.args.base.now (on_blocks_of c.args.base.now c.requires.shaped) c.requires.sound c.args.acts.now c.requires.legal

pub returns-clause-entry : goal.returns-clause-entry
returns-clause-entry c = entry_live c.args.base.now (on_blocks_of c.args.base.now c.requires.shaped) c.requires.sound c.args.acts.now c.requires.legal
