use Rattle.vec_graph.proofs.Shaping.{on_blocks_of}
use Rattle.graph_law.proofs.ActByAct.{known_stands, known_not_marked}
use Rattle.graph_law.proofs.law.law_known.Goals as goal

pub returns-clause-stands : goal.returns-clause-stands
returns-clause-stands c = λ sound desk layer at k.
    known_stands c.args.base.now (on_blocks_of c.args.base.now c.requires.shaped) sound c.args.acts.now c.requires.legal desk at layer k

pub returns-clause-not_marked : goal.returns-clause-not_marked
returns-clause-not_marked c = known_not_marked c.args.base.now (on_blocks_of c.args.base.now c.requires.shaped) c.args.acts.now c.requires.legal
