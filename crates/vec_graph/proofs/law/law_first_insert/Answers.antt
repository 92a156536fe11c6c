use Rattle.vec_graph.proofs.FirstInsert.{first_is_legal}
use Rattle.vec_graph.proofs.law.law_first_insert.Goals as goal

pub returns : goal.returns
returns c = λ desk at list_at id bits long place.
    first_is_legal c.args.base.now desk at list_at id bits c.requires.one_block c.requires.m_2 long place
