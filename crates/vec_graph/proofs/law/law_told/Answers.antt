use Rattle.vec_graph.proofs.Placing.{placed_block, placed_anew}
use Rattle.vec_graph.proofs.Layers.{layer_of_place, lowest_of_place}
use Rattle.vec_graph.proofs.Ending.{by_lasting}
use Rattle.vec_graph.proofs.law.law_told.Goals as goal

pub returns-clause-on_block : goal.returns-clause-on_block
returns-clause-on_block c = λ b level place is. placed_block c.args.base.now b level place is

pub returns-clause-anew : goal.returns-clause-anew
returns-clause-anew c = λ b level place n is stands. placed_anew c.args.base.now b level place is n stands

pub returns-clause-slot : goal.returns-clause-slot
returns-clause-slot c = layer_of_place

pub returns-clause-lowest : goal.returns-clause-lowest
returns-clause-lowest c = lowest_of_place

pub returns-clause-by_lasting : goal.returns-clause-by_lasting
returns-clause-by_lasting c = by_lasting c.args.base.now c.args.acts.now
