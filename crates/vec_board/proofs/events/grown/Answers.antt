use Rattle.std.proofs.Common.{sym, ap, ◌∙◌}
use Rattle.vec_steps.specs.declared.ask.Ask.{Ask}
use Rattle.vec_board.specs.Changes.{grown_of}
use Rattle.vec_board.proofs.events.grown.Goals as goal

pub returns-in-PutNew : goal.returns-in-PutNew
returns-in-PutNew c = c.blocks_of.ensures c.in-PutNew.node ∙ ap (λ (a : Ask). grown_of a c.args.making) (sym c.in-PutNew.is)
