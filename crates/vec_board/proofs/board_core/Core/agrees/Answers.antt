use Rattle.std.proofs.Common.{◌↔◌, IsTrue, sym, subst}
use Rattle.history_tables.specs.declared.tables.Tables.{Tables}
use Rattle.history_tables.specs.Telling.{Tells}
use Rattle.vec_steps.specs.declared.ask.Ask.{Ask}
use Rattle.vec_steps.specs.Granting.{AgreesAtTake}
use Rattle.vec_board.proofs.board_core.Core.agrees.Goals as goal

pub returns-in-Take-clause-told : goal.returns-in-Take-clause-told
returns-in-Take-clause-told c = λ acts tells.
    let here : Tells c.tables.result.now acts = subst (λ (t : Tables). Tells t acts) (sym c.tables.ensures) tells in
    subst (λ (a : Ask). IsTrue c.agree.result ↔ AgreesAtTake acts c.args.desk a) (sym c.in-Take.is) (c.agree.ensures acts here)
