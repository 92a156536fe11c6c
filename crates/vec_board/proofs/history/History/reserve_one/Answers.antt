use Rattle.vec_board.proofs.Fitting.{ready_made}
use Rattle.vec_board.proofs.history.History.reserve_one.Goals as goal

pub returns-clause-ready : goal.returns-clause-ready
returns-clause-ready c = λ desk e.
    ready_made c.reserve_more.new.self desk e c.in_ok-reserve_more.ensures.acts c.in_ok-reserve_more.ensures.few c.in_ok-reserve_more.ensures.holds
