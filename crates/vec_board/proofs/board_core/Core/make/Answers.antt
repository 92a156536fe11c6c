use Rattle.std.proofs.Common.{Ok, ap, subst, ◌∙◌}
use Rattle.vec_history.specs.declared.event.Event.{Event}
use Rattle.vec_board.specs.declared.events.Rest.{Rest}
use Rattle.vec_board.specs.Acting.{MayCommit, ComesTo}
use Rattle.vec_board.specs.Changes.{given_back, grown_of}
use Rattle.vec_board.proofs.FromBefore.{made_comes}
use Rattle.vec_board.proofs.GivenBack.{back_again, one_event, both_back}
use Rattle.vec_board.proofs.board_core.Core.make.Goals as goal

pub returns-in-Ok-clause-comes : goal.returns-in-Ok-clause-comes
returns-in-Ok-clause-comes g c = λ e all base of may.
    let same = one_event _ c.take_event-event.result e c.take_event-event.ensures.event of in
    let now = both_back (λ y n. MayCommit c.args.self.now (g.P.PageSet.held c.args.pages.now) all base c.args.desk y c.args.left n)
    c.take_event-event.result e c.grown-grown.result (grown_of c.args.ask.now c.args.making) same c.grown-grown.ensures may in
    subst (λ (y : Event). ComesTo c.args.self.now c.record.new.self (g.P.PageSet.held c.args.pages.now) (g.P.PageSet.held c.prepare.new.pages) all base c.args.desk y c.grown-grown.result (Ok tt)) same
    (made_comes c.args.self.now c.prepare.new.self c.prepare.ensures.kept c.record.new.self (g.P.PageSet.held c.args.pages.now) (g.P.PageSet.held c.prepare.new.pages) all base c.args.desk c.take_event-event.result c.args.left c.grown-grown.result
    now c.record.ensures.made c.record.ensures.number (c.in-Ok.ensures.comes all base c.args.left now))

pub returns-in-Err-clause-same : goal.returns-in-Err-clause-same
returns-in-Err-clause-same g c =
    c.given_back.ensures
    ∙ ap (λ (r : Rest). given_back c.take_event-event.result r) c.rest_of-rest.ensures
    ∙ back_again c.args.ask.now c.args.making c.take_event-event.result c.take_event-event.ensures.event
