use Rattle.std.proofs.Common.{length, List, ap, ◌∙◌}
use Rattle.vec_history.specs.declared.event.Act.{Act}
use Rattle.page_words.specs.Deciding.{events_of}
use Rattle.vec_board.specs.Changes.{grown_of}
use Rattle.vec_board.proofs.Ranges.{in_range_had}
use Rattle.vec_board.proofs.Made.{ok_then, when_ok, of_ok}
use Rattle.vec_board.proofs.GivenBack.{of_one}
use Rattle.vec_board.proofs.Changed.{either_kind, just_made, event_leaves, comes_ok, comes_err, may_commit, change_still, change_stepped, change_refused}
use Rattle.vec_board.proofs.board_core.Core.change.Goals as goal

pub decide-making-requires : goal.decide-making-requires
decide-making-requires g c = in_range_had c.args.self.now.params c.args.self.now.in_range

pub returns-then-not-makes-clause-ok : goal.returns-then-not-makes-clause-ok
returns-then-not-makes-clause-ok g c = λ is.
    change_still c.args.self.now (g.P.PageSet.held c.args.pages.now) c.args.desk c.args.ask.now c.decide-making.new.told is c.decide-making.ensures.nodes c.decide-making.ensures.lists
    (c.decide-making.ensures.at ∙ ap (λ (l : List Act). length l) c.acts.ensures)
    (either_kind c.args.ask.now is c.decide-making.ensures.made c.decide-making.ensures.made_lists ∙ c.makes.ensures.none c.if-not-makes.true)

pub returns-clause-ok : goal.returns-clause-ok
returns-clause-ok g c = λ is.
    let e = of_one (events_of c.args.ask.now c.decide-making.result) (c.makes.ensures.one c.if-not-makes.false) in
    when_ok c.make.result (λ ok. change_stepped c.args.self.now (g.P.PageSet.held c.args.pages.now) c.args.desk c.args.ask.now c.decide-making.new.told is c.decide-making.ensures.nodes c.decide-making.ensures.lists
    c.decide-making.result e.0 e.1 (either_kind c.args.ask.now is c.decide-making.ensures.made c.decide-making.ensures.made_lists ∙ e.1) c.make.new.self c.make.new.ask (c.decide-making.ensures.at ∙ ap (λ (l : List Act). length l) c.acts.ensures)
    (of_ok c.make.result ok (c.make.ensures.made e.0 e.1)) (λ lasts. of_ok c.make.result ok (c.make.ensures.room e.0 e.1 lasts))
    (of_ok c.make.result ok c.make.ensures.spent))

pub returns-clause-made : goal.returns-clause-made
returns-clause-made g c = λ is.
    let e = of_one (events_of c.args.ask.now c.decide-making.result) (c.makes.ensures.one c.if-not-makes.false) in
    ok_then c.make.result (just_made c.args.self.now c.make.new.self c.args.desk e.0 c.decide-making.new.told.left _ (either_kind c.args.ask.now is c.decide-making.ensures.made c.decide-making.ensures.made_lists ∙ e.1)) (c.make.ensures.made e.0 e.1)

pub returns-clause-leaves : goal.returns-clause-leaves
returns-clause-leaves g c = λ is all base s holds may.
    let e = of_one (events_of c.args.ask.now c.decide-making.result) (c.makes.ensures.one c.if-not-makes.false) in
    let can = may_commit c.args.self.now (g.P.PageSet.held c.args.pages.now) c.args.desk c.args.ask.now c.decide-making.new.told is c.decide-making.ensures.nodes c.decide-making.ensures.lists c.decide-making.result e.0 e.1 (either_kind c.args.ask.now is c.decide-making.ensures.made c.decide-making.ensures.made_lists ∙ e.1) all base s holds may in
    ok_then c.make.result
    (event_leaves c.args.self.now c.make.new.self (g.P.PageSet.held c.args.pages.now) (g.P.PageSet.held c.make.new.pages) all base c.args.desk e.0 (grown_of c.args.ask.now c.decide-making.result) _ (either_kind c.args.ask.now is c.decide-making.ensures.made c.decide-making.ensures.made_lists ∙ e.1))
    (comes_ok c.args.self.now c.make.new.self (g.P.PageSet.held c.args.pages.now) (g.P.PageSet.held c.make.new.pages) all base c.args.desk e.0 (grown_of c.args.ask.now c.decide-making.result) c.make.result
    (c.make.ensures.comes e.0 all base e.1 can))

pub returns-clause-err : goal.returns-clause-err
returns-clause-err g c = λ is.
    let e = of_one (events_of c.args.ask.now c.decide-making.result) (c.makes.ensures.one c.if-not-makes.false) in
    change_refused c.args.self.now (g.P.PageSet.held c.args.pages.now) c.args.desk c.args.ask.now c.decide-making.new.told is c.decide-making.ensures.nodes c.decide-making.ensures.lists
    c.decide-making.result e.0 e.1 (either_kind c.args.ask.now is c.decide-making.ensures.made c.decide-making.ensures.made_lists ∙ e.1) c.make.new.self (g.P.PageSet.held c.make.new.pages) c.make.result c.make.ensures.kept (c.make.ensures.fault e.0 e.1)
    (λ all base can. c.make.ensures.comes e.0 all base e.1 can)

pub returns-clause-kept_pages : goal.returns-clause-kept_pages
returns-clause-kept_pages g c = λ is all base s holds may.
    let e = of_one (events_of c.args.ask.now c.decide-making.result) (c.makes.ensures.one c.if-not-makes.false) in
    let can = may_commit c.args.self.now (g.P.PageSet.held c.args.pages.now) c.args.desk c.args.ask.now c.decide-making.new.told is c.decide-making.ensures.nodes c.decide-making.ensures.lists c.decide-making.result e.0 e.1 (either_kind c.args.ask.now is c.decide-making.ensures.made c.decide-making.ensures.made_lists ∙ e.1) all base s holds may in
    comes_err c.args.self.now c.make.new.self (g.P.PageSet.held c.args.pages.now) (g.P.PageSet.held c.make.new.pages) all base c.args.desk e.0 (grown_of c.args.ask.now c.decide-making.result) c.make.result
    (c.make.ensures.comes e.0 all base e.1 can)
