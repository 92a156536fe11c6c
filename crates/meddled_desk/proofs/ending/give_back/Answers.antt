use Rattle.std.proofs.Common.{ap, subst, List}
use Rattle.vec_history.specs.declared.event.Act.{Act}
use Rattle.vec_history.specs.Phases.{IsUngateAllowed}
use Rattle.vec_steps.specs.declared.ask.Ask.TheVariants as ask
use Rattle.vec_steps.specs.Desks.{Asks}
use Rattle.vec_board.specs.Standing.{acts_of}
use Rattle.vec_board.specs.Looking.{desk_of}
use Rattle.vec_board.specs.Serving.{spare_of}
use Rattle.vec_board.specs.Boards.{StandsWhole}
use Rattle.meddled_desk.proofs.Others.{any_meddles}
use Rattle.meddled_desk.proofs.Ends.{kept_acts, release_ends, release_keeps}
use Rattle.meddled_desk.proofs.ending.give_back.Goals as goal

pub returns-clause-meddles : goal.returns-clause-meddles
returns-clause-meddles g c = λ base.
    let core = c.args.board.now.core in
    let may = subst (λ (l : List Act). IsUngateAllowed l c.args.desk c.args.gate) c.acts.ensures (c.may_give_back.ensures.0 c.if-not-may_give_back.false) in
    any_meddles c.serve.result core c.serve.new.self.core c.args.desk (ask.Release c.args.gate) c.serve.new.ask c.serve.new.told
    c.serve.ensures.made c.serve.ensures.still c.serve.ensures.kept base (g.D.Disks.count c.args.board.now.disks) (g.D.Disks.count c.serve.new.self.disks)
    c.args.board.now.pages.pages.items c.serve.new.self.pages.pages.items c.requires.other (ap g.D.Disks.count c.serve.ensures.disks) c.serve.ensures.desk
    may c.serve.ensures.stands

pub returns-clause-given : goal.returns-clause-given
returns-clause-given g c = λ base stands none.
    let core = c.args.board.now.core in
    let may = subst (λ (l : List Act). IsUngateAllowed l c.args.desk c.args.gate) c.acts.ensures (c.may_give_back.ensures.0 c.if-not-may_give_back.false) in
    release_ends (Asks (StandsWhole core c.args.board.now.pages.pages.items (g.D.Disks.count c.args.board.now.disks)) (desk_of core c.args.desk) (acts_of core) (ask.Release c.args.gate))
    (desk_of core c.args.desk) (acts_of core) (acts_of c.serve.new.self.core) base (record { stood = stands; may = may }) (spare_of core c.args.desk)
    c.serve.new.told c.serve.new.ask c.args.gate c.serve.result c.serve.ensures.ok c.serve.ensures.err c.serve.ensures.wants
    (kept_acts c.serve.result core c.serve.new.self.core c.serve.ensures.kept)

pub returns-clause-holds : goal.returns-clause-holds
returns-clause-holds g c = release_keeps c.args.board.now.core c.serve.new.self.core c.args.desk c.serve.new.told c.args.gate c.serve.result
    c.serve.ensures.made c.serve.ensures.kept
