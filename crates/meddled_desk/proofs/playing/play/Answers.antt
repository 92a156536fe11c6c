use Rattle.std.proofs.Common.{ap, subst, List}
use Rattle.vec_history.specs.declared.event.Act.{Act}
use Rattle.vec_steps.specs.Desks.{MayAskNodes}
use Rattle.meddled_desk.proofs.Others.{any_meddles}
use Rattle.meddled_desk.proofs.playing.play.Goals as goal

pub returns-clause-meddles : goal.returns-clause-meddles
returns-clause-meddles g c =
    let base = c.args.judge.now.base.now in
    let yes_it = c.if-not-may_play.false in
    let may = subst (λ (l : List Act). MayAskNodes base l c.args.desk c.args.ask) c.acts.ensures (c.may_play.ensures.may yes_it) in
    any_meddles c.serve.result c.args.board.now.core c.serve.new.self.core c.args.desk c.args.ask c.serve.new.ask c.serve.new.told
    c.serve.ensures.made c.serve.ensures.still c.serve.ensures.kept base (g.D.Disks.count c.args.board.now.disks) (g.D.Disks.count c.serve.new.self.disks)
    c.args.board.now.pages.pages.items c.serve.new.self.pages.pages.items (c.may_play.ensures.other yes_it) (ap g.D.Disks.count c.serve.ensures.disks)
    c.serve.ensures.desk may c.serve.ensures.stands
