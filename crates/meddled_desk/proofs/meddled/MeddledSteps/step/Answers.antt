use Rattle.std.proofs.Common.{sym, ap, ◌∙◌}
use Rattle.vec_steps.specs.Desks.{Desk}
use Rattle.meddled_desk.proofs.Lifting.{asks_later, any_stepped, any_failed, any_wants, any_spare, any_spare_kept, comes_behind}
use Rattle.meddled_desk.proofs.meddled.MeddledSteps.step.Goals as goal

pub serve_own-requires : goal.serve_own-requires
serve_own-requires g c = c.make_way.ensures.bits ∙ c.requires ∙ sym (ap (λ (d : Desk). d.params.bits) c.make_way.ensures.meddles.desk)

pub invariant_of-self : goal.invariant_of-self
invariant_of-self g c = record {
  params = ap (λ (d : Desk). d.params) (c.serve_own.ensures.desk ∙ c.make_way.ensures.meddles.desk) ∙ c.args.self.now.params;
}

pub returns-clause-goes : goal.returns-clause-goes
returns-clause-goes g c =
    let was = c.args.self.now.board in
    let mid = c.make_way.new.board in
    let same = ap g.D.Disks.count c.make_way.ensures.disks in
    let m = c.make_way.ensures.meddles in
    record {
      stays = c.serve_own.ensures.desk ∙ m.desk;
      still_stands = λ index o. record {
        is = o.stood.is;
        stands = c.serve_own.ensures.stands index (asks_later c.args.self.now.base (g.D.Disks.count was.disks) (g.D.Disks.count mid.disks) same was.core mid.core
            was.pages.pages.items mid.pages.pages.items m c.args.ask.now index o);
      };
      comes = comes_behind c.args.self.now.base (g.D.Disks.count was.disks) (g.D.Disks.count mid.disks) same was.core mid.core
          was.pages.pages.items mid.pages.pages.items m c.args.ask.now c.serve_own.new.board.core c.serve_own.ensures.comes;
    }

pub returns-clause-ok : goal.returns-clause-ok
returns-clause-ok g c =
    let was = c.args.self.now.board in
    let mid = c.make_way.new.board in
    any_stepped c.args.self.now.base (g.D.Disks.count was.disks) (g.D.Disks.count mid.disks) (ap g.D.Disks.count c.make_way.ensures.disks) was.core mid.core
    was.pages.pages.items mid.pages.pages.items c.make_way.ensures.meddles c.args.ask.now c.serve_own.new.board.core c.serve_own.new.ask c.serve_own.new.told
    c.serve_own.result c.serve_own.ensures.ok

pub returns-clause-err : goal.returns-clause-err
returns-clause-err g c =
    let was = c.args.self.now.board in
    let mid = c.make_way.new.board in
    any_failed c.args.self.now.base (g.D.Disks.count was.disks) (g.D.Disks.count mid.disks) (ap g.D.Disks.count c.make_way.ensures.disks) was.core mid.core
    was.pages.pages.items mid.pages.pages.items c.make_way.ensures.meddles c.args.ask.now c.serve_own.new.board.core c.serve_own.new.ask c.serve_own.new.told
    c.serve_own.result c.serve_own.ensures.err c.make_way.ensures.agrees

pub returns-clause-wants : goal.returns-clause-wants
returns-clause-wants g c =
    let was = c.args.self.now.board in
    let mid = c.make_way.new.board in
    any_wants c.args.self.now.base (g.D.Disks.count was.disks) (g.D.Disks.count mid.disks) (ap g.D.Disks.count c.make_way.ensures.disks) was.core mid.core
    was.pages.pages.items mid.pages.pages.items c.make_way.ensures.meddles c.args.ask.now c.serve_own.new.board.core c.serve_own.new.ask c.serve_own.new.told
    c.serve_own.result c.serve_own.ensures.wants

pub returns-clause-spare : goal.returns-clause-spare
returns-clause-spare g c =
    let was = c.args.self.now.board in
    let mid = c.make_way.new.board in
    any_spare c.args.self.now.base (g.D.Disks.count was.disks) (g.D.Disks.count mid.disks) (ap g.D.Disks.count c.make_way.ensures.disks) was.core mid.core
    was.pages.pages.items mid.pages.pages.items c.make_way.ensures.meddles c.args.ask.now c.serve_own.new.board.core c.serve_own.new.ask c.serve_own.new.told
    c.serve_own.result c.serve_own.ensures.spare

pub returns-clause-spare_kept : goal.returns-clause-spare_kept
returns-clause-spare_kept g c =
    let was = c.args.self.now.board in
    let mid = c.make_way.new.board in
    any_spare_kept c.args.self.now.base (g.D.Disks.count was.disks) (g.D.Disks.count mid.disks) (ap g.D.Disks.count c.make_way.ensures.disks) was.core mid.core
    was.pages.pages.items mid.pages.pages.items c.make_way.ensures.meddles c.args.ask.now c.serve_own.new.board.core c.serve_own.new.ask c.serve_own.new.told
    c.serve_own.result c.serve_own.ensures.spare_kept
