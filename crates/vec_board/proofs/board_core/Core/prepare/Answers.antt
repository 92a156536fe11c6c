use Rattle.std.proofs.Common.{◌≡◌, true, false, sym, subst, ◌∙◌, refl, inl}
use Rattle.history_tables.specs.Telling.{IsToldEnd}
use Rattle.vec_steps.specs.declared.fault.StepFault.{StepFault}
use Rattle.vec_board.specs.Acting.{IsCause}
use Rattle.vec_board.specs.declared.board_core.Core.{Core}
use Rattle.vec_board.proofs.Made.{ok_then}
use Rattle.vec_board.proofs.FromBefore.{legal_end, may_still, may_change, pages_come}
use Rattle.vec_board.proofs.board_core.Core.prepare.Goals as goal

pub returns-then-not-may_end-clause-comes : goal.returns-then-not-may_end-clause-comes
returns-then-not-may_end-clause-comes g c = λ all base left may.
    let is : c.may_end.result ≡ true = c.may_end.ensures.ends may.stands.told (legal_end base _ c.args.desk c.args.event.now may.legal) in
    let not : c.may_end.result ≡ false = c.if-not-may_end.true in
    let both : false ≡ true = sym not ∙ is in
    absurd cc

pub returns-in-Ok-clause-prepared : goal.returns-in-Ok-clause-prepared
returns-in-Ok-clause-prepared g c =
    ok_then c.change_pages.result
    (λ taken. record {
      ready = c.in-Ok.ensures.ready;
      log = c.in-Ok.ensures.log;
      ends = λ ends. subst (λ (core : Core). IsToldEnd core.history.tables c.args.desk c.args.event.now) (sym (c.make_room.ensures.own (inl ends)))
          (c.may_end.ensures.told c.if-not-may_end.false ends);
      written = λ lasts. (taken lasts).written;
      room = λ lasts. (taken lasts).room;
      few = λ lasts. (taken lasts).few;
    })
    c.change_pages.ensures.taken

pub returns-in-Ok-clause-comes : goal.returns-in-Ok-clause-comes
returns-in-Ok-clause-comes g c = λ all base left may.
    let now = may_still c.args.self.now c.make_room.new.self c.in-Ok.ensures.kept _ all base c.args.desk c.args.event.now left c.args.grown may in
    pages_come c.args.self.now c.make_room.new.self c.in-Ok.ensures.kept _ _ all c.args.desk c.args.event.now c.args.grown c.change_pages.result
    (c.change_pages.ensures.made all (sym now.stands.blocks) now.has)
    (c.change_pages.ensures.cause all (sym now.stands.blocks) now.has
    (may_change c.make_room.new.self _ all base c.args.desk c.args.event.now left c.args.grown now))

pub returns-in-Err-clause-comes : goal.returns-in-Err-clause-comes
returns-in-Err-clause-comes g c = λ all base left may.
    let w = c.in-Err.ensures.wants in (
      subst (λ (f : StepFault). IsCause c.args.self.now c.args.desk c.args.event.now c.args.grown f) (sym w.0) (inl w.1),
      λ block. refl,
    )
