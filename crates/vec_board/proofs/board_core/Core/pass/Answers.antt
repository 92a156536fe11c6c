use Rattle.std.proofs.Common.{◌≡◌, true, false, sym, subst, ◌∙◌, inl}
use Rattle.history_tables.specs.Telling.{IsToldEnd}
use Rattle.vec_board.specs.declared.board_core.Core.{Core}
use Rattle.vec_board.proofs.FromBefore.{legal_end, made_since}
use Rattle.vec_board.proofs.SameIndex.{passed_stands}
use Rattle.vec_board.proofs.board_core.Core.pass.Goals as goal

pub record-requires-clause-ends : goal.record-requires-clause-ends
record-requires-clause-ends c = λ ends.
    subst (λ (core : Core). IsToldEnd core.history.tables c.args.desk c.args.event) (sym (c.make_room.ensures.own (inl ends)))
    (c.may_end.ensures.told c.if-not-may_end.false ends)

pub returns-in-Ok-clause-made : goal.returns-in-Ok-clause-made
returns-in-Ok-clause-made c =
    made_since c.args.self.now c.make_room.new.self c.in-Ok.ensures.kept c.record.new.self c.args.desk c.args.event 0 c.record.ensures.made

pub returns-in-Ok-clause-stands : goal.returns-in-Ok-clause-stands
returns-in-Ok-clause-stands c = λ all base s legal.
    passed_stands c.args.self.now c.record.new.self c.args.desk c.args.event 0 c.requires (returns-in-Ok-clause-made c) all base s legal

pub returns-then-not-may_end-clause-cause : goal.returns-then-not-may_end-clause-cause
returns-then-not-may_end-clause-cause c = λ all base s legal.
    let is : c.may_end.result ≡ true = c.may_end.ensures.ends s.told (legal_end base _ c.args.desk c.args.event legal) in
    let not : c.may_end.result ≡ false = c.if-not-may_end.true in
    let both : false ≡ true = sym not ∙ is in
    absurd cc
