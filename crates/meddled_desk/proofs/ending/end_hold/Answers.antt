use Rattle.std.proofs.Common.{ℕ, sym, ap, subst, ◌∙◌}
use Rattle.vec_names.specs.declared.params.Params.{Params}
use Rattle.vec_steps.specs.Index.{OfNodes}
use Rattle.vec_board.specs.Standing.{acts_of}
use Rattle.vec_board.specs.Boards.{StandsWhole}
use Rattle.meddled_desk.proofs.Others.{meddles_then}
use Rattle.meddled_desk.proofs.Ends.{holds_then, not_its_phase}
use Rattle.meddled_desk.proofs.ending.end_hold.Goals as goal

pub give_back-requires-clause-bits : goal.give_back-requires-clause-bits
give_back-requires-clause-bits g c = c.end_phase.ensures.bits ∙ c.requires.bits ∙ sym (ap (λ (p : Params). p.bits) c.end_phase.ensures.params)

pub returns-clause-meddles : goal.returns-clause-meddles
returns-clause-meddles g c = λ base.
    meddles_then base (g.D.Disks.count c.args.board.now.disks) (g.D.Disks.count c.end_phase.new.board.disks) c.args.board.now.core c.end_phase.new.board.core
    c.give_back.new.board.core c.args.board.now.pages.pages.items c.end_phase.new.board.pages.pages.items c.give_back.new.board.pages.pages.items
    (ap g.D.Disks.count c.end_phase.ensures.disks) (c.end_phase.ensures.meddles base) (c.give_back.ensures.meddles base)

pub returns-clause-ended : goal.returns-clause-ended
returns-clause-ended g c = λ base stands held.
    let mid = c.end_phase.new.board in
    let there = subst (λ (n : ℕ). StandsWhole mid.core mid.pages.pages.items n (OfNodes base)) (sym (ap g.D.Disks.count c.end_phase.ensures.disks))
    ((c.end_phase.ensures.meddles base).stands stands) in
    c.give_back.ensures.given base there
    (not_its_phase base (acts_of mid.core) there.stands.legal c.args.desk held.1.0 c.args.gate held.0
    (c.give_back.ensures.holds c.args.desk held.1.0 c.args.gate held.0 held.1.1) (λ stage phase. c.end_phase.ensures.ended base stage stands phase))
    held

pub returns-clause-holds : goal.returns-clause-holds
returns-clause-holds g c = holds_then (acts_of c.args.board.now.core) (acts_of c.end_phase.new.board.core) (acts_of c.give_back.new.board.core)
    c.end_phase.ensures.holds c.give_back.ensures.holds
