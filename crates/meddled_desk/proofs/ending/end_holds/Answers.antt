use Rattle.std.proofs.Common.{◌≤◌, ℕ, List, length, sym, ap, subst, ◌∙◌, arith}
use Rattle.vec_history.specs.declared.event.Act.{Act}
use Rattle.vec_history.specs.Gates.{AgreesWithOthers}
use Rattle.vec_steps.specs.Index.{OfNodes}
use Rattle.vec_board.specs.Standing.{acts_of}
use Rattle.vec_board.specs.Boards.{StandsWhole}
use Rattle.meddled_desk.proofs.Others.{meddles_then}
use Rattle.meddled_desk.proofs.Ends.{holds_then, taken_all}
use Rattle.meddled_desk.proofs.ending.end_holds.Goals as goal

pub returns-then-may_take-clause-agree : goal.returns-then-may_take-clause-agree
returns-then-may_take-clause-agree g c = λ base stands.
    subst (λ (l : List Act). AgreesWithOthers l 0 c.args.gate c.args.hold) c.acts.ensures (c.may_take.ensures.0 c.if-may_take.true).beside

pub loop-k-preserved : goal.loop-k-preserved
loop-k-preserved g c =
    let was = c.args.board.now in
    let mid = c.loop-k.board in
    let end = c.end_hold_at.new.board in
    let so = c.loop-k.invariant in
    let same = ap g.D.Disks.count so.disks in
    record {
      meddles = λ base. meddles_then base (g.D.Disks.count was.disks) (g.D.Disks.count mid.disks) was.core mid.core end.core was.pages.pages.items
          mid.pages.pages.items end.pages.pages.items same (so.meddles base) (c.end_hold_at.ensures.meddles base);
      ended = λ base stands. c.end_hold_at.ensures.ended base
          (subst (λ (n : ℕ). StandsWhole mid.core mid.pages.pages.items n (OfNodes base)) (sym same) ((so.meddles base).stands stands))
          (so.ended base stands);
      holds = holds_then (acts_of was.core) (acts_of mid.core) (acts_of end.core) so.holds c.end_hold_at.ensures.holds;
      disks = c.end_hold_at.ensures.disks ∙ so.disks;
      params = c.end_hold_at.ensures.params ∙ so.params;
      bits = c.end_hold_at.ensures.bits ∙ so.bits;
    }

pub returns-clause-agree : goal.returns-clause-agree
returns-clause-agree g c = λ base stands.
    let so = c.loop-k.invariant in
    taken_all (acts_of c.args.board.now.core) (acts_of c.loop-k.board.core) c.args.gate c.args.hold so.holds
    (λ desk k hold other s.
    let low : c.loop-k.k ≤ k = so.ended base stands desk k hold other s in
    let long = ap (λ (l : List Act). length l) c.acts-count.ensures in
    omega (arith, c.loop-k-test.false, low, long))
