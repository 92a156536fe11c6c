use Rattle.std.proofs.Common.{ℕ, sym, ap, subst}
use Rattle.vec_steps.specs.Desks.{Desk}
use Rattle.vec_steps.specs.Calls.{HoldsNone}
use Rattle.meddled_desk.proofs.tests.scans.begins.Goals as goal

pub returns-clause-free : goal.returns-clause-free
returns-clause-free g c =
    let S = g.S.Steps in
    subst (λ (n : ℕ). HoldsNone (S.seen c.first.new.steps) n) (sym (ap (λ (d : Desk). d.number) c.in_ok-batch.ensures.goes.stays)) c.in_ok-batch.ensures.free
