use Rattle.std.proofs.Common.{ℕ, [], Option, Some, refl, sym, ap, subst, ◌∙◌}
use Rattle.vec_steps.specs.declared.fault.OpFault.TheVariants as op
use Rattle.vec_steps.specs.Index.{Index}
use Rattle.vec_steps.specs.Desks.{Desk}
use Rattle.vec_steps.proofs.Following.{goes_nowhere, goes_then}
use Rattle.ivf_ops.specs.Standing.{OverBlock}
use Rattle.ivf_ops.specs.Viewing.{EndedBy}
use Rattle.ivf_ops.specs.Walking.{WalksOn}
use Rattle.ivf_ops.proofs.Views.{ended_memory, ended_then, fails}
use Rattle.ivf_ops.proofs.Walked.{walk_none, walk_then}
use Rattle.ivf_ops.proofs.chains.walk_within.Goals as goal

pub loop-turn-init : goal.loop-turn-init
loop-turn-init g c = record {
  goes = goes_nowhere g.met.S.Steps.comes_itself c.args.steps.now (λ base o. o.stood);
  bits = c.requires.bits;
  next = λ base o. o;
  so_far = walk_none (g.S.Steps.seen c.args.steps.now) c.args.trace.now.reads c.args.query.now (Some c.args.first) c.args.met.now.items
      c.args.met.now.items refl;
}

pub loop-turn-preserved : goal.loop-turn-preserved
loop-turn-preserved g c =
    let S = g.S.Steps in
    let so = c.loop-turn.invariant in
    let s = c.args.steps.now in
    let mid = c.loop-turn.steps in
    let here : (base : Index) → OverBlock (S.stands s) (S.seen s) (Some c.args.first) base
    → OverBlock (S.stands mid) (S.seen mid) (Some c.in-Some.block) base =
    λ base o. subst (λ (b : Option ℕ). OverBlock (S.stands mid) (S.seen mid) b base) c.in-Some.is (so.next base o) in
    record {
      goes = goes_then g.met.S.Steps.comes_on here so.goes c.in_ok-at.ensures.goes;
      bits = c.in_ok-at.ensures.bits ∙ ap (λ (d : Desk). d.params.bits) so.goes.stays;
      next = λ base o. c.in_ok-at.ensures.next base (here base o);
      so_far = walk_then so.goes.stays here
          (subst (λ (b : Option ℕ). WalksOn (OverBlock (S.stands s) (S.seen s) (Some c.args.first)) (S.desk s) (S.seen s) (S.seen mid)
          c.args.trace.now.reads c.loop-turn.trace.reads c.args.query.now (Some c.args.first) [] b c.args.met.now.items c.loop-turn.met.items)
          c.in-Some.is so.so_far)
          c.in_ok-at.ensures.ok;
    }

pub returns-in_err-at-clause-err : goal.returns-in_err-at-clause-err
returns-in_err-at-clause-err g c =
    let S = g.S.Steps in
    let so = c.loop-turn.invariant in
    let s = c.args.steps.now in
    let mid = c.loop-turn.steps in
    let here : (base : Index) → OverBlock (S.stands s) (S.seen s) (Some c.args.first) base
    → OverBlock (S.stands mid) (S.seen mid) (Some c.in-Some.block) base =
    λ base o. subst (λ (b : Option ℕ). OverBlock (S.stands mid) (S.seen mid) b base) c.in-Some.is (so.next base o) in
    fails c.from_residual.result
    (λ e is. subst (EndedBy (OverBlock (S.stands s) (S.seen s) (Some c.args.first)) (S.desk s) (S.seen s) (S.seen c.walk_one.new.steps)) (sym is)
    (ended_then so.goes.stays here so.so_far.made c.in_err-at.ensures.err)) c.from_residual.ensures.1

pub returns-clause-err : goal.returns-clause-err
returns-clause-err g c = ended_memory op.Memory refl c.loop-turn.invariant.so_far.made
