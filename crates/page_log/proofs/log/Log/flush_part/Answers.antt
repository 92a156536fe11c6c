use Rattle.std.proofs.Common.{[]}
use Rattle.std.proofs.Common.{subst, sym}
use Rattle.page_log.specs.Going.{Unsettled, ComesFrom}
use Rattle.page_log.specs.Parts.{out, past, unsettled, newer_of}
use Rattle.page_log.proofs.Coming.{comes_further}
use Rattle.page_log.proofs.LogSteps.{comes_same, comes_taken, past_is}
use Rattle.page_log.proofs.log.Log.flush_part.Goals as goal

pub returns-in_err-pending-clause-from : goal.returns-in_err-pending-clause-from
returns-in_err-pending-clause-from g c =
    comes_same (unsettled c.args.self.now) (unsettled c.take.new.self) (g.D.Disks.disk c.args.disks.now) (g.met.D.Disks.only_now c.args.disks.now) c.in_err-pending.ensures.err

pub returns-in-Ok-clause-from : goal.returns-in-Ok-clause-from
returns-in-Ok-clause-from g c =
    let old = g.D.Disks.disk c.args.disks.now in
    let new = g.D.Disks.disk c.flush_pending.new.disks in
    let log = unsettled c.args.self.now in
    let newer = newer_of c.take.new.self in
    let first : ComesFrom log old (out c.in_ok-pending.pending newer) old [] =
    comes_taken log (out c.in_ok-pending.pending newer) old (g.met.D.Disks.only_now c.args.disks.now) c.in_ok-pending.ensures.taken in
    subst (λ (l : Unsettled). ComesFrom log old l new []) (past_is c.take.new.self c.in_ok-pending.pending c.flush_pending.new.pending c.in_ok-pending.ensures.out c.flush_pending.ensures.same)
    (comes_further log (out c.in_ok-pending.pending newer) (past c.flush_pending.new.pending newer) old old new [] [] first (c.in-Ok.ensures.ok newer))

pub returns-in-Err-clause-from : goal.returns-in-Err-clause-from
returns-in-Err-clause-from g c =
    let old = g.D.Disks.disk c.args.disks.now in
    let new = g.D.Disks.disk c.flush_pending.new.disks in
    let log = unsettled c.args.self.now in
    let newer = newer_of c.take.new.self in
    let first : ComesFrom log old (out c.in_ok-pending.pending newer) old [] =
    comes_taken log (out c.in_ok-pending.pending newer) old (g.met.D.Disks.only_now c.args.disks.now) c.in_ok-pending.ensures.taken in
    subst (λ (l : Unsettled). ComesFrom log old l new []) (sym c.put_back.ensures.back)
    (comes_further log (out c.in_ok-pending.pending newer) (out c.flush_pending.new.pending newer) old old new [] [] first (c.in-Err.ensures.err newer))
