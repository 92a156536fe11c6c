use Rattle.std.proofs.Common.{true, false, [], length, ap, arith, rules, inl, inr}
use Rattle.page_log.specs.Going.{ComesFrom}
use Rattle.page_log.specs.Parts.{out}
use Rattle.page_log.proofs.Fronts.{read_one}
use Rattle.page_log.proofs.Coming.{comes_reading, comes_further}
use Rattle.page_log.proofs.Staging.{end_written, end_none}
use Rattle.page_log.proofs.flushing.close_end.Goals.{else-not-pending-via-then-not-pending+else-pending-len, else-not-pending-via-else-not-pending}
use Rattle.page_log.proofs.flushing.close_end.Goals as goal

pub returns-in_err-len-clause-from : goal.returns-in_err-len-clause-from
returns-in_err-len-clause-from g c newer =
    comes_reading (out c.args.pending.now newer) _ _ (read_one _ _ (g.met.D.Disks.only_now c.args.disks.now) c.len.ensures.kept c.len.ensures.time)

pub returns-then-pending-len-clause-from : goal.returns-then-pending-len-clause-from
returns-then-pending-len-clause-from g c newer =
    comes_reading (out c.args.pending.now newer) _ _ (read_one _ _ (g.met.D.Disks.only_now c.args.disks.now) c.len.ensures.kept c.len.ensures.time)

pub returns-in_err-write_synced-clause-from : goal.returns-in_err-write_synced-clause-from
returns-in_err-write_synced-clause-from g c newer =
    let log = out c.args.pending.now newer in
    let old = g.D.Disks.disk c.args.disks.now in
    let mid = g.D.Disks.disk c.len.new.self in
    let read : ComesFrom log old log mid [] =
    comes_reading log old mid (read_one old mid (g.met.D.Disks.only_now c.args.disks.now) c.len.ensures.kept c.len.ensures.time) in
    comes_further log log _ old mid _ [] [] read
    (end_written log true _ mid _
    (end_none log mid (λ bytes left. g.met.D.Disks.seen_leaves c.len.new.self log.area (g.met.D.Disks.leaves_told c.len.new.self log.area bytes left))
    (λ bytes left.
    let len_is = c.in_ok-len.ensures.len (g.met.D.Disks.leaves_told c.len.new.self log.area bytes left) in
    elim c.else-not-pending.branch [
      | else-not-pending-via-then-not-pending+else-pending-len w ↦
          inr (omega (arith, w.if-pending-len.false, len_is, ap length (c.len.ensures.kept.seen log.area)))
      | else-not-pending-via-else-not-pending w ↦ inl (search rules)
    ]))
    c.write_synced.ensures.written c.write_synced.ensures.moments)

pub returns-clause-from : goal.returns-clause-from
returns-clause-from g c newer =
    let log = out c.args.pending.now newer in
    let old = g.D.Disks.disk c.args.disks.now in
    let mid = g.D.Disks.disk c.len.new.self in
    let read : ComesFrom log old log mid [] =
    comes_reading log old mid (read_one old mid (g.met.D.Disks.only_now c.args.disks.now) c.len.ensures.kept c.len.ensures.time) in
    comes_further log log _ old mid _ [] [] read
    (end_written log false _ mid _
    (end_none log mid (λ bytes left. g.met.D.Disks.seen_leaves c.len.new.self log.area (g.met.D.Disks.leaves_told c.len.new.self log.area bytes left))
    (λ bytes left.
    let len_is = c.in_ok-len.ensures.len (g.met.D.Disks.leaves_told c.len.new.self log.area bytes left) in
    elim c.else-not-pending.branch [
      | else-not-pending-via-then-not-pending+else-pending-len w ↦
          inr (omega (arith, w.if-pending-len.false, len_is, ap length (c.len.ensures.kept.seen log.area)))
      | else-not-pending-via-else-not-pending w ↦ inl (search rules)
    ]))
    c.write_synced.ensures.written c.write_synced.ensures.moments)
