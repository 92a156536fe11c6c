use Rattle.std.proofs.Common.{◌≡◌, ◌∙◌, ◌+◌, length, take, drop, sym, ap, subst, arith}
use Rattle.page_log.proofs.Fronts.{reads_on}
use Rattle.page_log.proofs.PieceRuns.{IsMoving, more_on, moving_on, moving_ends, moving_stops, progress_on}
use Rattle.page_log.proofs.events.read_batch_events.Goals as goal

pub returns-then-is_bad-clause-events : goal.returns-then-is_bad-clause-events
returns-then-is_bad-clause-events g c told =
    let area = (g.D.Disks.disk c.args.disks.now).seen c.args.area in
    let done = c.loop-progress.progress.done in
    moving_stops g.D.Disks.told area c.args.at c.args.len done c.min-size.result c.deref.result.now c.args.events.now.items c.loop-progress.events.items c.read_events.new.events.items c.in_ok-piece.piece c.loop-progress.invariant.moving c.in_ok-piece.ensures
    (omega (arith, c.min-size.ensures, c.loop-progress-test.true)) c.requires.within
    (λ t. c.deref.ensures.value ∙ c.in_ok-bytes.ensures.bytes t ∙ ap (λ area. take c.min-size.result (drop (c.args.at + done) area)) (c.loop-progress.invariant.only.kept.seen c.args.area))
    told c.if-is_bad.ensures

pub loop-progress-preserved : goal.loop-progress-preserved
loop-progress-preserved g c =
    let area = (g.D.Disks.disk c.args.disks.now).seen c.args.area in
    let done = c.loop-progress.progress.done in
    let bytes_are : length c.deref.result.now ≡ c.min-size.result = ap length c.deref.ensures.value ∙ c.in_ok-bytes.ensures.size in
    let on = progress_on c.args.len done c.loop-progress.progress.most c.min-size.result c.in_ok-piece.piece.len c.next-progress.result.done c.next-progress.result.most c.loop-progress-test.true c.min-size.ensures
    (omega (arith, c.in_ok-piece.ensures.len_is, bytes_are)) c.next-progress.ensures.longer c.next-progress.ensures.further c.loop-progress.invariant.some in
    record {
      done = on.1;
      some = on.2;
      few = on.3;
      moving = subst (λ done. IsMoving g.D.Disks.told (take c.args.len (drop c.args.at area)) c.args.at done c.args.events.now.items c.read_events.new.events.items) (sym on.0)
          (moving_on g.D.Disks.told area c.args.at c.args.len done c.min-size.result c.deref.result.now c.args.events.now.items c.loop-progress.events.items c.read_events.new.events.items c.in_ok-piece.piece c.loop-progress.invariant.moving c.in_ok-piece.ensures
          (omega (arith, c.min-size.ensures, c.loop-progress-test.true)) c.requires.within
          (λ t. c.deref.ensures.value ∙ c.in_ok-bytes.ensures.bytes t ∙ ap (λ area. take c.min-size.result (drop (c.args.at + done) area)) (c.loop-progress.invariant.only.kept.seen c.args.area)));
      only = reads_on _ _ _ c.loop-progress.invariant.only c.read_bytes.ensures.only;
      later = omega (arith, c.loop-progress.invariant.later, c.read_bytes.ensures.cause.later);
    }

pub returns-clause-events : goal.returns-clause-events
returns-clause-events g c told =
    let area = (g.D.Disks.disk c.args.disks.now).seen c.args.area in
    let last : c.loop-progress.progress.done ≡ c.args.len = omega (arith, c.loop-progress.invariant.done, c.loop-progress-test.false) in
    moving_ends g.D.Disks.told area c.args.at c.args.len c.args.events.now.items c.loop-progress.events.items
    (subst (λ done. IsMoving g.D.Disks.told (take c.args.len (drop c.args.at area)) c.args.at done c.args.events.now.items c.loop-progress.events.items) last c.loop-progress.invariant.moving) told (c.requires.within told)

pub returns-then-is_bad-clause-more : goal.returns-then-is_bad-clause-more
returns-then-is_bad-clause-more g c =
    let moving = c.loop-progress.invariant.moving in
    more_on c.args.events.now.items c.loop-progress.events.items c.read_events.new.events.items moving.more c.in_ok-piece.ensures.more moving.items c.in_ok-piece.ensures.items

pub returns-clause-more : goal.returns-clause-more
returns-clause-more g c = (c.loop-progress.invariant.moving.more, c.loop-progress.invariant.moving.items)
