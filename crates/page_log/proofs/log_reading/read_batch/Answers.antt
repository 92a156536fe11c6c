use Rattle.std.proofs.Common.{subst, arith}
use Rattle.page_log.specs.Batches.{IsBatch}
use Rattle.page_log.specs.Steps.{IsFound, StopsAt, TakesWhole, bytes_of}
use Rattle.page_log.proofs.Fronts.{reads_on}
use Rattle.page_log.proofs.Runs.{closed, ends_bad, ends_at, lies_in}
use Rattle.page_log.proofs.log_reading.read_batch.Goals as goal

pub returns-in-Closed-clause-stops : goal.returns-in-Closed-clause-stops
returns-in-Closed-clause-stops g c told _ =
    let area = (g.D.Disks.disk c.args.disks.now).seen c.args.area in
    closed area c.args.run.now c.requires.fine (subst (λ found. IsFound area c.args.run.now.end found) c.in-Closed.is (c.in_ok-find_batch.ensures.found told))

pub returns-in-Bad-clause-stops : goal.returns-in-Bad-clause-stops
returns-in-Bad-clause-stops g c told _ =
    let area = (g.D.Disks.disk c.args.disks.now).seen c.args.area in
    let found = subst (λ found. IsFound area c.args.run.now.end found) c.in-Bad.is (c.in_ok-find_batch.ensures.found told) in
    ends_bad area c.args.run.now found.0 found.1

pub take_batch-requires-clause-place : goal.take_batch-requires-clause-place
take_batch-requires-clause-place g c =
    let lies = lies_in c.args.size c.args.run.now.end c.in_ok-find_batch.field-0 c.in-Batch.len c.in-Batch.is c.in_ok-find_batch.ensures.within in
    omega (arith, lies.1)

pub take_batch-requires-clause-within : goal.take_batch-requires-clause-within
take_batch-requires-clause-within g c told =
    let lies = lies_in c.args.size c.args.run.now.end c.in_ok-find_batch.field-0 c.in-Batch.len c.in-Batch.is c.in_ok-find_batch.ensures.within in
    rw (c.find_batch.ensures.only.kept.seen c.args.area) (omega (arith, lies.1, c.requires.size told))

pub take_batch-requires-clause-some : goal.take_batch-requires-clause-some
take_batch-requires-clause-some g c = (lies_in c.args.size c.args.run.now.end c.in_ok-find_batch.field-0 c.in-Batch.len c.in-Batch.is c.in_ok-find_batch.ensures.within).0

pub returns-in_ok-take_batch-in-Batch-clause-whole : goal.returns-in_ok-take_batch-in-Batch-clause-whole
returns-in_ok-take_batch-in-Batch-clause-whole g c told goes_on =
    let area = (g.D.Disks.disk c.args.disks.now).seen c.args.area in
    let end = c.args.run.now.end in record {
      bytes = bytes_of area end c.in-Batch.len;
      batch = subst (λ found. IsFound area end found) c.in-Batch.is (c.in_ok-find_batch.ensures.found told);
      whole = subst (λ area. TakesWhole c.args.run.now c.take_batch.new.run (bytes_of area end c.in-Batch.len)) (c.find_batch.ensures.only.kept.seen c.args.area)
          (c.in_ok-take_batch-in-Batch.ensures.whole told goes_on);
    }

pub returns-in_ok-take_batch-in-Batch-clause-stops : goal.returns-in_ok-take_batch-in-Batch-clause-stops
returns-in_ok-take_batch-in-Batch-clause-stops g c told stops =
    let area = (g.D.Disks.disk c.args.disks.now).seen c.args.area in
    let end = c.args.run.now.end in
    let batch : IsBatch area end (bytes_of area end c.in-Batch.len) = subst (λ found. IsFound area end found) c.in-Batch.is (c.in_ok-find_batch.ensures.found told) in
    ends_at area c.args.run.now c.take_batch.new.run (bytes_of area end c.in-Batch.len) batch
    (subst (λ area. StopsAt c.args.run.now c.take_batch.new.run (bytes_of area end c.in-Batch.len)) (c.find_batch.ensures.only.kept.seen c.args.area)
    (c.in_ok-take_batch-in-Batch.ensures.stops told stops))

pub returns-in_ok-take_batch-in-Batch-clause-further : goal.returns-in_ok-take_batch-in-Batch-clause-further
returns-in_ok-take_batch-in-Batch-clause-further g c goes_on =
    let lies = lies_in c.args.size c.args.run.now.end c.in_ok-find_batch.field-0 c.in-Batch.len c.in-Batch.is c.in_ok-find_batch.ensures.within in
    let moves = c.in_ok-take_batch-in-Batch.ensures.further goes_on in
    (omega (arith, moves.end_is), omega (arith, moves.end_is, lies.1))

pub returns-in_ok-take_batch-in-Batch-clause-bound : goal.returns-in_ok-take_batch-in-Batch-clause-bound
returns-in_ok-take_batch-in-Batch-clause-bound g c goes_on =
    let moves = c.in_ok-take_batch-in-Batch.ensures.further goes_on in
    omega (arith, moves.end_is, moves.covers)

pub returns-in_ok-take_batch-in-Batch-clause-only : goal.returns-in_ok-take_batch-in-Batch-clause-only
returns-in_ok-take_batch-in-Batch-clause-only g c = reads_on _ _ _ c.find_batch.ensures.only c.take_batch.ensures.only
