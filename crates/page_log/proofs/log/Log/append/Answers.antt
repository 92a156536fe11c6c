use Rattle.std.proofs.Common.{arith}
use Rattle.page_log.proofs.EventRuns.{some_bytes}
use Rattle.page_log.proofs.log.Log.append.Goals as goal

pub invariant_of-self-2-clause-headed : goal.invariant_of-self-2-clause-headed
invariant_of-self-2-clause-headed c _ =
    let some = some_bytes c.args.event.now c.keep.ensures.typed c.requires in
    (omega (arith, some, c.event_size-size.ensures, c.in_ok-put_event.ensures.len), omega arith)
