use Rattle.std.proofs.Common.{◌∙◌, sym, inr, refl, arith}
use Rattle.page_log.proofs.Runs.{takes_part, behind_old}
use Rattle.page_log.proofs.batches.take_batch.Goals as goal

pub returns-then-is_some-clause-stops : goal.returns-then-is_some-clause-stops
returns-then-is_some-clause-stops g c told _ =
    let read = c.in_ok-bad.ensures.events told in
    inr (takes_part c.args.run.now _ _ read.0 _ c.in_ok-bad.bad c.in-Some.left read.2 (sym c.if-is_some.ensures) read.1
    (behind_old c.deref.result.now c.args.run.now.events.items read.0 c.len-before.result (c.deref.ensures.value ∙ read.1) (omega (arith, c.len-before.ensures, c.args.run.now.events.ok.0)))
    c.in-Some.ensures c.requires.used refl refl refl)
