use Rattle.std.proofs.Common.{arith, ◌<◌, ◌+◌, ◌∙◌, sym, ap, length, drop}
use Rattle.vec_outside.proofs.Crashes.{goes_back, goes_on_back}
use Rattle.vec_outside.specs.Areas.{bytes_of}
use Rattle.vec_outside.specs.MemDisk.{left_by_sync}
use Rattle.vec_outside.proofs.crash.go_back.Goals as goal

pub loop-i-preserved : goal.loop-i-preserved
loop-i-preserved c =
    let now = bytes_of c.args.line.now.areas c.args.area in
    let calls = c.args.line.now.done.items in
    let within : c.loop-i.i < length calls = omega arith in
    let open_ = sym c.is_sync_of.ensures ∙ c.if-is_sync_of.false in
    let at = sym c.index-call.ensures in (
      omega (arith, c.loop-i.invariant.0, c.in_ok-push.ensures.len),
      goes_back c.args.area now calls c.loop-i.i c.index-call.result.now within at c.loop-i.bytes.items _ c.loop-i.invariant.1 open_ c.in_ok-take_back.ensures,
      ap (λ l. left_by_sync c.args.area l (drop (c.loop-i.i + 1) calls)) c.in_ok-take_back.ensures
          ∙ sym (goes_on_back c.args.area now calls c.loop-i.i c.index-call.result.now within at c.loop-i.bytes.items open_) ∙ c.loop-i.invariant.2,
    )
