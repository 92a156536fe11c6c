use Rattle.std.proofs.Common.{◌+◌, ◌++◌, take, drop, arith}
use Rattle.std.proofs.lemmas.Result.{on_err_weaker}
use Rattle.vec_outside.proofs.Exits.{on_err}
use Rattle.vec_run.specs.Replies.{replies_of, replies_after}
use Rattle.vec_run.proofs.Moving.{appends_more, front_of_all, front_before, replies_gathered, replies_moved}
use Rattle.vec_run.proofs.exact.answer_all.Goals as goal

pub returns-in_err-answer-clause-err : goal.returns-in_err-answer-clause-err
returns-in_err-answer-clause-err g c =
    on_err c.from_residual.result
    (front_before (g.K.Sink.held c.args.sink.now) (g.K.Sink.held c.loop-i.sink) c.loop-i.invariant.written _ (replies_of c.args.commands.now) c.loop-i.invariant.parts c.loop-i.invariant.sent)

pub returns-in_err-flush-clause-err : goal.returns-in_err-flush-clause-err
returns-in_err-flush-clause-err g c =
    on_err c.from_residual-in_err-flush.result
    (front_of_all (g.K.Sink.held c.args.sink.now) (g.K.Sink.held c.loop-i.sink) (g.K.Sink.held c.flush.new.sink) c.loop-i.invariant.written c.answer.new.gathered.items
    (replies_after (take (c.loop-i.i + 1) c.args.commands.now) (drop (c.loop-i.i + 1) c.args.commands.now)) (replies_of c.args.commands.now)
    (replies_gathered c.args.commands.now c.loop-i.i c.loop-i.invariant.written c.loop-i.gathered.items c.answer.new.gathered.items c.loop-i-test.true c.loop-i.invariant.parts c.in_ok-answer.ensures)
    c.loop-i.invariant.sent c.in_err-flush.ensures.err)

pub loop-i-preserved : goal.loop-i-preserved
loop-i-preserved g c =
    let moved = c.in_ok-flush.ensures.ok in
    record {
      written = c.loop-i.invariant.written ++ moved.written;
      sent = appends_more (g.K.Sink.held c.args.sink.now) (g.K.Sink.held c.loop-i.sink) (g.K.Sink.held c.flush.new.sink) c.loop-i.invariant.written moved.written c.loop-i.invariant.sent moved.sent;
      parts =
          replies_moved c.loop-i.invariant.written moved.written c.answer.new.gathered.items c.flush.new.gathered.items
          (replies_after (take (c.loop-i.i + 1) c.args.commands.now) (drop (c.loop-i.i + 1) c.args.commands.now)) (replies_of c.args.commands.now)
          (replies_gathered c.args.commands.now c.loop-i.i c.loop-i.invariant.written c.loop-i.gathered.items c.answer.new.gathered.items c.loop-i-test.true c.loop-i.invariant.parts c.in_ok-answer.ensures)
          moved.parts;
      later = omega (arith, c.loop-i.invariant.later, c.flush.ensures.cause.later);
    }

pub returns-clause-err : goal.returns-clause-err
returns-clause-err g c =
    on_err_weaker c.flush-2.result
    (front_of_all (g.K.Sink.held c.args.sink.now) (g.K.Sink.held c.loop-i.sink) (g.K.Sink.held c.flush-2.new.sink) c.loop-i.invariant.written c.loop-i.gathered.items
    (replies_after (take c.loop-i.i c.args.commands.now) (drop c.loop-i.i c.args.commands.now)) (replies_of c.args.commands.now) c.loop-i.invariant.parts c.loop-i.invariant.sent)
    c.flush-2.ensures.err
