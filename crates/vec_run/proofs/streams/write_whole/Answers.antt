use Rattle.std.proofs.Common.{arith, subst, take, List, ℕ, length-drop}
use Rattle.std.proofs.lemmas.List.{take_rest}
use Rattle.std.specs.Io.KnownBytes.{Appends}
use Rattle.vec_run.proofs.Moving.{piece_next}
use Rattle.vec_run.proofs.streams.write_whole.Goals as goal

pub loop-done-preserved : goal.loop-done-preserved
loop-done-preserved g c = record {
  within = omega (arith, c.in_ok-done.ensures.bound, length-drop c.loop-done.done c.args.text.now);
  later = omega (arith, c.loop-done.invariant.later, c.write.ensures.cause.later);
  written =
      piece_next c.loop-done.done c.in_ok-done.field-0 c.args.text.now (g.K.Sink.held c.args.sink.now) (g.K.Sink.held c.loop-done.sink) (g.K.Sink.held c.write.new.self)
      c.loop-done.invariant.written
      (subst (λ (l : List ℕ). Appends (g.K.Sink.held c.loop-done.sink) (g.K.Sink.held c.write.new.self) (take c.in_ok-done.field-0 l)) (take_rest c.args.text.now c.loop-done.done) c.in_ok-done.ensures.bytes);
}
