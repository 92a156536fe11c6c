use Rattle.std.proofs.Common.{◌≡◌, ◌≤◌, ◌++◌, List, ℕ, take, drop}
use Rattle.std.specs.Io.KnownBytes.{Appends}
use Rattle.vec_run.specs.Replies.{replies_of, replies_after}
use Rattle.vec_run.proofs.exact.answer_all.Given as goal

-- what is written, what is gathered, and the replies to what is left
abbrev pub invariant-loop-i : goal.invariant-loop-i
invariant-loop-i g l = record {
  written : List ℕ;
  sent : Appends (g.K.Sink.held l.fn.sink) (g.K.Sink.held l.sink) written;
  parts : replies_of l.commands ≡ written ++ (l.gathered.items ++ replies_after (take l.i l.commands) (drop l.i l.commands));
  later : g.K.Sink.count l.fn.sink ≤ g.K.Sink.count l.sink;
}
