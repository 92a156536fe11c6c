use Rattle.std.proofs.Common.{◌≤◌, ◌-◌, ◌<◌, length}
use Rattle.std.specs.Io.KnownBytes.{Consumes}
use Rattle.vec_run.proofs.streams.read_whole.Given as goal

abbrev pub invariant-pieces : goal.invariant-pieces
invariant-pieces g l = record {
  later : g.S.Source.count l.fn.source ≤ g.S.Source.count l.source;
  bytes : Consumes (g.S.Source.left l.fn.source) (g.S.Source.left l.source) l.bytes.items;
  few : length l.bytes.items ≤ 268435457;
  room : 0 < length l.piece.items;
}

abbrev pub decreases-pieces : goal.decreases-pieces
decreases-pieces g l = 268435457 - length l.bytes.items
