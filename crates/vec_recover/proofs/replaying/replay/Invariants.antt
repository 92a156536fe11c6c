use Rattle.std.proofs.Common.{drop}
use Rattle.vec_recover.proofs.RedoneEvents.{IsGoing}
use Rattle.vec_recover.proofs.replaying.replay.Given as goal

-- the events so far are redone
abbrev pub invariant-loop-placed : goal.invariant-loop-placed
invariant-loop-placed l = IsGoing l.fn.first l.events (drop l.placed-index l.events) l.fn.pages.items l.pages.items l.number
