use Rattle.std.proofs.Common.{drop, Option}
use Rattle.vec_history.specs.declared.gate.Hold.{Hold}
use Rattle.history_tables.specs.Telling.{IsHeldAs}
use Rattle.history_tables.proofs.holders.Holders.hold_of.Given as goal

-- the answer for what is left is the answer for all
abbrev pub invariant-loop-entry : goal.invariant-loop-entry
invariant-loop-entry l = (o : Option Hold) → IsHeldAs l.desk l.gate (drop l.entry-index l.self.held.items) o → IsHeldAs l.desk l.gate l.self.held.items o
