use Rattle.std.proofs.Common.{◌↔◌, drop}
use Rattle.history_tables.specs.Telling.{AllAgree}
use Rattle.history_tables.proofs.holders.Holders.agree.Given as goal

-- the answer for what is left is the answer for all
abbrev pub invariant-loop-entry : goal.invariant-loop-entry
invariant-loop-entry l =
    AllAgree l.desk l.gate l.hold (drop l.entry-index l.self.held.items) ↔ AllAgree l.desk l.gate l.hold l.self.held.items
