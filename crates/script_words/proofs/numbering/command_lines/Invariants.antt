use Rattle.std.proofs.Common.{◌≡◌, ◌≤◌, ◌+◌, ◌++◌, length}
use Rattle.script_words.specs.Lines.{lines_of}
use Rattle.script_words.specs.Grammar.{command_lines}
use Rattle.script_words.proofs.numbering.command_lines.Given as goal

-- the numbers so far, and then those of what is left
abbrev pub invariant-loop-rest : goal.invariant-loop-rest
invariant-loop-rest l = record {
  numbers : l.numbers.items ++ command_lines l.next (lines_of l.rest) ≡ command_lines 1 (lines_of l.bytes);
  few : l.next + length l.rest ≤ length l.bytes + 1;
}

abbrev pub decreases-loop-rest : goal.decreases-loop-rest
decreases-loop-rest l = length l.rest
