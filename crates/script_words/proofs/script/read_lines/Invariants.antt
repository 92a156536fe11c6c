use Rattle.std.proofs.Common.{◌≡◌, ◌≤◌, ◌+◌, ◌++◌, List, ℕ, length}
use Rattle.script_words.specs.Lines.{lines_of}
use Rattle.script_words.specs.Grammar.{Reads}
use Rattle.script_words.proofs.script.read_lines.Given as goal

-- the texts before the rest were read
abbrev pub invariant-loop-rest : goal.invariant-loop-rest
invariant-loop-rest l = record {
  texts : List (List ℕ);
  reads : Reads l.form texts l.front.commands.items l.front.next;
  parts : lines_of l.bytes ≡ texts ++ lines_of l.rest;
  few : l.front.next + length l.rest ≤ length l.bytes + 1;
}

abbrev pub decreases-loop-rest : goal.decreases-loop-rest
decreases-loop-rest l = length l.rest
