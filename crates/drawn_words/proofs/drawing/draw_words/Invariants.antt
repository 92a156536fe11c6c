use Rattle.std.proofs.Common.{◌≡◌, ◌++◌, length, take, drop}
use Rattle.drawn_words.specs.Drawing.{drawn_all, seeded}
use Rattle.drawn_words.proofs.drawing.draw_words.Given as goal

-- with the words that the generator gives the commands that are left, all have theirs
abbrev pub invariant-loop-i : goal.invariant-loop-i
invariant-loop-i l = record {
  so_far : take l.i l.commands.items ++ drawn_all l.generator (drop l.i l.commands.items) ≡ drawn_all (seeded 0) l.fn.commands.items;
  long : length l.commands.items ≡ length l.fn.commands.items;
}
