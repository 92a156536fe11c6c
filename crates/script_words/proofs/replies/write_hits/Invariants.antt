use Rattle.std.proofs.Common.{◌≡◌, ◌++◌, take}
use Rattle.std.specs.List.{flat_map}
use Rattle.script_words.specs.Replies.{hit_line}
use Rattle.script_words.proofs.replies.write_hits.Given as goal

abbrev pub invariant-loop-dist : goal.invariant-loop-dist
invariant-loop-dist l = l.into.items ≡ l.fn.into.items ++ flat_map (hit_line l.ops) (take l.dist-index l.hits)
