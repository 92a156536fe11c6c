use Rattle.std.proofs.Common.{◌≡◌, take}
use Rattle.std.specs.List.{filter_map}
use Rattle.vec_run.specs.Replies.{hit_with}
use Rattle.vec_run.proofs.replies.nearest_rows.Given as goal

abbrev pub invariant-loop-command : goal.invariant-loop-command
invariant-loop-command l = l.hits.items ≡ filter_map (hit_with l.value) (take l.command-index l.above)
