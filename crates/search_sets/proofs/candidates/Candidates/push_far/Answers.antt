use Rattle.std.proofs.Common.{ap, ◌∙◌}
use Rattle.std.specs.BinaryHeap.{heap_items}
use Rattle.list_values.specs.Ranking.{placed}
use Rattle.search_sets.specs.Keys.{is_before}
use Rattle.search_sets.proofs.Leaders.{far_whole}
use Rattle.search_sets.proofs.candidates.Candidates.push_far.Goals as goal

pub returns : goal.returns
returns c = far_whole (heap_items c.self.inside.near) _ _ c.args.key c.in_ok-put_far.ensures.ok ∙ ap (placed is_before c.args.key) c.self.view_is
