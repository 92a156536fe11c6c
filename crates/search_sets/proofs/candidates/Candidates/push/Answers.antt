use Rattle.std.proofs.Common.{ap, ◌∙◌}
use Rattle.list_values.specs.Ranking.{placed}
use Rattle.search_sets.specs.Keys.{is_before}
use Rattle.search_sets.proofs.Leaders.{near_whole}
use Rattle.search_sets.proofs.candidates.Candidates.push.Goals as goal

pub returns : goal.returns
returns c = near_whole _ _ _ c.args.key c.in_ok-push.ensures.permutation ∙ ap (placed is_before c.args.key) c.self.view_is
