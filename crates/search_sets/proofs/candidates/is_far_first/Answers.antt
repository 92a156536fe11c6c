use Rattle.std.proofs.Common.{sym, ◌∙◌}
use Rattle.search_sets.proofs.Leaders.{near_is_first}
use Rattle.search_sets.proofs.candidates.is_far_first.Goals as goal

pub returns : goal.returns
returns c h = near_is_first c.in-Some-near_first.a c.in-Some.b _ c.args.far.now c.in-Some-near_first.ensures c.in-Some.ensures (sym c.is_before.ensures ∙ h)
