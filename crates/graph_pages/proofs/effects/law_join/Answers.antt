use Rattle.graph_pages.proofs.HeadEffect.{join_effect}
use Rattle.graph_pages.proofs.effects.law_join.Goals as goal

pub returns : goal.returns
returns c = λ pages g at version id wrap number block page after all stands there is. join_effect pages g at number block page after all stands there version id is
