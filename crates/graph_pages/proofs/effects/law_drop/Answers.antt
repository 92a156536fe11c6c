use Rattle.graph_pages.proofs.HeadEffect.{drop_effect}
use Rattle.graph_pages.proofs.effects.law_drop.Goals as goal

pub returns : goal.returns
returns c = λ pages g at version gone wrap number block page after all stands there is. drop_effect pages g at number block page after all stands there version gone is
