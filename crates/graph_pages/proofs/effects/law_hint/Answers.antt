use Rattle.graph_pages.proofs.MetaEffect.{hint_effect}
use Rattle.graph_pages.proofs.effects.law_hint.Goals as goal

pub returns : goal.returns
returns c = λ pages g hint low wrap number block page after all stands there is. hint_effect pages g all stands number block page after there hint low is
