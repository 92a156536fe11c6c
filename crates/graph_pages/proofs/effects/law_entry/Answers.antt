use Rattle.graph_pages.proofs.MetaEffect.{entry_effect}
use Rattle.graph_pages.proofs.effects.law_entry.Goals as goal

pub returns : goal.returns
returns c = λ pages g to level has wrap number block page after all stands there is. entry_effect pages g all stands number block page after there to level has is
