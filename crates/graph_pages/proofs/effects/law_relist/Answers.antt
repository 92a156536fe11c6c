use Rattle.graph_pages.proofs.SlotEffect.{relist_effect}
use Rattle.graph_pages.proofs.effects.law_relist.Goals as goal

pub returns : goal.returns
returns c = λ pages g at list_at version lists n node listed below wrap number block page after all stands there is.
    relist_effect pages g list_at at n number block page after all stands there node listed version lists below is
