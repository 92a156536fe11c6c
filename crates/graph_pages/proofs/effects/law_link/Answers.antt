use Rattle.graph_pages.proofs.SlotEffect.{link_effect}
use Rattle.graph_pages.proofs.effects.law_link.Goals as goal

pub returns : goal.returns
returns c = λ pages g at list_at to version slot n node listed below wrap number block page after all stands there is.
    link_effect pages g list_at at n number block page after all stands there node listed version slot to below is
