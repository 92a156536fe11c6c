use Rattle.graph_pages.proofs.MarkEffect.{mark_effect}
use Rattle.graph_pages.proofs.effects.law_mark.Goals as goal

pub returns : goal.returns
returns c = λ pages after g at list_at version wrap number n all stands node listed redone.
    mark_effect pages g at list_at version wrap number n all stands node listed after redone
