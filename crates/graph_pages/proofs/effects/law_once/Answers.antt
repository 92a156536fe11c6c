use Rattle.page_redo.proofs.RedoneOnce.{redone_once}
use Rattle.graph_pages.proofs.effects.law_once.Goals as goal

pub returns : goal.returns
returns c = λ params wrap number event pages after again f h. redone_once params wrap number event pages after again f h
