use Rattle.graph_pages.proofs.FreshPages.{fresh_stands}
use Rattle.graph_pages.proofs.effects.law_fresh.Goals as goal

pub returns : goal.returns
returns c = λ pages g count stands. fresh_stands pages g count stands
