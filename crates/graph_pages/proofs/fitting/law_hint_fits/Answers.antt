use Rattle.graph_pages.proofs.EventFits.{hint_fits}
use Rattle.graph_pages.proofs.fitting.law_hint_fits.Goals as goal

pub returns : goal.returns
returns c = λ pages g hint all stands low high. hint_fits pages g all stands hint low high
