use Rattle.graph_pages.proofs.EventFits.{join_fits}
use Rattle.graph_pages.proofs.fitting.law_join_fits.Goals as goal

pub returns : goal.returns
returns c = λ pages g at version id n all stands there few. join_fits pages g all stands at version id n there few
