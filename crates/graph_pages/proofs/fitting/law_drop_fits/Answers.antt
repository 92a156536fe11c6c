use Rattle.graph_pages.proofs.EventFits.{drop_fits}
use Rattle.graph_pages.proofs.fitting.law_drop_fits.Goals as goal

pub returns : goal.returns
returns c = λ pages g at version gone n all stands there few. drop_fits pages g all stands at version gone n there few
