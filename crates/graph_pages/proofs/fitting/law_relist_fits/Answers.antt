use Rattle.graph_pages.proofs.EventFits.{relist_fits}
use Rattle.graph_pages.proofs.fitting.law_relist_fits.Goals as goal

pub returns : goal.returns
returns c = λ pages g at list_at version lists n all stands there listed count. relist_fits pages g all stands at list_at version lists n there listed count
