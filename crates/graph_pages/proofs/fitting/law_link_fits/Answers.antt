use Rattle.graph_pages.proofs.EventFits.{link_fits}
use Rattle.graph_pages.proofs.fitting.law_link_fits.Goals as goal

pub returns : goal.returns
returns c = λ pages g at list_at to version slot n all stands there listed within. link_fits pages g all stands at list_at to version slot n there listed within
