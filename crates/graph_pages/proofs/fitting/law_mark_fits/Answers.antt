use Rattle.graph_pages.proofs.MarkFits.{mark_fits}
use Rattle.graph_pages.proofs.fitting.law_mark_fits.Goals as goal

pub returns : goal.returns
returns c = λ pages g at list_at version n all stands there listed. mark_fits pages g all stands at list_at version n there listed
