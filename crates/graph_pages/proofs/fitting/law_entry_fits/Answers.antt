use Rattle.graph_pages.proofs.EventFits.{entry_fits}
use Rattle.graph_pages.proofs.fitting.law_entry_fits.Goals as goal

pub returns : goal.returns
returns c = λ pages g to level all stands zero. entry_fits pages g all stands to level zero
