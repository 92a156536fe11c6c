use Rattle.graph_pages.proofs.FormatKept.{format_kept}
use Rattle.graph_pages.proofs.effects.law_format.Goals as goal

pub returns : goal.returns
returns c = λ pages after g event wrap number all stands low are. format_kept pages after g event wrap number all stands low are
