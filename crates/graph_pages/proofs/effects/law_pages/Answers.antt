use Rattle.graph_pages.proofs.PagesAfter.{pages_after, numbered_after}
use Rattle.graph_pages.proofs.effects.law_pages.Goals as goal

pub returns-clause-bytes : goal.returns-clause-bytes
returns-clause-bytes c = λ pages after g event wrap number all stands follows low are. pages_after pages after g wrap number all stands event follows are low

pub returns-clause-numbers : goal.returns-clause-numbers
returns-clause-numbers c = λ pages after g event wrap number block page are touches there. numbered_after pages after g.params event wrap number are block page touches there
