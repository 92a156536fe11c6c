use Rattle.index_pages.proofs.Next.{passing}
use Rattle.index_pages.proofs.law.law_passing.Goals as goal

pub returns : goal.returns
returns c = passing
