use Rattle.page_redo.proofs.Elsewhere.{elsewhere}
use Rattle.page_redo.proofs.law.law_elsewhere.Goals as goal

pub returns : goal.returns
returns c = λ event p wrap block page away. elsewhere event p wrap block page away
