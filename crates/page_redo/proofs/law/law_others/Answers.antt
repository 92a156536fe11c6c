use Rattle.page_redo.proofs.Others.{others_stay}
use Rattle.page_redo.proofs.law.law_others.Goals as goal

pub returns : goal.returns
returns c = λ event p wrap block page after is stay off h apart. others_stay event p wrap block page after is stay off h apart
