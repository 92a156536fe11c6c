use Rattle.ivf_pages.proofs.PagesKept.{number_now, pages_kept}
use Rattle.ivf_pages.proofs.effects.law_pages.Goals as goal

pub returns-clause-bytes : goal.returns-clause-bytes
returns-clause-bytes c = λ p pages after g event wrap number all stands follows low are. pages_kept p pages after event wrap number are g all stands follows low

pub returns-clause-numbers : goal.returns-clause-numbers
returns-clause-numbers c = λ p pages after event wrap number block page are touches is. number_now p pages after event wrap number are block page touches is
