use Rattle.ivf_pages.proofs.RootKept.{root_kept}
use Rattle.ivf_pages.proofs.effects.law_root.Goals as goal

pub returns : goal.returns
returns c = λ p pages after g event wrap number stands follows are. root_kept p pages after g event wrap number stands follows are
