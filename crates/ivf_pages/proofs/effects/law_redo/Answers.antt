use Rattle.ivf_pages.proofs.RedoEffect.{redo_effect}
use Rattle.ivf_pages.proofs.effects.law_redo.Goals as goal

pub returns : goal.returns
returns c = λ p pages after g event wrap number few all stands follows are. redo_effect p pages after g wrap number few all stands event follows are
