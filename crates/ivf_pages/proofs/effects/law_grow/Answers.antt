use Rattle.ivf_pages.proofs.GrowRedo.{grow_redone}
use Rattle.ivf_pages.proofs.effects.law_grow.Goals as goal

pub returns : goal.returns
returns c = λ p pages after g list last block id bits wrap number all stands next are. grow_redone p pages after g list last block id bits wrap number all stands next are
