use Rattle.ivf_pages.proofs.BlocksKept.{blocks_kept}
use Rattle.ivf_pages.proofs.effects.law_blocks.Goals as goal

pub returns : goal.returns
returns c = λ p pages after g event wrap number few follows are. blocks_kept pages g few event p wrap number after follows are
