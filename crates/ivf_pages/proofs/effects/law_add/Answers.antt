use Rattle.ivf_pages.proofs.RowEffects.{add_effect}
use Rattle.ivf_pages.proofs.effects.law_add.Goals as goal

pub returns : goal.returns
returns c = λ p pages g block id bits. add_effect p pages g block id bits
