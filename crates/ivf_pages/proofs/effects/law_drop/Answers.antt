use Rattle.ivf_pages.proofs.RowEffects.{drop_effect}
use Rattle.ivf_pages.proofs.effects.law_drop.Goals as goal

pub returns : goal.returns
returns c = λ p pages g block gone. drop_effect p pages g block gone
