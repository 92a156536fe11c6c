use Rattle.ivf_pages.proofs.AimEffect.{aim_effect}
use Rattle.ivf_pages.proofs.effects.law_hint.Goals as goal

pub returns : goal.returns
returns c = λ p pages g list block may small. aim_effect p pages g list block may small
