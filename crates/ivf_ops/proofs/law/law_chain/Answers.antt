use Rattle.ivf_ops.proofs.OverChains.{chain_over, chain_rises}
use Rattle.ivf_ops.proofs.law.law_chain.Goals as goal

pub returns-clause-rising : goal.returns-clause-rising
returns-clause-rising g c = λ old new reads query first have a. chain_rises a

pub returns-clause-walk : goal.returns-clause-walk
returns-clause-walk g c = λ old new reads query first have h o a. chain_over query first have h o a
