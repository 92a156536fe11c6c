use Rattle.ivf_ops.proofs.OverLists.{nearest_begin, reads_rise}
use Rattle.ivf_ops.proofs.law.law_centres.Goals as goal

pub returns-clause-rising : goal.returns-clause-rising
returns-clause-rising g c = λ old new reads query count nears r. reads_rise r

pub returns-clause-firsts : goal.returns-clause-firsts
returns-clause-firsts g c = λ old new reads query count probes nears h o r. nearest_begin probes h o r
