use Rattle.vec_recover.proofs.CreatedIndex.{is_new_epoch, none_or}
use Rattle.vec_recover.proofs.law.law_created.Goals as goal

pub returns : goal.returns
returns c = λ pages p image some few all of reads. none_or pages p image (is_new_epoch pages some few all) of reads
