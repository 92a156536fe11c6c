use Rattle.page_redo.specs.PageChanges.{new_node}
use Rattle.graph_pages.proofs.PutOldFits.{put_old_fits}
use Rattle.graph_pages.proofs.fitting.law_put_again_fits.Goals as goal

pub returns : goal.returns
returns c = λ pages g at list_at version level id bits lists n all s there listed gone of_version of_level of_bits of_slots.
    put_old_fits pages g all s (new_node at list_at version level id bits lists) n there listed gone of_version of_level of_bits of_slots
