use Rattle.page_redo.specs.PageChanges.{new_node}
use Rattle.graph_pages.proofs.PutNewFits.{put_new_fits}
use Rattle.graph_pages.proofs.fitting.law_put_new_fits.Goals as goal

pub returns : goal.returns
returns c = λ pages g at list_at version level id bits lists all stands low list_low some of_bits of_slots few next.
    put_new_fits pages g all stands (new_node at list_at version level id bits lists) low list_low some of_bits of_slots few next
