use Rattle.page_redo.specs.PageChanges.{new_node}
use Rattle.graph_pages.proofs.PutNewEffect.{put_new_effect}
use Rattle.graph_pages.proofs.effects.law_put_new.Goals as goal

pub returns : goal.returns
returns c = λ pages after g at list_at version level id bits lists wrap number few all stands short low none list_none below are.
    put_new_effect pages g (new_node at list_at version level id bits lists) wrap number few all stands short low none list_none after below are
