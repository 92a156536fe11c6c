use Rattle.page_redo.specs.PageChanges.{new_node}
use Rattle.graph_pages.proofs.PutOldEffect.{put_old_effect}
use Rattle.graph_pages.proofs.effects.law_put_again.Goals as goal

pub returns : goal.returns
returns c = λ pages after g at list_at version level id bits lists wrap number n all stands there listed below are.
    put_old_effect pages g (new_node at list_at version level id bits lists) wrap number n all stands there listed below after are
