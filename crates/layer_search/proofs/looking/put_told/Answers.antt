use Rattle.std.proofs.Common.{◌++◌, ◌∷◌, [], List, ap, ◌∙◌, true≢false}
use Rattle.neighbour_pick.specs.declared.found.Found.{Found}
use Rattle.layer_search.proofs.looking.put_told.Goals as goal

pub returns-clause-some : goal.returns-clause-some
returns-clause-some c = (
  λ h. absurd (true≢false h),
  λ h. (c.in_ok-found_of.field-0, c.in_ok-push.ensures.ok ∙ ap (λ (l : List Found). l ++ c.in_ok-found_of.field-0 ∷ []) c.requires.none),
)
