use Rattle.std.proofs.Common.{◌≡◌, ◌∷◌, List, refl, ap, ◌∙◌}
use Rattle.search_sets.specs.declared.key.Key.{Key}
use Rattle.search_sets.specs.Standing.{element_in, spot_of}
use Rattle.neighbour_pick.specs.declared.found.Found.{Found}
use Rattle.search_sets.proofs.HeldSo.{first_taken, taken_least}
use Rattle.search_sets.proofs.frontier.Frontier.take_least.Goals as goal

pub returns-clause-least : goal.returns-clause-least
returns-clause-least c =
    let f = c.args.self.now in
    let key : Key = c.in-Some.key in
    let was : f.ahead ≡ key ∷ c.take_first.new.self = first_taken _ key _ _ c.in-Some.is c.in_ok-key.ensures in
    taken_least f (record f { ahead = c.take_first.new.self }) key c.take_first.new.self c.requires was refl refl refl refl refl c.spot_in.result
    (c.spot_in.ensures ∙ ap (λ (kn : List Found). spot_of (element_in kn key)) c.as_slice.ensures)
