use Rattle.std.proofs.Common.{◌++◌, refl}
use Rattle.graph_search.specs.Deeds.{own_events}
use Rattle.layer_search.proofs.Told.{stand_later}
use Rattle.layer_search.proofs.law.law_elements_stay.Goals as goal

pub returns : goal.returns
returns c =
    λ acts more layer spots base shaped legal there.
    stand_later {desk = 0} {old = acts} {new = acts ++ more} {es = own_events 0 more} layer spots base shaped legal
    (record { more = more; all = refl; own_are = refl }) there
