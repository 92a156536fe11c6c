use Rattle.std.proofs.Common.{◌≡◌, ◌++◌, List, map, take, Some}
use Rattle.std.specs.Prelude.{slice_get}
use Rattle.std.specs.List.{filter_map}
use Rattle.neighbour_pick.specs.declared.found.Found.{Found}
use Rattle.layer_search.proofs.choosing.add_all.Given as goal

-- the elements at the places so far
abbrev pub invariant-loop-place : goal.invariant-loop-place
invariant-loop-place l =
    let es : List Found = filter_map (slice_get l.others) (take l.place-index l.places) in
    record {
      slots : l.lists.lists ≡ l.initial.lists.lists ++ map (λ e. Some e.at) es;
      picks : l.lists.picks ≡ l.initial.lists.picks ++ map (λ e. (l.layer, e)) es;
      near : l.lists.near ≡ l.initial.lists.near;
    }
