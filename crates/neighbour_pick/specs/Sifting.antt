-- Selection in its course: the far ones chosen, the others set aside.
use Rattle.std.specs.Prelude.{◌≡◌, ℕ, ◌<◌, ◌++◌, Bool, List, [], map, take, drop, length, slice_get}
use Rattle.std.specs.List.{All, filter_map}
use Rattle.vec_names.specs.declared.params.Ops.{Ops}
use Rattle.neighbour_pick.specs.declared.found.Found.{Found}
use Rattle.neighbour_pick.specs.Order.{Candidate, candidate_of}
use Rattle.neighbour_pick.specs.Selection.{far_marks, set_places, clear_places, picked}

-- the candidates at these places
abbrev pub candidates_at : List Found → List ℕ → List Candidate
candidates_at found places = map candidate_of (filter_map (slice_get found) places)

-- the marks of those from a place on, after these were chosen
abbrev pub marks_left : Ops → List Found → ℕ → List ℕ → List Bool
marks_left ops found place chosen = far_marks ops (candidates_at found chosen) (drop place (map candidate_of found))

-- Those before a place are sifted: what is chosen and set aside so far, each with what is left, makes up all.
pub record IsSifted (ops : Ops) (found : List Found) (place : ℕ) (chosen aside : List ℕ) : Type 0 where
  pub far : chosen ++ set_places place (marks_left ops found place chosen) ≡ set_places 0 (far_marks ops [] (map candidate_of found))
  pub near : aside ++ clear_places place (marks_left ops found place chosen) ≡ clear_places 0 (far_marks ops [] (map candidate_of found))
  pub inside : All (λ k. k < length found) chosen

-- Enough are sifted: the first `count` of the chosen ones and then those set aside are the ones picked.
abbrev pub IsEnough : Ops → List Found → ℕ → List ℕ → List ℕ → Type 0
IsEnough ops found count chosen aside = take count (chosen ++ aside) ≡ picked ops (map candidate_of found) count
