-- The order in which elements are looked at and chosen.
use Rattle.std.specs.Prelude.{◌≡◌, Bool, List, length}
use Rattle.std.specs.List.{All}
use Rattle.std.specs.declared.cmp.Ordering.{Ordering}
use Rattle.std.specs.Ordering.{ordering_then, is_lt, is_gt}
use Rattle.vec_names.specs.declared.tid.Tid.{Tid}
use Rattle.vec_names.specs.Order.{tid_cmp}
use Rattle.bit_dist.specs.declared.dist.Dist.{Dist}
use Rattle.bit_dist.specs.Distances.{dist_cmp}
use Rattle.neighbour_pick.specs.declared.found.Found.{Found}

-- what a choice goes by: a place, its distance to what is looked for, and its value
pub record Candidate : Type 0 where
  pub at : Tid
  pub dist : Dist
  pub bits : List Bool

abbrev pub candidate_of : Found → Candidate
candidate_of e = record { at = e.at; dist = e.dist; bits = e.bits }

-- by distance, and where these are equal by place: this project's own rule for ties
abbrev pub candidate_cmp : Candidate → Candidate → Ordering
candidate_cmp a b = ordering_then (dist_cmp a.dist b.dist) (tid_cmp a.at b.at)

abbrev pub is_nearer : Candidate → Candidate → Bool
is_nearer a b = is_lt (candidate_cmp a b)

abbrev pub is_greater : Dist → Dist → Bool
is_greater a b = is_gt (dist_cmp a b)

-- the values of these are of one length
abbrev pub HaveOneLength : List Found → Type 0
HaveOneLength found = All (λ one. All (λ other. length other.bits ≡ length one.bits) found) found
