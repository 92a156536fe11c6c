-- Rivals by their numbers: a member goes by that of its slot, and the entrant by a number that is no such.
use Rattle.std.specs.Prelude.{ℕ, ◌++◌, Bool, List, [], ◌∷◌, map, drop, slice_get, Option, Some, None}
use Rattle.std.specs.Option.{option_or}
use Rattle.vec_names.specs.declared.tid.Tid.{Tid}
use Rattle.vec_names.specs.declared.params.Ops.{Ops}
use Rattle.list_values.specs.Ranking.{ranked}
use Rattle.neighbour_pick.specs.declared.found.SlotSeen.{SlotSeen}
use Rattle.neighbour_pick.specs.Order.{Candidate, is_nearer}
use Rattle.neighbour_pick.specs.Selection.{far_marks}
use Rattle.neighbour_pick.specs.Slots.{Rival, members_from, not_far, last_of}

-- the entrant as a rival
abbrev pub entering : Candidate → Rival
entering entrant = record { slot = None; is = entrant }

-- the member of a slot, and where it has none this other rival
abbrev pub member_or : Rival → ℕ → SlotSeen → Option Tid → Rival
member_or other k seen None = other
member_or other k seen (Some at) = record { slot = Some k; is = record { at = at; dist = seen.dist; bits = seen.bits } }

-- the same where there may be no such slot
abbrev pub rival_in : Rival → ℕ → Option SlotSeen → Rival
rival_in other k None = other
rival_in other k (Some seen) = member_or other k seen seen.at

-- the rival of this number: the slot's member, and where there is none the entrant
abbrev pub rival_at : List SlotSeen → Candidate → ℕ → Rival
rival_at slots entrant k = rival_in (entering entrant) k (slice_get slots k)

-- the order of rivals is that of elements
abbrev pub is_before : Rival → Rival → Bool
is_before a b = is_nearer a.is b.is

-- the members of the slots from this one on, and the entrant, in order
abbrev pub rivals_from : List SlotSeen → Candidate → ℕ → List Rival
rivals_from slots entrant k = ranked is_before (members_from k (drop k slots) ++ entering entrant ∷ [])

-- The last of these that is not far, where `others` are the far ones before them. Where all are far, it is the last one before them.
abbrev pub last_near : Ops → List Rival → List Rival → Option Rival → Option Rival
last_near ops others rs before = option_or (last_of (not_far rs (far_marks ops (map (λ r. r.is) others) (map (λ r. r.is) rs)))) before
