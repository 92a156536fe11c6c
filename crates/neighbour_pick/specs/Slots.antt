-- The slot of a list of neighbours that a new neighbour takes, after pgvector: by which one is left out.
use Rattle.std.specs.Prelude.{ℕ, suc, ◌++◌, ◌-◌, if◌then◌else◌, Bool, true, false, not, List, [], ◌∷◌, map, length, slice_get, Option, Some, None, is_none}
use Rattle.std.specs.Option.{option_or}
use Rattle.std.specs.List.{list_any, position}
use Rattle.std.specs.Ordering.{eq_by_cmp}
use Rattle.vec_names.specs.declared.tid.Tid.{Tid}
use Rattle.vec_names.specs.declared.params.Ops.{Ops}
use Rattle.vec_names.specs.Order.{tid_cmp}
use Rattle.list_values.specs.Ranking.{ranked}
use Rattle.neighbour_pick.specs.declared.found.SlotSeen.{SlotSeen}
use Rattle.neighbour_pick.specs.Order.{Candidate, is_nearer}
use Rattle.neighbour_pick.specs.Selection.{far_marks}

-- one that wants a slot: a member with the slot that it has, or the entrant, which has none yet
pub record Rival : Type 0 where
  pub slot : Option ℕ
  pub is : Candidate

abbrev pub member_in : ℕ → SlotSeen → Option Tid → List Rival
member_in k seen None = []
member_in k seen (Some at) = record { slot = Some k; is = record { at = at; dist = seen.dist; bits = seen.bits } } ∷ []

-- the members of these slots, in the order of the slots; the first slot has this number
abbrev pub members_from : ℕ → List SlotSeen → List Rival
members_from k [] = []
members_from k (seen ∷ slots) = member_in k seen seen.at ++ members_from (suc k) slots

-- members and entrant in order; members that are equal keep the order of their slots
abbrev pub rivals : List SlotSeen → Candidate → List Rival
rivals slots entrant = ranked (λ a b. is_nearer a.is b.is) (members_from 0 slots ++ record { slot = None; is = entrant } ∷ [])

abbrev pub not_far : List Rival → List Bool → List Rival
not_far [] marks = []
not_far (r ∷ rs) [] = []
not_far (r ∷ rs) (true ∷ marks) = not_far rs marks
not_far (r ∷ rs) (false ∷ marks) = r ∷ not_far rs marks

abbrev pub last_of : {X : Type 0} → List X → Option X
last_of xs = slice_get xs (length xs - 1)

-- the one that goes without a slot: the last that is not far from the far ones before it, or the last of all where all are far
abbrev pub left_out : Ops → List Rival → Option Rival
left_out ops rs = option_or (last_of (not_far rs (far_marks ops [] (map (λ r. r.is) rs)))) (last_of rs)

abbrev pub slot_left : Option Rival → Option ℕ
slot_left None = None
slot_left (Some r) = r.slot

abbrev pub is_named : Tid → Option Tid → Bool
is_named at None = false
is_named at (Some other) = eq_by_cmp tid_cmp at other

-- The slot for an entrant: none where a slot names it; else the lowest empty slot; else the lowest whose member is not
-- live; else that of the one left out, and none where that is the entrant.
abbrev pub slot_of : Ops → List SlotSeen → Candidate → Option ℕ
slot_of ops slots entrant =
    if list_any (λ s. is_named entrant.at s.at) slots
    then None
    else option_or (position (λ s. is_none s.at) slots)
    (option_or (position (λ s. not s.live) slots) (slot_left (left_out ops (rivals slots entrant))))
