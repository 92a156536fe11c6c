-- Rivals in order, and the one that is left out.
use Rattle.std.proofs.Common.{◌≡◌, ℕ, suc, ◌+◌, ◌-◌, ◌<◌, ◌≤◌, false, List, [], ◌∷◌, ◌++◌, map, drop, length, get_or, slice_get, Option, Some, None, is_none, refl, sym, ap, ◌∙◌, arith}
use Rattle.std.specs.Option.{option_map, option_or}
use Rattle.std.proofs.lemmas.Option.{slice_get-get_or, slice_get-map, slice_get_past}
use Rattle.std.proofs.lemmas.List.{drop_more, drop_all, length-map}
use Rattle.vec_names.specs.declared.tid.Tid.{Tid}
use Rattle.vec_names.specs.declared.params.Ops.{Ops}
use Rattle.list_values.specs.Ranking.{placed, ranked}
use Rattle.neighbour_pick.specs.declared.found.SlotSeen.{SlotSeen}
use Rattle.neighbour_pick.specs.Order.{Candidate}
use Rattle.neighbour_pick.specs.Selection.{far_marks}
use Rattle.neighbour_pick.specs.Slots.{Rival, member_in, members_from, not_far, last_of, left_out}
use Rattle.neighbour_pick.specs.Standing.{entering, member_or, rival_in, rival_at, is_before, rivals_from, last_near}

-- ---- in order

-- behind the last slot there is the entrant alone
pub entrant_alone : (slots : List SlotSeen) (entrant : Candidate) → map (rival_at slots entrant) (length slots ∷ []) ≡ rivals_from slots entrant (length slots)
entrant_alone slots entrant =
    ap (λ (seen : Option SlotSeen). rival_in (entering entrant) (length slots) seen ∷ []) (slice_get_past slots (length slots) (omega arith))
    ∙ ap (λ (rest : List SlotSeen). ranked is_before (members_from (length slots) rest ++ entering entrant ∷ [])) (sym (drop_all (length slots) slots (omega arith)))

-- the member of a slot stands where `placed` puts it
pub member_placed : (slots : List SlotSeen) (entrant : Candidate) (k : ℕ) (seen : SlotSeen) → k < length slots → seen ≡ get_or slots k seen → is_none seen.at ≡ false
    → placed is_before (rival_at slots entrant k) (rivals_from slots entrant (k + 1)) ≡ rivals_from slots entrant k
member_placed slots entrant k seen h is some =
    let next : k + 1 ≡ suc k = omega arith in
    let read : slice_get slots k ≡ Some seen = slice_get-get_or slots k seen h ∙ ap (λ (s : SlotSeen). Some s) (sym is) in
    let split : seen ∷ drop (k + 1) slots ≡ drop k slots = ap (λ (s : SlotSeen). s ∷ drop (k + 1) slots) is ∙ sym (drop_more slots k seen h) in
    ap (λ (o : Option SlotSeen). placed is_before (rival_in (entering entrant) k o) (rivals_from slots entrant (k + 1))) read
    ∙ ap (λ (n : ℕ). placed is_before (member_or (entering entrant) k seen seen.at) (ranked is_before (members_from n (drop (k + 1) slots) ++ entering entrant ∷ []))) next
    ∙ by_member seen.at some
    ∙ ap (λ (rest : List SlotSeen). ranked is_before (members_from k rest ++ entering entrant ∷ [])) split
  where
    by_member : (at : Option Tid) → is_none at ≡ false
        → placed is_before (member_or (entering entrant) k seen at) (ranked is_before (members_from (suc k) (drop (k + 1) slots) ++ entering entrant ∷ []))
        ≡ ranked is_before ((member_in k seen at ++ members_from (suc k) (drop (k + 1) slots)) ++ entering entrant ∷ [])
    by_member None none = absurd cc
    by_member (Some at) there = refl

-- ---- the one left out

other_of_none : (o other : Option Rival) → None ≡ option_or o None → other ≡ option_or o other
other_of_none None other e = refl
other_of_none (Some r) other e = absurd cc

last_mapped : (rival : ℕ → Rival) (order : List ℕ) → option_map rival (slice_get order (length order - 1)) ≡ last_of (map rival order)
last_mapped rival order =
    sym (slice_get-map rival order (length order - 1)) ∙ ap (λ (n : ℕ). slice_get (map rival order) (n - 1)) (sym (length-map order rival))

-- where none is near, the last of all is left out
pub last_is_out : (ops : Ops) (rival : ℕ → Rival) (order : List ℕ) (far : List Rival) (i : ℕ) (near last : Option ℕ) → length order ≤ i → near ≡ None
    → last_near ops far (map rival (drop i order)) (option_map rival near) ≡ last_near ops [] (map rival order) None
    → last ≡ slice_get order (length order - 1)
    → option_map rival last ≡ left_out ops (map rival order)
last_is_out ops rival order far i near last past none so_far is =
    let ended : None ≡ last_near ops [] (map rival order) None =
    ap (λ (o : Option ℕ). option_map rival o) (sym none)
    ∙ ap (λ (ks : List ℕ). last_near ops far (map rival ks) (option_map rival near)) (sym (drop_all i order past))
    ∙ so_far in
    ap (λ (o : Option ℕ). option_map rival o) is ∙ last_mapped rival order
    ∙ other_of_none (last_of (not_far (map rival order) (far_marks ops [] (map (λ r. r.is) (map rival order))))) (last_of (map rival order)) ended
