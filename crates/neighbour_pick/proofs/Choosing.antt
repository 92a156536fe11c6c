-- Which slot an entrant gets.
use Rattle.std.proofs.Common.{◌≡◌, ℕ, zero, suc, ◌+◌, ◌<◌, ◌≤◌, Bool, true, false, cond, not, List, [], ◌∷◌, ◌++◌, map, length, slice_get, Option, Some, None, is_none, nat_lt, refl, sym, ap, ◌∙◌, subst, arith}
use Rattle.std.specs.Option.{option_or}
use Rattle.std.specs.List.{list_any, position, position_or_len}
use Rattle.std.proofs.lemmas.Option.{same_Some, none-some}
use Rattle.std.proofs.lemmas.Bool.{ltb-true, lt-ltb}
use Rattle.vec_names.specs.declared.tid.Tid.{Tid}
use Rattle.vec_names.specs.declared.params.Ops.{Ops}
use Rattle.list_values.specs.Ranking.{placed, ranked}
use Rattle.neighbour_pick.specs.declared.found.SlotSeen.{SlotSeen}
use Rattle.neighbour_pick.specs.Order.{Candidate, is_nearer}
use Rattle.neighbour_pick.specs.Selection.{far_marks}
use Rattle.neighbour_pick.specs.Slots.{Rival, member_in, members_from, rivals, not_far, last_of, left_out, slot_left, is_named, slot_of}

-- ---- a property of all

unfoldable pub All_of : {X : Type 0} → (X → Type 0) → List X → Type 0
All_of P [] = Unit {0}
All_of P (x ∷ xs) = P x × All_of P xs

module _ {X : Type 0} (P : X → Type 0) where
  both_all : (xs ys : List X) → All_of P xs → All_of P ys → All_of P (xs ++ ys)
  unfolding All_of
  both_all [] ys p q = q
  both_all (x ∷ xs) ys p q = (p.0, both_all xs ys p.1 q)

  pub placed_all : (lt : X → X → Bool) (x : X) (xs : List X) → P x → All_of P xs → All_of P (placed lt x xs)
  unfolding All_of
  placed_all lt x [] p q = (p, tt)
  placed_all lt x (y ∷ ys) p q =
      elim (lt y x) as (λ b. All_of P (cond b (y ∷ placed lt x ys) (x ∷ y ∷ ys))) [
        | true ↦ (q.0, placed_all lt x ys p q.1)
        | false ↦ (p, q)
      ]

  pub ranked_all : (lt : X → X → Bool) (xs : List X) → All_of P xs → All_of P (ranked lt xs)
  unfolding All_of
  ranked_all lt [] p = tt
  ranked_all lt (x ∷ xs) p = placed_all lt x (ranked lt xs) p.0 (ranked_all lt xs p.1)

  pub got_all : (xs : List X) (i : ℕ) (x : X) → All_of P xs → slice_get xs i ≡ Some x → P x
  unfolding All_of
  got_all [] i x p e = absurd (none-some x e)
  got_all (y ∷ ys) zero x p e = subst P (same_Some y x e) p.0
  got_all (y ∷ ys) (suc i) x p e = got_all ys i x p.1 e

near_all : (P : Rival → Type 0) (rs : List Rival) (marks : List Bool) → All_of P rs → All_of P (not_far rs marks)
unfolding All_of
near_all P [] marks p = tt
near_all P (r ∷ rs) [] p = tt
near_all P (r ∷ rs) (true ∷ marks) p = near_all P rs marks p.1
near_all P (r ∷ rs) (false ∷ marks) p = (p.0, near_all P rs marks p.1)

-- ---- the slots of rivals

HasSlotBelow : ℕ → Rival → Type 0
HasSlotBelow n r = (k : ℕ) → r.slot ≡ Some k → k < n

member_below : (k n : ℕ) (seen : SlotSeen) (at : Option Tid) → k < n → All_of (HasSlotBelow n) (member_in k seen at)
unfolding All_of HasSlotBelow
member_below k n seen None h = tt
member_below k n seen (Some at) h = (λ j e. subst (λ (i : ℕ). i < n) (same_Some k j e) h, tt)

members_below : (k n : ℕ) (slots : List SlotSeen) → k + length slots ≤ n → All_of (HasSlotBelow n) (members_from k slots)
unfolding All_of
members_below k n [] h = tt
members_below k n (seen ∷ slots) h =
    both_all (HasSlotBelow n) (member_in k seen seen.at) (members_from (suc k) slots) (member_below k n seen seen.at (omega (arith, h)))
    (members_below (suc k) n slots (omega (arith, h)))

rivals_below : (slots : List SlotSeen) (entrant : Candidate) → All_of (HasSlotBelow (length slots)) (rivals slots entrant)
unfolding All_of HasSlotBelow
rivals_below slots entrant =
    ranked_all (HasSlotBelow (length slots)) (λ a b. is_nearer a.is b.is) _
    (both_all (HasSlotBelow (length slots)) (members_from 0 slots) _ (members_below 0 (length slots) slots (omega arith)) (λ k e. absurd (none-some k e), tt))

either_all : (P : Rival → Type 0) (a b : Option Rival) (r : Rival) → ((x : Rival) → a ≡ Some x → P x) → ((x : Rival) → b ≡ Some x → P x) → option_or a b ≡ Some r → P r
either_all P None b r p q e = q r e
either_all P (Some x) b r p q e = p r e

left_below : (ops : Ops) (slots : List SlotSeen) (entrant : Candidate) (r : Rival) → left_out ops (rivals slots entrant) ≡ Some r → HasSlotBelow (length slots) r
left_below ops slots entrant r e =
    let all = rivals_below slots entrant in
    let marks : List Bool = far_marks ops [] (map (λ r. r.is) (rivals slots entrant)) in
    let P : Rival → Type 0 = HasSlotBelow (length slots) in
    either_all P (last_of (not_far (rivals slots entrant) marks)) (last_of (rivals slots entrant)) r
    (λ x f. got_all P (not_far (rivals slots entrant) marks) _ x (near_all P (rivals slots entrant) marks all) f)
    (λ x f. got_all P (rivals slots entrant) _ x all f)
    e

slot_below : (n : ℕ) (o : Option Rival) (k : ℕ) → ((r : Rival) → o ≡ Some r → HasSlotBelow n r) → slot_left o ≡ Some k → k < n
unfolding HasSlotBelow
slot_below n None k h e = absurd (none-some k e)
slot_below n (Some r) k h e = h r refl k e

-- ---- positions

first_inside : (n k : ℕ) (b : Bool) → nat_lt k n ≡ b → (j : ℕ) → cond b (Some k) None ≡ Some j → (j < n) × (k ≡ j)
first_inside n k true e j f = (subst (λ (i : ℕ). i < n) (same_Some k j f) (ltb-true k n e), same_Some k j f)
first_inside n k false e j f = absurd (none-some j f)

position_inside : {X : Type 0} (p : X → Bool) (xs : List X) (j : ℕ) → position p xs ≡ Some j → j < length xs
position_inside p xs j e = (first_inside (length xs) (position_or_len p xs) _ refl j e).0

either_below : (n : ℕ) (a b : Option ℕ) (k : ℕ) → ((j : ℕ) → a ≡ Some j → j < n) → ((j : ℕ) → b ≡ Some j → j < n) → option_or a b ≡ Some k → k < n
either_below n None b k p q e = q k e
either_below n (Some x) b k p q e = p k e

unnamed : (b : Bool) (o : Option ℕ) (k : ℕ) → cond b None o ≡ Some k → o ≡ Some k
unnamed true o k e = absurd (none-some k e)
unnamed false o k e = e

pub slot_inside : (ops : Ops) (slots : List SlotSeen) (entrant : Candidate) (k : ℕ) → slot_of ops slots entrant ≡ Some k → k < length slots
slot_inside ops slots entrant k e =
    either_below (length slots) (position (λ s. is_none s.at) slots) _ k (position_inside _ slots)
    (λ j f. either_below (length slots) (position (λ s. not s.live) slots) _ j (position_inside _ slots)
    (λ i g. slot_below (length slots) _ i (left_below ops slots entrant) g) f)
    (unnamed (list_any (λ s. is_named entrant.at s.at) slots) _ k e)

-- ---- the lowest empty slot

-- the first that passes, where one does
pub record IsFirstAt {X : Type 0} (p : X → Bool) (xs : List X) (k n : ℕ) : Type 0 where
  pub not_behind : n ≤ k
  pub one : X
  pub there : slice_get xs n ≡ Some one
  pub passes : p one ≡ true

-- one more that does not pass stands before
one_behind : {X : Type 0} (p : X → Bool) (y : X) (ys : List X) (k n : ℕ) → IsFirstAt p ys k n → IsFirstAt p (y ∷ ys) (suc k) (1 + n)
one_behind p y ys k n r =
    let next : suc n ≡ 1 + n = omega arith in
    subst (λ (m : ℕ). IsFirstAt p (y ∷ ys) (suc k) m) next (record { not_behind = omega (arith, r.not_behind); one = r.one; there = r.there; passes = r.passes })

first_passing : {X : Type 0} (p : X → Bool) (xs : List X) (k : ℕ) (x : X) → slice_get xs k ≡ Some x → p x ≡ true → IsFirstAt p xs k (position_or_len p xs)
first_passing p [] k x e t = absurd (none-some x e)
first_passing p (y ∷ ys) zero x e t =
    let passes : p y ≡ true = ap p (same_Some y x e) ∙ t in
    subst (λ (b : Bool). IsFirstAt p (y ∷ ys) zero (cond (not b) (1 + position_or_len p ys) 0)) (sym passes)
    (record { not_behind = omega arith; one = y; there = refl; passes = passes })
first_passing p (y ∷ ys) (suc k) x e t =
    let later = one_behind p y ys k (position_or_len p ys) (first_passing p ys k x e t) in
    elim (p y) as (λ b. p y ≡ b → IsFirstAt p (y ∷ ys) (suc k) (cond (not b) (1 + position_or_len p ys) 0)) [
      | true ↦ λ f. record { not_behind = omega arith; one = y; there = refl; passes = f }
      | false ↦ λ f. later
    ] refl

empty_is : (seen : SlotSeen) → is_none seen.at ≡ true → seen.at ≡ None
empty_is seen = none_is seen.at where
  none_is : (o : Option Tid) → is_none o ≡ true → o ≡ None
  none_is None e = refl
  none_is (Some at) e = absurd cc

-- a position that is there is found
found_at : {X : Type 0} (p : X → Bool) (xs : List X) → position_or_len p xs < length xs → position p xs ≡ Some (position_or_len p xs)
found_at p xs h = ap (λ (b : Bool). cond b (Some (position_or_len p xs)) None) (lt-ltb (position_or_len p xs) (length xs) h)

got_inside : {X : Type 0} (xs : List X) (i : ℕ) (x : X) → slice_get xs i ≡ Some x → i < length xs
got_inside [] i x e = absurd (none-some x e)
got_inside (y ∷ ys) zero x e = omega arith
got_inside (y ∷ ys) (suc i) x e = omega (arith, got_inside ys i x e)

pub lowest_empty : (ops : Ops) (slots : List SlotSeen) (entrant : Candidate) (k : ℕ) (seen : SlotSeen) → list_any (λ s. is_named entrant.at s.at) slots ≡ false
    → slice_get slots k ≡ Some seen → seen.at ≡ None
    → (j : ℕ) × (other : SlotSeen) × (slot_of ops slots entrant ≡ Some j) × (j ≤ k) × (slice_get slots j ≡ Some other) × (other.at ≡ None)
lowest_empty ops slots entrant k seen unnamed there empty =
    let f = first_passing (λ (s : SlotSeen). is_none s.at) slots k seen there (ap (λ (o : Option Tid). is_none o) empty) in
    let n : ℕ = position_or_len (λ (s : SlotSeen). is_none s.at) slots in
    let found = found_at (λ (s : SlotSeen). is_none s.at) slots (got_inside slots n f.one f.there) in
    (n, f.one, rw (unnamed, found) refl, f.not_behind, f.there, empty_is f.one f.passes)
