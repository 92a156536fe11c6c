-- What a change of one desk's room makes of the others.
use Rattle.std.proofs.Common.{◌≡◌, ◌≢◌, ℕ, ◌+◌, ◌-◌, ◌≤◌, ◌==◌, min, Bool, true, false, cond, zero, suc, List, [], ◌∷◌, ◌++◌, slice_set, refl, sym, ap, ◌∙◌, arith}
use Rattle.std.proofs.lemmas.Bool.{eq-eqb, eqb-true}
use Rattle.std.proofs.lemmas.Option.{same_Some, none-some}
use Rattle.history_tables.specs.declared.rooms.Room.{Room}
use Rattle.history_tables.specs.Rooms.{room_of, room_in_all, with_room, spent, IsFirstOf, IsNoneOf}

neq_false : (a b : ℕ) → a ≢ b → (a == b) ≡ false
neq_false a b differs = by (a == b) refl where
  by : (t : Bool) → (a == b) ≡ t → t ≡ false
  by true e = absurd (differs (eqb-true _ _ e))
  by false e = refl

pub set_own : (rooms : List Room) (desk acts : ℕ) → room_of (with_room desk acts rooms) desk ≡ acts
set_own [] desk acts = ap (λ (b : Bool). cond b acts 0) (eq-eqb desk desk refl)
set_own (r ∷ rooms) desk acts = by (r.desk == desk) refl (set_own rooms desk acts) where
  by : (b : Bool) → (r.desk == desk) ≡ b → room_of (with_room desk acts rooms) desk ≡ acts
      → room_of (cond b (record { desk = desk; acts = acts } ∷ rooms) (r ∷ with_room desk acts rooms)) desk ≡ acts
  by true e rest = ap (λ (b : Bool). cond b acts (room_of rooms desk)) (eq-eqb desk desk refl)
  by false e rest = ap (λ (b : Bool). cond b r.acts (room_of (with_room desk acts rooms) desk)) e ∙ rest

pub set_other : (rooms : List Room) (desk acts other : ℕ) → other ≢ desk → room_of (with_room desk acts rooms) other ≡ room_of rooms other
set_other [] desk acts other differs = ap (λ (b : Bool). cond b acts 0) (neq_false desk other (λ e. differs (sym e)))
set_other (r ∷ rooms) desk acts other differs = by (r.desk == desk) refl (set_other rooms desk acts other differs) where
  by : (b : Bool) → (r.desk == desk) ≡ b → room_of (with_room desk acts rooms) other ≡ room_of rooms other
      → room_of (cond b (record { desk = desk; acts = acts } ∷ rooms) (r ∷ with_room desk acts rooms)) other ≡ room_of (r ∷ rooms) other
  by true e rest = ap (λ (b : Bool). cond b acts (room_of rooms other)) (neq_false desk other (λ s. differs (sym s)))
      ∙ sym (ap (λ (b : Bool). cond b r.acts (room_of rooms other)) (neq_false r.desk other (λ s. differs (sym s ∙ eqb-true _ _ e))))
  by false e rest = ap (λ n. cond (r.desk == other) r.acts n) rest

pub set_all : (rooms : List Room) (desk acts : ℕ) → room_in_all (with_room desk acts rooms) + room_of rooms desk ≡ room_in_all rooms + acts
set_all [] desk acts = omega arith
set_all (r ∷ rooms) desk acts = by (r.desk == desk) (set_all rooms desk acts) where
  by : (b : Bool) → room_in_all (with_room desk acts rooms) + room_of rooms desk ≡ room_in_all rooms + acts
      → room_in_all (cond b (record { desk = desk; acts = acts } ∷ rooms) (r ∷ with_room desk acts rooms)) + cond b r.acts (room_of rooms desk)
      ≡ room_in_all (r ∷ rooms) + acts
  by true rest = omega arith
  by false rest =
      let sum : room_in_all (cond false (record { desk = desk; acts = acts } ∷ rooms) (r ∷ with_room desk acts rooms))
      ≡ r.acts + room_in_all (with_room desk acts rooms) = refl in
      omega (arith, rest, sum)

pub spend_own : (rooms : List Room) (desk : ℕ) → room_of (spent desk rooms) desk ≡ room_of rooms desk - 1
spend_own [] desk = refl
spend_own (r ∷ rooms) desk = by (r.desk == desk) refl (spend_own rooms desk) where
  by : (b : Bool) → (r.desk == desk) ≡ b → room_of (spent desk rooms) desk ≡ room_of rooms desk - 1
      → room_of (cond b (record { desk = desk; acts = r.acts - 1 } ∷ rooms) (r ∷ spent desk rooms)) desk ≡ cond b r.acts (room_of rooms desk) - 1
  by true e rest = ap (λ (b : Bool). cond b (r.acts - 1) (room_of rooms desk)) (eq-eqb desk desk refl)
  by false e rest = ap (λ (b : Bool). cond b r.acts (room_of (spent desk rooms) desk)) e ∙ rest

pub spend_other : (rooms : List Room) (desk other : ℕ) → other ≢ desk → room_of (spent desk rooms) other ≡ room_of rooms other
spend_other [] desk other differs = refl
spend_other (r ∷ rooms) desk other differs = by (r.desk == desk) refl (spend_other rooms desk other differs) where
  by : (b : Bool) → (r.desk == desk) ≡ b → room_of (spent desk rooms) other ≡ room_of rooms other
      → room_of (cond b (record { desk = desk; acts = r.acts - 1 } ∷ rooms) (r ∷ spent desk rooms)) other ≡ room_of (r ∷ rooms) other
  by true e rest = ap (λ (b : Bool). cond b (r.acts - 1) (room_of rooms other)) (neq_false desk other (λ s. differs (sym s)))
      ∙ sym (ap (λ (b : Bool). cond b r.acts (room_of rooms other)) (neq_false r.desk other (λ s. differs (sym s ∙ eqb-true _ _ e))))
  by false e rest = ap (λ n. cond (r.desk == other) r.acts n) rest

pub within_all : (rooms : List Room) (desk : ℕ) → room_of rooms desk ≤ room_in_all rooms
within_all [] desk = omega arith
within_all (r ∷ rooms) desk = by (r.desk == desk) (within_all rooms desk) where
  by : (b : Bool) → room_of rooms desk ≤ room_in_all rooms → cond b r.acts (room_of rooms desk) ≤ room_in_all (r ∷ rooms)
  by true rest = omega arith
  by false rest =
      let own : cond false r.acts (room_of rooms desk) ≡ room_of rooms desk = refl in
      omega (arith, rest, own)

pub spend_all : (rooms : List Room) (desk : ℕ) → room_in_all (spent desk rooms) ≡ room_in_all rooms - min 1 (room_of rooms desk)
spend_all [] desk = refl
spend_all (r ∷ rooms) desk = by (r.desk == desk) (spend_all rooms desk) (within_all rooms desk) where
  by : (b : Bool) → room_in_all (spent desk rooms) ≡ room_in_all rooms - min 1 (room_of rooms desk) → room_of rooms desk ≤ room_in_all rooms
      → room_in_all (cond b (record { desk = desk; acts = r.acts - 1 } ∷ rooms) (r ∷ spent desk rooms))
      ≡ room_in_all (r ∷ rooms) - min 1 (cond b r.acts (room_of rooms desk))
  by true rest low = omega arith
  by false rest low =
      let sum : room_in_all (cond false (record { desk = desk; acts = r.acts - 1 } ∷ rooms) (r ∷ spent desk rooms))
      ≡ r.acts + room_in_all (spent desk rooms) = refl in
      omega (arith, rest, low, sum)

-- ---- the desk's place in the list

is_first : (rooms : List Room) (r : Room) (desk acts : ℕ) → IsFirstOf (r ∷ rooms) desk zero acts → record { desk = desk; acts = acts } ≡ r
is_first rooms r desk acts f = sym (same_Some r (record { desk = desk; acts = acts }) f.at)

is_later : (rooms : List Room) (r : Room) (desk k acts : ℕ) → IsFirstOf (r ∷ rooms) desk (suc k) acts → IsFirstOf rooms desk k acts
is_later rooms r desk k acts f = record { at = f.at; none_before = λ j q low is. f.none_before (suc j) q (omega (arith, low)) is }

differs_first : (rooms : List Room) (r : Room) (desk k acts : ℕ) → IsFirstOf (r ∷ rooms) desk (suc k) acts → (r.desk == desk) ≡ false
differs_first rooms r desk k acts f = neq_false r.desk desk (f.none_before zero r (omega arith) refl)

pub found_room : (rooms : List Room) (desk k acts : ℕ) → IsFirstOf rooms desk k acts → room_of rooms desk ≡ acts
found_room [] desk k acts f = absurd (none-some (record { desk = desk; acts = acts }) f.at)
found_room (r ∷ rooms) desk zero acts f =
    ap (λ (b : Bool). cond b r.acts (room_of rooms desk)) (eq-eqb _ _ (ap (λ (x : Room). x.desk) (sym (is_first rooms r desk acts f))))
    ∙ ap (λ (x : Room). x.acts) (sym (is_first rooms r desk acts f))
found_room (r ∷ rooms) desk (suc k) acts f =
    ap (λ (b : Bool). cond b r.acts (room_of rooms desk)) (differs_first rooms r desk k acts f)
    ∙ found_room rooms desk k acts (is_later rooms r desk k acts f)

pub found_set : (rooms : List Room) (desk k acts now : ℕ) → IsFirstOf rooms desk k acts
    → slice_set rooms k (record { desk = desk; acts = now }) ≡ with_room desk now rooms
found_set [] desk k acts now f = absurd (none-some (record { desk = desk; acts = acts }) f.at)
found_set (r ∷ rooms) desk zero acts now f =
    sym (ap (λ (b : Bool). cond b (record { desk = desk; acts = now } ∷ rooms) (r ∷ with_room desk now rooms))
    (eq-eqb _ _ (ap (λ (x : Room). x.desk) (sym (is_first rooms r desk acts f)))))
found_set (r ∷ rooms) desk (suc k) acts now f =
    ap (λ (l : List Room). r ∷ l) (found_set rooms desk k acts now (is_later rooms r desk k acts f))
    ∙ sym (ap (λ (b : Bool). cond b (record { desk = desk; acts = now } ∷ rooms) (r ∷ with_room desk now rooms)) (differs_first rooms r desk k acts f))

pub found_spent : (rooms : List Room) (desk k acts : ℕ) → IsFirstOf rooms desk k acts
    → slice_set rooms k (record { desk = desk; acts = acts - 1 }) ≡ spent desk rooms
found_spent [] desk k acts f = absurd (none-some (record { desk = desk; acts = acts }) f.at)
found_spent (r ∷ rooms) desk zero acts f =
    ap (λ n. record { desk = desk; acts = n - 1 } ∷ rooms) (ap (λ (x : Room). x.acts) (is_first rooms r desk acts f))
    ∙ sym (ap (λ (b : Bool). cond b (record { desk = desk; acts = r.acts - 1 } ∷ rooms) (r ∷ spent desk rooms))
    (eq-eqb _ _ (ap (λ (x : Room). x.desk) (sym (is_first rooms r desk acts f)))))
found_spent (r ∷ rooms) desk (suc k) acts f =
    ap (λ (l : List Room). r ∷ l) (found_spent rooms desk k acts (is_later rooms r desk k acts f))
    ∙ sym (ap (λ (b : Bool). cond b (record { desk = desk; acts = r.acts - 1 } ∷ rooms) (r ∷ spent desk rooms)) (differs_first rooms r desk k acts f))

none_first : (rooms : List Room) (r : Room) (desk : ℕ) → IsNoneOf (r ∷ rooms) desk → (r.desk == desk) ≡ false
none_first rooms r desk none = neq_false r.desk desk (none zero r refl)

none_later : (rooms : List Room) (r : Room) (desk : ℕ) → IsNoneOf (r ∷ rooms) desk → IsNoneOf rooms desk
none_later rooms r desk none = λ j q is. none (suc j) q is

pub none_room : (rooms : List Room) (desk : ℕ) → IsNoneOf rooms desk → room_of rooms desk ≡ 0
none_room [] desk none = refl
none_room (r ∷ rooms) desk none =
    ap (λ (b : Bool). cond b r.acts (room_of rooms desk)) (none_first rooms r desk none) ∙ none_room rooms desk (none_later rooms r desk none)

pub none_set : (rooms : List Room) (desk acts : ℕ) → IsNoneOf rooms desk → with_room desk acts rooms ≡ rooms ++ record { desk = desk; acts = acts } ∷ []
none_set [] desk acts none = refl
none_set (r ∷ rooms) desk acts none =
    ap (λ (b : Bool). cond b (record { desk = desk; acts = acts } ∷ rooms) (r ∷ with_room desk acts rooms)) (none_first rooms r desk none)
    ∙ ap (λ (l : List Room). r ∷ l) (none_set rooms desk acts (none_later rooms r desk none))

pub none_spent : (rooms : List Room) (desk : ℕ) → IsNoneOf rooms desk → spent desk rooms ≡ rooms
none_spent [] desk none = refl
none_spent (r ∷ rooms) desk none =
    ap (λ (b : Bool). cond b (record { desk = desk; acts = r.acts - 1 } ∷ rooms) (r ∷ spent desk rooms)) (none_first rooms r desk none)
    ∙ ap (λ (l : List Room). r ∷ l) (none_spent rooms desk (none_later rooms r desk none))

-- ---- sums

pub found_within : (rooms : List Room) (desk k acts : ℕ) → IsFirstOf rooms desk k acts → acts ≤ room_in_all rooms
found_within rooms desk k acts f =
    let is = found_room rooms desk k acts f in
    let low = within_all rooms desk in
    omega (arith, is, low)

pub found_sum : (rooms : List Room) (desk k acts now : ℕ) → IsFirstOf rooms desk k acts
    → room_in_all rooms - acts + now ≡ room_in_all (slice_set rooms k (record { desk = desk; acts = now }))
found_sum rooms desk k acts now f =
    let all = set_all rooms desk now in
    let is = found_room rooms desk k acts f in
    let low = within_all rooms desk in
    let same = ap room_in_all (found_set rooms desk k acts now f) in
    omega (arith, all, is, low, same)

pub found_less : (rooms : List Room) (desk k acts : ℕ) → IsFirstOf rooms desk k acts
    → room_in_all rooms - min acts 1 ≡ room_in_all (slice_set rooms k (record { desk = desk; acts = acts - 1 }))
found_less rooms desk k acts f =
    let all = spend_all rooms desk in
    let is = found_room rooms desk k acts f in
    let same = ap room_in_all (found_spent rooms desk k acts f) in
    omega (arith, all, is, same)

pub push_sum : (rooms : List Room) (r : Room) → room_in_all rooms + r.acts ≡ room_in_all (rooms ++ r ∷ [])
push_sum [] r = omega arith
push_sum (x ∷ rooms) r =
    let rest = push_sum rooms r in
    let first : room_in_all ((x ∷ rooms) ++ r ∷ []) ≡ x.acts + room_in_all (rooms ++ r ∷ []) = refl in
    let own : room_in_all (x ∷ rooms) ≡ x.acts + room_in_all rooms = refl in
    omega (arith, rest, first, own)
