-- Tables of places: where a place is looked for, it stands, or nowhere.
use Rattle.std.proofs.Common.{◌≡◌, ◌≢◌, refl, sym, ap, ◌∙◌, subst, ℕ, zero, suc, ◌+◌, ◌<◌, ◌≤◌, List, [], ◌∷◌, ◌++◌, length, arith, Bool, true, false, cond, not, ◌||◌, get_or, slice_get, slice_set, Some, nat_eq, nat_lt, inl, inr, length-append, take, append-nil}
use Rattle.std.specs.Prelude.{◌⊎◌}
use Rattle.std.specs.List.{list_any}
use Rattle.std.specs.Ordering.{eq_by_cmp, is_eq}
use Rattle.std.specs.Cmp.{Equal-is, tied_itself}
use Rattle.std.specs.FinSet as set
use Rattle.std.proofs.lemmas.Option.{slice_get_read, slice_get_past, slice_get_within, same_Some, none-some}
use Rattle.std.proofs.lemmas.Bool.Decides.{nat_tests}
use Rattle.vec_names.specs.declared.tid.Tid.{Tid}
use Rattle.vec_names.specs.Order.{tid_cmp, tid_cmp_total, tid_cmp_exact}
use Rattle.search_sets.proofs.Fronts.{take_more}
use Rattle.search_sets.specs.declared.slots.Slot.{Slot}
use Rattle.search_sets.specs.Slots.{first_slot, places_of, IsUsed, IsOther, Stands, AreOthers, AreEarlier, IsReachedFrom, IsTable, IsSought, set_of, with_slot}

same_numbers : (m n : ℕ) → nat_eq m n ≡ true → m ≡ n
same_numbers m n h = grind (arith, nat_tests)

other_numbers : (m n : ℕ) → nat_eq m n ≡ false → m ≢ n
other_numbers m n h = grind (arith, nat_tests)

not_less : (m n : ℕ) → nat_lt m n ≡ false → n ≤ m
not_less m n h = grind (arith, nat_tests)

pub same_or_not : (j k : ℕ) → (j ≡ k) ⊎ (j ≢ k)
same_or_not zero zero = inl refl
same_or_not zero (suc k) = inr (λ e. omega (arith, e))
same_or_not (suc j) zero = inr (λ e. omega (arith, e))
same_or_not (suc j) (suc k) = elim (same_or_not j k) [ inl e ↦ inl (ap suc e) | inr n ↦ inr (λ e. n (omega (arith, e))) ]

less_or_not : (j k : ℕ) → (j < k) ⊎ (k ≤ j)
less_or_not zero zero = inr (omega arith)
less_or_not zero (suc k) = inl (omega arith)
less_or_not (suc j) zero = inr (omega arith)
less_or_not (suc j) (suc k) = elim (less_or_not j k) [ inl h ↦ inl (omega (arith, h)) | inr h ↦ inr (omega (arith, h)) ]

not_equal : (m n : ℕ) → m < n → nat_eq m n ≡ false
not_equal m n h = grind (arith, nat_tests)

-- ---- one slot

pub used_from : (slots : List Slot) (k round : ℕ) (x : Slot) → k < length slots → x ≡ get_or slots k x → nat_eq (get_or slots k x).round round ≡ true → IsUsed round slots k
used_from slots k round x within is h = record {
  slot = x;
  is = slice_get_read slots (length slots) k x refl within is;
  now = ap (λ (s : Slot). s.round) is ∙ same_numbers (get_or slots k x).round round h;
}

pub unused_from : (slots : List Slot) (k round : ℕ) (x : Slot) → k < length slots → x ≡ get_or slots k x → nat_eq (get_or slots k x).round round ≡ false
    → (s : Slot) → slice_get slots k ≡ Some s → s.round ≢ round
unused_from slots k round x within is h s at now =
    let same : x ≡ s = same_Some x s (sym (slice_get_read slots (length slots) k x refl within is) ∙ at) in
    other_numbers (get_or slots k x).round round h (ap (λ (z : Slot). z.round) (sym is ∙ same) ∙ now)

pub none_past : (slots : List Slot) (k : ℕ) → nat_lt k (length slots) ≡ false → (s : Slot) → slice_get slots k ≡ Some s → ⊥
none_past slots k h s at = none-some s (sym (slice_get_past slots k (not_less k (length slots) h)) ∙ at)

-- ---- the loop of a search

pub other_more : (round : ℕ) (at : Tid) (slots : List Slot) (low k : ℕ) (x : Slot) → k < length slots → x ≡ get_or slots k x → x.round ≡ round → (x.at ≢ at)
    → AreOthers round at slots low k → AreOthers round at slots low (k + 1)
other_more round at slots low k x within is now differs others j from below =
    by_case (same_or_not j k)
  where
    by_case : (j ≡ k) ⊎ (j ≢ k) → IsOther round at slots j
    by_case (inl e) = subst (λ (i : ℕ). IsOther round at slots i) (sym e) (record { used = record { slot = x; is = slice_get_read slots (length slots) k x refl within is; now = now }; differs = differs })
    by_case (inr n) = others j from (omega (arith, below, n))

-- ---- what a table has

or_true : (a b : Bool) → b ≡ true → (a || b) ≡ true
or_true true b h = refl
or_true false b h = h

or_first : (a b : Bool) → a ≡ true → (a || b) ≡ true
or_first true b h = refl
or_first false b h = absurd (cc)

not_true : (b : Bool) → (b ≡ true → ⊥) → b ≡ false
not_true true h = absurd (h refl)
not_true false h = refl

both_ways : (a b : Bool) → (a ≡ true → b ≡ true) → (b ≡ true → a ≡ true) → a ≡ b
both_ways true b f g = sym (f refl)
both_ways false true f g = g refl
both_ways false false f g = refl

abbrev among : List Tid → Tid → Bool
among places t = list_any (eq_by_cmp tid_cmp t) places

itself : (t : Tid) → eq_by_cmp tid_cmp t t ≡ true
itself t = ap is_eq (tied_itself tid_cmp_total t)

same_place : (t u : Tid) → eq_by_cmp tid_cmp t u ≡ true → t ≡ u
same_place t u h = tid_cmp_exact t u ((Equal-is (tid_cmp t u)).0 h)

equal_number : (m n : ℕ) → m ≡ n → nat_eq m n ≡ true
equal_number m n h = grind (arith, nat_tests)

stands_at : (round : ℕ) (t : Tid) (slots : List Slot) (k : ℕ) (s : Slot) → slice_get slots k ≡ Some s → s.round ≡ round → s.at ≡ t → among (places_of round slots) t ≡ true
stands_at round t [] k s is now at = absurd (none-some s is)
stands_at round t (x ∷ xs) zero s is now at =
    let same : x ≡ s = same_Some x s is in
    let used : nat_eq x.round round ≡ true = equal_number x.round round (ap (λ (z : Slot). z.round) same ∙ now) in
    let tied : eq_by_cmp tid_cmp t x.at ≡ true = ap (eq_by_cmp tid_cmp t) (ap (λ (z : Slot). z.at) same ∙ at) ∙ itself t in
    ap (λ (b : Bool). among (cond b (x.at ∷ places_of round xs) (places_of round xs)) t) used ∙ or_first (eq_by_cmp tid_cmp t x.at) (among (places_of round xs) t) tied
stands_at round t (x ∷ xs) (suc k) s is now at = by_test (nat_eq x.round round) (stands_at round t xs k s is now at)
  where
    by_test : (b : Bool) → among (places_of round xs) t ≡ true → among (cond b (x.at ∷ places_of round xs) (places_of round xs)) t ≡ true
    by_test true further = or_true (eq_by_cmp tid_cmp t x.at) (among (places_of round xs) t) further
    by_test false further = further

stands_listed : (round : ℕ) (t : Tid) (slots : List Slot) → Stands round t slots → among (places_of round slots) t ≡ true
stands_listed round t slots s = stands_at round t slots s.k s.used.slot s.used.is s.used.now s.same

later_stands : (round : ℕ) (t : Tid) (x : Slot) (xs : List Slot) → Stands round t xs → Stands round t (x ∷ xs)
later_stands round t x xs s = record { k = suc s.k; used = record { slot = s.used.slot; is = s.used.is; now = s.used.now }; same = s.same }

listed_stands : (round : ℕ) (t : Tid) (slots : List Slot) → among (places_of round slots) t ≡ true → Stands round t slots
listed_stands round t [] h = absurd (cc)
listed_stands round t (x ∷ xs) h = by_round (nat_eq x.round round) refl (listed_stands round t xs) h
  where
    by_place : nat_eq x.round round ≡ true → (b : Bool) → eq_by_cmp tid_cmp t x.at ≡ b → (among (places_of round xs) t ≡ true → Stands round t xs)
        → (b || among (places_of round xs) t) ≡ true → Stands round t (x ∷ xs)
    by_place now true is further h = record { k = zero; used = record { slot = x; is = refl; now = same_numbers x.round round now }; same = sym (same_place t x.at is) }
    by_place now false is further h = later_stands round t x xs (further h)

    by_round : (b : Bool) → nat_eq x.round round ≡ b → (among (places_of round xs) t ≡ true → Stands round t xs)
        → among (cond b (x.at ∷ places_of round xs) (places_of round xs)) t ≡ true → Stands round t (x ∷ xs)
    by_round true now further h = by_place now (eq_by_cmp tid_cmp t x.at) refl further h
    by_round false now further h = later_stands round t x xs (further h)

contains_is : (round : ℕ) (slots : List Slot) (t : Tid) → set.contains (set_of round slots) t ≡ among (places_of round slots) t
contains_is round slots t = set.contains-from_list tid_cmp_total (places_of round slots) t

pub found_there : (mask round : ℕ) (at : Tid) (slots : List Slot) (k : ℕ) → IsSought mask round at slots k → IsUsed round slots k → set.contains (set_of round slots) at ≡ true
found_there mask round at slots k sought u =
    contains_is round slots at ∙ stands_listed round at slots (record { k = k; used = u; same = sought.stop u.slot u.is u.now })

stands_nowhere : (mask round : ℕ) (at : Tid) (slots : List Slot) (k : ℕ) → IsTable mask round slots → IsSought mask round at slots k
    → ((s : Slot) → slice_get slots k ≡ Some s → s.round ≢ round) → Stands round at slots → ⊥
stands_nowhere mask round at slots k t sought free s = by_case (less_or_not s.k k)
  where
    by_case : (s.k < k) ⊎ (k ≤ s.k) → ⊥
    by_case (inl less) =
        let reached = t.reached s.k s.used.slot s.used.is s.used.now in
        let other = sought.others s.k (subst (λ (p : Tid). first_slot mask p ≤ s.k) s.same reached.from) less in
        other.differs (ap (λ (z : Slot). z.at) (same_Some other.used.slot s.used.slot (sym other.used.is ∙ s.used.is)) ∙ s.same)
    by_case (inr least) = elim (same_or_not k s.k) [
      | inl e ↦ free s.used.slot (ap (slice_get slots) e ∙ s.used.is) s.used.now
      | inr n ↦
          let reached = t.reached s.k s.used.slot s.used.is s.used.now in
          let used = reached.over k (subst (λ (p : Tid). first_slot mask p ≤ k) (sym s.same) sought.from) (omega (arith, least, n)) in
          free used.slot used.is used.now
    ]

pub found_nowhere : (mask round : ℕ) (at : Tid) (slots : List Slot) (k : ℕ) → IsTable mask round slots → IsSought mask round at slots k
    → ((s : Slot) → slice_get slots k ≡ Some s → s.round ≢ round) → set.contains (set_of round slots) at ≡ false
found_nowhere mask round at slots k t sought free =
    contains_is round slots at ∙ not_true (among (places_of round slots) at) (λ h. stands_nowhere mask round at slots k t sought free (listed_stands round at slots h))

-- ---- one place more

module _ (mask round : ℕ) (at : Tid) (old now : List Slot) (k : ℕ) (new : Slot) (new_at : new.at ≡ at) (new_now : new.round ≡ round) (t : IsTable mask round old) (sought : IsSought mask round at old k)
    (free : (s : Slot) → slice_get old k ≡ Some s → s.round ≢ round) (here : slice_get now k ≡ Some new)
    (there : (j : ℕ) → (j ≢ k) → slice_get now j ≡ slice_get old j) (longer : length old ≤ length now) where
  used_stays : (j : ℕ) → IsUsed round old j → IsUsed round now j
  used_stays j u = elim (same_or_not j k) [
    | inl e ↦ record { slot = new; is = ap (slice_get now) e ∙ here; now = new_now }
    | inr n ↦ record { slot = u.slot; is = there j n ∙ u.is; now = u.now }
  ]

  pub table_more : IsTable mask round now
  table_more = record {
    masked = omega (arith, t.masked, longer);
    reached = λ j s is round_is. reached j s is round_is (same_or_not j k);
    rounds = λ j s is. rounds j s is (same_or_not j k);
  }
    where
      reached : (j : ℕ) (s : Slot) → slice_get now j ≡ Some s → s.round ≡ round → (j ≡ k) ⊎ (j ≢ k) → IsReachedFrom (first_slot mask s.at) round now j
      reached j s is round_is (inl e) =
          let same : new ≡ s = same_Some new s (sym here ∙ ap (slice_get now) (sym e) ∙ is) in
          subst (λ (p : Tid). IsReachedFrom (first_slot mask p) round now j) (sym new_at ∙ ap (λ (z : Slot). z.at) same)
          (subst (λ (i : ℕ). IsReachedFrom (first_slot mask at) round now i) (sym e) (record { from = sought.from; over = λ i low high. used_stays i (sought.others i low high).used }))
      reached j s is round_is (inr n) =
          let before = t.reached j s (sym (there j n) ∙ is) round_is in
          record { from = before.from; over = λ i low high. used_stays i (before.over i low high) }

      rounds : (j : ℕ) (s : Slot) → slice_get now j ≡ Some s → (j ≡ k) ⊎ (j ≢ k) → s.round ≤ round
      rounds j s is (inl e) =
          let same : new ≡ s = same_Some new s (sym here ∙ ap (slice_get now) (sym e) ∙ is) in
          omega (arith, ap (λ (z : Slot). z.round) same, new_now)
      rounds j s is (inr n) = t.rounds j s (sym (there j n) ∙ is)

  to_old : (q : Tid) → among (places_of round now) q ≡ true → (eq_by_cmp tid_cmp q at || among (places_of round old) q) ≡ true
  to_old q h = by_case (listed_stands round q now h)
    where
      by_place : (s : Stands round q now) → (s.k ≡ k) ⊎ (s.k ≢ k) → (eq_by_cmp tid_cmp q at || among (places_of round old) q) ≡ true
      by_place s (inl e) =
          let same : new ≡ s.used.slot = same_Some new s.used.slot (sym here ∙ ap (slice_get now) (sym e) ∙ s.used.is) in
          let place : at ≡ q = sym new_at ∙ ap (λ (z : Slot). z.at) same ∙ s.same in
          or_first (eq_by_cmp tid_cmp q at) (among (places_of round old) q) (ap (eq_by_cmp tid_cmp q) place ∙ itself q)
      by_place s (inr n) = or_true (eq_by_cmp tid_cmp q at) (among (places_of round old) q) (stands_at round q old s.k s.used.slot (sym (there s.k n) ∙ s.used.is) s.used.now s.same)

      by_case : Stands round q now → (eq_by_cmp tid_cmp q at || among (places_of round old) q) ≡ true
      by_case s = by_place s (same_or_not s.k k)

  to_now : (q : Tid) → (eq_by_cmp tid_cmp q at || among (places_of round old) q) ≡ true → among (places_of round now) q ≡ true
  to_now q h = by_test (eq_by_cmp tid_cmp q at) refl h
    where
      by_stand : Stands round q old → among (places_of round now) q ≡ true
      by_stand s = elim (same_or_not s.k k) [
        | inl e ↦ absurd (free s.used.slot (ap (slice_get old) (sym e) ∙ s.used.is) s.used.now)
        | inr n ↦ stands_at round q now s.k s.used.slot (there s.k n ∙ s.used.is) s.used.now s.same
      ]

      by_test : (b : Bool) → eq_by_cmp tid_cmp q at ≡ b → (b || among (places_of round old) q) ≡ true → among (places_of round now) q ≡ true
      by_test true is h = stands_at round q now k new here new_now (new_at ∙ sym (same_place q at is))
      by_test false is h = by_stand (listed_stands round q old h)

  pub set_more : set_of round now ≡ set.insert (set_of round old) at
  set_more =
      set.same_set tid_cmp_total tid_cmp_exact (set_of round now) (set.insert (set_of round old) at)
      (λ q. contains_is round now q ∙ both_ways (among (places_of round now) q) (eq_by_cmp tid_cmp q at || among (places_of round old) q) (to_old q) (to_now q)
      ∙ ap (λ b. eq_by_cmp tid_cmp q at || b) (sym (contains_is round old q)) ∙ sym (set.contains-insert tid_cmp_total (set_of round old) at q))

-- ---- the lists

pub get_pushed : (xs : List Slot) (v : Slot) → slice_get (xs ++ v ∷ []) (length xs) ≡ Some v
get_pushed [] v = refl
get_pushed (x ∷ xs) v = get_pushed xs v

pub get_before : (xs : List Slot) (v : Slot) (j : ℕ) → (j ≢ length xs) → slice_get (xs ++ v ∷ []) j ≡ slice_get xs j
get_before [] v zero n = absurd (n refl)
get_before [] v (suc j) n = refl
get_before (x ∷ xs) v zero n = refl
get_before (x ∷ xs) v (suc j) n = get_before xs v j (λ e. n (ap suc e))

pub get_written : (xs : List Slot) (k : ℕ) (v : Slot) → k < length xs → slice_get (slice_set xs k v) k ≡ Some v
get_written [] k v h = absurd (omega (arith, h))
get_written (x ∷ xs) zero v h = refl
get_written (x ∷ xs) (suc k) v h = get_written xs k v (omega (arith, h))

pub get_unwritten : (xs : List Slot) (k : ℕ) (v : Slot) (j : ℕ) → (j ≢ k) → slice_get (slice_set xs k v) j ≡ slice_get xs j
get_unwritten [] k v j n = refl
get_unwritten (x ∷ xs) zero v zero n = absurd (n refl)
get_unwritten (x ∷ xs) zero v (suc j) n = refl
get_unwritten (x ∷ xs) (suc k) v zero n = refl
get_unwritten (x ∷ xs) (suc k) v (suc j) n = get_unwritten xs k v j (λ e. n (ap suc e))

length_written : (xs : List Slot) (k : ℕ) (v : Slot) → length (slice_set xs k v) ≡ length xs
length_written [] k v = refl
length_written (x ∷ xs) zero v = refl
length_written (x ∷ xs) (suc k) v = ap suc (length_written xs k v)

-- ---- a new round

pub none_of_round : (round : ℕ) (slots : List Slot) → AreEarlier round slots → places_of round slots ≡ []
none_of_round round [] h = refl
none_of_round round (s ∷ slots) h =
    let earlier : s.round < round = h 0 s refl in
    let no : nat_eq s.round round ≡ false = not_equal s.round round earlier in
    ap (λ (b : Bool). cond b (s.at ∷ places_of round slots) (places_of round slots)) no ∙ none_of_round round slots (λ k t is. h (suc k) t is)

pub new_round : (mask round : ℕ) (slots : List Slot) → mask < length slots → AreEarlier round slots → IsTable mask round slots
new_round mask round slots masked h = record {
  masked = masked;
  reached = λ k s is now. absurd (omega (arith, h k s is, now));
  rounds = λ k s is. omega (arith, h k s is);
}

-- ---- in the words of the code

pub has_it : (mask round : ℕ) (at : Tid) (slots : List Slot) (k : ℕ) (b : Bool) → IsTable mask round slots → IsSought mask round at slots k
    → (b ≡ true → IsUsed round slots k) → (b ≡ false → (s : Slot) → slice_get slots k ≡ Some s → s.round ≢ round) → b ≡ set.contains (set_of round slots) at
has_it mask round at slots k true t sought is isnt = sym (found_there mask round at slots k sought (is refl))
has_it mask round at slots k false t sought is isnt = sym (found_nowhere mask round at slots k t sought (isnt refl))

abbrev slot_at : Tid → ℕ → Slot
slot_at at round = record { at = at; round = round }

module _ (mask round : ℕ) (at : Tid) (items old : List Slot) (e : items ≡ old) (k : ℕ) (t : IsTable mask round old) (sought : IsSought mask round at items k) where
  sought_old : IsSought mask round at old k
  sought_old = subst (λ (l : List Slot). IsSought mask round at l k) e sought

  used_old : IsUsed round items k → IsUsed round old k
  used_old u = subst (λ (l : List Slot). IsUsed round l k) e u

  pub met : IsUsed round items k → set.contains (set_of round old) at ≡ true
  met u = found_there mask round at old k sought_old (used_old u)

  pub met_false : IsUsed round items k → false ≡ not (set.contains (set_of round old) at)
  met_false u = ap not (sym (met u))

  pub met_same : IsUsed round items k → set_of round old ≡ set.insert (set_of round old) at
  met_same u =
      set.same_set tid_cmp_total tid_cmp_exact (set_of round old) (set.insert (set_of round old) at)
      (λ q. both_ways (set.contains (set_of round old) q) (eq_by_cmp tid_cmp q at || set.contains (set_of round old) q) (or_true (eq_by_cmp tid_cmp q at) (set.contains (set_of round old) q)) (back q)
      ∙ sym (set.contains-insert tid_cmp_total (set_of round old) at q))
    where
      back : (q : Tid) → (eq_by_cmp tid_cmp q at || set.contains (set_of round old) q) ≡ true → set.contains (set_of round old) q ≡ true
      back q h = by_test (eq_by_cmp tid_cmp q at) refl h
        where
          by_test : (b : Bool) → eq_by_cmp tid_cmp q at ≡ b → (b || set.contains (set_of round old) q) ≡ true → set.contains (set_of round old) q ≡ true
          by_test true is h = ap (set.contains (set_of round old)) (same_place q at is) ∙ met u
          by_test false is h = h

  module _ (free : (s : Slot) → slice_get items k ≡ Some s → s.round ≢ round) where
    free_old : (s : Slot) → slice_get old k ≡ Some s → s.round ≢ round
    free_old s is = free s (ap (λ l. slice_get l k) e ∙ is)

    pub new_true : true ≡ not (set.contains (set_of round old) at)
    new_true = ap not (sym (found_nowhere mask round at old k t sought_old free_old))

    pub written_table : k < length items → IsTable mask round (slice_set old k (slot_at at round))
    written_table h =
        table_more mask round at old (slice_set old k (slot_at at round)) k (slot_at at round) refl refl t sought_old free_old
        (get_written old k (slot_at at round) (omega (arith, h, ap length e))) (get_unwritten old k (slot_at at round)) (omega (arith, length_written old k (slot_at at round)))

    pub written_set : k < length items → set_of round (slice_set old k (slot_at at round)) ≡ set.insert (set_of round old) at
    written_set h =
        set_more mask round at old (slice_set old k (slot_at at round)) k (slot_at at round) refl refl t sought_old free_old
        (get_written old k (slot_at at round) (omega (arith, h, ap length e))) (get_unwritten old k (slot_at at round)) (omega (arith, length_written old k (slot_at at round)))

    at_end : length items ≤ k → k ≡ length old
    at_end h = omega (arith, h, sought.within, ap length e)

    pub pushed_table : length items ≤ k → IsTable mask round (old ++ slot_at at round ∷ [])
    pushed_table h =
        table_more mask round at old (old ++ slot_at at round ∷ []) k (slot_at at round) refl refl t sought_old free_old
        (ap (slice_get (old ++ slot_at at round ∷ [])) (at_end h) ∙ get_pushed old (slot_at at round)) (λ j n. get_before old (slot_at at round) j (λ q. n (q ∙ sym (at_end h))))
        (omega (arith, length-append old (slot_at at round ∷ [])))

    pub pushed_set : length items ≤ k → set_of round (old ++ slot_at at round ∷ []) ≡ set.insert (set_of round old) at
    pushed_set h =
        set_more mask round at old (old ++ slot_at at round ∷ []) k (slot_at at round) refl refl t sought_old free_old
        (ap (slice_get (old ++ slot_at at round ∷ [])) (at_end h) ∙ get_pushed old (slot_at at round)) (λ j n. get_before old (slot_at at round) j (λ q. n (q ∙ sym (at_end h))))
        (omega (arith, length-append old (slot_at at round ∷ [])))

pub blank_more : (slots : List Slot) (v : Slot) → v.round ≡ 0 → AreEarlier 1 slots → AreEarlier 1 (slots ++ v ∷ [])
blank_more slots v is h k s at = elim (same_or_not k (length slots)) [
  | inl e ↦ omega (arith, is, ap (λ (z : Slot). z.round) (same_Some v s (sym (get_pushed slots v) ∙ ap (slice_get (slots ++ v ∷ [])) (sym e) ∙ at)))
  | inr n ↦ h k s (sym (get_before slots v k n) ∙ at)
]

pub earlier_next : (mask round : ℕ) (slots : List Slot) → IsTable mask round slots → AreEarlier (round + 1) slots
earlier_next mask round slots t k s is = omega (arith, t.rounds k s is)

-- all slots below i are blank
abbrev pub AreBlank : List Slot → ℕ → Type 0
AreBlank slots i = (k : ℕ) (s : Slot) → k < i → slice_get slots k ≡ Some s → s.round < 1

pub blank_next : (slots : List Slot) (i : ℕ) (v : Slot) → i < length slots → v.round ≡ 0 → AreBlank slots i → AreBlank (slice_set slots i v) (i + 1)
blank_next slots i v within is h k s below at = elim (same_or_not k i) [
  | inl e ↦ omega (arith, is, ap (λ (z : Slot). z.round) (same_Some v s (sym (get_written slots i v within) ∙ ap (slice_get (slice_set slots i v)) (sym e) ∙ at)))
  | inr n ↦ h k s (omega (arith, below, n)) (sym (get_unwritten slots i v k n) ∙ at)
]

pub blank_all : (slots : List Slot) (i : ℕ) → length slots ≤ i → AreBlank slots i → AreEarlier 1 slots
blank_all slots i all h k s at = h k s (omega (arith, all, slice_get_within slots k s at)) at

pub empty_round : (round : ℕ) (slots : List Slot) → AreEarlier round slots → set_of round slots ≡ set.empty
empty_round round slots h = ap (set.from_list {R = tid_cmp}) (none_of_round round slots h)

-- ---- a wider table

places_append : (round : ℕ) (xs ys : List Slot) → places_of round (xs ++ ys) ≡ places_of round xs ++ places_of round ys
places_append round [] ys = refl
places_append round (x ∷ xs) ys = by_test (nat_eq x.round round) (places_append round xs ys)
  where
    by_test : (b : Bool) → places_of round (xs ++ ys) ≡ places_of round xs ++ places_of round ys
        → cond b (x.at ∷ places_of round (xs ++ ys)) (places_of round (xs ++ ys)) ≡ cond b (x.at ∷ places_of round xs) (places_of round xs) ++ places_of round ys
    by_test true further = ap (λ l. x.at ∷ l) further
    by_test false further = further

slot_last : (round : ℕ) (s : Slot) (xs : List Slot) → set_of round (xs ++ s ∷ []) ≡ with_slot round s (set_of round xs)
slot_last round s xs = ap (set.from_list {R = tid_cmp}) (places_append round xs (s ∷ [])) ∙ by_test (nat_eq s.round round)
  where
    by_test : (b : Bool) → set.from_list {R = tid_cmp} (places_of round xs ++ cond b (s.at ∷ []) [])
        ≡ cond b (set.insert (set.from_list (places_of round xs)) s.at) (set.from_list (places_of round xs))
    by_test true = set.from_list_push tid_cmp_total tid_cmp_exact (places_of round xs) s.at
    by_test false = ap (set.from_list {R = tid_cmp}) (append-nil (places_of round xs))

pub put_slot_more : (round : ℕ) (slots : List Slot) (i : ℕ) (x : Slot) (old new : set.FinSet tid_cmp) → i < length slots → x ≡ get_or slots i x
    → new ≡ with_slot round x old → old ≡ set_of round (take i slots) → new ≡ set_of round (take (i + 1) slots)
put_slot_more round slots i x old new within is now before =
    now ∙ ap (with_slot round x) before ∙ sym (ap (set_of round) (take_more slots i x within is) ∙ slot_last round x (take i slots))

pub none_wide : (round : ℕ) (slots wide : List Slot) → AreEarlier 1 wide → set_of 1 wide ≡ set_of round (take 0 slots)
none_wide round slots wide h = ap (set.from_list {R = tid_cmp}) (none_of_round 1 wide h)

pub other_round : (round : ℕ) (s : Slot) (places : set.FinSet tid_cmp) → (s.round ≢ round) → places ≡ with_slot round s places
other_round round s places differs = by_test (nat_eq s.round round) refl
  where
    by_test : (b : Bool) → nat_eq s.round round ≡ b → places ≡ cond b (set.insert places s.at) places
    by_test true is = absurd (differs (same_numbers s.round round is))
    by_test false is = refl

pub same_round : (round : ℕ) (s : Slot) (old new : set.FinSet tid_cmp) → s.round ≡ round → new ≡ set.insert old s.at → new ≡ with_slot round s old
same_round round s old new same is =
    is ∙ sym (ap (λ (b : Bool). cond b (set.insert old s.at) old) (equal_number s.round round same))
