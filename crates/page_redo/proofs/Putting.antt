-- An item that is put at an offset of a page, and then another one at another offset.
use Rattle.std.proofs.Common.{◌≡◌, ℕ, zero, suc, ◌+◌, ◌-◌, ◌*◌, ◌≤◌, Bool, true, false, ◌&&◌, eqb, List, [], ◌∷◌, ◌++◌, length, Option, Some, None, is_some, refl, sym, ap, ◌∙◌, subst, arith}
use Rattle.std.specs.Prelude.{slice_get, slice_set, nat_le, if◌then◌else◌}
use Rattle.std.proofs.lemmas.Bool.{eqb-true, and_parts}
use Rattle.std.proofs.lemmas.List.{length-append, length-set}
use Rattle.page_bytes.specs.Content.{Content, item_at, round8, free_of, taken}
use Rattle.page_bytes.proofs.Placing.{taken-cons, taken-append}
use Rattle.page_bytes.proofs.Changes.{taken-one}
use Rattle.page_redo.specs.PageTuples.{with_item, added}
use Rattle.page_redo.specs.PageChanges.{when, if_so, put_over, put}
use Rattle.page_redo.specs.OfParts.{may_put}
use Rattle.page_redo.proofs.Others.{given, set_apart}

-- ---- whether it can be put

some_if : {A : Type 0} (a b : Bool) (v : A) → is_some (if_so a (if b then Some v else None)) ≡ (a && b)
some_if true true v = refl
some_if true false v = refl
some_if false b v = refl

some_when : {A : Type 0} (a : Bool) (v : A) → is_some (when a v) ≡ a
some_when true v = refl
some_when false v = refl

may_over : (o : Option (List ℕ)) (off : ℕ) (go : Bool) (x : List ℕ) (c : Content) → is_some (put_over o off go x c) ≡ may_put o off go (length x) (length c.items + 1) (free_of c)
may_over None off go x c = some_if (eqb off (length c.items + 1)) (nat_le (round8 (length x) + 4) (free_of c)) (record c { items = c.items ++ x ∷ [] })
may_over (Some old) off go x c = some_when (go && eqb (length old) (length x)) (with_item c off x)

pub may : (off : ℕ) (go : Bool) (x : List ℕ) (c : Content) → is_some (put off go x c) ≡ may_put (item_at c.items off) off go (length x) (length c.items + 1) (free_of c)
may off go x c = may_over (item_at c.items off) off go x c

-- ---- what the page is then

pub set_here : {X : Type 0} (items : List X) (i : ℕ) (old x : X) → slice_get items i ≡ Some old → slice_get (slice_set items i x) i ≡ Some x
set_here [] i old x is = absurd cc
set_here (y ∷ ys) zero old x is = refl
set_here (y ∷ ys) (suc i) old x is = set_here ys i old x is

some_is : (x y : List ℕ) → Some x ≡ Some y → x ≡ y
some_is x y e = cc

taken_set : (items : List (List ℕ)) (i : ℕ) (old x : List ℕ) → slice_get items i ≡ Some old → length old ≡ length x → taken (slice_set items i x) ≡ taken items
taken_set [] i old x is long = absurd cc
taken_set (y ∷ ys) zero old x is long =
    let same : length x ≡ length y = sym long ∙ ap (λ (l : List ℕ). length l) (sym (some_is y old is)) in
    taken-cons x ys ∙ ap (λ n. round8 n + taken ys) same ∙ sym (taken-cons y ys)
taken_set (y ∷ ys) (suc i) old x is long =
    taken-cons y (slice_set ys i x) ∙ ap (λ n. round8 (length y) + n) (taken_set ys i old x is long) ∙ sym (taken-cons y ys)

at_end : (items : List (List ℕ)) (x : List ℕ) → slice_get (items ++ x ∷ []) (length items) ≡ Some x
at_end [] x = refl
at_end (y ∷ ys) x = at_end ys x

not_at_end : (items : List (List ℕ)) (x : List ℕ) (j : ℕ) → (length items ≡ j → ⊥) → slice_get (items ++ x ∷ []) j ≡ slice_get items j
not_at_end [] x zero apart = absurd (apart refl)
not_at_end [] x (suc j) apart = refl
not_at_end (y ∷ ys) x zero apart = refl
not_at_end (y ∷ ys) x (suc j) apart = not_at_end ys x j (λ e. apart (ap (λ n. suc n) e))

-- the page has the item, so many items more and so much less room, and all other offsets are as they were
pub record IsPut (off : ℕ) (x : List ℕ) (more less : ℕ) (c d : Content) : Type 0 where
  pub kind : d.kind ≡ c.kind
  pub here : item_at d.items off ≡ Some x
  pub apart : (b : ℕ) → (off ≡ b → ⊥) → item_at d.items b ≡ item_at c.items b
  pub count : length d.items ≡ length c.items + more
  pub free : free_of d ≡ free_of c - less

-- the place of an offset in the list
place_of : (items : List (List ℕ)) (off : ℕ) (old : List ℕ) → item_at items off ≡ Some old → (1 ≤ off) × (slice_get items (off - 1) ≡ Some old)
place_of items zero old is = absurd cc
place_of items (suc i) old is = (omega arith, ap (slice_get items) (let back : suc i - 1 ≡ i = omega arith in back) ∙ is)

pub at_place : (items : List (List ℕ)) (off : ℕ) → 1 ≤ off → item_at items off ≡ slice_get items (off - 1)
at_place items zero low = absurd (omega (arith, low))
at_place items (suc i) low = ap (slice_get items) (let back : i ≡ suc i - 1 = omega arith in back)

with_item_apart : (c : Content) (off : ℕ) (x : List ℕ) (b : ℕ) → 1 ≤ off → (off ≡ b → ⊥) → item_at (with_item c off x).items b ≡ item_at c.items b
with_item_apart c off x zero low apart = refl
with_item_apart c off x (suc j) low apart = set_apart c.items (off - 1) j x (λ e. apart (omega (arith, e, low)))

-- whatever the item becomes
pub with_item_others : (c : Content) (off : ℕ) (old x : List ℕ) (b : ℕ) → item_at c.items off ≡ Some old → (off ≡ b → ⊥) → item_at (with_item c off x).items b ≡ item_at c.items b
with_item_others c off old x b is apart = with_item_apart c off x b (place_of c.items off old is).0 apart

pub with_item_here : (c : Content) (off : ℕ) (old x : List ℕ) → item_at c.items off ≡ Some old → item_at (with_item c off x).items off ≡ Some x
with_item_here c off old x is =
    let at = place_of c.items off old is in
    at_place (slice_set c.items (off - 1) x) off at.0 ∙ set_here c.items (off - 1) old x at.1

free_is : (c : Content) → free_of c ≡ 8184 - taken c.items - (24 + 4 * length c.items)
free_is c = refl

pub put_there : (c : Content) (off : ℕ) (old x : List ℕ) → item_at c.items off ≡ Some old → length old ≡ length x → IsPut off x 0 0 c (with_item c off x)
put_there c off old x is long =
    let d = with_item c off x in
    let count : length d.items ≡ length c.items = length-set c.items (off - 1) x in
    let same : taken d.items ≡ taken c.items = taken_set c.items (off - 1) old x (place_of c.items off old is).1 long in
    record {
      kind = refl;
      here = with_item_here c off old x is;
      apart = λ b apart. with_item_others c off old x b is apart;
      count = omega (arith, count);
      free = omega (arith, count, same, free_is c, free_is d);
    }

behind_apart : (items : List (List ℕ)) (x : List ℕ) (b : ℕ) → (suc (length items) ≡ b → ⊥) → item_at (items ++ x ∷ []) b ≡ item_at items b
behind_apart items x zero apart = refl
behind_apart items x (suc j) apart = not_at_end items x j (λ e. apart (ap (λ n. suc n) e))

pub put_behind : (c d : Content) (off : ℕ) (x : List ℕ) → off ≡ suc (length c.items) → d ≡ record c { items = c.items ++ x ∷ [] } → IsPut off x 1 (round8 (length x) + 4) c d
put_behind c d off x at is =
    let long : length d.items ≡ length c.items + 1 = ap (λ (p : Content). length p.items) is ∙ length-append c.items (x ∷ []) in
    let more : taken d.items ≡ taken c.items + round8 (length x) = ap (λ (p : Content). taken p.items) is ∙ taken-append c.items (x ∷ []) ∙ ap (λ n. taken c.items + n) (taken-one x) in
    record {
      kind = ap (λ (p : Content). p.kind) is;
      here = rw (is, at) (at_end c.items x);
      apart = λ b apart. rw is (behind_apart c.items x b (λ e. apart (at ∙ e)));
      count = long;
      free = omega (arith, long, more, free_is c, free_is d);
    }

pub made_there : (off : ℕ) (go : Bool) (old x : List ℕ) (c d : Content) → item_at c.items off ≡ Some old → put off go x c ≡ Some d → IsPut off x 0 0 c d
made_there off go old x c d is made = done (go && eqb (length old) (length x)) refl (ap (λ o. put_over o off go x c) (sym is) ∙ made)
  where
    done : (test : Bool) → (go && eqb (length old) (length x)) ≡ test → when test (with_item c off x) ≡ Some d → IsPut off x 0 0 c d
    done false e made = absurd cc
    done true e made = subst (λ m. IsPut off x 0 0 c m) (given true (with_item c off x) d made) (put_there c off old x is (eqb-true (length old) (length x) (and_parts go (eqb (length old) (length x)) e).1))

pub made_behind : (off : ℕ) (go : Bool) (x : List ℕ) (c d : Content) → item_at c.items off ≡ None → put off go x c ≡ Some d → IsPut off x 1 (round8 (length x) + 4) c d
made_behind off go x c d is made = done (eqb off (length c.items + 1)) refl (ap (λ o. put_over o off go x c) (sym is) ∙ made)
  where
    done : (test : Bool) → eqb off (length c.items + 1) ≡ test → if_so test (added x c) ≡ Some d → IsPut off x 1 (round8 (length x) + 4) c d
    done false e made = absurd cc
    done true e made =
        let next : length c.items + 1 ≡ suc (length c.items) = omega arith in
        put_behind c d off x (eqb-true off (length c.items + 1) e ∙ next) (sym (given (nat_le (round8 (length x) + 4) (free_of c)) (record c { items = c.items ++ x ∷ [] }) d made))

-- in both cases
pub made_apart : (off : ℕ) (go : Bool) (x : List ℕ) (c d : Content) (b : ℕ) → put off go x c ≡ Some d → (off ≡ b → ⊥) → item_at d.items b ≡ item_at c.items b
made_apart off go x c d b made apart = by_item (item_at c.items off) refl
  where
    by_item : (o : Option (List ℕ)) → item_at c.items off ≡ o → item_at d.items b ≡ item_at c.items b
    by_item None is = (made_behind off go x c d is made).apart b apart
    by_item (Some old) is = (made_there off go old x c d is made).apart b apart

pub made_here : (off : ℕ) (go : Bool) (x : List ℕ) (c d : Content) → put off go x c ≡ Some d → item_at d.items off ≡ Some x
made_here off go x c d made = by_item (item_at c.items off) refl
  where
    by_item : (o : Option (List ℕ)) → item_at c.items off ≡ o → item_at d.items off ≡ Some x
    by_item None is = (made_behind off go x c d is made).here
    by_item (Some old) is = (made_there off go old x c d is made).here

pub made_kind : (off : ℕ) (go : Bool) (x : List ℕ) (c d : Content) → put off go x c ≡ Some d → d.kind ≡ c.kind
made_kind off go x c d made = by_item (item_at c.items off) refl
  where
    by_item : (o : Option (List ℕ)) → item_at c.items off ≡ o → d.kind ≡ c.kind
    by_item None is = (made_behind off go x c d is made).kind
    by_item (Some old) is = (made_there off go old x c d is made).kind

-- ---- and then another one

pub may_after : (c d : Content) (off : ℕ) (x : List ℕ) (b : ℕ) (b_go : Bool) (y : List ℕ) (more less : ℕ) → (off ≡ b → ⊥) → IsPut off x more less c d
    → is_some (put b b_go y d) ≡ may_put (item_at c.items b) b b_go (length y) (length c.items + more + 1) (free_of c - less)
may_after c d off x b b_go y more less apart made =
    let next : length d.items + 1 ≡ length c.items + more + 1 = omega (arith, made.count) in
    may b b_go y d
    ∙ ap (λ o. may_put o b b_go (length y) (length d.items + 1) (free_of d)) (made.apart b apart)
    ∙ ap (λ n. may_put (item_at c.items b) b b_go (length y) n (free_of d)) next
    ∙ ap (λ n. may_put (item_at c.items b) b b_go (length y) (length c.items + more + 1) n) made.free
