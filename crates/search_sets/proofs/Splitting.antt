-- The nearest in order, and the others, as one list in order.
use Rattle.std.proofs.Common.{◌≡◌, refl, sym, ap, ◌∙◌, subst, ℕ, ◌+◌, ◌<◌, ◌≤◌, List, [], ◌∷◌, ◌++◌, length, arith, Bool, true, false, append_assoc, length-append, cond, take, drop, get_or, ◌-◌, suc, zero, drop-cons, add-one}
use Rattle.std.specs.Prelude.{if◌then◌else◌}
use Rattle.std.specs.List.{AllByRecursion, insert}
use Rattle.std.proofs.lemmas.List.{take-append-drop}
use Rattle.std.specs.Cmp.{IsStrictWeakOrder}
use Rattle.std.proofs.lemmas.List.Sorted.{IsPermutation-to_front, IsPermutation-sym}
use Rattle.list_values.specs.Ranking.{placed}
use Rattle.search_sets.specs.declared.key.Key.{Key}
use Rattle.search_sets.specs.Keys.{is_before, in_order, key_cmp_total}
use Rattle.search_sets.proofs.ExactKeys.{key_cmp_exact}
use Rattle.search_sets.specs.Bests.{NoneBefore, Rise, HasOthers, IsSplit, place_in}
use Rattle.search_sets.proofs.OneOrder.{placed_first, order_before}
use Rattle.search_sets.proofs.Heaps.{in_order_same, all_in_order}

o : IsStrictWeakOrder is_before
o = order_before key_cmp_total key_cmp_exact

-- ---- all of a list

pub all_append : (P : Key → Type 0) (xs ys : List Key) → AllByRecursion P xs → AllByRecursion P ys → AllByRecursion P (xs ++ ys)
all_append P [] ys a b = b
all_append P (x ∷ xs) ys a b = (a.0, all_append P xs ys a.1 b)

all_front : (P : Key → Type 0) (xs ys : List Key) → AllByRecursion P (xs ++ ys) → AllByRecursion P xs
all_front P [] ys a = tt
all_front P (x ∷ xs) ys a = (a.0, all_front P xs ys a.1)

all_back : (P : Key → Type 0) (xs ys : List Key) → AllByRecursion P (xs ++ ys) → AllByRecursion P ys
all_back P [] ys a = a
all_back P (x ∷ xs) ys a = all_back P xs ys a.1

all_each : (P Q : Key → Type 0) (xs : List Key) → ((x : Key) → P x → Q x) → AllByRecursion P xs → AllByRecursion Q xs
all_each P Q [] f a = tt
all_each P Q (x ∷ xs) f a = (f x a.0, all_each P Q xs f a.1)

pub all_placed : (P : Key → Type 0) (x : Key) (ys : List Key) → P x → AllByRecursion P ys → AllByRecursion P (placed is_before x ys)
all_placed P x [] p a = (p, tt)
all_placed P x (y ∷ ys) p a = by_test (is_before y x) (all_placed P x ys p a.1)
  where
    by_test : (b : Bool) → AllByRecursion P (placed is_before x ys) → AllByRecursion P (if b then y ∷ placed is_before x ys else x ∷ y ∷ ys)
    by_test true further = (a.0, further)
    by_test false further = (p, a)

pub length_placed : (x : Key) (ys : List Key) → length (placed is_before x ys) ≡ length ys + 1
length_placed x [] = refl
length_placed x (y ∷ ys) = by_test (is_before y x) (length_placed x ys)
  where
    by_test : (b : Bool) → length (placed is_before x ys) ≡ length ys + 1 → length (if b then y ∷ placed is_before x ys else x ∷ y ∷ ys) ≡ length (y ∷ ys) + 1
    by_test true further = omega (arith, further)
    by_test false further = omega arith

pub none_through : (x y : Key) (ys : List Key) → is_before y x ≡ false → NoneBefore y ys → NoneBefore x ys
none_through x y ys h none = all_each (λ z. is_before z y ≡ false) (λ z. is_before z x ≡ false) ys (λ z n. o.chain z y x n h) none

pub rise_placed : (x : Key) (ys : List Key) → Rise ys → Rise (placed is_before x ys)
rise_placed x [] r = (tt, tt)
rise_placed x (y ∷ ys) r = by_test (is_before y x) refl (rise_placed x ys r.1)
  where
    by_test : (b : Bool) → is_before y x ≡ b → Rise (placed is_before x ys) → Rise (if b then y ∷ placed is_before x ys else x ∷ y ∷ ys)
    by_test true less further = (all_placed (λ z. is_before z y ≡ false) x ys (o.one_way y x less) r.0, further)
    by_test false not_less further = ((not_less, none_through x y ys not_less r.0), r)

-- ---- places in two lists, one after the other

pub placed_append : (x : Key) (xs ys : List Key) → NoneBefore x ys → placed is_before x (xs ++ ys) ≡ placed is_before x xs ++ ys
placed_append x [] ys none = placed_first is_before x ys none
placed_append x (z ∷ zs) ys none = by_test (is_before z x) (placed_append x zs ys none)
  where
    by_test : (b : Bool) → placed is_before x (zs ++ ys) ≡ placed is_before x zs ++ ys
        → (if b then z ∷ placed is_before x (zs ++ ys) else x ∷ z ∷ (zs ++ ys)) ≡ (if b then z ∷ placed is_before x zs else x ∷ z ∷ zs) ++ ys
    by_test true further = ap (λ l. z ∷ l) further
    by_test false further = refl

pub placed_behind : (x : Key) (xs ys : List Key) → AllByRecursion (λ z. is_before z x ≡ true) xs → placed is_before x (xs ++ ys) ≡ xs ++ placed is_before x ys
placed_behind x [] ys all = refl
placed_behind x (z ∷ zs) ys all =
    ap (λ (b : Bool). cond b (z ∷ placed is_before x (zs ++ ys)) (x ∷ z ∷ (zs ++ ys))) all.0 ∙ ap (λ l. z ∷ l) (placed_behind x zs ys all.1)

pub in_order_more : (x : Key) (xs : List Key) → in_order (xs ++ x ∷ []) ≡ placed is_before x (in_order xs)
in_order_more x xs = in_order_same (x ∷ xs) (xs ++ x ∷ []) (IsPermutation-sym (xs ++ x ∷ []) (x ∷ xs) (IsPermutation-to_front xs x))

-- ---- the last of those in order

rise_front : (xs ys : List Key) → Rise (xs ++ ys) → Rise xs
rise_front [] ys r = tt
rise_front (x ∷ xs) ys r = (all_front (λ z. is_before z x ≡ false) xs ys r.0, rise_front xs ys r.1)

rise_last : (xs : List Key) (last : Key) → Rise (xs ++ last ∷ []) → AllByRecursion (λ z. is_before last z ≡ false) xs
rise_last [] last r = tt
rise_last (x ∷ xs) last r = ((all_back (λ z. is_before z x ≡ false) xs (last ∷ []) r.0).0, rise_last xs last r.1)

-- ---- the three cases

none_others : (most : ℕ) (best rest : List Key) → length best < most → HasOthers most best rest → rest ≡ []
none_others most best [] few h = refl
none_others most best (r ∷ rest) few h = absurd (omega (arith, few, h))

every_none : (xs : List Key) → AllByRecursion (λ x. NoneBefore x []) xs
every_none [] = tt
every_none (x ∷ xs) = (tt, every_none xs)

split_few : (most : ℕ) (best : List Key) (key : Key) → length best < most → IsSplit most best [] → IsSplit most (placed is_before key best) []
split_few most best key few s = record {
  some = s.some;
  within = omega (arith, length_placed key best, few);
  rise = rise_placed key best s.rise;
  below = every_none (placed is_before key best);
  full = tt;
}

pub split_room : (most : ℕ) (best rest : List Key) (key : Key) → length best < most → IsSplit most best rest → IsSplit most (placed is_before key best) rest
split_room most best rest key few s =
    let none : rest ≡ [] = none_others most best rest few s.full in
    subst (λ (l : List Key). IsSplit most (placed is_before key best) l) (sym none)
    (split_few most best key few (subst (λ (l : List Key). IsSplit most best l) none s))

pub whole_room : (most : ℕ) (best rest : List Key) (key : Key) → length best < most → IsSplit most best rest
    → placed is_before key best ++ in_order rest ≡ placed is_before key (best ++ in_order rest)
whole_room most best rest key few s =
    let none : rest ≡ [] = none_others most best rest few s.full in
    sym (placed_append key best (in_order rest) (subst (λ (l : List Key). NoneBefore key (in_order l)) (sym none) tt))

before_through : (z last key : Key) → is_before last z ≡ false → is_before last key ≡ true → is_before z key ≡ true
before_through z last key n b = by_test (is_before z key) refl
  where
    by_test : (t : Bool) → is_before z key ≡ t → is_before z key ≡ true
    by_test true is = is
    by_test false is = absurd (let no : is_before last key ≡ false = o.chain last z key n is in cc)

others_more : (most : ℕ) (best rest : List Key) (x : Key) → length best ≡ most → HasOthers most best (rest ++ x ∷ [])
others_more most best [] x full = full
others_more most best (r ∷ rest) x full = full

others_same : (most : ℕ) (best now rest : List Key) → length now ≡ most → HasOthers most best rest → HasOthers most now rest
others_same most best now [] long h = tt
others_same most best now (r ∷ rest) long h = long

take_all : (xs ys : List Key) (n : ℕ) → length xs ≡ n → take n (xs ++ ys) ≡ xs
take_all [] ys zero e = refl
take_all [] ys (suc n) e = absurd (omega (arith, e))
take_all (x ∷ xs) ys zero e = absurd (omega (arith, e))
take_all (x ∷ xs) ys (suc n) e = ap (λ l. x ∷ l) (take_all xs ys n (omega (arith, e)))

drop_past : (xs : List Key) (n : ℕ) → length xs ≤ n → drop n xs ≡ []
drop_past [] zero h = refl
drop_past [] (suc n) h = refl
drop_past (x ∷ xs) zero h = absurd (omega (arith, h))
drop_past (x ∷ xs) (suc n) h = drop_past xs n (omega (arith, h))

module _ (most : ℕ) (front : List Key) (last : Key) (rest : List Key) (key : Key) (full : length (front ++ last ∷ []) ≡ most) (s : IsSplit most (front ++ last ∷ []) rest) where
  all_before : is_before last key ≡ true → AllByRecursion (λ z. is_before z key ≡ true) (front ++ last ∷ [])
  all_before b =
      all_append (λ z. is_before z key ≡ true) front (last ∷ [])
      (all_each (λ z. is_before last z ≡ false) (λ z. is_before z key ≡ true) front (λ z n. before_through z last key n b) (rise_last front last s.rise)) (b, tt)

  below_more : (x : Key) (xs : List Key) → AllByRecursion (λ z. NoneBefore z rest) xs → AllByRecursion (λ z. is_before x z ≡ false) xs → AllByRecursion (λ z. NoneBefore z (rest ++ x ∷ [])) xs
  below_more x [] a b = tt
  below_more x (z ∷ zs) a b = (all_append (λ y. is_before y z ≡ false) rest (x ∷ []) a.0 (b.0, tt), below_more x zs a.1 b.1)

  pub split_behind : is_before last key ≡ true → IsSplit most (front ++ last ∷ []) (rest ++ key ∷ [])
  split_behind b = record {
    some = s.some;
    within = s.within;
    rise = s.rise;
    below = below_more key (front ++ last ∷ []) s.below (all_each (λ z. is_before z key ≡ true) (λ z. is_before key z ≡ false) (front ++ last ∷ []) (λ z t. o.one_way z key t) (all_before b));
    full = others_more most (front ++ last ∷ []) rest key full;
  }

  pub whole_behind : is_before last key ≡ true → (front ++ last ∷ []) ++ in_order (rest ++ key ∷ []) ≡ placed is_before key ((front ++ last ∷ []) ++ in_order rest)
  whole_behind b =
      ap (λ l. (front ++ last ∷ []) ++ l) (in_order_more key rest) ∙ sym (placed_behind key (front ++ last ∷ []) (in_order rest) (all_before b))

  none_last : NoneBefore last rest
  none_last = (all_back (λ z. NoneBefore z rest) front (last ∷ []) s.below).0

  pub split_within : is_before last key ≡ false → IsSplit most (placed is_before key front) (rest ++ last ∷ [])
  split_within n =
      let long : length (placed is_before key front) ≡ most = omega (arith, length_placed key front, full, length-append front (last ∷ [])) in
      record {
        some = s.some;
        within = omega (arith, long);
        rise = rise_placed key front (rise_front front (last ∷ []) s.rise);
        below = all_placed (λ z. NoneBefore z (rest ++ last ∷ [])) key front
            (all_append (λ y. is_before y key ≡ false) rest (last ∷ []) (none_through key last rest n none_last) (n, tt))
            (below_more last front (all_front (λ z. NoneBefore z rest) front (last ∷ []) s.below) (rise_last front last s.rise));
        full = others_more most (placed is_before key front) rest last long;
      }

  pub whole_within : is_before last key ≡ false → placed is_before key front ++ in_order (rest ++ last ∷ []) ≡ placed is_before key ((front ++ last ∷ []) ++ in_order rest)
  whole_within n =
      ap (λ l. placed is_before key front ++ l) (in_order_more last rest ∙ placed_first is_before last (in_order rest) (all_in_order (λ y. is_before y last ≡ false) rest none_last))
      ∙ sym (placed_append key front (last ∷ in_order rest) (n, all_in_order (λ y. is_before y key ≡ false) rest (none_through key last rest n none_last)))
      ∙ ap (placed is_before key) (sym (append_assoc front (last ∷ []) (in_order rest)))

  pub split_lost : is_before last key ≡ false → IsSplit most (placed is_before key front) rest
  split_lost n =
      let long : length (placed is_before key front) ≡ most = omega (arith, length_placed key front, full, length-append front (last ∷ [])) in
      record {
        some = s.some;
        within = omega (arith, long);
        rise = rise_placed key front (rise_front front (last ∷ []) s.rise);
        below = all_placed (λ z. NoneBefore z rest) key front (none_through key last rest n none_last) (all_front (λ z. NoneBefore z rest) front (last ∷ []) s.below);
        full = others_same most (front ++ last ∷ []) (placed is_before key front) rest long s.full;
      }

  pub cut_within : is_before last key ≡ false → take most (placed is_before key (front ++ last ∷ [])) ≡ placed is_before key front
  cut_within n =
      let long : length (placed is_before key front) ≡ most = omega (arith, length_placed key front, full, length-append front (last ∷ [])) in
      ap (take most) (placed_append key front (last ∷ []) (n, tt)) ∙ take_all (placed is_before key front) (last ∷ []) most long

last_split : (xs : List Key) (n : ℕ) (d : Key) → length xs ≡ n → 1 ≤ n → take (n - 1) xs ++ get_or xs (n - 1) d ∷ [] ≡ xs
last_split xs n d e f =
    let within : n - 1 < length xs = omega (arith, e, f) in
    let past : length xs ≤ suc (n - 1) = omega (arith, e) in
    ap (λ l. take (n - 1) xs ++ l) (sym (drop-cons xs (n - 1) d within ∙ ap (λ l. get_or xs (n - 1) d ∷ l) (drop_past xs (suc (n - 1)) past))) ∙ take-append-drop (n - 1) xs

module _ (most : ℕ) (best rest : List Key) (key last : Key) (many : most ≤ length best) (s : IsSplit most best rest) (is : last ≡ get_or best (most - 1) last) where
  front : List Key
  front = take (most - 1) best

  whole : front ++ last ∷ [] ≡ best
  unfolding front
  whole = ap (λ x. take (most - 1) best ++ x ∷ []) is ∙ last_split best most last (omega (arith, s.within, many)) s.some

  full_front : length (front ++ last ∷ []) ≡ most
  full_front = ap length whole ∙ omega (arith, s.within, many)

  split_front : IsSplit most (front ++ last ∷ []) rest
  split_front = subst (λ (l : List Key). IsSplit most l rest) (sym whole) s

  pub behind_split : is_before last key ≡ true → IsSplit most best (rest ++ key ∷ [])
  behind_split b = subst (λ (l : List Key). IsSplit most l (rest ++ key ∷ [])) whole (split_behind most front last rest key full_front split_front b)

  pub behind_whole : is_before last key ≡ true → best ++ in_order (rest ++ key ∷ []) ≡ placed is_before key (best ++ in_order rest)
  behind_whole b =
      subst (λ (l : List Key). l ++ in_order (rest ++ key ∷ []) ≡ placed is_before key (l ++ in_order rest)) whole (whole_behind most front last rest key full_front split_front b)

  cut : is_before last key ≡ false → placed is_before key front ≡ take most (placed is_before key best)
  cut n = subst (λ (l : List Key). placed is_before key front ≡ take most (placed is_before key l)) whole (sym (cut_within most front last rest key full_front split_front n))

  pub within_split : is_before last key ≡ false → IsSplit most (take most (placed is_before key best)) (rest ++ last ∷ [])
  within_split n = subst (λ (l : List Key). IsSplit most l (rest ++ last ∷ [])) (cut n) (split_within most front last rest key full_front split_front n)

  pub lost_split : is_before last key ≡ false → IsSplit most (take most (placed is_before key best)) rest
  lost_split n = subst (λ (l : List Key). IsSplit most l rest) (cut n) (split_lost most front last rest key full_front split_front n)

  pub within_whole : is_before last key ≡ false → take most (placed is_before key best) ++ in_order (rest ++ last ∷ []) ≡ placed is_before key (best ++ in_order rest)
  within_whole n =
      ap (λ l. l ++ in_order (rest ++ last ∷ [])) (sym (cut n))
      ∙ subst (λ (l : List Key). placed is_before key front ++ in_order (rest ++ last ∷ []) ≡ placed is_before key (l ++ in_order rest)) whole (whole_within most front last rest key full_front split_front n)

-- a place by number
pub insert_place : (x : Key) (ys : List Key) → insert ys (place_in is_before x ys) x ≡ placed is_before x ys
insert_place x [] = refl
insert_place x (y ∷ ys) = by_test (is_before y x) (insert_place x ys)
  where
    by_test : (b : Bool) → insert ys (place_in is_before x ys) x ≡ placed is_before x ys
        → insert (y ∷ ys) (if b then place_in is_before x ys + 1 else 0) x ≡ (if b then y ∷ placed is_before x ys else x ∷ y ∷ ys)
    by_test true further = ap (λ n. insert (y ∷ ys) n x) (add-one (place_in is_before x ys)) ∙ ap (λ l. y ∷ l) further
    by_test false further = refl
