-- How many centres there are, and how many places each has.
use Rattle.std.proofs.Common.{◌≡◌, refl, sym, ap, ◌∙◌, subst, ℕ, zero, suc, ◌+◌, ◌-◌, ◌*◌, ◌%◌, ◌<◌, ◌≤◌, List, [], ◌∷◌, ◌++◌, length, length-append, get_or, map, replicate, arith}
use Rattle.std.specs.Prelude.{Bool, true, false, nat_lt, if◌then◌else◌}
use Rattle.std.specs.List.{list_any, range_with_len}
use Rattle.std.proofs.lemmas.List.FromFn.{length-range_with_len}
use Rattle.std.proofs.lemmas.List.{length-map, length-replicate}
use Rattle.std.proofs.lemmas.List.Elements.{All-map, All-append, All-cons, All-replicate}
use Rattle.vec_names.specs.declared.params.Params.{Params}
use Rattle.ivf_means.specs.declared.row.Row.{Row}
use Rattle.ivf_means.specs.Places.{greatest_place}
use Rattle.ivf_means.specs.Centres.{values_of, gap, farthest, with_farthest, first_centres, ones_at, recentred, recentred_from, members, after_round}
use Rattle.ivf_means.specs.Working.{HaveLength, RowsHaveLength}

-- so many values, each of so many places
pub record AreOf (count places : ℕ) (values : List (List Bool)) : Type 0 where
  pub count_is : length values ≡ count
  pub long : HaveLength places values

pub are_some : (count places : ℕ) (values taken : List (List Bool)) → AreOf count places values → taken ≡ values → 1 ≤ count → 1 ≤ length taken
are_some count places values taken are same some =
    let long : length taken ≡ length values = ap (λ (vs : List (List Bool)). length vs) same in omega (arith, long, are.count_is, some)

pub are_few : (count places most : ℕ) (values taken : List (List Bool)) → AreOf count places values → taken ≡ values → count ≤ most → length taken ≤ most
are_few count places most values taken are same few =
    let long : length taken ≡ length values = ap (λ (vs : List (List Bool)). length vs) same in omega (arith, long, are.count_is, few)

pub are_long : (count places n : ℕ) (values taken : List (List Bool)) → AreOf count places values → taken ≡ values → n ≡ places → HaveLength n taken
are_long count places n values taken are same is =
    subst (λ (m : ℕ). HaveLength m taken) (sym is) (subst (λ (vs : List (List Bool)). HaveLength places vs) (sym same) are.long)

pub rows_long : (places n : ℕ) (rows : List Row) → RowsHaveLength places rows → n ≡ places → RowsHaveLength n rows
rows_long places n rows long is = subst (λ (m : ℕ). RowsHaveLength m rows) (sym is) long

pub values_long : (places : ℕ) (rows : List Row) → RowsHaveLength places rows → HaveLength places (values_of rows)
values_long places rows long = All-map (λ v. length v ≡ places) (λ (r : Row). r.bits) rows long

all_none : (places : ℕ) → HaveLength places []
all_none places k d low = absurd (omega (arith, low))

all_one : (places : ℕ) (v : List Bool) (vs : List (List Bool)) → length v ≡ places → HaveLength places vs → HaveLength places (v ∷ vs)
all_one places v vs one others = All-cons (λ v. length v ≡ places) v vs one others

-- ---- first centres

zeros_long : (count places : ℕ) → HaveLength places (replicate count (replicate places false))
zeros_long count places = All-replicate (λ v. length v ≡ places) count (replicate places false) (length-replicate places false)

greatest_within : (xs : List ℕ) → 1 ≤ length xs → greatest_place xs < length xs
greatest_within [] some = absurd (omega (arith, some))
greatest_within (x ∷ []) some = omega arith
greatest_within (x ∷ y ∷ ys) some = by_test (list_any (λ z. nat_lt x z) (y ∷ ys)) (greatest_within (y ∷ ys) (omega arith))
  where
    by_test : (t : Bool) → greatest_place (y ∷ ys) < length (y ∷ ys) → (if t then suc (greatest_place (y ∷ ys)) else 0) < length (x ∷ y ∷ ys)
    by_test true low = omega (arith, low)
    by_test false low = omega arith

far_long : (places : ℕ) (values centres : List (List Bool)) → 1 ≤ length values → HaveLength places values → length (farthest values centres) ≡ places
far_long places values centres some long =
    let same : length (map (gap centres) values) ≡ length values = length-map values (gap centres) in
    let within : greatest_place (map (gap centres) values) < length (map (gap centres) values) = greatest_within (map (gap centres) values) (omega (arith, some, same)) in
    long (greatest_place (map (gap centres) values)) [] (omega (arith, within, same))

far_are : (places more count : ℕ) (values centres : List (List Bool)) → 1 ≤ length values → HaveLength places values → AreOf count places centres
    → AreOf (count + more) places (with_farthest more values centres)
far_are places zero count values centres some long are = record { count_is = omega (arith, are.count_is); long = are.long }
far_are places (suc more) count values centres some long are =
    let next = far_are places more (count + 1) values (centres ++ farthest values centres ∷ []) some long (record {
      count_is = omega (arith, length-append centres (farthest values centres ∷ []), are.count_is);
      long = All-append (λ v. length v ≡ places) centres (farthest values centres ∷ []) are.long
          (all_one places (farthest values centres) [] (far_long places values centres some long) (all_none places));
    }) in
    record { count_is = omega (arith, next.count_is); long = next.long }

pub first_are : (params : Params) (word : ℕ) (values : List (List Bool)) → 1 ≤ params.lists → HaveLength params.bits values
    → AreOf params.lists params.bits (first_centres params word values)
first_are params word [] some long = record {
  count_is = length-replicate params.lists (replicate params.bits false);
  long = zeros_long params.lists params.bits;
}
first_are params word (v ∷ vs) some long =
    let k = word % length (v ∷ vs) in
    let within : k < length (v ∷ vs) = omega arith in
    let are = far_are params.bits (params.lists - 1) 1 (v ∷ vs) (get_or (v ∷ vs) k [] ∷ []) (omega arith) long (record {
      count_is = refl;
      long = all_one params.bits (get_or (v ∷ vs) k []) [] (long k [] within) (all_none params.bits);
    }) in
    record { count_is = omega (arith, are.count_is, some); long = are.long }

-- ---- a round

recentred_long : (centre : List Bool) (values : List (List Bool)) → length (recentred centre values) ≡ length centre
recentred_long centre [] = refl
recentred_long centre (v ∷ vs) =
    length-map (range_with_len 0 (length centre)) (λ place. nat_lt (length (v ∷ vs)) (2 * ones_at place (v ∷ vs))) ∙ length-range_with_len 0 (length centre)

moved_count : (list : ℕ) (members_of : ℕ → List (List Bool)) (centres : List (List Bool)) → length (recentred_from list members_of centres) ≡ length centres
moved_count list members_of [] = refl
moved_count list members_of (c ∷ cs) = ap (λ (n : ℕ). suc n) (moved_count (suc list) members_of cs)

moved_long : (places list : ℕ) (members_of : ℕ → List (List Bool)) (centres : List (List Bool)) → HaveLength places centres
    → HaveLength places (recentred_from list members_of centres)
moved_long places list members_of [] long = all_none places
moved_long places list members_of (c ∷ cs) long =
    all_one places (recentred c (members_of list)) (recentred_from (suc list) members_of cs) (recentred_long c (members_of list) ∙ long 0 c (omega arith))
    (moved_long places (suc list) members_of cs (λ k d low. long (suc k) d (omega (arith, low))))

pub round_are : (count places : ℕ) (values centres : List (List Bool)) → AreOf count places centres → AreOf count places (after_round values centres)
round_are count places values centres are = record {
  count_is = moved_count 0 (λ list. members centres list values) centres ∙ are.count_is;
  long = moved_long places 0 (λ list. members centres list values) centres are.long;
}
