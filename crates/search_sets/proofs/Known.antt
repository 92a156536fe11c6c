-- Keys of known elements, when one more becomes known.
use Rattle.std.proofs.Common.{◌≡◌, ℕ, zero, suc, ◌<◌, Bool, false, not, List, [], ◌∷◌, ◌++◌, map, length, get_or, refl, sym, ap, ap₂, ◌∙◌, arith, length-append, append-nil}
use Rattle.std.specs.List.{AllByRecursion}
use Rattle.std.specs.Ordering.{is_lt, ordering_then}
use Rattle.vec_names.specs.declared.tid.Tid.{Tid}
use Rattle.vec_names.specs.Order.{tid_cmp}
use Rattle.bit_dist.specs.declared.dist.Dist.{Dist}
use Rattle.bit_dist.specs.Distances.{dist_cmp}
use Rattle.list_values.specs.Ranking.{placed, ranked}
use Rattle.neighbour_pick.specs.declared.found.Found.{Found}
use Rattle.graph_search.specs.Search.{is_before as found_before}
use Rattle.search_sets.specs.declared.key.Key.{Key}
use Rattle.search_sets.specs.Keys.{is_before, is_nearer}
use Rattle.search_sets.specs.Bests.{NoneBefore, Rise}
use Rattle.search_sets.specs.Standing.{IsKeyOf, bare, element_in}
use Rattle.search_sets.proofs.InPlace.{NeverLess, kept_order, later_nearer, not_nearer, placed_maps}

-- ---- the order of elements is that of their keys

pub near_is : (known : List Found) (a b : Key) → IsKeyOf known a → IsKeyOf known b
    → found_before (element_in known a) (element_in known b) ≡ is_nearer a b
near_is known a b i j =
    let e : Found = element_in known a in
    let f : Found = element_in known b in
    ap₂ (λ (x y : Dist). is_lt (ordering_then (dist_cmp x y) (tid_cmp e.at f.at))) (sym i.dist) (sym j.dist)
    ∙ ap₂ (λ (x y : Tid). is_lt (ordering_then (dist_cmp a.dist b.dist) (tid_cmp x y))) (sym i.at) (sym j.at)

-- what keys stand for rises as they do
module _ {Y : Type 0} (less : Y → Y → Bool) (known : List Found) (f : Key → Y)
    (less_is : (a b : Key) → IsKeyOf known a → IsKeyOf known b → less (f a) (f b) ≡ is_nearer a b) where
  none_less : (x : Key) (ks : List Key) → IsKeyOf known x → AllByRecursion (IsKeyOf known) ks → NoneBefore x ks
      → AllByRecursion (λ y. less (f y) (f x) ≡ false) ks
  none_less x [] i all none = tt
  none_less x (k ∷ ks) i all none = (less_is k x all.0 i ∙ not_nearer k x none.0, none_less x ks i all.1 none.1)

  pub never_less : (ks : List Key) → AllByRecursion (IsKeyOf known) ks → Rise ks → NeverLess less f ks
  never_less [] all rise = tt
  never_less (k ∷ ks) all rise = (none_less k ks all.0 all.1 rise.0, never_less ks all.1 rise.1)

  -- so they are in order
  pub in_order_already : (ks : List Key) → AllByRecursion (IsKeyOf known) ks → Rise ks → map f ks ≡ ranked less (map f ks ++ [])
  in_order_already ks all rise =
      sym (ap (ranked less) (append-nil (map f ks)) ∙ kept_order less f ks (never_less ks all rise))

-- ---- one more known

grown : (xs : List Found) (e : Found) (i : ℕ) (d : Found) → i < length xs → get_or (xs ++ e ∷ []) i d ≡ get_or xs i d
grown [] e i d within = absurd (omega (arith, within))
grown (x ∷ xs) e zero d within = refl
grown (x ∷ xs) e (suc i) d within = grown xs e i d (omega (arith, within))

last_known : (xs : List Found) (e d : Found) → get_or (xs ++ e ∷ []) (length xs) d ≡ e
last_known [] e d = refl
last_known (x ∷ xs) e d = last_known xs e d

-- the key of an element that comes now
abbrev pub new_key : List Found → Found → Key
new_key known e = record { dist = e.dist; at = e.at; index = length known }

module _ (known : List Found) (e : Found) where
  pub element_stays : (k : Key) → IsKeyOf known k → element_in (known ++ e ∷ []) k ≡ element_in known k
  element_stays k i = grown known e k.index (bare k) i.within

  pub element_new : element_in (known ++ e ∷ []) (new_key known e) ≡ e
  element_new = last_known known e (bare (new_key known e))

  pub key_stays : (k : Key) → IsKeyOf known k → IsKeyOf (known ++ e ∷ []) k
  key_stays k i = record {
    within = omega (arith, i.within, length-append known (e ∷ []));
    dist = i.dist ∙ ap (λ (f : Found). f.dist) (sym (element_stays k i));
    at = i.at ∙ ap (λ (f : Found). f.at) (sym (element_stays k i));
  }

  pub key_new : IsKeyOf (known ++ e ∷ []) (new_key known e)
  key_new = record {
    within = omega (arith, length-append known (e ∷ []));
    dist = ap (λ (f : Found). f.dist) (sym element_new);
    at = ap (λ (f : Found). f.at) (sym element_new);
  }

  pub keys_stay : (ks : List Key) → AllByRecursion (IsKeyOf known) ks → AllByRecursion (IsKeyOf (known ++ e ∷ [])) ks
  keys_stay [] all = tt
  keys_stay (k ∷ ks) all = (key_stays k all.0, keys_stay ks all.1)

  -- ---- elements of keys

  module _ {Y : Type 0} (less : Y → Y → Bool) (f : List Found → Key → Y)
      (stays : (k : Key) → IsKeyOf known k → f (known ++ e ∷ []) k ≡ f known k)
      (less_is : (a b : Key) → IsKeyOf (known ++ e ∷ []) a → IsKeyOf (known ++ e ∷ []) b
      → less (f (known ++ e ∷ []) a) (f (known ++ e ∷ []) b) ≡ is_nearer a b) where
    same_map : (ks : List Key) → AllByRecursion (IsKeyOf known) ks → map (f (known ++ e ∷ [])) ks ≡ map (f known) ks
    same_map [] all = refl
    same_map (k ∷ ks) all = ap₂ (λ (y : Y) (ys : List Y). y ∷ ys) (stays k all.0) (same_map ks all.1)

    last_of_all : (ks : List Key) → AllByRecursion (IsKeyOf known) ks
        → AllByRecursion (λ x. less (f (known ++ e ∷ []) (new_key known e)) (f (known ++ e ∷ []) x) ≡ not (is_before x (new_key known e))) ks
    last_of_all [] all = tt
    last_of_all (k ∷ ks) all = (
      less_is (new_key known e) k key_new (key_stays k all.0) ∙ later_nearer k (new_key known e) all.0.within,
      last_of_all ks all.1,
    )

    pub put_in_order : (ks : List Key) → AllByRecursion (IsKeyOf known) ks → Rise ks
        → map (f (known ++ e ∷ [])) (placed is_before (new_key known e) ks) ≡ ranked less (map (f known) ks ++ f (known ++ e ∷ []) (new_key known e) ∷ [])
    put_in_order ks all rise =
        placed_maps less (f (known ++ e ∷ [])) (new_key known e) ks rise
        (never_less less (known ++ e ∷ []) (f (known ++ e ∷ [])) less_is ks (keys_stay ks all) rise) (last_of_all ks all)
        ∙ ap (λ (ys : List Y). ranked less (ys ++ f (known ++ e ∷ []) (new_key known e) ∷ [])) (same_map ks all)

    pub left_in_order : (ks : List Key) → AllByRecursion (IsKeyOf known) ks → Rise ks
        → map (f (known ++ e ∷ [])) ks ≡ ranked less (map (f known) ks ++ [])
    left_in_order ks all rise =
        in_order_already less (known ++ e ∷ []) (f (known ++ e ∷ [])) less_is ks (keys_stay ks all) rise
        ∙ ap (λ (ys : List Y). ranked less (ys ++ [])) (same_map ks all)
