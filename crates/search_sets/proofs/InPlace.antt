-- An element that is put in by its key stands where it does in the order of elements.
use Rattle.std.proofs.Common.{◌≡◌, ◌<◌, Bool, true, false, not, cond, List, [], ◌∷◌, ◌++◌, map, refl, sym, ap, ◌∙◌}
use Rattle.std.specs.Prelude.{if◌then◌else◌}
use Rattle.std.specs.List.{AllByRecursion}
use Rattle.std.specs.declared.cmp.Ordering.{Ordering}
use Rattle.std.specs.declared.cmp.Ordering.TheVariants.{Less, Equal, Greater}
use Rattle.std.specs.Ordering.{is_lt, nat_cmp, ordering_then, ordering_reverse}
use Rattle.std.specs.Cmp.{nat_cmp_is}
use Rattle.vec_names.specs.Order.{tid_cmp, tid_cmp_total}
use Rattle.bit_dist.specs.Distances.{dist_cmp}
use Rattle.bit_dist.specs.Orders.{dist_cmp_total}
use Rattle.list_values.specs.Ranking.{placed, ranked}
use Rattle.search_sets.specs.declared.key.Key.{Key}
use Rattle.search_sets.specs.Keys.{is_before, is_nearer}
use Rattle.search_sets.specs.Bests.{Rise}
use Rattle.search_sets.proofs.OneOrder.{placed_first}
use Rattle.search_sets.proofs.Splitting.{all_placed, none_through}

-- ---- two orders of keys

-- of two keys that tie in distance and place, the one of the lower number comes first
pub later_nearer : (a k : Key) → a.index < k.index → is_nearer k a ≡ not (is_before a k)
later_nearer a k later =
    ap (λ (o : Ordering). is_lt (ordering_then o (tid_cmp k.at a.at))) (dist_cmp_total.antisymm k.dist a.dist)
    ∙ ap (λ (o : Ordering). is_lt (ordering_then (ordering_reverse (dist_cmp a.dist k.dist)) o)) (tid_cmp_total.antisymm k.at a.at)
    ∙ by_case (dist_cmp a.dist k.dist) (tid_cmp a.at k.at) (nat_cmp a.index k.index) (nat_cmp a.dist.den k.dist.den)
    (sym (nat_cmp_is a.index k.index Less later))
  where
    by_case : (d t i n : Ordering) → i ≡ Less → is_lt (ordering_then (ordering_reverse d) (ordering_reverse t))
        ≡ not (is_lt (ordering_then d (ordering_then t (ordering_then i n))))
    by_case Less t i n less = refl
    by_case Greater t i n less = refl
    by_case Equal Less i n less = refl
    by_case Equal Greater i n less = refl
    by_case Equal Equal Less n less = refl
    by_case Equal Equal Equal n less = absurd (cc)
    by_case Equal Equal Greater n less = absurd (cc)

pub not_nearer : (y x : Key) → is_before y x ≡ false → is_nearer y x ≡ false
not_nearer y x h = by_case (dist_cmp y.dist x.dist) (tid_cmp y.at x.at) (ordering_then (nat_cmp y.index x.index) (nat_cmp y.dist.den x.dist.den)) h
  where
    by_case : (d t r : Ordering) → is_lt (ordering_then d (ordering_then t r)) ≡ false → is_lt (ordering_then d t) ≡ false
    by_case Less t r h = h
    by_case Greater t r h = refl
    by_case Equal Less r h = h
    by_case Equal Greater r h = refl
    by_case Equal Equal r h = refl

-- ---- the order of what keys stand for

placed_front : {Y : Type 0} (less : Y → Y → Bool) (f : Key → Y) (a : Y) (ys : List Key) → AllByRecursion (λ y. less (f y) a ≡ false) ys
    → placed less a (map f ys) ≡ a ∷ map f ys
placed_front less f a [] none = refl
placed_front less f a (y ∷ ys) none = ap (λ (b : Bool). cond b (f y ∷ placed less a (map f ys)) (a ∷ f y ∷ map f ys)) none.0

-- none is less than one before it
abbrev pub NeverLess : {Y : Type 0} → (Y → Y → Bool) → (Key → Y) → List Key → Type 0
NeverLess less f [] = Unit {0}
NeverLess less f (x ∷ xs) = AllByRecursion (λ y. less (f y) (f x) ≡ false) xs × NeverLess less f xs

pub placed_maps : {Y : Type 0} (less : Y → Y → Bool) (f : Key → Y) (k : Key) (xs : List Key) → Rise xs → NeverLess less f xs
    → AllByRecursion (λ x. less (f k) (f x) ≡ not (is_before x k)) xs → map f (placed is_before k xs) ≡ ranked less (map f xs ++ f k ∷ [])
placed_maps less f k [] rise never last = refl
placed_maps {Y} less f k (x ∷ xs) rise never last = by_test (is_before x k) refl (placed_maps less f k xs rise.1 never.1 last.1)
  where
    by_test : (b : Bool) → is_before x k ≡ b → map f (placed is_before k xs) ≡ ranked less (map f xs ++ f k ∷ [])
        → map f (if b then x ∷ placed is_before k xs else k ∷ x ∷ xs) ≡ placed less (f x) (ranked less (map f xs ++ f k ∷ []))
    by_test true before further =
        sym (ap (placed less (f x)) (sym further)
        ∙ placed_front less f (f x) (placed is_before k xs) (all_placed (λ y. less (f y) (f x) ≡ false) k xs (last.0 ∙ ap not before) never.0))
    by_test false behind further =
        let first : placed is_before k xs ≡ k ∷ xs = placed_first is_before k xs (none_through k x xs behind rise.0) in
        let rest : ranked less (map f xs ++ f k ∷ []) ≡ f k ∷ map f xs = sym further ∙ ap (map f) first in
        sym (ap (placed less (f x)) rest
        ∙ ap (λ (b : Bool). cond b (f k ∷ placed less (f x) (map f xs)) (f x ∷ f k ∷ map f xs)) (last.0 ∙ ap not behind)
        ∙ ap (λ (l : List Y). f k ∷ l) (placed_front less f (f x) xs never.0))

-- what is in order stays so
pub kept_order : {Y : Type 0} (less : Y → Y → Bool) (f : Key → Y) (xs : List Key) → NeverLess less f xs → ranked less (map f xs) ≡ map f xs
kept_order less f [] never = refl
kept_order less f (x ∷ xs) never = ap (placed less (f x)) (kept_order less f xs never.1) ∙ placed_front less f (f x) xs never.0
