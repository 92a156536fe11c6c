-- What a frontier holds after each of its changes.
use Rattle.std.proofs.Common.{◌≡◌, ℕ, zero, suc, ◌+◌, ◌-◌, ◌<◌, ◌≤◌, ◌^◌, ◌||◌, Bool, true, false, cond, List, [], ◌∷◌, ◌++◌, map, filter, take, drop, length, get_or, slice_get, Option, Some, refl, sym, ap, ap₂, subst, ◌∙◌, arith, length-append, append_assoc, nat_lt}
use Rattle.std.specs.Prelude.{if◌then◌else◌, MatchOption}
use Rattle.std.specs.List.{AllByRecursion}
use Rattle.std.specs.Cmp.{IsStrictWeakOrder}
use Rattle.std.specs.Option.{option_map_or}
use Rattle.std.specs.FinSet as set
use Rattle.std.proofs.lemmas.Bool.Decides.{nat_tests}
use Rattle.std.proofs.lemmas.List.{map-append}
use Rattle.std.proofs.lemmas.List.Elements.{filter-append}
use Rattle.vec_names.specs.declared.tid.Tid.{Tid}
use Rattle.vec_names.specs.Order.{tid_cmp}
use Rattle.list_values.specs.Ranking.{placed, ranked}
use Rattle.list_values.proofs.RankedOrder.{ranked-map}
use Rattle.neighbour_pick.specs.declared.found.Found.{Found}
use Rattle.graph_search.specs.Search.{in_order, is_among, is_done, is_live, place_of, is_before as found_before}
use Rattle.graph_search.specs.Scan.{Held}
use Rattle.graph_search.specs.ByHolding.{HoldTheSame, batch_of}
use Rattle.graph_search.proofs.Ordered.{before_strict}
use Rattle.graph_search.proofs.Merging.{ranked_more}
use Rattle.graph_search.proofs.Onward.{among_both}
use Rattle.search_sets.specs.declared.key.Key.{Key}
use Rattle.search_sets.specs.declared.spot.Spot.{Spot}
use Rattle.search_sets.specs.declared.frontier.Frontier.{Frontier}
use Rattle.search_sets.specs.Keys.{is_before, is_nearer}
use Rattle.search_sets.specs.Bests.{Rise}
use Rattle.search_sets.specs.Naming.{is_past}
use Rattle.search_sets.specs.Standing.{IsKeyOf, IsWhole, TakesLeast, bare, begun_from, element_in, held, holds_nothing, known_earlier, nearer_found, spot_of, wanted, with_elements, with_names, without_batch}
use Rattle.search_sets.proofs.Splitting.{all_placed, rise_placed}
use Rattle.search_sets.proofs.Fronts.{take_more}
use Rattle.search_sets.proofs.Mentioned.{inserted}
use Rattle.search_sets.proofs.Known.{element_new, element_stays, in_order_already, key_new, keys_stay, left_in_order, near_is, new_key, put_in_order}

-- ---- one element more

earlier_flag : (n m : ℕ) → n < m → nat_lt n m ≡ true
earlier_flag n m h = grind (arith, nat_tests)

less_flag : (n m : ℕ) → m ≤ n → nat_lt n m ≡ false
less_flag n m h = grind (arith, nat_tests)

-- the element of a key, with whether an earlier batch knew it
abbrev pub flagged : ℕ → List Found → Key → Found × Bool
flagged earlier known k = (element_in known k, nat_lt k.index earlier)

module _ (f g : Frontier) (e : Found) (w : IsWhole f) (known_is : g.known ≡ f.known ++ e ∷ []) (named_is : g.named ≡ f.named)
    (ahead_is : g.ahead ≡ placed is_before (new_key f.known e) f.ahead)
    (found_is : g.found ≡ (if is_live e then (f.found.0, placed is_before (new_key f.known e) f.found.1) else f.found))
    (earlier_is : g.earlier ≡ f.earlier) where
  found_keys_are : g.found.1 ≡ cond (is_live e) (placed is_before (new_key f.known e) f.found.1) f.found.1
  found_keys_are =
      ap (λ (n : ℕ × List Key). n.1) found_is
      ∙ elim (is_live e) as (λ b. (cond b (f.found.0, placed is_before (new_key f.known e) f.found.1) f.found).1
      ≡ cond b (placed is_before (new_key f.known e) f.found.1) f.found.1) [ true ↦ refl | false ↦ refl ]

  pub added_whole : length f.known + 1 ≤ 2 ^ 32 → IsWhole g
  added_whole few =
      let found_all : AllByRecursion (IsKeyOf (f.known ++ e ∷ [])) (cond (is_live e) (placed is_before (new_key f.known e) f.found.1) f.found.1) =
      elim (is_live e) as (λ b. AllByRecursion (IsKeyOf (f.known ++ e ∷ [])) (cond b (placed is_before (new_key f.known e) f.found.1) f.found.1)) [
        | true ↦ all_placed (IsKeyOf (f.known ++ e ∷ [])) (new_key f.known e) f.found.1 (key_new f.known e) (keys_stay f.known e f.found.1 w.found_keys)
        | false ↦ keys_stay f.known e f.found.1 w.found_keys
      ] in
      let found_rise : Rise (cond (is_live e) (placed is_before (new_key f.known e) f.found.1) f.found.1) =
      elim (is_live e) as (λ b. Rise (cond b (placed is_before (new_key f.known e) f.found.1) f.found.1)) [
        | true ↦ rise_placed (new_key f.known e) f.found.1 w.found_rises
        | false ↦ w.found_rises
      ] in
      let long : length g.known ≡ length f.known + 1 = ap length known_is ∙ length-append f.known (e ∷ []) in
      record {
        ahead_keys = subst (λ (kn : List Found). AllByRecursion (IsKeyOf kn) g.ahead) (sym known_is)
            (subst (λ (ks : List Key). AllByRecursion (IsKeyOf (f.known ++ e ∷ [])) ks) (sym ahead_is)
            (all_placed (IsKeyOf (f.known ++ e ∷ [])) (new_key f.known e) f.ahead (key_new f.known e) (keys_stay f.known e f.ahead w.ahead_keys)));
        ahead_rises = subst Rise (sym ahead_is) (rise_placed (new_key f.known e) f.ahead w.ahead_rises);
        found_keys = subst (λ (kn : List Found). AllByRecursion (IsKeyOf kn) g.found.1) (sym known_is)
            (subst (λ (ks : List Key). AllByRecursion (IsKeyOf (f.known ++ e ∷ [])) ks) (sym found_keys_are) found_all);
        found_rises = subst Rise (sym found_keys_are) found_rise;
        earlier_few = omega (arith, long, earlier_is, w.earlier_few);
        few = omega (arith, long, few);
      }

  unexpanded_so : map (element_in g.known) g.ahead ≡ in_order (map (element_in f.known) f.ahead ++ e ∷ [])
  unexpanded_so =
      ap₂ (λ (kn : List Found) (ks : List Key). map (element_in kn) ks) known_is ahead_is
      ∙ put_in_order f.known e found_before element_in (element_stays f.known e) (near_is (f.known ++ e ∷ [])) f.ahead w.ahead_keys w.ahead_rises
      ∙ ap (λ (z : Found). in_order (map (element_in f.known) f.ahead ++ z ∷ [])) (element_new f.known e)

  flag_stays : (k : Key) → IsKeyOf f.known k → flagged f.earlier (f.known ++ e ∷ []) k ≡ flagged f.earlier f.known k
  flag_stays k i = ap (λ (z : Found). (z, nat_lt k.index f.earlier)) (element_stays f.known e k i)

  found_so : map (flagged g.earlier g.known) g.found.1
      ≡ ranked nearer_found (map (flagged f.earlier f.known) f.found.1 ++ map (λ e. (e, false)) (filter is_live (e ∷ [])))
  found_so =
      let new_flag : flagged f.earlier (f.known ++ e ∷ []) (new_key f.known e) ≡ (e, false) =
      ap₂ (λ (z : Found) (b : Bool). (z, b)) (element_new f.known e) (less_flag (length f.known) f.earlier w.earlier_few) in
      ap (λ (n : ℕ). map (flagged n g.known) g.found.1) earlier_is
      ∙ ap₂ (λ (kn : List Found) (ks : List Key). map (flagged f.earlier kn) ks) known_is found_keys_are
      ∙ elim (is_live e) as (λ b. map (flagged f.earlier (f.known ++ e ∷ [])) (cond b (placed is_before (new_key f.known e) f.found.1) f.found.1)
      ≡ ranked nearer_found (map (flagged f.earlier f.known) f.found.1 ++ map (λ e. (e, false)) (cond b (e ∷ []) []))) [
        | true ↦
            put_in_order f.known e nearer_found (flagged f.earlier) flag_stays (near_is (f.known ++ e ∷ [])) f.found.1 w.found_keys w.found_rises
            ∙ ap (λ (z : Found × Bool). ranked nearer_found (map (flagged f.earlier f.known) f.found.1 ++ z ∷ [])) new_flag
        | false ↦
            left_in_order f.known e nearer_found (flagged f.earlier) flag_stays (near_is (f.known ++ e ∷ [])) f.found.1 w.found_keys w.found_rises
      ]

  pub added_held : HoldTheSame (held g) (with_elements (e ∷ []) (held f))
  added_held = record {
    names = λ at. ap (λ (s : set.FinSet tid_cmp). set.contains s at) named_is;
    unexpanded_are = unexpanded_so;
    found_are = found_so;
    count_is = ap length known_is ∙ length-append f.known (e ∷ []);
  }

-- what is held is in order
pub held_in_order : (f : Frontier) → IsWhole f → HoldTheSame (held f) (with_elements [] (held f))
held_in_order f w = record {
  names = λ at. refl;
  unexpanded_are = in_order_already found_before f.known (element_in f.known) (near_is f.known) f.ahead w.ahead_keys w.ahead_rises;
  found_are = in_order_already nearer_found f.known (flagged f.earlier f.known) (near_is f.known) f.found.1 w.found_keys w.found_rises;
  count_is = omega arith;
}

-- ---- more elements, one after the other

nearer_strict : IsStrictWeakOrder nearer_found
nearer_strict = record {
  one_way = λ p q. before_strict.one_way p.0 q.0;
  chain = λ p q r. before_strict.chain p.0 q.0 r.0;
}

pub elements_then : (es fs : List Found) (h : Held) → HoldTheSame (with_elements fs (with_elements es h)) (with_elements (es ++ fs) h)
elements_then es fs h =
    let flag : Found → Found × Bool = λ e. (e, false) in
    record {
      names = λ at. refl;
      unexpanded_are = ranked_more found_before before_strict (h.unexpanded ++ es) fs ∙ ap in_order (append_assoc h.unexpanded es fs);
      found_are = ranked_more nearer_found nearer_strict (h.found ++ map flag (filter is_live es)) (map flag (filter is_live fs))
          ∙ ap (ranked nearer_found) (append_assoc h.found (map flag (filter is_live es)) (map flag (filter is_live fs))
          ∙ ap (λ (ps : List (Found × Bool)). h.found ++ ps) (sym (map-append flag (filter is_live es) (filter is_live fs))
          ∙ ap (map flag) (sym (filter-append is_live es fs))));
      count_is = omega (arith, length-append es fs);
    }

pub same_elements : (g h : Held) (es : List Found) → HoldTheSame g h → HoldTheSame (with_elements es g) (with_elements es h)
same_elements g h es same = record {
  names = same.names;
  unexpanded_are = ap (λ (xs : List Found). in_order (xs ++ es)) same.unexpanded_are;
  found_are = ap (λ (ps : List (Found × Bool)). ranked nearer_found (ps ++ map (λ e. (e, false)) (filter is_live es))) same.found_are;
  count_is = ap (λ (n : ℕ). n + length es) same.count_is;
}

pub same_names : (g h : Held) (places : List Tid) → HoldTheSame g h → HoldTheSame (with_names places g) (with_names places h)
same_names g h places same = record {
  names = λ at. ap (λ (b : Bool). b || is_among places at) (same.names at);
  unexpanded_are = same.unexpanded_are;
  found_are = same.found_are;
  count_is = same.count_is;
}

pub same_then : (a b c : Held) → HoldTheSame a b → HoldTheSame b c → HoldTheSame a c
same_then a b c x y = record {
  names = λ at. x.names at ∙ y.names at;
  unexpanded_are = x.unexpanded_are ∙ y.unexpanded_are;
  found_are = x.found_are ∙ y.found_are;
  count_is = x.count_is ∙ y.count_is;
}

-- ---- a beginning

pub nothing_begun : (h : Held) → HoldTheSame h holds_nothing → HoldTheSame h (begun_from [])
nothing_begun h same = record { names = same.names; unexpanded_are = same.unexpanded_are; found_are = same.found_are; count_is = same.count_is }

begun_more : (xs : List Found) (e : Found) → HoldTheSame (with_elements (e ∷ []) (with_names (e.at ∷ []) (begun_from xs))) (begun_from (xs ++ e ∷ []))
begun_more xs e =
    let flag : Found → Found × Bool = λ e. (e, false) in
    record {
      names = λ at. sym (ap (λ (ps : List Tid). is_among ps at) (map-append place_of xs (e ∷ [])) ∙ among_both (map place_of xs) (e.at ∷ []) at);
      unexpanded_are = ranked_more found_before before_strict xs (e ∷ []);
      found_are = ap (ranked nearer_found) (sym (map-append flag (in_order (filter is_live xs)) (filter is_live (e ∷ []))))
          ∙ ranked-map flag nearer_found (in_order (filter is_live xs) ++ filter is_live (e ∷ []))
          ∙ ap (map flag) (ranked_more found_before before_strict (filter is_live xs) (filter is_live (e ∷ []))
          ∙ ap in_order (sym (filter-append is_live xs (e ∷ []))));
      count_is = sym (length-append xs (e ∷ []));
    }

pub begun_with : (f g : Held) (xs : List Found) (e : Found) → HoldTheSame f (begun_from xs)
    → HoldTheSame g (with_elements (e ∷ []) (with_names (e.at ∷ []) f)) → HoldTheSame g (begun_from (xs ++ e ∷ []))
begun_with f g xs e before now =
    same_then g (with_elements (e ∷ []) (with_names (e.at ∷ []) f)) (begun_from (xs ++ e ∷ [])) now
    (same_then (with_elements (e ∷ []) (with_names (e.at ∷ []) f)) (with_elements (e ∷ []) (with_names (e.at ∷ []) (begun_from xs))) (begun_from (xs ++ e ∷ []))
    (same_elements (with_names (e.at ∷ []) f) (with_names (e.at ∷ []) (begun_from xs)) (e ∷ []) (same_names f (begun_from xs) (e.at ∷ []) before))
    (begun_more xs e))

-- ---- the end

last_of : (known : List Found) (c : Key) (ks : List Key) (i : ℕ) → IsKeyOf known c → AllByRecursion (IsKeyOf known) ks
    → option_map_or (λ k. is_nearer k c) (slice_get ks i) false ≡ option_map_or (λ e. found_before e (element_in known c)) (slice_get (map (element_in known) ks) i) false
last_of known c [] i ic all = refl
last_of known c (k ∷ ks) zero ic all = sym (near_is known k c all.0 ic)
last_of known c (k ∷ ks) (suc i) ic all = last_of known c ks i ic all.1

pub firsts_of : (known : List Found) (earlier : ℕ) (ks : List Key) → map (λ (p : Found × Bool). p.0) (map (flagged earlier known) ks) ≡ map (element_in known) ks
firsts_of known earlier [] = refl
firsts_of known earlier (k ∷ ks) = ap (λ (es : List Found). element_in known k ∷ es) (firsts_of known earlier ks)

past_so : (known : List Found) (ef : ℕ) (ahead found : List Key) → AllByRecursion (IsKeyOf known) ahead → AllByRecursion (IsKeyOf known) found
    → is_past (slice_get ahead 0) (slice_get found (ef - 1)) ≡ is_done ef (map (element_in known) found) (map (element_in known) ahead)
past_so known ef [] found all others = refl
past_so known ef (c ∷ rest) found all others = last_of known c found (ef - 1) all.0 others

pub over_so : (f : Frontier) → IsWhole f → is_past (slice_get f.ahead 0) (slice_get f.found.1 (f.found.0 - 1))
    ≡ is_done (wanted f) (map (λ (p : Found × Bool). p.0) (held f).found) (held f).unexpanded
over_so f w =
    past_so f.known f.found.0 f.ahead f.found.1 w.ahead_keys w.found_keys
    ∙ ap (λ (es : List Found). is_done f.found.0 es (map (element_in f.known) f.ahead)) (sym (firsts_of f.known f.earlier f.found.1))

pub take_map : {X Y : Type 0} (h : X → Y) (n : ℕ) (xs : List X) → take n (map h xs) ≡ map h (take n xs)
take_map h zero xs = refl
take_map h (suc n) [] = refl
take_map {Y = Y} h (suc n) (x ∷ xs) = ap (λ (z : List Y). h x ∷ z) (take_map h n xs)

pub batch_so : (f : Frontier) → map (λ (p : Found × Bool). p.0) (batch_of (wanted f) (held f)) ≡ map (element_in f.known) (take f.found.0 f.found.1)
batch_so f =
    ap (map (λ (p : Found × Bool). p.0)) (take_map (flagged f.earlier f.known) f.found.0 f.found.1)
    ∙ firsts_of f.known f.earlier (take f.found.0 f.found.1)

-- ---- one that waited

module _ (f g : Frontier) (key : Key) (rest : List Key) (w : IsWhole f) (ahead_was : f.ahead ≡ key ∷ rest) (ahead_is : g.ahead ≡ rest)
    (known_is : g.known ≡ f.known) (named_is : g.named ≡ f.named) (found_is : g.found ≡ f.found) (earlier_is : g.earlier ≡ f.earlier) where
  pub taken_key : IsKeyOf f.known key
  taken_key = (subst (λ (ks : List Key). AllByRecursion (IsKeyOf f.known) ks) ahead_was w.ahead_keys).0

  pub taken_whole : IsWhole g
  taken_whole = record {
    ahead_keys = subst (λ (kn : List Found). AllByRecursion (IsKeyOf kn) g.ahead) (sym known_is)
        (subst (λ (ks : List Key). AllByRecursion (IsKeyOf f.known) ks) (sym ahead_is) (subst (λ (ks : List Key). AllByRecursion (IsKeyOf f.known) ks) ahead_was w.ahead_keys).1);
    ahead_rises = subst Rise (sym ahead_is) (subst Rise ahead_was w.ahead_rises).1;
    found_keys = subst (λ (kn : List Found). AllByRecursion (IsKeyOf kn) g.found.1) (sym known_is)
        (subst (λ (n : ℕ × List Key). AllByRecursion (IsKeyOf f.known) n.1) (sym found_is) w.found_keys);
    found_rises = subst (λ (n : ℕ × List Key). Rise n.1) (sym found_is) w.found_rises;
    earlier_few = omega (arith, ap length known_is, earlier_is, w.earlier_few);
    few = omega (arith, ap length known_is, w.few);
  }

  pub taken_least : (spot : Spot) → spot ≡ spot_of (element_in f.known key) → TakesLeast (held f) (held g) spot
  taken_least spot is = record {
    element = element_in f.known key;
    rest = map (element_in f.known) rest;
    least = ap (map (element_in f.known)) ahead_was;
    is_there = is;
    left = record {
      names = λ at. ap (λ (s : set.FinSet tid_cmp). set.contains s at) named_is;
      unexpanded_are = ap₂ (λ (kn : List Found) (ks : List Key). map (element_in kn) ks) known_is ahead_is;
      found_are = ap₂ (λ (n : ℕ) (kn : List Found). map (flagged n kn) g.found.1) earlier_is known_is
          ∙ ap (λ (n : ℕ × List Key). map (flagged f.earlier f.known) n.1) found_is;
      count_is = ap length known_is;
    };
  }

-- ---- another batch

earlier_flags : (known : List Found) (n : ℕ) (ks : List Key) → AllByRecursion (IsKeyOf known) ks
    → map (flagged (length known) known) ks ≡ map (λ (p : Found × Bool). (p.0, true)) (map (flagged n known) ks)
earlier_flags known n [] all = refl
earlier_flags known n (k ∷ ks) all =
    ap₂ (λ (b : Bool) (ps : List (Found × Bool)). (element_in known k, b) ∷ ps) (earlier_flag k.index (length known) all.0.within)
    (earlier_flags known n ks all.1)

-- where all that is known becomes what an earlier batch knew
module _ (f g : Frontier) (w : IsWhole f) (ahead_is : g.ahead ≡ f.ahead) (known_is : g.known ≡ f.known) (named_is : g.named ≡ f.named)
    (found_is : g.found ≡ f.found) (earlier_is : g.earlier ≡ length f.known) where
  pub begun_held : HoldTheSame (held g) (known_earlier (held f))
  begun_held = record {
    names = λ at. ap (λ (s : set.FinSet tid_cmp). set.contains s at) named_is;
    unexpanded_are = ap₂ (λ (kn : List Found) (ks : List Key). map (element_in kn) ks) known_is ahead_is;
    found_are = ap₂ (λ (n : ℕ) (kn : List Found). map (flagged n kn) g.found.1) earlier_is known_is
        ∙ ap (λ (n : ℕ × List Key). map (flagged (length f.known) f.known) n.1) found_is
        ∙ earlier_flags f.known f.earlier f.found.1 w.found_keys;
    count_is = ap length known_is;
  }

drop_map : {X Y : Type 0} (h : X → Y) (n : ℕ) (xs : List X) → map h (drop n xs) ≡ drop n (map h xs)
drop_map h zero xs = refl
drop_map h (suc n) [] = refl
drop_map h (suc n) (x ∷ xs) = drop_map h n xs

all_drop : (P : Key → Type 0) (n : ℕ) (ks : List Key) → AllByRecursion P ks → AllByRecursion P (drop n ks)
all_drop P zero ks all = all
all_drop P (suc n) [] all = tt
all_drop P (suc n) (k ∷ ks) all = all_drop P n ks all.1

rise_drop : (n : ℕ) (ks : List Key) → Rise ks → Rise (drop n ks)
rise_drop zero ks rise = rise
rise_drop (suc n) [] rise = tt
rise_drop (suc n) (k ∷ ks) rise = rise_drop n ks rise.1

-- where those that are wanted are taken
module _ (f g : Frontier) (w : IsWhole f) (ahead_is : g.ahead ≡ f.ahead) (known_is : g.known ≡ f.known) (named_is : g.named ≡ f.named)
    (found_is : g.found ≡ (f.found.0, drop f.found.0 f.found.1)) (earlier_is : g.earlier ≡ f.earlier) where
  pub left_whole : IsWhole g
  left_whole = record {
    ahead_keys = subst (λ (kn : List Found). AllByRecursion (IsKeyOf kn) g.ahead) (sym known_is)
        (subst (λ (ks : List Key). AllByRecursion (IsKeyOf f.known) ks) (sym ahead_is) w.ahead_keys);
    ahead_rises = subst Rise (sym ahead_is) w.ahead_rises;
    found_keys = subst (λ (kn : List Found). AllByRecursion (IsKeyOf kn) g.found.1) (sym known_is)
        (subst (λ (n : ℕ × List Key). AllByRecursion (IsKeyOf f.known) n.1) (sym found_is)
        (all_drop (IsKeyOf f.known) f.found.0 f.found.1 w.found_keys));
    found_rises = subst (λ (n : ℕ × List Key). Rise n.1) (sym found_is) (rise_drop f.found.0 f.found.1 w.found_rises);
    earlier_few = omega (arith, ap length known_is, earlier_is, w.earlier_few);
    few = omega (arith, ap length known_is, w.few);
  }

  pub left_held : HoldTheSame (held g) (without_batch (wanted f) (held f))
  left_held = record {
    names = λ at. ap (λ (s : set.FinSet tid_cmp). set.contains s at) named_is;
    unexpanded_are = ap₂ (λ (kn : List Found) (ks : List Key). map (element_in kn) ks) known_is ahead_is;
    found_are = ap₂ (λ (n : ℕ) (kn : List Found). map (flagged n kn) g.found.1) earlier_is known_is
        ∙ ap (λ (n : ℕ × List Key). map (flagged f.earlier f.known) n.1) found_is
        ∙ drop_map (flagged f.earlier f.known) f.found.0 f.found.1;
    count_is = ap length known_is;
  }

-- ---- copies of those found

all_take : (P : Key → Type 0) (n : ℕ) (ks : List Key) → AllByRecursion P ks → AllByRecursion P (take n ks)
all_take P zero ks all = tt
all_take P (suc n) [] all = tt
all_take P (suc n) (k ∷ ks) all = (all.0, all_take P n ks all.1)

all_at : (P : Key → Type 0) (ks : List Key) (i : ℕ) (k : Key) → AllByRecursion P ks → i < length ks → k ≡ get_or ks i k → P k
all_at P [] i k all within is = absurd (omega (arith, within))
all_at P (x ∷ ks) zero k all within is = subst P (sym is) all.0
all_at P (x ∷ ks) (suc i) k all within is = all_at P ks i k all.1 (omega (arith, within)) is

any_default : (xs : List Found) (i : ℕ) (a b : Found) → i < length xs → get_or xs i a ≡ get_or xs i b
any_default [] i a b within = absurd (omega (arith, within))
any_default (x ∷ xs) zero a b within = refl
any_default (x ∷ xs) (suc i) a b within = any_default xs i a b (omega (arith, within))

take_short : (ks : List Key) (i : ℕ) → length ks ≤ i → take i ks ≡ ks
take_short [] zero h = refl
take_short [] (suc i) h = refl
take_short (k ∷ ks) zero h = absurd (omega (arith, h))
take_short (k ∷ ks) (suc i) h = ap (λ l. k ∷ l) (take_short ks i (omega (arith, h)))

module _ (f : Frontier) (w : IsWhole f) (items : List Key) (items_are : items ≡ take f.found.0 f.found.1) where
  pub copied_more : (i : ℕ) (key : Key) (known : List Found) (r e : Found) (found new : List Found) → i < length items → key ≡ get_or items i key
      → known ≡ f.known → r ≡ get_or known key.index r → e ≡ r → new ≡ found ++ e ∷ [] → found ≡ map (element_in f.known) (take i items)
      → new ≡ map (element_in f.known) (take (i + 1) items)
  copied_more i key known r e found new within is known_is read copy pushed before =
      let keyed : IsKeyOf f.known key =
      all_at (IsKeyOf f.known) items i key
      (subst (λ (ks : List Key). AllByRecursion (IsKeyOf f.known) ks) (sym items_are) (all_take (IsKeyOf f.known) f.found.0 f.found.1 w.found_keys)) within is in
      let element : e ≡ element_in f.known key =
      copy ∙ read ∙ ap (λ (kn : List Found). get_or kn key.index r) known_is ∙ any_default f.known key.index r (bare key) keyed.within in
      pushed ∙ ap₂ (λ (xs : List Found) (x : Found). xs ++ x ∷ []) before element
      ∙ sym (ap (map (element_in f.known)) (take_more items i key within is) ∙ map-append (element_in f.known) (take i items) (key ∷ []))

  pub copied_all : (i : ℕ) (found : List Found) → length items ≤ i → found ≡ map (element_in f.known) (take i items)
      → found ≡ map (λ (p : Found × Bool). p.0) (batch_of (wanted f) (held f))
  copied_all i found all is = is ∙ ap (map (element_in f.known)) (take_short items i all ∙ items_are) ∙ sym (batch_so f)

-- with whether an earlier batch knew them
module _ (f : Frontier) (items : List Key) (items_are : items ≡ take f.found.0 f.found.1) where
  pub flagged_all : (i : ℕ) (batch : List (Found × Bool)) → length items ≤ i → batch ≡ map (flagged f.earlier f.known) (take i items)
      → batch ≡ batch_of (wanted f) (held f)
  flagged_all i batch all is =
      is ∙ ap (map (flagged f.earlier f.known)) (take_short items i all ∙ items_are)
      ∙ sym (take_map (flagged f.earlier f.known) f.found.0 f.found.1)

pub first_taken : (r : Option Key) (key : Key) (old new : List Key) → r ≡ Some key → MatchOption r ((old ≡ []) × (new ≡ [])) (λ k. old ≡ k ∷ new)
    → old ≡ key ∷ new
first_taken r key old new is m = subst (λ (o : Option Key). MatchOption o ((old ≡ []) × (new ≡ [])) (λ k. old ≡ k ∷ new)) is m

-- ---- in the words of the code

module _ (f g : Frontier) (e : Found) (key : Key) (live : Bool) (w : IsWhole f) (key_is : key ≡ new_key f.known e) (live_is : live ≡ is_live e)
    (known_is : g.known ≡ f.known ++ e ∷ []) (named_is : g.named ≡ f.named) (ahead_is : g.ahead ≡ placed is_before key f.ahead)
    (found_is : g.found ≡ (if live then (f.found.0, placed is_before key f.found.1) else f.found)) (earlier_is : g.earlier ≡ f.earlier) where
  ahead_so : g.ahead ≡ placed is_before (new_key f.known e) f.ahead
  ahead_so = ahead_is ∙ ap (λ (k : Key). placed is_before k f.ahead) key_is

  found_is_so : g.found ≡ (if is_live e then (f.found.0, placed is_before (new_key f.known e) f.found.1) else f.found)
  found_is_so =
      found_is ∙ ap₂ (λ (b : Bool) (k : Key). cond b (f.found.0, placed is_before k f.found.1) f.found) live_is key_is

  pub add_whole : length f.known + 1 ≤ 2 ^ 32 → IsWhole g
  add_whole = added_whole f g e w known_is named_is ahead_so found_is_so earlier_is

  pub add_held : HoldTheSame (held g) (with_elements (e ∷ []) (held f))
  add_held = added_held f g e w known_is named_is ahead_so found_is_so earlier_is

-- ---- places named, and a beginning

pub named_then : (f : Frontier) (n : set.FinSet tid_cmp) (places : List Tid) → ((q : Tid) → set.contains n q ≡ (set.contains f.named q || is_among places q))
    → HoldTheSame (held (record f { named = n })) (with_names places (held f))
named_then f n places is = record { names = is; unexpanded_are = refl; found_are = refl; count_is = refl }

pub begin_more : (f g : Frontier) (n : set.FinSet tid_cmp) (e : Found) → n ≡ set.insert f.named e.at
    → HoldTheSame (held g) (with_elements (e ∷ []) (held (record f { named = n })))
    → HoldTheSame (held g) (with_elements (e ∷ []) (with_names (e.at ∷ []) (held f)))
begin_more f g n e is now =
    same_then (held g) (with_elements (e ∷ []) (held (record f { named = n }))) (with_elements (e ∷ []) (with_names (e.at ∷ []) (held f))) now
    (same_elements (held (record f { named = n })) (with_names (e.at ∷ []) (held f)) (e ∷ [])
    (named_then f n (e.at ∷ []) (λ q. ap (λ (s : set.FinSet tid_cmp). set.contains s q) is ∙ inserted f.named e.at q)))

pub begun_next : (f g : Held) (xs : List Found) (i : ℕ) (e : Found) → i < length xs → e ≡ get_or xs i e → HoldTheSame f (begun_from (take i xs))
    → HoldTheSame g (with_elements (e ∷ []) (with_names (e.at ∷ []) f)) → HoldTheSame g (begun_from (take (i + 1) xs))
begun_next f g xs i e within is before now =
    subst (λ (l : List Found). HoldTheSame g (begun_from l)) (sym (take_more xs i e within is)) (begun_with f g (take i xs) e before now)

pub nothing_held : (f : Frontier) → f.known ≡ [] → f.named ≡ set.empty → f.ahead ≡ [] → f.found.1 ≡ [] → HoldTheSame (held f) holds_nothing
nothing_held f known named ahead found = record {
  names = λ at. ap (λ (s : set.FinSet tid_cmp). set.contains s at) named ∙ set.contains-empty tid_cmp at;
  unexpanded_are = ap (map (element_in f.known)) ahead;
  found_are = ap (map (flagged f.earlier f.known)) found;
  count_is = ap length known;
}
