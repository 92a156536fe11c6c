-- Which elements an earlier batch knew does not count for the turns of a search.
use Rattle.std.proofs.Common.{◌≡◌, ℕ, ◌+◌, ◌<◌, ◌||◌, not, cond, Bool, true, false, List, [], ◌∷◌, ◌++◌, filter, map, take, drop, zero, suc, length, Option, Some, None, refl, sym, ap, ap₂, subst, ◌∙◌, arith, nat_le, true≢false}
use Rattle.std.specs.List.{AllByRecursion}
use Rattle.std.specs.Ordering.{eq_by_cmp}
use Rattle.std.proofs.lemmas.Bool.Decides.{nat_tests}
use Rattle.vec_names.specs.declared.tid.Tid.{Tid}
use Rattle.vec_names.specs.Order.{tid_cmp}
use Rattle.neighbour_pick.specs.declared.found.Found.{Found}
use Rattle.graph_search.specs.Search.{Start, Turn, elements_of, in_order, is_among, is_done, is_live, is_most, named_in, place_of}
use Rattle.graph_search.specs.Scan.{Held, after_batch, after_turn, is_known_at, is_over}
use Rattle.graph_search.specs.ByHolding.{AreTurnsOf, HoldTheSame, after_turns, batch_of, elements_in}
use Rattle.search_sets.specs.declared.spot.Spot.{Spot}
use Rattle.search_sets.specs.Standing.{known_earlier, spot_of, without_batch}
use Rattle.search_sets.proofs.HeldSo.{take_map}
use Rattle.search_sets.proofs.Mentioned.{unnamed_same}
use Rattle.layer_search.specs.Waiting.{AreApart, AreLong, AreNamedApart, IsSteady, found_held}
use Rattle.layer_search.specs.Telling.{spots_held}
use Rattle.layer_search.proofs.Steadiness.{found_turned, itself, no_first, no_second, same_turned}

-- ---- marks

marked_firsts : (ps : List (Found × Bool)) → map (λ (p : Found × Bool). p.0) (map (λ (p : Found × Bool). (p.0, true)) ps) ≡ map (λ (p : Found × Bool). p.0) ps
marked_firsts [] = refl
marked_firsts (p ∷ ps) = ap (λ (es : List Found). p.0 ∷ es) (marked_firsts ps)

marked_spots : (ps : List (Found × Bool)) → map (λ (p : Found × Bool). spot_of p.0) (map (λ (p : Found × Bool). (p.0, true)) ps)
    ≡ map (λ (p : Found × Bool). spot_of p.0) ps
marked_spots [] = refl
marked_spots (p ∷ ps) = ap (λ (l : List Spot). spot_of p.0 ∷ l) (marked_spots ps)

pub earlier_spots : (h : Held) → spots_held (known_earlier h) ≡ spots_held h
earlier_spots h = ap (λ (l : List Spot). map spot_of h.unexpanded ++ l) (marked_spots h.found)

pub earlier_found : (h : Held) → found_held (known_earlier h) ≡ found_held h
earlier_found h = marked_firsts h.found

pub earlier_steady : (n : ℕ) (h : Held) → IsSteady n h → IsSteady n (known_earlier h)
earlier_steady n h steady = record {
  waiting = steady.waiting;
  found = subst (AreNamedApart h.is_named) (sym (earlier_found h)) steady.found;
  waiting_long = steady.waiting_long;
  found_long = subst (AreLong n) (sym (earlier_found h)) steady.found_long;
}

-- two hold the same, but for which of those that were found are marked
pub record SameUnmarked (g h : Held) : Type 0 where
  pub names : (at : Tid) → g.is_named at ≡ h.is_named at
  pub unexpanded_are : g.unexpanded ≡ h.unexpanded
  pub elements_are : found_held g ≡ found_held h
  pub count_is : g.count ≡ h.count

pub unmarked_same : (g h : Held) → HoldTheSame g h → SameUnmarked g h
unmarked_same g h same = record {
  names = same.names;
  unexpanded_are = same.unexpanded_are;
  elements_are = ap (map (λ (p : Found × Bool). p.0)) same.found_are;
  count_is = same.count_is;
}

pub unmarked_earlier : (g h : Held) → HoldTheSame g h → SameUnmarked (known_earlier g) h
unmarked_earlier g h same = record {
  names = same.names;
  unexpanded_are = same.unexpanded_are;
  elements_are = earlier_found g ∙ ap (map (λ (p : Found × Bool). p.0)) same.found_are;
  count_is = same.count_is;
}

pub unmarked_then : (a b c : Held) → SameUnmarked a b → SameUnmarked b c → SameUnmarked a c
unmarked_then a b c x y = record {
  names = λ at. x.names at ∙ y.names at;
  unexpanded_are = x.unexpanded_are ∙ y.unexpanded_are;
  elements_are = x.elements_are ∙ y.elements_are;
  count_is = x.count_is ∙ y.count_is;
}

-- ---- turns

unmarked_turn : (s : Start) (t : Turn) (g h : Held) → SameUnmarked g h → SameUnmarked (after_turn s t g) (after_turn s t h)
unmarked_turn s t g h same = record {
  names = λ at. ap (λ (b : Bool). b || is_among (named_in t.list) at) (same.names at);
  unexpanded_are = ap (λ (es : List Found). in_order (filter (λ (e : Found). not (eq_by_cmp tid_cmp e.at t.element.at)) es ++ elements_of s.ops s.query t.nodes))
      same.unexpanded_are;
  elements_are = found_turned s t g
      ∙ ap (λ (es : List Found). in_order (es ++ filter is_live (elements_of s.ops s.query t.nodes))) same.elements_are ∙ sym (found_turned s t h);
  count_is = ap (λ (k : ℕ). k + length (elements_of s.ops s.query t.nodes)) same.count_is;
}

pub unmarked_turns : (s : Start) (turns : List Turn) (g h : Held) → SameUnmarked g h → SameUnmarked (after_turns s turns g) (after_turns s turns h)
unmarked_turns s [] g h same = same
unmarked_turns s (t ∷ turns) g h same = unmarked_turns s turns (after_turn s t g) (after_turn s t h) (unmarked_turn s t g h same)

pub unmarked_over : (ef : ℕ) (most : Option ℕ) (g h : Held) → SameUnmarked g h → is_over ef most h ≡ is_over ef most g
unmarked_over ef most g h same =
    ap₂ (λ (found least : List Found). is_done ef found least || is_most most h.count) (sym same.elements_are) (sym same.unexpanded_are)
    ∙ ap (λ (k : ℕ). is_done ef (found_held g) g.unexpanded || is_most most k) (sym same.count_is)

-- a bound that does not end a search does not count
unbounded_goes : (done most : Bool) → (done || most) ≡ false → (done || false) ≡ false
unbounded_goes true most h = absurd (true≢false h)
unbounded_goes false most h = refl

unbounded_ends : (done most : Bool) → (done || most) ≡ true → most ≡ false → (done || false) ≡ true
unbounded_ends true most h few = refl
unbounded_ends false most h few = absurd (true≢false (sym h ∙ few))

pub unmarked_free : (s : Start) (ef : ℕ) (most : Option ℕ) (turns : List Turn) (g h : Held) → SameUnmarked g h → AreTurnsOf s ef most g turns
    → AreTurnsOf s ef None h turns
unmarked_free s ef most [] g h same are = tt
unmarked_free s ef most (t ∷ turns) g h same are = (
  record {
    goes_on = unmarked_over ef None g h same
        ∙ unbounded_goes (is_done ef (found_held g) g.unexpanded) (is_most most g.count) are.0.goes_on;
    rest = are.0.rest;
    least = sym same.unexpanded_are ∙ are.0.least;
    looks = are.0.looks ∙ unnamed_same g.is_named h.is_named same.names (named_in t.list);
  },
  unmarked_free s ef most turns (after_turn s t g) (after_turn s t h) (unmarked_turn s t g h same) are.1,
)

too_few : (max count : ℕ) → count < max → nat_le max count ≡ false
too_few max count h = grind (arith, nat_tests)

pub over_unbounded : (ef max : ℕ) (h : Held) → h.count < max → is_over ef (Some max) h ≡ true → is_over ef None h ≡ true
over_unbounded ef max h few ended =
    unbounded_ends (is_done ef (found_held h) h.unexpanded) (nat_le max h.count) ended (too_few max h.count few)

-- ---- the batch, and what is left

pub unmarked_batch : (ef : ℕ) (g h : Held) → SameUnmarked g h → elements_in (batch_of ef g) ≡ elements_in (batch_of ef h)
unmarked_batch ef g h same =
    sym (take_map (λ (p : Found × Bool). p.0) ef g.found) ∙ ap (take ef) same.elements_are ∙ take_map (λ (p : Found × Bool). p.0) ef h.found

kept_same : {X : Type 0} (f g : X → Bool) (xs : List X) → AllByRecursion (λ x. f x ≡ g x) xs → filter f xs ≡ filter g xs
kept_same f g [] all = refl
kept_same {X} f g (x ∷ xs) all =
    ap₂ (λ (b : Bool) (l : List X). cond b (x ∷ l) l) all.0 (kept_same f g xs all.1)

kept_every : {X : Type 0} (xs : List X) → filter (λ (x : X). true) xs ≡ xs
kept_every [] = refl
kept_every {X} (x ∷ xs) = ap (λ (l : List X). x ∷ l) (kept_every xs)

-- no place of these
abbrev is_none_of : List (Found × Bool) → Found × Bool → Bool
is_none_of taken p = not (is_among (map (λ (q : Found × Bool). place_of q.0) taken) p.0.at)

others_at : (p : Found × Bool) (ps taken : List (Found × Bool)) → is_known_at (map (λ (q : Found × Bool). q.0) ps) p.0.at ≡ false
    → AllByRecursion (λ q. is_none_of (p ∷ taken) q ≡ is_none_of taken q) ps
others_at p [] taken none = tt
others_at p (q ∷ ps) taken none = (
  ap (λ (b : Bool). not (b || is_among (map (λ (r : Found × Bool). place_of r.0) taken) q.0.at))
      (same_turned q.0.at p.0.at
      ∙ no_first (eq_by_cmp tid_cmp p.0.at q.0.at) (is_known_at (map (λ (r : Found × Bool). r.0) ps) p.0.at) none),
  others_at p ps taken (no_second (eq_by_cmp tid_cmp p.0.at q.0.at) (is_known_at (map (λ (r : Found × Bool). r.0) ps) p.0.at) none),
)

-- where each stands at a place of its own, the first ones taken leave those that come after them
left_apart : (n : ℕ) (ps : List (Found × Bool)) → AreApart (map (λ (p : Found × Bool). p.0) ps) → filter (is_none_of (take n ps)) ps ≡ drop n ps
left_apart zero ps apart = kept_every ps
left_apart (suc n) [] apart = refl
left_apart (suc n) (p ∷ ps) apart =
    ap (λ (b : Bool). cond (not (b || is_among (map (λ (r : Found × Bool). place_of r.0) (take n ps)) p.0.at)) (p ∷ filter (is_none_of (p ∷ take n ps)) ps)
    (filter (is_none_of (p ∷ take n ps)) ps)) (itself p.0.at)
    ∙ kept_same (is_none_of (p ∷ take n ps)) (is_none_of (take n ps)) ps (others_at p ps (take n ps) apart.0)
    ∙ left_apart n ps apart.1

pub after_taken : (ef : ℕ) (g h : Held) → AreApart (found_held h) → HoldTheSame g (without_batch ef h) → HoldTheSame (known_earlier g) (after_batch ef h)
after_taken ef g h apart left = record {
  names = left.names;
  unexpanded_are = left.unexpanded_are;
  found_are = ap (map (λ (p : Found × Bool). (p.0, true))) (left.found_are ∙ sym (left_apart ef h.found apart));
  count_is = left.count_is;
}

-- what is left of what holds the same but for marks, is the same
after_marked : (ps : List (Found × Bool)) (places : List Tid)
    → map (λ (p : Found × Bool). (p.0, true)) (filter (λ (p : Found × Bool). not (is_among places p.0.at)) ps)
    ≡ map {B = Found × Bool} (λ (e : Found). (e, true)) (filter (λ (e : Found). not (is_among places e.at)) (map (λ (p : Found × Bool). p.0) ps))
after_marked [] places = refl
after_marked (p ∷ ps) places =
    elim (is_among places p.0.at) as (λ b.
    map (λ (p : Found × Bool). (p.0, true)) (cond (not b) (p ∷ filter (λ (p : Found × Bool). not (is_among places p.0.at)) ps)
    (filter (λ (p : Found × Bool). not (is_among places p.0.at)) ps))
    ≡ map {B = Found × Bool} (λ (e : Found). (e, true)) (cond (not b) (p.0 ∷ filter (λ (e : Found). not (is_among places e.at)) (map (λ (p : Found × Bool). p.0) ps))
    (filter (λ (e : Found). not (is_among places e.at)) (map (λ (p : Found × Bool). p.0) ps)))) [
      | true ↦ after_marked ps places
      | false ↦ ap (λ (l : List (Found × Bool)). (p.0, true) ∷ l) (after_marked ps places)
    ]

places_of : (ps : List (Found × Bool)) → map (λ (q : Found × Bool). place_of q.0) ps ≡ map place_of (map (λ (p : Found × Bool). p.0) ps)
places_of [] = refl
places_of (p ∷ ps) = ap (λ (l : List Tid). p.0.at ∷ l) (places_of ps)

pub unmarked_after : (ef : ℕ) (g h : Held) → SameUnmarked g h → HoldTheSame (after_batch ef g) (after_batch ef h)
unmarked_after ef g h same =
    let places : map (λ (q : Found × Bool). place_of q.0) (take ef g.found) ≡ map (λ (q : Found × Bool). place_of q.0) (take ef h.found) =
    places_of (take ef g.found) ∙ ap (map place_of) (unmarked_batch ef g h same) ∙ sym (places_of (take ef h.found)) in
    record {
      names = same.names;
      unexpanded_are = same.unexpanded_are;
      found_are = after_marked g.found (map (λ (q : Found × Bool). place_of q.0) (take ef g.found))
          ∙ ap₂ (λ (ps : List Tid) (es : List Found). map {B = Found × Bool} (λ (e : Found). (e, true)) (filter (λ (e : Found). not (is_among ps e.at)) es)) places
          same.elements_are
          ∙ sym (after_marked h.found (map (λ (q : Found × Bool). place_of q.0) (take ef h.found)));
      count_is = same.count_is;
    }
