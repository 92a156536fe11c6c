-- What a search holds after a batch, and after one turn more.
use Rattle.std.proofs.Common.{◌≡◌, ◌⊎◌, inl, inr, ℕ, zero, suc, ◌+◌, ◌||◌, ◌&&◌, not, cond, Bool, true, false, List, [], ◌∷◌, ◌++◌, filter, map, take, length, None, refl, sym, subst, ap, ap₂, ◌∙◌, append_assoc, true≢false}
use Rattle.std.specs.Cmp.{tied_itself}
use Rattle.std.specs.Ordering.{eq_by_cmp, is_eq}
use Rattle.std.specs.declared.cmp.Ordering.TheVariants.{Less, Equal, Greater}
use Rattle.std.proofs.Math.Bool.{and-true}
use Rattle.std.proofs.lemmas.List.{append-nil, map-append, length-append}
use Rattle.std.proofs.lemmas.List.Elements.{filter_agree, filter-append}
use Rattle.vec_names.specs.declared.tid.Tid.{Tid}
use Rattle.vec_names.specs.Order.{tid_cmp, tid_cmp_total, tid_cmp_exact}
use Rattle.list_values.specs.Ranking.{ranked}
use Rattle.list_values.proofs.RankedOrder.{ranked-map}
use Rattle.neighbour_pick.specs.declared.found.Found.{Found}
use Rattle.neighbour_pick.proofs.Choosing.{All_of, ranked_all}
use Rattle.graph_search.specs.Reads.{Answer, Gone, OfMeta, OfNode, OfList, OfPage}
use Rattle.graph_search.specs.Search.{Start, Turn, Bounds, IsTurn, element_of, elements_of, is_live, is_among, is_before, place_of, known, named, named_in, mentioned, fresh, open_in, found_in, in_order}
use Rattle.graph_search.specs.Scan.{is_known_at, Held, HoldsAfter, after_batch, after_turn, AreNamed}
use Rattle.graph_search.proofs.Ordered.{before_strict}
use Rattle.graph_search.proofs.WhereFrom.{filtered_all, each_all, all_weaker, both_parts}
use Rattle.graph_search.proofs.RowsRead.{among_self, known_both}
use Rattle.graph_search.proofs.Merging.{kept_ranked, ranked_more, filter_twice}

-- ---- places among others

or_moved : (a b c : Bool) → (a || (b || c)) ≡ ((a || b) || c)
or_moved true b c = refl
or_moved false b c = refl

pub among_both : (xs ys : List Tid) (at : Tid) → is_among (xs ++ ys) at ≡ (is_among xs at || is_among ys at)
among_both [] ys at = refl
among_both (x ∷ xs) ys at =
    ap (λ (b : Bool). eq_by_cmp tid_cmp at x || b) (among_both xs ys at) ∙ or_moved (eq_by_cmp tid_cmp at x) (is_among xs at) (is_among ys at)

not_either : (p a b : Bool) → (p && not (a || b)) ≡ ((p && not a) && not b)
not_either true true b = refl
not_either true false b = refl
not_either false a b = refl

-- ---- flags and elements

firsts_of : (earlier es : List Found) → map (λ (p : Found × Bool). p.0) (map (λ (e : Found). (e, is_known_at earlier e.at)) es) ≡ es
firsts_of earlier [] = refl
firsts_of earlier (e ∷ es) = ap (λ (z : List Found). e ∷ z) (firsts_of earlier es)

-- a filter by the element alone
flagged_kept : (earlier : List Found) (keeps : Found → Bool) (es : List Found)
    → filter (λ (p : Found × Bool). keeps p.0) (map (λ (e : Found). (e, is_known_at earlier e.at)) es)
    ≡ map (λ (e : Found). (e, is_known_at earlier e.at)) (filter keeps es)
flagged_kept earlier keeps [] = refl
flagged_kept earlier keeps (e ∷ es) =
    elim (keeps e) as (λ b.
    cond b ((e, is_known_at earlier e.at) ∷ filter (λ (p : Found × Bool). keeps p.0) (map (λ (e : Found). (e, is_known_at earlier e.at)) es))
    (filter (λ (p : Found × Bool). keeps p.0) (map (λ (e : Found). (e, is_known_at earlier e.at)) es))
    ≡ map (λ (e : Found). (e, is_known_at earlier e.at)) (cond b (e ∷ filter keeps es) (filter keeps es))) [
      | true ↦ ap (λ (z : List (Found × Bool)). (e, is_known_at earlier e.at) ∷ z) (flagged_kept earlier keeps es)
      | false ↦ flagged_kept earlier keeps es
    ]

flags_set : (earlier es : List Found) → All_of (λ e. is_known_at earlier e.at ≡ true) es → (before : List Found)
    → map {B = Found × Bool} (λ (p : Found × Bool). (p.0, true)) (map (λ (e : Found). (e, is_known_at before e.at)) es) ≡ map (λ (e : Found). (e, is_known_at earlier e.at)) es
unfolding All_of
flags_set earlier [] all before = refl
flags_set earlier (e ∷ es) all before =
    ap₂ (λ (b : Bool) (z : List (Found × Bool)). (e, b) ∷ z) (sym all.0) (flags_set earlier es all.1 before)

places_of_taken : (earlier : List Found) (n : ℕ) (es : List Found)
    → map (λ (q : Found × Bool). place_of q.0) (take n (map (λ (e : Found). (e, is_known_at earlier e.at)) es)) ≡ map place_of (take n es)
places_of_taken earlier zero es = refl
places_of_taken earlier (suc n) [] = refl
places_of_taken earlier (suc n) (e ∷ es) = ap (λ (z : List Tid). e.at ∷ z) (places_of_taken earlier n es)

-- ---- a batch takes the first of those found

module _ (s : Start) (turns : List Turn) (taken : List Tid) (earlier : List Found) (h : Held) (holds : HoldsAfter s turns taken earlier h) (ef : ℕ) where
  found_then : List Found
  found_then = found_in s (record { ef = 1; taken = taken; most = None }) turns

  pub batch_taken : HoldsAfter s turns (taken ++ map place_of (take ef (map (λ p. p.0) h.found))) (known s turns) (after_batch ef h)
  unfolding found_then
  batch_taken =
      let fs : List Found = found_in s (record { ef = 1; taken = taken; most = None }) turns in
      let flag : Found → Found × Bool = λ e. (e, is_known_at earlier e.at) in
      let b : List Tid = map place_of (take ef fs) in
      let elements : map (λ (p : Found × Bool). p.0) h.found ≡ fs = ap (map (λ (p : Found × Bool). p.0)) holds.found_are ∙ firsts_of earlier fs in
      let places : map (λ (q : Found × Bool). place_of q.0) (take ef h.found) ≡ b =
      ap (λ (ps : List (Found × Bool)). map (λ (q : Found × Bool). place_of q.0) (take ef ps)) holds.found_are ∙ places_of_taken earlier ef fs in
      let keeps : Found → Bool = λ e. is_live e && not (is_among taken e.at) in
      let spared : Found → Bool = λ e. not (is_among (map place_of (take ef fs)) e.at) in
      let left : filter spared fs ≡ found_in s (record { ef = 1; taken = taken ++ map place_of (take ef fs); most = None }) turns =
      kept_ranked is_before before_strict spared (filter keeps (known s turns))
      ∙ ap in_order (filter_twice keeps spared (known s turns)
      ∙ filter_agree (λ (e : Found). keeps e && spared e) (λ (e : Found). is_live e && not (is_among (taken ++ map place_of (take ef fs)) e.at))
      (λ e. sym (ap (λ (c : Bool). is_live e && not c) (among_both taken (map place_of (take ef fs)) e.at)
      ∙ not_either (is_live e) (is_among taken e.at) (is_among (map place_of (take ef fs)) e.at))) (known s turns)) in
      let left_known : All_of (λ e. is_known_at (known s turns) e.at ≡ true) (filter spared fs) =
      filtered_all (λ e. is_known_at (known s turns) e.at ≡ true) spared fs
      (ranked_all (λ e. is_known_at (known s turns) e.at ≡ true) is_before (filter keeps (known s turns))
      (filtered_all (λ e. is_known_at (known s turns) e.at ≡ true) keeps (known s turns)
      (each_all (λ e. is_known_at (known s turns) e.at ≡ true) (known s turns) (λ i e is. among_self (known s turns) i e is)))) in
      let now : map {B = Found × Bool} (λ (p : Found × Bool). (p.0, true)) (filter (λ (p : Found × Bool). not (is_among (map (λ (q : Found × Bool). place_of q.0) (take ef h.found)) p.0.at)) h.found)
      ≡ map (λ (e : Found). (e, is_known_at (known s turns) e.at)) (found_in s (record { ef = 1; taken = taken ++ map place_of (take ef fs); most = None }) turns) =
      ap (λ (ts : List Tid). map {B = Found × Bool} (λ (p : Found × Bool). (p.0, true)) (filter (λ (p : Found × Bool). not (is_among ts p.0.at)) h.found)) places
      ∙ ap (λ (ps : List (Found × Bool)). map {B = Found × Bool} (λ (p : Found × Bool). (p.0, true)) (filter (λ (p : Found × Bool). spared p.0) ps)) holds.found_are
      ∙ ap (map {B = Found × Bool} (λ (p : Found × Bool). (p.0, true))) (flagged_kept earlier spared fs)
      ∙ flags_set (known s turns) (filter spared fs) left_known earlier
      ∙ ap (map (λ (e : Found). (e, is_known_at (known s turns) e.at))) left in
      subst (λ (es : List Found). HoldsAfter s turns (taken ++ map place_of (take ef es)) (known s turns) (after_batch ef h)) (sym elements)
      (record {
        names = holds.names;
        unexpanded_are = holds.unexpanded_are;
        found_are = now;
        count_is = holds.count_is;
      })

-- ---- one turn more

or_nothing : (a b : Bool) → not (a || (b || false)) ≡ (not a && not b)
or_nothing true b = refl
or_nothing false true = refl
or_nothing false false = refl

kept_where : {X : Type 0} (p : X → Bool) (xs : List X) → All_of (λ x. p x ≡ true) xs → filter p xs ≡ xs
unfolding All_of
kept_where p [] all = refl
kept_where p (x ∷ xs) all =
    ap (λ (b : Bool). cond b (x ∷ filter p xs) (filter p xs)) all.0 ∙ ap (λ (z : List _). x ∷ z) (kept_where p xs all.1)

kept_as : {X : Type 0} (p q : X → Bool) (xs : List X) → All_of (λ x. p x ≡ q x) xs → filter p xs ≡ filter q xs
unfolding All_of
kept_as p q [] all = refl
kept_as p q (x ∷ xs) all =
    ap₂ (λ (b : Bool) (z : List _). cond b (x ∷ z) z) all.0 (kept_as p q xs all.1)

flagged_new : (earlier es : List Found) → All_of (λ e. is_known_at earlier e.at ≡ false) es
    → map {B = Found × Bool} (λ (e : Found). (e, is_known_at earlier e.at)) es ≡ map {B = Found × Bool} (λ (e : Found). (e, false)) es
unfolding All_of
flagged_new earlier [] all = refl
flagged_new earlier (e ∷ es) all = ap₂ (λ (b : Bool) (z : List (Found × Bool)). (e, b) ∷ z) all.0 (flagged_new earlier es all.1)

mentioned_both : (xs ys : List Turn) → mentioned (xs ++ ys) ≡ mentioned xs ++ mentioned ys
mentioned_both [] ys = refl
mentioned_both (t ∷ xs) ys =
    ap (λ (z : List Tid). named_in t.list ++ z) (mentioned_both xs ys) ∙ sym (append_assoc (named_in t.list) (mentioned xs) (mentioned ys))

expanded_both : (xs : List Turn) (t : Turn) → map (λ u. u.element.at) (xs ++ t ∷ []) ≡ map (λ u. u.element.at) xs ++ t.element.at ∷ []
expanded_both [] t = refl
expanded_both (u ∷ xs) t = ap (λ (z : List Tid). u.element.at ∷ z) (expanded_both xs t)

or_false : (a b : Bool) → (a || b) ≡ false → a ≡ false
or_false true b is = absurd cc
or_false false b is = refl

-- places that are looked at for the first time were not named
fresh_new : (before places : List Tid) → All_of (λ at. is_among before at ≡ false) (fresh before places)
unfolding All_of
fresh_new before [] = tt
fresh_new before (at ∷ places) =
    elim (is_among before at) as (λ b. is_among before at ≡ b
    → All_of (λ at. is_among before at ≡ false) (cond b (fresh before places) (at ∷ fresh (before ++ at ∷ []) places))) [
      | true ↦ λ _. fresh_new before places
      | false ↦ λ new. (
        new,
        all_weaker (λ q. is_among (before ++ at ∷ []) q ≡ false) (λ q. is_among before q ≡ false) (fresh (before ++ at ∷ []) places)
            (λ q none. or_false (is_among before q) (is_among (at ∷ []) q) (sym (among_both before (at ∷ []) q) ∙ none)) (fresh_new (before ++ at ∷ []) places),
      )
    ] refl

told_at : (P : Tid → Type 0) (s : Start) (at : Tid) (told : Answer) → P at → All_of (λ e. P e.at) (element_of s.ops s.query at told)
unfolding All_of
told_at P s at Gone p = tt
told_at P s at (OfMeta entry level hint blocks) p = tt
told_at P s at (OfNode level version list_at ids bits) p = (p, tt)
told_at P s at (OfList slots) p = tt
told_at P s at (OfPage nodes) p = tt

told_all : (P : Tid → Type 0) (s : Start) (nodes : List (Tid × Answer)) → All_of P (map (λ n. n.0) nodes)
    → All_of (λ e. P e.at) (elements_of s.ops s.query nodes)
unfolding All_of
told_all P s [] all = tt
told_all P s (n ∷ nodes) all =
    both_parts (λ e. P e.at) (element_of s.ops s.query n.0 n.1) (elements_of s.ops s.query nodes) (told_at P s n.0 n.1 all.0) (told_all P s nodes all.1)

either_true : (a b : Bool) → (a || (b || false)) ≡ true → (a ≡ true) ⊎ (b ≡ true)
either_true true b is = inl refl
either_true false true is = inr refl
either_true false false is = absurd cc

same_place : (x y : Tid) → eq_by_cmp tid_cmp x y ≡ true → x ≡ y
same_place x y is =
    elim (tid_cmp x y) as (λ r. tid_cmp x y ≡ r → is_eq r ≡ true → x ≡ y) [
      | Less ↦ λ _ less. absurd (true≢false (sym less))
      | Equal ↦ λ equal _. tid_cmp_exact x y equal
      | Greater ↦ λ _ less. absurd (true≢false (sym less))
    ] refl is

either : (a b : Bool) → (a || b) ≡ true → (a ≡ true) ⊎ (b ≡ true)
either true b is = inl refl
either false b is = inr is

or_true : (a : Bool) → (a || true) ≡ true
or_true true = refl
or_true false = refl

itself : (x : Tid) → eq_by_cmp tid_cmp x x ≡ true
itself x = ap is_eq (tied_itself tid_cmp_total x)

-- what all elements have at their places, each place among them has
place_has : (P : Tid → Type 0) (es : List Found) (at : Tid) → All_of (λ e. P e.at) es → is_known_at es at ≡ true → P at
unfolding All_of
place_has P [] at all so = absurd (true≢false (sym so))
place_has P (e ∷ es) at all so =
    elim (either (eq_by_cmp tid_cmp at e.at) (is_known_at es at) so) as (λ _. P at) [
      | inl here ↦ subst P (sym (same_place at e.at here)) all.0
      | inr there ↦ place_has P es at all.1 there
    ]

fresh_among : (P : Tid → Type 0) (before places : List Tid) → All_of P places → All_of P (fresh before places)
unfolding All_of
fresh_among P before [] all = tt
fresh_among P before (at ∷ places) all =
    elim (is_among before at) as (λ b. All_of P (cond b (fresh before places) (at ∷ fresh (before ++ at ∷ []) places))) [
      | true ↦ fresh_among P before places all.1
      | false ↦ (all.0, fresh_among P (before ++ at ∷ []) places all.1)
    ]

each_among : (places : List Tid) → All_of (λ at. is_among places at ≡ true) places
unfolding All_of
each_among [] = tt
each_among (x ∷ xs) = (
  ap (λ (c : Bool). c || is_among xs x) (itself x),
  all_weaker (λ at. is_among xs at ≡ true) (λ at. is_among (x ∷ xs) at ≡ true) xs
      (λ at so. ap (λ (c : Bool). eq_by_cmp tid_cmp at x || c) so ∙ or_true (eq_by_cmp tid_cmp at x)) (each_among xs),
)

all_front : {X : Type 0} (P : X → Type 0) (n : ℕ) (xs : List X) → All_of P xs → All_of P (take n xs)
unfolding All_of
all_front P zero xs all = tt
all_front P (suc n) [] all = tt
all_front P (suc n) (x ∷ xs) all = (all.0, all_front P n xs all.1)

not_true : (a : Bool) → (a ≡ true → ⊥) → a ≡ false
not_true true never = absurd (never refl)
not_true false never = refl

module _ (s : Start) (b : Bounds) (turns : List Turn) (t : Turn) (taken : List Tid) (earlier : List Found)
    (are : AreNamed s turns taken earlier) (turn : IsTurn s b turns t) where
  -- no element that the turn told stood at a place named before
  told_new : All_of (λ e. is_among (named s turns) e.at ≡ false) (elements_of s.ops s.query t.nodes)
  told_new =
      told_all (λ at. is_among (named s turns) at ≡ false) s t.nodes
      (subst (λ (places : List Tid). All_of (λ at. is_among (named s turns) at ≡ false) places) (sym turn.looks) (fresh_new (named s turns) (named_in t.list)))

  -- so it is none of those that only named places have
  told_not : (is : Tid → Bool) → ((at : Tid) → is at ≡ true → is_among (named s turns) at ≡ true)
      → All_of (λ e. is e.at ≡ false) (elements_of s.ops s.query t.nodes)
  told_not is named_if =
      all_weaker (λ e. is_among (named s turns) e.at ≡ false) (λ e. is e.at ≡ false) (elements_of s.ops s.query t.nodes)
      (λ e new. not_true (is e.at) (λ so. true≢false (sym (named_if e.at so) ∙ new))) told_new

  element_known : is_known_at (known s turns) t.element.at ≡ true
  unfolding All_of
  element_known =
      let P : Found → Type 0 = λ e. is_known_at (known s turns) e.at ≡ true in
      let p : Found → Bool = λ e. not (is_among (map (λ u. u.element.at) turns) e.at) in
      (subst (λ (es : List Found). All_of (λ e. is_known_at (known s turns) e.at ≡ true) es) turn.least
      (ranked_all P is_before (filter p (known s turns))
      (filtered_all P p (known s turns) (each_all P (known s turns) (λ i e is. among_self (known s turns) i e is))))).0

  same_named : (at : Tid) → eq_by_cmp tid_cmp at t.element.at ≡ true → is_among (named s turns) at ≡ true
  same_named at same =
      subst (λ (q : Tid). is_among (named s turns) q ≡ true) (sym (same_place at t.element.at same)) (are.known_are t.element.at element_known)

  known_now : known s (turns ++ t ∷ []) ≡ known s turns ++ elements_of s.ops s.query t.nodes
  known_now = known_both s turns (t ∷ []) ∙ ap (λ (z : List Found). known s turns ++ z) (append-nil (elements_of s.ops s.query t.nodes))

  names_now : (at : Tid) → is_among (named s (turns ++ t ∷ [])) at ≡ (is_among (named s turns) at || is_among (named_in t.list) at)
  names_now at =
      ap (λ (z : List Tid). is_among z at)
      (ap (λ (z : List Tid). map place_of s.from ++ z) (mentioned_both turns (t ∷ []) ∙ ap (λ (z : List Tid). mentioned turns ++ z) (append-nil (named_in t.list)))
      ∙ sym (append_assoc (map place_of s.from) (mentioned turns) (named_in t.list)))
      ∙ among_both (named s turns) (named_in t.list) at

  expanded_named : (at : Tid) → is_among (map (λ u. u.element.at) (turns ++ t ∷ [])) at ≡ true → is_among (named s turns) at ≡ true
  expanded_named at so =
      elim (either_true (is_among (map (λ u. u.element.at) turns) at) (eq_by_cmp tid_cmp at t.element.at)
      (sym (ap (λ (ps : List Tid). is_among ps at) (expanded_both turns t) ∙ among_both (map (λ u. u.element.at) turns) (t.element.at ∷ []) at) ∙ so)) as
      (λ _. is_among (named s turns) at ≡ true) [
        | inl before ↦ are.expanded_are at before
        | inr now ↦ same_named at now
      ]

  -- ---- what is named stays so

  still_named : (at : Tid) → is_among (named s turns) at ≡ true → is_among (named s (turns ++ t ∷ [])) at ≡ true
  still_named at so = names_now at ∙ ap (λ (c : Bool). c || is_among (named_in t.list) at) so

  told_named : All_of (λ e. is_among (named_in t.list) e.at ≡ true) (elements_of s.ops s.query t.nodes)
  told_named =
      told_all (λ at. is_among (named_in t.list) at ≡ true) s t.nodes
      (subst (λ (places : List Tid). All_of (λ at. is_among (named_in t.list) at ≡ true) places) (sym turn.looks)
      (fresh_among (λ at. is_among (named_in t.list) at ≡ true) (named s turns) (named_in t.list) (each_among (named_in t.list))))

  known_named : (at : Tid) → is_known_at (known s (turns ++ t ∷ [])) at ≡ true → is_among (named s (turns ++ t ∷ [])) at ≡ true
  known_named at so =
      let told : List Found = elements_of s.ops s.query t.nodes in
      elim (either (is_known_at (known s turns) at) (is_known_at told at)
      (sym (ap (λ (es : List Found). is_known_at es at) known_now ∙ ap (λ (z : List Tid). is_among z at) (map-append place_of (known s turns) told)
      ∙ among_both (map place_of (known s turns)) (map place_of told) at) ∙ so)) as (λ _. is_among (named s (turns ++ t ∷ [])) at ≡ true) [
        | inl before ↦ still_named at (are.known_are at before)
        | inr now ↦
            names_now at ∙ ap (λ (c : Bool). is_among (named s turns) at || c) (place_has (λ q. is_among (named_in t.list) q ≡ true) told at told_named now)
            ∙ or_true (is_among (named s turns) at)
      ]

  pub named_turned : AreNamed s (turns ++ t ∷ []) taken earlier
  named_turned = record {
    known_are = known_named;
    expanded_are = λ at so. still_named at (expanded_named at so);
    taken_are = λ at so. still_named at (are.taken_are at so);
    earlier_are = λ at so. still_named at (are.earlier_are at so);
  }

  module _ (h : Held) (holds : HoldsAfter s turns taken earlier h) where
    unexpanded_now : (after_turn s t h).unexpanded ≡ open_in s (turns ++ t ∷ [])
    unexpanded_now =
        let told : List Found = elements_of s.ops s.query t.nodes in
        let waits : Found → Bool = λ e. not (is_among (map (λ u. u.element.at) turns) e.at) in
        let other : Found → Bool = λ e. not (eq_by_cmp tid_cmp e.at t.element.at) in
        let now : Found → Bool = λ e. not (is_among (map (λ u. u.element.at) (turns ++ t ∷ [])) e.at) in
        let now_is : (e : Found) → now e ≡ (waits e && other e) =
        (λ e.
        ap (λ (ps : List Tid). not (is_among ps e.at)) (expanded_both turns t)
        ∙ ap not (among_both (map (λ u. u.element.at) turns) (t.element.at ∷ []) e.at)
        ∙ or_nothing (is_among (map (λ u. u.element.at) turns) e.at) (eq_by_cmp tid_cmp e.at t.element.at)) in
        let told_waits : All_of (λ e. now e ≡ true) told =
        all_weaker (λ e. is_among (map (λ u. u.element.at) (turns ++ t ∷ [])) e.at ≡ false) (λ e. now e ≡ true) told (λ e none. ap not none)
        (told_not (λ at. is_among (map (λ u. u.element.at) (turns ++ t ∷ [])) at) expanded_named) in
        ap (λ (es : List Found). in_order (filter other es ++ told)) holds.unexpanded_are
        ∙ ap (λ (es : List Found). in_order (es ++ told)) (kept_ranked is_before before_strict other (filter waits (known s turns)))
        ∙ ranked_more is_before before_strict (filter other (filter waits (known s turns))) told
        ∙ ap (λ (es : List Found). in_order (es ++ told)) (filter_twice waits other (known s turns)
        ∙ filter_agree (λ (e : Found). waits e && other e) now (λ e. sym (now_is e)) (known s turns))
        ∙ ap (λ (es : List Found). in_order (filter now (known s turns) ++ es)) (sym (kept_where now told told_waits))
        ∙ ap in_order (sym (filter-append now (known s turns) told) ∙ ap (filter now) (sym known_now))

    found_now : (after_turn s t h).found
        ≡ map (λ e. (e, is_known_at earlier e.at)) (found_in s (record { ef = 1; taken = taken; most = None }) (turns ++ t ∷ []))
    found_now =
        let told : List Found = elements_of s.ops s.query t.nodes in
        let keeps : Found → Bool = λ e. is_live e && not (is_among taken e.at) in
        let flag : Found → Found × Bool = λ e. (e, is_known_at earlier e.at) in
        let fresh_flag : Found → Found × Bool = λ e. (e, false) in
        let less : Found × Bool → Found × Bool → Bool = λ p q. is_before p.0 q.0 in
        let lives : List Found = filter is_live told in
        let live_is : filter keeps told ≡ filter is_live told =
        kept_as keeps is_live told
        (all_weaker (λ e. is_among taken e.at ≡ false) (λ e. keeps e ≡ is_live e) told (λ e none. ap (λ (c : Bool). is_live e && not c) none ∙ and-true (is_live e))
        (told_not (λ at. is_among taken at) are.taken_are)) in
        let flags : map flag (filter is_live told) ≡ map fresh_flag (filter is_live told) =
        flagged_new earlier (filter is_live told)
        (filtered_all (λ e. is_known_at earlier e.at ≡ false) is_live told (told_not (λ at. is_known_at earlier at) are.earlier_are)) in
        ap (λ (ps : List (Found × Bool)). ranked less (ps ++ map fresh_flag (filter is_live told))) holds.found_are
        ∙ ap (λ (ps : List (Found × Bool)). ranked less (map flag (in_order (filter keeps (known s turns))) ++ ps)) (sym flags)
        ∙ ap (ranked less) (sym (map-append flag (in_order (filter keeps (known s turns))) (filter is_live told)))
        ∙ ranked-map flag less (in_order (filter keeps (known s turns)) ++ filter is_live told)
        ∙ ap (map flag) (ranked_more is_before before_strict (filter keeps (known s turns)) (filter is_live told)
        ∙ ap (λ (es : List Found). in_order (filter keeps (known s turns) ++ es)) (sym live_is)
        ∙ ap in_order (sym (filter-append keeps (known s turns) told) ∙ ap (filter keeps) (sym known_now)))

    pub turned : HoldsAfter s (turns ++ t ∷ []) taken earlier (after_turn s t h)
    turned = record {
      names = λ at. ap (λ (c : Bool). c || is_among (named_in t.list) at) (holds.names at) ∙ sym (names_now at);
      unexpanded_are = unexpanded_now;
      found_are = found_now;
      count_is = ap (λ (k : ℕ). k + length (elements_of s.ops s.query t.nodes)) holds.count_is
          ∙ sym (length-append (known s turns) (elements_of s.ops s.query t.nodes)) ∙ ap length (sym known_now);
    }

pub named_begins : (s : Start) → AreNamed s [] [] []
named_begins s = record {
  known_are = λ at so. sym (ap (λ (z : List Tid). is_among z at) (map-append place_of s.from [])) ∙ so;
  expanded_are = λ at so. absurd (true≢false (sym so));
  taken_are = λ at so. absurd (true≢false (sym so));
  earlier_are = λ at so. absurd (true≢false (sym so));
}

pub named_taken : (s : Start) (turns : List Turn) (taken : List Tid) (earlier : List Found) (h : Held) (ef : ℕ) → HoldsAfter s turns taken earlier h
    → AreNamed s turns taken earlier → AreNamed s turns (taken ++ map place_of (take ef (map (λ p. p.0) h.found))) (known s turns)
named_taken s turns taken earlier h ef holds are =
    let fs : List Found = found_in s (record { ef = 1; taken = taken; most = None }) turns in
    let P : Found → Type 0 = λ e. is_known_at (known s turns) e.at ≡ true in
    let keeps : Found → Bool = λ e. is_live e && not (is_among taken e.at) in
    let elements : map (λ (p : Found × Bool). p.0) h.found ≡ fs = ap (map (λ (p : Found × Bool). p.0)) holds.found_are ∙ firsts_of earlier fs in
    let all : All_of P fs =
    ranked_all P is_before (filter keeps (known s turns)) (filtered_all P keeps (known s turns)
    (each_all P (known s turns) (λ i e is. among_self (known s turns) i e is))) in
    let some : All_of P (take ef (map (λ (p : Found × Bool). p.0) h.found)) =
    all_front P ef (map (λ (p : Found × Bool). p.0) h.found) (subst (λ (es : List Found). All_of P es) (sym elements) all) in
    record {
      known_are = are.known_are;
      expanded_are = are.expanded_are;
      taken_are = λ at so.
          elim (either (is_among taken at) (is_among (map place_of (take ef (map (λ (p : Found × Bool). p.0) h.found))) at)
          (sym (among_both taken (map place_of (take ef (map (λ (p : Found × Bool). p.0) h.found))) at) ∙ so)) as (λ _. is_among (named s turns) at ≡ true) [
            | inl before ↦ are.taken_are at before
            | inr now ↦
                are.known_are at
                (place_has (λ q. is_known_at (known s turns) q ≡ true) (take ef (map (λ (p : Found × Bool). p.0) h.found)) at some now)
          ];
      earlier_are = are.known_are;
    }
