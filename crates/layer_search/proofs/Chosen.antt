-- The neighbours of a layer, among the elements that its search found.
use Rattle.std.proofs.Common.{◌≡◌, ℕ, ◌+◌, ◌-◌, ◌<◌, ◌≤◌, ◌&&◌, not, Bool, false, filter, List, [], ◌∷◌, ◌++◌, map, take, length, replicate, get_or, Option, Some, None, refl, sym, ap, subst, ◌∙◌, arith, append_assoc, append-nil, length-append}
use Rattle.std.specs.List.{All, cons_option, filter_map}
use Rattle.std.specs.List.Sorted.{IsSortedBy}
use Rattle.std.proofs.lemmas.List.{length-take, get_or-take, get_or-map, length-map, map-append, take_more}
use Rattle.std.proofs.lemmas.List.Elements.{All-from_recursion, All-filter, All-weaker, filter-append, filter_map-append}
use Rattle.std.proofs.lemmas.List.Kept.{IsSortedBy-filter}
use Rattle.list_values.proofs.RankedOrder.{sorted_ranked}
use Rattle.vec_names.specs.declared.tid.Tid.{Tid}
use Rattle.neighbour_pick.specs.declared.found.Found.{Found}
use Rattle.neighbour_pick.specs.Order.{Candidate, candidate_of, is_nearer, HaveOneLength}
use Rattle.graph_search.specs.Reads.{Look, Answer}
use Rattle.graph_search.specs.Search.{LayerSearch, Start, found_in, is_among, is_before, is_live, known, only_ef}
use Rattle.graph_search.specs.Insert.{is_except, without}
use Rattle.graph_search.proofs.Ordered.{before_strict}
use Rattle.layer_search.specs.Waiting.{AreLong}
use Rattle.layer_search.proofs.Turns.{length_kept}

-- ---- what a search finds may be chosen from

-- elements in order are so as candidates
pub candidates_sorted : (xs : List Found) → IsSortedBy is_before xs → IsSortedBy is_nearer (map candidate_of xs)
candidates_sorted [] s k d low high = absurd (omega arith)
candidates_sorted (x ∷ xs) s k d low high =
    let many = length-map (x ∷ xs) candidate_of in
    let inside : k + 1 < length (x ∷ xs) = omega (arith, high, many) in
    subst (λ (c : Candidate). is_nearer c (get_or (map candidate_of (x ∷ xs)) k d) ≡ false) (sym (get_or-map candidate_of (x ∷ xs) (k + 1) x d inside))
    (subst (λ (c : Candidate). is_nearer (candidate_of (get_or (x ∷ xs) (k + 1) x)) c ≡ false) (sym (get_or-map candidate_of (x ∷ xs) k x d (omega (arith, inside))))
    (s k x low inside))

front_sorted : {X : Type 0} (lt : X → X → Bool) (n : ℕ) (xs : List X) → IsSortedBy lt xs → IsSortedBy lt (take n xs)
front_sorted {X} lt n xs s k d low high =
    let few = length-take n xs in
    let early : k + 1 < n = omega (arith, high, few) in
    subst (λ (y : X). lt y (get_or (take n xs) k d) ≡ false) (sym (get_or-take n xs (k + 1) d early))
    (subst (λ (y : X). lt (get_or xs (k + 1) d) y ≡ false) (sym (get_or-take n xs k d (omega (arith, early)))) (s k d low (omega (arith, high, few))))

module _ (s : Start) (ef : ℕ) (reads : List (Look × Answer)) (result : List Found) (search : LayerSearch s ef reads result) where
  pub found_sorted : IsSortedBy is_before result
  found_sorted =
      subst (IsSortedBy is_before) (sym search.result_is)
      (front_sorted is_before ef (found_in s (only_ef ef) search.turns)
      (sorted_ranked is_before before_strict (filter (λ (e : Found). is_live e && not (is_among [] e.at)) (known s search.turns))))

  pub found_few : length result ≤ ef
  found_few = omega (arith, ap (λ (l : List Found). length l) search.result_is, length-take ef (found_in s (only_ef ef) search.turns))

-- values of so many places are as long as each other
pub long_alike : (n : ℕ) (xs : List Found) → AreLong n xs → HaveOneLength xs
long_alike n xs long =
    let all : All (λ e. length e.bits ≡ n) xs = All-from_recursion (λ (e : Found). length e.bits ≡ n) xs long in
    All-weaker (λ (e : Found). length e.bits ≡ n) (λ (one : Found). All (λ other. length other.bits ≡ length one.bits) xs)
    (λ one is. All-weaker (λ (e : Found). length e.bits ≡ n) (λ (other : Found). length other.bits ≡ length one.bits) (λ other as_long. as_long ∙ sym is) xs all) xs all

-- ---- without one

module _ (except : Option Tid) (xs : List Found) where
  pub without_sorted : IsSortedBy is_before xs → IsSortedBy is_before (without except xs)
  without_sorted s = IsSortedBy-filter is_before before_strict _ xs s

  pub without_alike : HaveOneLength xs → HaveOneLength (without except xs)
  without_alike one =
      All-filter _ (λ (a : Found). All (λ b. length b.bits ≡ length a.bits) (without except xs)) xs
      (All-weaker (λ (a : Found). All (λ b. length b.bits ≡ length a.bits) xs) (λ (a : Found). All (λ b. length b.bits ≡ length a.bits) (without except xs))
      (λ a all. All-filter _ (λ (b : Found). length b.bits ≡ length a.bits) xs all) xs one)

  pub without_few : length (without except xs) ≤ length xs
  without_few = length_kept (λ (e : Found). not (is_except except e.at)) xs

-- where nobody is left out
pub without_none : (xs : List Found) → xs ≡ without None xs
without_none [] = refl
without_none (x ∷ xs) = ap (λ (l : List Found). x ∷ l) (without_none xs)

-- one more that is moved to the others, or left out
pub others_more : (except : Tid) (was now rest items whole : List Found) (e : Found) → now ≡ was ++ without (Some except) (e ∷ []) → items ≡ e ∷ rest
    → was ++ without (Some except) items ≡ whole → now ++ without (Some except) rest ≡ whole
others_more except was now rest items whole e now_is items_are so =
    ap (λ (l : List Found). l ++ without (Some except) rest) now_is
    ∙ append_assoc was (without (Some except) (e ∷ [])) (without (Some except) rest)
    ∙ ap (λ (l : List Found). was ++ l) (sym (filter-append (λ (x : Found). not (is_except (Some except) x.at)) (e ∷ []) rest))
    ∙ ap (λ (l : List Found). was ++ without (Some except) l) (sym items_are)
    ∙ so

-- ---- elements at places

module _ {Y : Type 0} (f : Found → Y) (old : List Y) where
  pub took_none : (o : Option Found) → None ≡ o → old ≡ old ++ map f (cons_option o [])
  took_none o is = subst (λ (p : Option Found). old ≡ old ++ map f (cons_option p [])) is (sym (append-nil old))

  pub took_one : (o : Option Found) (e : Found) (new : List Y) → Some e ≡ o → new ≡ old ++ f e ∷ [] → new ≡ old ++ map f (cons_option o [])
  took_one o e new is put = subst (λ (p : Option Found). new ≡ old ++ map f (cons_option p [])) is put

  pub took_more : (h : ℕ → Option Found) (places : List ℕ) (k : ℕ) (mid new : List Y) → k < length places
      → mid ≡ old ++ map f (filter_map h (take k places)) → new ≡ mid ++ map f (cons_option (h (get_or places k 0)) [])
      → new ≡ old ++ map f (filter_map h (take (k + 1) places))
  took_more h places k mid new within mid_is new_is =
      let front : List Found = filter_map h (take k places) in
      let last : List Found = cons_option (h (get_or places k 0)) [] in
      new_is
      ∙ ap (λ (l : List Y). l ++ map f last) mid_is
      ∙ append_assoc old (map f front) (map f last)
      ∙ ap (λ (l : List Y). old ++ l) (sym (map-append f front last))
      ∙ ap (λ (l : List Found). old ++ map f l) (sym (filter_map-append h (take k places) (get_or places k 0 ∷ [])))
      ∙ ap (λ (l : List ℕ). old ++ map f (filter_map h l)) (sym (take_more places k 0 within))

-- ---- the slots of a layer

module _ (was mid now : List (Option Tid)) (old new : List (ℕ × Found)) (layer most before after added : ℕ) (es : List Found) where
  pub slots_chosen : mid ≡ was ++ map (λ e. Some e.at) es → new ≡ old ++ map (λ e. (layer, e)) es → before ≡ length old → after ≡ length new
      → added ≡ after - before → now ≡ mid ++ replicate (most - added) None
      → now ≡ was ++ (map (λ e. Some e.at) es ++ replicate (most - length es) None)
  slots_chosen mid_is new_is before_is after_is added_is now_is =
      let pair : Found → ℕ × Found = λ e. (layer, e) in
      let many : added ≡ length es =
      omega (arith, before_is, after_is, added_is, ap (λ (l : List (ℕ × Found)). length l) new_is, length-append old (map pair es), length-map es pair) in
      now_is
      ∙ ap (λ (l : List (Option Tid)). l ++ replicate (most - added) None) mid_is
      ∙ append_assoc was (map (λ (e : Found). Some e.at) es) (replicate (most - added) None)
      ∙ ap (λ (k : ℕ). was ++ (map (λ (e : Found). Some e.at) es ++ replicate (most - k) None)) many
