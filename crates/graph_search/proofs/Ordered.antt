-- What the search of one layer gives.
use Rattle.std.proofs.Common.{◌≡◌, ℕ, ◌<◌, Bool, true, false, cond, not, ◌&&◌, List, [], ◌∷◌, filter, slice_get, Some, refl, sym, ap, ◌∙◌}
use Rattle.std.specs.Cmp.{IsStrictWeakOrder, IsTotalOrder}
use Rattle.std.proofs.lemmas.Cmp.{on_total, then_total}
use Rattle.std.proofs.lemmas.List.MinMax.{ranks_by}
use Rattle.vec_names.specs.Order.{tid_cmp_total}
use Rattle.list_values.specs.Ranking.{ranked}
use Rattle.bit_dist.specs.Orders.{dist_cmp_total}
use Rattle.list_values.proofs.Ranks.{rises_ranked, rises_at}
use Rattle.neighbour_pick.specs.declared.found.Found.{Found}
use Rattle.neighbour_pick.proofs.Choosing.{All_of, ranked_all, got_all}
use Rattle.list_values.proofs.Parts.{in_whole}
use Rattle.neighbour_pick.specs.Order.{Candidate, candidate_of, candidate_cmp}
use Rattle.graph_search.specs.Reads.{Look, Answer}
use Rattle.graph_search.specs.Search.{is_before, is_live, is_among, known, found_in, only_ef, Start, LayerSearch}

-- ---- the order of elements

candidates_total : IsTotalOrder candidate_cmp
candidates_total = then_total (on_total (λ (c : Candidate). c.dist) dist_cmp_total) (on_total (λ (c : Candidate). c.at) tid_cmp_total)

pub before_strict : IsStrictWeakOrder is_before
before_strict = ranks_by candidates_total candidate_of

-- ---- a property of all

pub filter_all : {X : Type 0} (p : X → Bool) (xs : List X) → All_of (λ x. p x ≡ true) (filter p xs)
unfolding All_of
filter_all p [] = tt
filter_all p (x ∷ xs) =
    elim (p x) as (λ b. p x ≡ b → All_of (λ x. p x ≡ true) (cond b (x ∷ filter p xs) (filter p xs))) [
      | true ↦ λ e. (e, filter_all p xs)
      | false ↦ λ e. filter_all p xs
    ] refl

both_first : (a b : Bool) → (a && b) ≡ true → a ≡ true
both_first true b e = refl
both_first false b e = absurd cc

-- ---- the result

module _ (s : Start) (ef : ℕ) (reads : List (Look × Answer)) (result : List Found) (search : LayerSearch s ef reads result) where
  in_found : (i : ℕ) (e : Found) → slice_get result i ≡ Some e → slice_get (found_in s (only_ef ef) search.turns) i ≡ Some e
  in_found i e is = in_whole ef _ i e (ap (λ (r : List Found). slice_get r i) (sym search.result_is) ∙ is)

  pub result_live : (i : ℕ) (e : Found) → slice_get result i ≡ Some e → is_live e ≡ true
  result_live i e is =
      let p : Found → Bool = λ e. is_live e && not (is_among [] e.at) in
      both_first (is_live e) _ (got_all (λ e. p e ≡ true) _ i e (ranked_all (λ e. p e ≡ true) is_before _ (filter_all p (known s search.turns))) (in_found i e is))

  pub result_rises : (i j : ℕ) (e f : Found) → i < j → slice_get result i ≡ Some e → slice_get result j ≡ Some f → is_before f e ≡ true → ⊥
  result_rises i j e f h a b before =
      let live_ones : List Found = filter (λ e. is_live e && not (is_among [] e.at)) (known s search.turns) in
      let not_before : is_before f e ≡ false =
      rises_at is_before (ranked is_before live_ones) i j e f (rises_ranked is_before before_strict live_ones) h (in_found i e a) (in_found j f b) in
      absurd cc
