-- The answer is in order.
use Rattle.std.proofs.Common.{◌≡◌, refl, List, map, false}
use Rattle.std.specs.declared.cmp.Ordering.{Ordering}
use Rattle.std.specs.declared.cmp.Ordering.TheVariants.{Less, Equal, Greater}
use Rattle.std.specs.Ordering.{is_lt, nat_cmp, ordering_then}
use Rattle.std.specs.Cmp.{IsTotalOrder, IsStrictWeakOrder, nat_cmp_total}
use Rattle.std.specs.List.Sorted.{IsPermutation, IsSorted}
use Rattle.std.proofs.lemmas.Cmp.{on_total, then_total}
use Rattle.std.proofs.lemmas.List.Sorted.{ranks_by, IsPermutation-map}
use Rattle.vec_names.specs.Order.{heap_id_cmp, heap_id_cmp_total}
use Rattle.bit_dist.specs.Distances.{dist_cmp}
use Rattle.bit_dist.specs.Orders.{dist_cmp_total}
use Rattle.list_values.specs.Ranking.{ranked}
use Rattle.list_values.proofs.Ranks.{rises_ranked}
use Rattle.list_values.proofs.RankedOrder.{sorted_from_rises, rises-map, ranked_permutes}
use Rattle.bit_dist.specs.Hits.{hit_cmp}
use Rattle.ivf_graph.specs.Answer.{Found, found_cmp, hit_of, answer_of}

pub found_cmp_total : IsTotalOrder found_cmp
found_cmp_total =
    then_total (on_total (λ (f : Found). f.distance) dist_cmp_total)
    (then_total (on_total (λ (f : Found). f.id) heap_id_cmp_total)
    (then_total (on_total (λ (f : Found). f.block) nat_cmp_total) (on_total (λ (f : Found). f.offset) nat_cmp_total)))

pub found_ranks : IsStrictWeakOrder (λ a b. is_lt (found_cmp a b))
found_ranks = ranks_by found_cmp_total (λ f. f)

-- what is not less by three orders in turn is not less by the first two
coarser : (a b c : Ordering) → is_lt (ordering_then a (ordering_then b c)) ≡ false → is_lt (ordering_then a b) ≡ false
coarser Less b c h = h
coarser Greater b c h = h
coarser Equal Less c h = h
coarser Equal Greater c h = h
coarser Equal Equal c h = refl

coarser_hits : (a b : Found) → is_lt (found_cmp a b) ≡ false → is_lt (hit_cmp (hit_of a) (hit_of b)) ≡ false
coarser_hits a b h =
    coarser (dist_cmp a.distance b.distance) (heap_id_cmp a.id b.id) (ordering_then (nat_cmp a.block b.block) (nat_cmp a.offset b.offset)) h

pub sorted_answer : (fs : List Found) → IsSorted hit_cmp (answer_of fs)
sorted_answer fs =
    sorted_from_rises (λ a b. is_lt (hit_cmp a b)) (answer_of fs)
    (rises-map (λ a b. is_lt (found_cmp a b)) (λ a b. is_lt (hit_cmp a b)) hit_of coarser_hits (ranked (λ a b. is_lt (found_cmp a b)) fs)
    (rises_ranked (λ a b. is_lt (found_cmp a b)) found_ranks fs))

pub answer_permutes : (fs : List Found) → IsPermutation (map hit_of fs) (answer_of fs)
answer_permutes fs = IsPermutation-map hit_of fs (ranked (λ a b. is_lt (found_cmp a b)) fs) (ranked_permutes (λ a b. is_lt (found_cmp a b)) fs)
