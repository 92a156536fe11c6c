-- A heap of keys, as the list in order.
use Rattle.std.proofs.Common.{◌≡◌, sym, ap, ◌∙◌, ◌<◌, List, [], ◌∷◌, length, get_or, slice_get, Some, arith, false, ◌==◌}
use Rattle.std.specs.List.{AllByRecursion}
use Rattle.std.specs.List.Sorted.{IsPermutation}
use Rattle.std.specs.BinaryHeap.{IsUpperBound}
use Rattle.std.proofs.lemmas.List.Elements.{All-from_recursion, recursion_from_All}
use Rattle.std.proofs.lemmas.List.Sorted.{All-permutation}
use Rattle.list_values.specs.Ranking.{placed}
use Rattle.list_values.proofs.RankedOrder.{ranked_permutes}
use Rattle.search_sets.specs.declared.key.Key.{Key}
use Rattle.search_sets.specs.Keys.{is_before, urgency, in_order, key_cmp_total}
use Rattle.search_sets.proofs.ExactKeys.{key_cmp_exact}
use Rattle.search_sets.proofs.OneOrder.{ranked_same, placed_first}

pub in_order_same : (xs ys : List Key) → IsPermutation xs ys → in_order ys ≡ in_order xs
in_order_same = ranked_same key_cmp_total key_cmp_exact

-- what holds of each of them holds of each of them in order
pub all_in_order : (P : Key → Type 0) (xs : List Key) → AllByRecursion P xs → AllByRecursion P (in_order xs)
all_in_order P xs h = recursion_from_All P (in_order xs) (All-permutation P xs (in_order xs) (ranked_permutes is_before xs) (All-from_recursion P xs h))

pub heap_pushed : (x : Key) (old new : List Key) → IsPermutation (x ∷ old) new → in_order new ≡ placed is_before x (in_order old)
heap_pushed x old new p = in_order_same (x ∷ old) new p

pub first_in_order : (x : Key) (xs : List Key) → IsUpperBound urgency x xs → in_order (x ∷ xs) ≡ x ∷ in_order xs
first_in_order x xs none = placed_first is_before x (in_order xs) (all_in_order (λ y. is_before y x ≡ false) xs none)

pub heap_popped : (x : Key) (old new : List Key) → IsPermutation old (x ∷ new) → IsUpperBound urgency x new → in_order old ≡ x ∷ in_order new
heap_popped x old new p none = sym (in_order_same old (x ∷ new) p) ∙ first_in_order x new none

pub heap_first : (x : Key) (xs : List Key) → 0 < length xs → x ≡ get_or xs 0 x → IsUpperBound urgency x xs → Some x ≡ slice_get (in_order xs) 0
heap_first x [] some is none = absurd (omega (arith, some))
heap_first x (y ∷ ys) some is none =
    let led : in_order (x ∷ ys) ≡ x ∷ in_order ys = first_in_order x ys none.1 in
    sym (ap (λ l. slice_get l 0) (ap (λ z. in_order (z ∷ ys)) (sym is) ∙ led))

pub some_items : (xs ys : List Key) → xs ≡ ys → false ≡ (length xs == 0) → 0 < length ys
some_items [] ys e f = absurd (cc)
some_items (x ∷ xs) ys e f = omega (arith, ap length e)
