-- The first in order, of lists that are not in order.
use Rattle.std.proofs.Common.{◌≡◌, refl, sym, ap, ◌∙◌, subst, ℕ, ◌<◌, List, [], ◌∷◌, ◌++◌, length, get_or, slice_get, slice_set, Some, None, arith, Bool, true, false, ◌==◌, ◌+◌, take, append-nil, append_assoc}
use Rattle.std.specs.Prelude.{Option, MatchOption}
use Rattle.std.specs.Cmp.{IsStrictWeakOrder}
use Rattle.std.specs.List.Sorted.{IsPermutation}
use Rattle.std.specs.BinaryHeap.{IsUpperBound}
use Rattle.std.proofs.lemmas.List.Sorted.{IsPermutation-refl, IsPermutation-sym, IsPermutation-trans, IsPermutation-cons, IsPermutation-to_front, IsPermutation-middle, IsPermutation-append_left, IsPermutation-append_right, IsPermutation-push_more, length_permutation, All-permutation}
use Rattle.std.proofs.lemmas.List.Elements.{All-from_recursion, recursion_from_All}
use Rattle.list_values.specs.Ranking.{placed}
use Rattle.search_sets.specs.declared.key.Key.{Key}
use Rattle.search_sets.specs.Keys.{is_before, urgency, in_order, key_cmp_total}
use Rattle.search_sets.proofs.ExactKeys.{key_cmp_exact}
use Rattle.search_sets.specs.Bests.{NoneBefore}
use Rattle.search_sets.specs.Leading.{IsLed, IsTaken, Leads, IsFirst}
use Rattle.search_sets.proofs.OneOrder.{order_before}
use Rattle.search_sets.proofs.Heaps.{in_order_same, first_in_order}
use Rattle.search_sets.proofs.Splitting.{all_append, none_through}
use Rattle.search_sets.proofs.Fronts.{take_more}

w : IsStrictWeakOrder is_before
w = order_before key_cmp_total key_cmp_exact

-- ---- puts among the far ones

far_led : (far : List Key) (key first : Key) (rest : List Key) → far ≡ first ∷ rest → is_before key first ≡ false → IsLed far → IsLed (far ++ key ∷ [])
far_led far key first rest e n led =
    subst (λ (l : List Key). IsLed (l ++ key ∷ [])) (sym e) (all_append (λ z. is_before z first ≡ false) rest (key ∷ []) (subst IsLed e led) (n, tt))

pub far_pushed_led : (items far : List Key) (key first : Key) → items ≡ far → first ≡ get_or items 0 first → false ≡ (length items == 0) → is_before key first ≡ false → IsLed far → IsLed (far ++ key ∷ [])
far_pushed_led [] far key first e is some n led = absurd (cc)
far_pushed_led (x ∷ xs) far key first e is some n led = far_led far key first xs (sym e ∙ ap (λ z. z ∷ xs) (sym is)) n led

pub pushed_same : (far : List Key) (key : Key) → IsPermutation (key ∷ far) (far ++ key ∷ [])
pushed_same far key = IsPermutation-sym (far ++ key ∷ []) (key ∷ far) (IsPermutation-to_front far key)

pub far_written : (items far : List Key) (key first : Key) → items ≡ far → first ≡ get_or items 0 first → false ≡ (length items == 0) → is_before key first ≡ true → IsLed far
    → IsLed (slice_set (far ++ first ∷ []) 0 key) × IsPermutation (key ∷ far) (slice_set (far ++ first ∷ []) 0 key)
far_written [] far key first e is some b led = absurd (cc)
far_written (x ∷ xs) far key first e is some b led =
    let whole : first ∷ xs ≡ far = ap (λ z. z ∷ xs) is ∙ e in
    subst (λ (l : List Key). IsLed l → IsLed (slice_set (l ++ first ∷ []) 0 key) × IsPermutation (key ∷ l) (slice_set (l ++ first ∷ []) 0 key)) whole
    (λ led_first. (
      all_append (λ z. is_before z key ≡ false) xs (first ∷ []) (none_through key first xs (w.one_way key first b) led_first) (w.one_way key first b, tt),
      IsPermutation-cons key (first ∷ xs) (xs ++ first ∷ []) (pushed_same xs first),
    )) led

pub far_whole : (near far now : List Key) (key : Key) → IsPermutation (key ∷ far) now → in_order (near ++ now) ≡ placed is_before key (in_order (near ++ far))
far_whole near far now key same =
    in_order_same (key ∷ (near ++ far)) (near ++ now)
    (IsPermutation-trans (key ∷ (near ++ far)) (near ++ key ∷ far) (near ++ now) (IsPermutation-sym (near ++ key ∷ far) (key ∷ (near ++ far)) (IsPermutation-middle near key far)) (IsPermutation-append_right near (key ∷ far) now same))

pub near_whole : (near far now : List Key) (key : Key) → IsPermutation (key ∷ near) now → in_order (now ++ far) ≡ placed is_before key (in_order (near ++ far))
near_whole near far now key same = in_order_same (key ∷ (near ++ far)) (now ++ far) (IsPermutation-append_left far (key ∷ near) now same)

-- ---- the first

pub leads_first : (k : Key) (xs : List Key) → Leads k xs → Some k ≡ slice_get (in_order xs) 0
leads_first k xs l = sym (ap (λ l. slice_get l 0) (in_order_same (k ∷ l.rest) xs l.same ∙ first_in_order k l.rest l.none))

pub heap_leads : (k : Key) (xs : List Key) → 0 < length xs → k ≡ get_or xs 0 k → IsUpperBound urgency k xs → Leads k xs
heap_leads k [] some is none = absurd (omega (arith, some))
heap_leads k (x ∷ xs) some is none = record { rest = xs; same = subst (λ (z : Key). IsPermutation (k ∷ xs) (z ∷ xs)) is (IsPermutation-refl (k ∷ xs)); none = none.1 }

pub led_leads : (k : Key) (xs : List Key) → false ≡ (length xs == 0) → k ≡ get_or xs 0 k → IsLed xs → Leads k xs
led_leads k [] some is led = absurd (cc)
led_leads k (x ∷ xs) some is led = record {
  rest = xs;
  same = subst (λ (z : Key). IsPermutation (k ∷ xs) (z ∷ xs)) is (IsPermutation-refl (k ∷ xs));
  none = subst (λ (z : Key). NoneBefore z xs) (sym is) led;
}

-- no key of the list comes before what does not come after its first
none_from : (a b : Key) (ys : List Key) → Leads b ys → is_before b a ≡ false → NoneBefore a ys
none_from a b ys l n =
    recursion_from_All (λ z. is_before z a ≡ false) ys
    (All-permutation (λ z. is_before z a ≡ false) (b ∷ l.rest) ys l.same (All-from_recursion (λ z. is_before z a ≡ false) (b ∷ l.rest) (n, none_through a b l.rest n l.none)))

pub leads_near : (a b : Key) (xs ys : List Key) → Leads a xs → Leads b ys → is_before b a ≡ false → Leads a (xs ++ ys)
leads_near a b xs ys l m n = record {
  rest = l.rest ++ ys;
  same = IsPermutation-append_left ys (a ∷ l.rest) xs l.same;
  none = all_append (λ z. is_before z a ≡ false) l.rest ys l.none (none_from a b ys m n);
}

pub leads_far : (a b : Key) (xs ys : List Key) → Leads a xs → Leads b ys → is_before b a ≡ true → Leads b (xs ++ ys)
leads_far a b xs ys l m before = record {
  rest = xs ++ m.rest;
  same = IsPermutation-trans (b ∷ (xs ++ m.rest)) (xs ++ b ∷ m.rest) (xs ++ ys) (IsPermutation-sym (xs ++ b ∷ m.rest) (b ∷ (xs ++ m.rest)) (IsPermutation-middle xs b m.rest)) (IsPermutation-append_right xs (b ∷ m.rest) ys m.same);
  none = all_append (λ z. is_before z b ≡ false) xs m.rest (none_from b a xs l (w.one_way b a before)) m.none;
}

-- ---- one of the two has none

pub no_near : (near far : List Key) (r : Option Key) → near ≡ [] → MatchOption r (far ≡ []) (λ k. Leads k far) → r ≡ slice_get (in_order (near ++ far)) 0
no_near near far None e m = sym (ap (λ l. slice_get (in_order (l ++ far)) 0) e ∙ ap (λ l. slice_get (in_order l) 0) m)
no_near near far (Some k) e m = leads_first k far m ∙ sym (ap (λ l. slice_get (in_order (l ++ far)) 0) e)

pub no_far : (a : Key) (near far : List Key) → Leads a near → far ≡ [] → Leads a (near ++ far)
no_far a near far l e = subst (λ (ys : List Key). Leads a ys) (sym (ap (λ ys. near ++ ys) e ∙ append-nil near)) l

-- ---- the heap takes in the far ones

pub joined_more : (start far now next : List Key) (i : ℕ) (x : Key) → i < length far → x ≡ get_or far i x → IsPermutation (start ++ take i far) now → IsPermutation (x ∷ now) next
    → IsPermutation (start ++ take (i + 1) far) next
joined_more start far now next i x within is before pushed =
    subst (λ (l : List Key). IsPermutation l next) (append_assoc start (take i far) (x ∷ []) ∙ ap (λ l. start ++ l) (sym (take_more far i x within is)))
    (IsPermutation-push_more (start ++ take i far) now next x before pushed)

-- ---- which is first

irreflexive : (k : Key) → is_before k k ≡ false
irreflexive k = by_test (is_before k k) refl
  where
    by_test : (b : Bool) → is_before k k ≡ b → is_before k k ≡ false
    by_test true is = w.one_way k k is
    by_test false is = is

pub near_is_first : (a b : Key) (near far : List Key) → Leads a near → Leads b far → is_before b a ≡ false → IsFirst near far
near_is_first a b near far l m n = record {
  leads = λ k other.
      let among = recursion_from_All (λ z. is_before z k ≡ false) (a ∷ l.rest)
      (All-permutation (λ z. is_before z k ≡ false) near (a ∷ l.rest) (IsPermutation-sym (a ∷ l.rest) near l.same) (All-from_recursion (λ z. is_before z k ≡ false) near (none_from k k near other (irreflexive k)))) in
      none_from k b far m (w.chain b a k n among.0);
  none = λ e. absurd (omega (arith, length_permutation (a ∷ l.rest) near l.same, ap length e));
}

pub first_of_none : (near far : List Key) → far ≡ [] → IsFirst near far
first_of_none near far e = record { leads = λ k l. subst (λ (ys : List Key). NoneBefore k ys) (sym e) tt; none = λ _. e }

pub near_taken : (k : Key) (old far new : List Key) → IsFirst old far → IsPermutation old (k ∷ new) → NoneBefore k new → in_order (old ++ far) ≡ k ∷ in_order (new ++ far)
near_taken k old far new f same none =
    let back : IsPermutation (k ∷ new) old = IsPermutation-sym old (k ∷ new) same in
    in_order_same (k ∷ (new ++ far)) (old ++ far) (IsPermutation-append_left far (k ∷ new) old back)
    ∙ first_in_order k (new ++ far) (all_append (λ z. is_before z k ≡ false) new far none (f.leads k (record { rest = new; same = back; none = none })))

pub gathered_taken : (near far now none next : List Key) (r : Option Key) → IsPermutation (near ++ far) now → none ≡ [] → IsTaken (now ++ none) (next ++ none) r → IsTaken (near ++ far) (next ++ none) r
gathered_taken near far now none next r same e t =
    let is : in_order (now ++ none) ≡ in_order (near ++ far) = ap (λ l. in_order (now ++ l)) e ∙ ap in_order (append-nil now) ∙ in_order_same (near ++ far) now same in
    by_case r is t
  where
    by_case : (r : Option Key) → in_order (now ++ none) ≡ in_order (near ++ far) → IsTaken (now ++ none) (next ++ none) r → IsTaken (near ++ far) (next ++ none) r
    by_case None is t = (sym is ∙ t.0, t.1)
    by_case (Some k) is t = sym is ∙ t
