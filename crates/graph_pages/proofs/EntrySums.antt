-- Sums and greatest numbers over the entries of a map of places.
use Rattle.std.proofs.Common.{◌≡◌, ℕ, ◌≤◌, false, cond, T, List, [], ◌∷◌, sum_by, Some, refl, sym, ap, ◌∙◌, arith}
use Rattle.std.specs.declared.cmp.Ordering.{Ordering}
use Rattle.std.specs.declared.cmp.Ordering.TheVariants.{Less, Equal, Greater}
use Rattle.std.specs.Ordering.{is_lt, is_eq, ordering_reverse}
use Rattle.std.specs.Cmp.{tied_itself}
use Rattle.std.specs.FinMap as fin
use Rattle.std.specs.FinMap.Entries.{is_sorted, below_all}
use Rattle.std.proofs.lemmas.List.Sums.{sum_by-cons}
use Rattle.byte_fields.proofs.EachField.{some_is}
use Rattle.vec_names.specs.declared.tid.Tid.{Tid}
use Rattle.vec_names.specs.Order.{tid_cmp, tid_cmp_total, tid_cmp_exact}
use Rattle.vec_graph.specs.declared.node.Node.{Node}
use Rattle.vec_graph.specs.Places.{last_off, greatest_off}
use Rattle.vec_graph.proofs.Copies.{left, right}
use Rattle.graph_pages.proofs.TwoItems.{none_or_some}

abbrev pub Entry : Type 0
Entry = Tid × Node

abbrev pub Has : List Entry → Tid → Node → Type 0
Has es q n = fin.find tid_cmp q es ≡ Some n

abbrev pub Rises : List Entry → Type 0
Rises es = T (is_sorted tid_cmp es)

is_less : (r : Ordering) → T (is_lt r) → r ≡ Less
is_less Less h = refl
is_less Equal h = absurd h
is_less Greater h = absurd h

key_behind : (x : Tid) (es : List Entry) (q : Tid) (n : Node) → T (below_all tid_cmp x es) → Has es q n → tid_cmp x q ≡ Less
key_behind x [] q n low has = absurd (none_or_some n has)
key_behind x (e ∷ es) q n low has =
    by_order (tid_cmp q e.0) refl (key_behind x es q n (right (is_lt (tid_cmp x e.0)) (below_all tid_cmp x es) low)) has
  where
    by_order : (r : Ordering) → tid_cmp q e.0 ≡ r → (Has es q n → tid_cmp x q ≡ Less)
        → cond (is_eq r) (Some e.1) (fin.find tid_cmp q es) ≡ Some n → tid_cmp x q ≡ Less
    by_order Equal is rest found =
        ap (tid_cmp x) (tid_cmp_exact q e.0 is) ∙ is_less (tid_cmp x e.0) (left (is_lt (tid_cmp x e.0)) (below_all tid_cmp x es) low)
    by_order Less is rest found = rest found
    by_order Greater is rest found = rest found

-- an entry behind the first one has another key, and is found among all
pub behind_first : (e : Entry) (es : List Entry) (q : Tid) (n : Node) → Rises (e ∷ es) → Has es q n → tid_cmp q e.0 ≡ Greater
behind_first e es q n rises has =
    tid_cmp_total.antisymm q e.0 ∙ ap ordering_reverse (key_behind e.0 es q n (left (below_all tid_cmp e.0 es) (is_sorted tid_cmp es) rises) has)

still_has : (e : Entry) (es : List Entry) (q : Tid) (n : Node) → Rises (e ∷ es) → Has es q n → Has (e ∷ es) q n
still_has e es q n rises has = ap (λ r. cond (is_eq r) (Some e.1) (fin.find tid_cmp q es)) (behind_first e es q n rises has) ∙ has

has_first : (e : Entry) (es : List Entry) → Has (e ∷ es) e.0 e.1
has_first e es = ap (λ r. cond (is_eq r) (Some e.1) (fin.find tid_cmp e.0 es)) (tied_itself tid_cmp_total e.0)

pub others_rise : (e : Entry) (es : List Entry) → Rises (e ∷ es) → Rises es
others_rise e es rises = right (below_all tid_cmp e.0 es) (is_sorted tid_cmp es) rises

-- what is equal of each entry has equal sums
pub same_sums : (f h : Entry → ℕ) (es : List Entry) → Rises es → ((q : Tid) (n : Node) → Has es q n → f (q, n) ≡ h (q, n)) → sum_by f es ≡ sum_by h es
same_sums f h [] rises same = refl
same_sums f h (e ∷ es) rises same =
    let first : f e ≡ h e = same e.0 e.1 (has_first e es) in
    let rest : sum_by f es ≡ sum_by h es = same_sums f h es (others_rise e es rises) (λ q n has. same q n (still_has e es q n rises has)) in
    omega (arith, sum_by-cons f e es, sum_by-cons h e es, first, rest)

pub no_sum : (f : Entry → ℕ) (es : List Entry) → Rises es → ((q : Tid) (n : Node) → Has es q n → f (q, n) ≡ 0) → sum_by f es ≡ 0
no_sum f [] rises none = refl
no_sum f (e ∷ es) rises none =
    let first : f e ≡ 0 = none e.0 e.1 (has_first e es) in
    let rest : sum_by f es ≡ 0 = no_sum f es (others_rise e es rises) (λ q n has. none q n (still_has e es q n rises has)) in
    omega (arith, sum_by-cons f e es, first, rest)

-- what one entry alone has is the sum
pub sum_of_one : (f : Entry → ℕ) (es : List Entry) (k : Tid) (v : Node) → Rises es → Has es k v
    → ((q : Tid) (n : Node) → Has es q n → (q ≡ k → ⊥) → f (q, n) ≡ 0) → sum_by f es ≡ f (k, v)
sum_of_one f [] k v rises has none = absurd (none_or_some v has)
sum_of_one f (e ∷ es) k v rises has none =
    by_order (tid_cmp k e.0) refl
    (λ found. sum_of_one f es k v (others_rise e es rises) found (λ q n there. none q n (still_has e es q n rises there))) has
  where
    here : k ≡ e.0 → Some e.1 ≡ Some v → sum_by f (e ∷ es) ≡ f (k, v)
    here same found =
        let rest : sum_by f es ≡ 0 = no_sum f es (others_rise e es rises) (λ q n there. none q n (still_has e es q n rises there)
        (λ q_is. let a = behind_first e es q n rises there in let b = ap (λ t. tid_cmp t e.0) (q_is ∙ same) ∙ tied_itself tid_cmp_total e.0 in absurd cc)) in
        let entry : e ≡ (k, v) = ap (λ (n : Node). (e.0, n)) (some_is e.1 v found) ∙ ap (λ (t : Tid). (t, v)) (sym same) in
        let first : f e ≡ f (k, v) = ap f entry in
        omega (arith, sum_by-cons f e es, rest, first)

    later : is_eq (tid_cmp k e.0) ≡ false → sum_by f es ≡ f (k, v) → sum_by f (e ∷ es) ≡ f (k, v)
    later apart rest =
        let first : f e ≡ 0 = none e.0 e.1 (has_first e es)
        (λ e_is. let a = ap (λ t. is_eq (tid_cmp t e.0)) e_is ∙ apart in
        let b = ap is_eq (tied_itself tid_cmp_total e.0) in absurd cc) in
        omega (arith, sum_by-cons f e es, rest, first)

    by_order : (r : Ordering) → tid_cmp k e.0 ≡ r → (Has es k v → sum_by f es ≡ f (k, v))
        → cond (is_eq r) (Some e.1) (fin.find tid_cmp k es) ≡ Some v → sum_by f (e ∷ es) ≡ f (k, v)
    by_order Equal is rest found = here (tid_cmp_exact k e.0 is) found
    by_order Less is rest found = later (ap is_eq is) (rest found)
    by_order Greater is rest found = later (ap is_eq is) (rest found)

-- the greatest offset
pub greatest_low : (b most : ℕ) (es : List Entry) → Rises es → ((q : Tid) (n : Node) → Has es q n → last_off b (q, n) ≤ most) → greatest_off b es ≤ most
greatest_low b most [] rises low = omega arith
greatest_low b most (e ∷ es) rises low =
    let first : last_off b e ≤ most = low e.0 e.1 (has_first e es) in
    let rest = greatest_low b most es (others_rise e es rises) (λ q n has. low q n (still_has e es q n rises has)) in
    omega (arith, first, rest)

pub greatest_high : (b : ℕ) (es : List Entry) (q : Tid) (n : Node) → Has es q n → last_off b (q, n) ≤ greatest_off b es
greatest_high b [] q n has = absurd (none_or_some n has)
greatest_high b (e ∷ es) q n has = by_order (tid_cmp q e.0) refl (greatest_high b es q n) has
  where
    by_order : (r : Ordering) → tid_cmp q e.0 ≡ r → (Has es q n → last_off b (q, n) ≤ greatest_off b es)
        → cond (is_eq r) (Some e.1) (fin.find tid_cmp q es) ≡ Some n → last_off b (q, n) ≤ greatest_off b (e ∷ es)
    by_order Equal is rest found =
        let entry : (q, n) ≡ e = ap (λ (t : Tid). (t, n)) (tid_cmp_exact q e.0 is) ∙ ap (λ (m : Node). (e.0, m)) (sym (some_is e.1 n found)) in
        let first : last_off b (q, n) ≡ last_off b e = ap (last_off b) entry in
        omega (arith, first)
    by_order Less is rest found = let more = rest found in omega (arith, more)
    by_order Greater is rest found = let more = rest found in omega (arith, more)
