-- Elements at places of their own: in order, with others taken away, and with new ones.
use Rattle.std.proofs.Common.{◌≡◌, ◌⊎◌, inl, inr, ℕ, ◌||◌, not, cond, Bool, true, false, List, [], ◌∷◌, ◌++◌, filter, map, take, zero, suc, length, refl, sym, ap, ap₂, subst, ◌∙◌, true≢false}
use Rattle.std.specs.List.{AllByRecursion}
use Rattle.std.specs.Cmp.{Equal-is, tied_itself}
use Rattle.std.specs.Ordering.{eq_by_cmp, is_eq}
use Rattle.std.specs.declared.cmp.Ordering.{Ordering}
use Rattle.std.specs.declared.cmp.Ordering.TheVariants.{Less, Equal, Greater}
use Rattle.std.specs.Ordering.{ordering_reverse}
use Rattle.std.proofs.lemmas.List.{map-append}
use Rattle.vec_names.specs.declared.tid.Tid.{Tid}
use Rattle.vec_names.specs.declared.params.Ops.{Ops}
use Rattle.vec_names.specs.Order.{tid_cmp, tid_cmp_exact, tid_cmp_total}
use Rattle.list_values.specs.Ranking.{placed, ranked}
use Rattle.list_values.proofs.RankedOrder.{ranked-map}
use Rattle.neighbour_pick.specs.declared.found.Found.{Found}
use Rattle.graph_search.specs.Reads.{Answer, Gone, OfMeta, OfNode, OfList, OfPage}
use Rattle.graph_search.specs.Search.{Start, Turn, element_of, elements_of, in_order, is_among, is_before, is_live, named_in, place_of}
use Rattle.graph_search.specs.Scan.{Held, after_turn, is_known_at}
use Rattle.search_sets.specs.Standing.{begun_from}
use Rattle.graph_search.specs.ByHolding.{HoldTheSame, unnamed}
use Rattle.layer_search.specs.Waiting.{AreApart, AreLong, AreNamedApart, IsSteady, found_held}

-- ---- tests

either : (a b : Bool) → (a || b) ≡ true → (a ≡ true) ⊎ (b ≡ true)
either true b h = inl refl
either false b h = inr h

or_second : (a b : Bool) → b ≡ true → (a || b) ≡ true
or_second true b h = refl
or_second false b h = h

or_first : (a b : Bool) → a ≡ true → (a || b) ≡ true
or_first true b h = refl
or_first false b h = absurd (true≢false (sym h))

never_true : (a : Bool) → (a ≡ true → ⊥) → a ≡ false
never_true true h = absurd (h refl)
never_true false h = refl

pub no_first : (a b : Bool) → (a || b) ≡ false → a ≡ false
no_first true b h = absurd (true≢false h)
no_first false b h = refl

pub no_second : (a b : Bool) → (a || b) ≡ false → b ≡ false
no_second true b h = absurd (true≢false h)
no_second false b h = h

neither : (a b : Bool) → a ≡ false → b ≡ false → (a || b) ≡ false
neither a b h k = ap₂ (λ (x y : Bool). x || y) h k

turned_equal : (o : Ordering) → is_eq (ordering_reverse o) ≡ is_eq o
turned_equal Less = refl
turned_equal Equal = refl
turned_equal Greater = refl

pub same_turned : (a b : Tid) → eq_by_cmp tid_cmp a b ≡ eq_by_cmp tid_cmp b a
same_turned a b = ap is_eq (tid_cmp_total.antisymm a b) ∙ turned_equal (tid_cmp b a)

pub itself : (a : Tid) → eq_by_cmp tid_cmp a a ≡ true
itself a = ap is_eq (tied_itself tid_cmp_total a)

same_place : (a b : Tid) → eq_by_cmp tid_cmp a b ≡ true → a ≡ b
same_place a b h = tid_cmp_exact a b ((Equal-is (tid_cmp a b)).0 h)

-- ---- all of a list

pub all_both : {X : Type 0} (P : X → Type 0) (xs ys : List X) → AllByRecursion P xs → AllByRecursion P ys → AllByRecursion P (xs ++ ys)
all_both P [] ys a b = b
all_both P (x ∷ xs) ys a b = (a.0, all_both P xs ys a.1 b)

pub all_first : {X : Type 0} (P : X → Type 0) (xs ys : List X) → AllByRecursion P (xs ++ ys) → AllByRecursion P xs
all_first P [] ys a = tt
all_first P (x ∷ xs) ys a = (a.0, all_first P xs ys a.1)

pub all_second : {X : Type 0} (P : X → Type 0) (xs ys : List X) → AllByRecursion P (xs ++ ys) → AllByRecursion P ys
all_second P [] ys a = a
all_second P (x ∷ xs) ys a = all_second P xs ys a.1

pub all_kept : {X : Type 0} (P : X → Type 0) (keeps : X → Bool) (xs : List X) → AllByRecursion P xs → AllByRecursion P (filter keeps xs)
all_kept P keeps [] a = tt
all_kept P keeps (x ∷ xs) a =
    elim (keeps x) as (λ b. AllByRecursion P (cond b (x ∷ filter keeps xs) (filter keeps xs))) [
      | true ↦ (a.0, all_kept P keeps xs a.1)
      | false ↦ all_kept P keeps xs a.1
    ]

all_placed : {X : Type 0} (P : X → Type 0) (lt : X → X → Bool) (x : X) (ys : List X) → P x → AllByRecursion P ys → AllByRecursion P (placed lt x ys)
all_placed P lt x [] p a = (p, tt)
all_placed P lt x (y ∷ ys) p a =
    elim (lt y x) as (λ b. AllByRecursion P (cond b (y ∷ placed lt x ys) (x ∷ y ∷ ys))) [
      | true ↦ (a.0, all_placed P lt x ys p a.1)
      | false ↦ (p, a)
    ]

pub all_ranked : {X : Type 0} (P : X → Type 0) (lt : X → X → Bool) (xs : List X) → AllByRecursion P xs → AllByRecursion P (ranked lt xs)
all_ranked P lt [] a = tt
all_ranked P lt (x ∷ xs) a = all_placed P lt x (ranked lt xs) a.0 (all_ranked P lt xs a.1)

-- ---- who is known

known_both : (xs ys : List Found) (at : Tid) → is_known_at (xs ++ ys) at ≡ (is_known_at xs at || is_known_at ys at)
known_both [] ys at = refl
known_both (x ∷ xs) ys at =
    ap (λ (b : Bool). eq_by_cmp tid_cmp at x.at || b) (known_both xs ys at) ∙ moved (eq_by_cmp tid_cmp at x.at) (is_known_at xs at) (is_known_at ys at)
  where
    moved : (a b c : Bool) → (a || (b || c)) ≡ ((a || b) || c)
    moved true b c = refl
    moved false b c = refl

known_placed : (lt : Found → Found → Bool) (x : Found) (ys : List Found) (at : Tid)
    → is_known_at (placed lt x ys) at ≡ (eq_by_cmp tid_cmp at x.at || is_known_at ys at)
known_placed lt x [] at = refl
known_placed lt x (y ∷ ys) at =
    elim (lt y x) as (λ b. is_known_at (cond b (y ∷ placed lt x ys) (x ∷ y ∷ ys)) at
    ≡ (eq_by_cmp tid_cmp at x.at || (eq_by_cmp tid_cmp at y.at || is_known_at ys at))) [
      | true ↦
          ap (λ (b : Bool). eq_by_cmp tid_cmp at y.at || b) (known_placed lt x ys at)
          ∙ swapped (eq_by_cmp tid_cmp at y.at) (eq_by_cmp tid_cmp at x.at) (is_known_at ys at)
      | false ↦ refl
    ]
  where
    swapped : (a b c : Bool) → (a || (b || c)) ≡ (b || (a || c))
    swapped true true c = refl
    swapped true false c = refl
    swapped false true c = refl
    swapped false false c = refl

known_ranked : (lt : Found → Found → Bool) (xs : List Found) (at : Tid) → is_known_at (ranked lt xs) at ≡ is_known_at xs at
known_ranked lt [] at = refl
known_ranked lt (x ∷ xs) at = known_placed lt x (ranked lt xs) at ∙ ap (λ (b : Bool). eq_by_cmp tid_cmp at x.at || b) (known_ranked lt xs at)

known_kept : (keeps : Found → Bool) (xs : List Found) (at : Tid) → is_known_at (filter keeps xs) at ≡ true → is_known_at xs at ≡ true
known_kept keeps [] at h = h
known_kept keeps (x ∷ xs) at h =
    (elim (keeps x) as (λ b. is_known_at (cond b (x ∷ filter keeps xs) (filter keeps xs)) at ≡ true → (eq_by_cmp tid_cmp at x.at || is_known_at xs at) ≡ true) [
      | true ↦ λ among.
          elim (either (eq_by_cmp tid_cmp at x.at) (is_known_at (filter keeps xs) at) among) as (λ _. (eq_by_cmp tid_cmp at x.at || is_known_at xs at) ≡ true) [
            | inl here ↦ or_first (eq_by_cmp tid_cmp at x.at) (is_known_at xs at) here
            | inr there ↦ or_second (eq_by_cmp tid_cmp at x.at) (is_known_at xs at) (known_kept keeps xs at there)
          ]
      | false ↦ λ among. or_second (eq_by_cmp tid_cmp at x.at) (is_known_at xs at) (known_kept keeps xs at among)
    ]) h

-- ---- places of their own

apart_placed : (lt : Found → Found → Bool) (x : Found) (ys : List Found) → is_known_at ys x.at ≡ false → AreApart ys → AreApart (placed lt x ys)
apart_placed lt x [] none apart = (refl, tt)
apart_placed lt x (y ∷ ys) none apart =
    elim (lt y x) as (λ b. AreApart (cond b (y ∷ placed lt x ys) (x ∷ y ∷ ys))) [
      | true ↦ (
        known_placed lt x ys y.at
            ∙ neither (eq_by_cmp tid_cmp y.at x.at) (is_known_at ys y.at)
            (same_turned y.at x.at ∙ no_first (eq_by_cmp tid_cmp x.at y.at) (is_known_at ys x.at) none) apart.0,
        apart_placed lt x ys (no_second (eq_by_cmp tid_cmp x.at y.at) (is_known_at ys x.at) none) apart.1,
      )
      | false ↦ (none, apart)
    ]

pub apart_ranked : (lt : Found → Found → Bool) (xs : List Found) → AreApart xs → AreApart (ranked lt xs)
apart_ranked lt [] apart = tt
apart_ranked lt (x ∷ xs) apart = apart_placed lt x (ranked lt xs) (known_ranked lt xs x.at ∙ apart.0) (apart_ranked lt xs apart.1)

pub apart_kept : (keeps : Found → Bool) (xs : List Found) → AreApart xs → AreApart (filter keeps xs)
apart_kept keeps [] apart = tt
apart_kept keeps (x ∷ xs) apart =
    elim (keeps x) as (λ b. AreApart (cond b (x ∷ filter keeps xs) (filter keeps xs))) [
      | true ↦ (
        never_true (is_known_at (filter keeps xs) x.at) (λ h. true≢false (sym (known_kept keeps xs x.at h) ∙ apart.0)),
        apart_kept keeps xs apart.1,
      )
      | false ↦ apart_kept keeps xs apart.1
    ]

apart_both : (xs ys : List Found) → AreApart xs → AreApart ys → AllByRecursion (λ x. is_known_at ys x.at ≡ false) xs → AreApart (xs ++ ys)
apart_both [] ys a b cross = b
apart_both (x ∷ xs) ys a b cross = (
  known_both xs ys x.at ∙ neither (is_known_at xs x.at) (is_known_at ys x.at) a.0 cross.0,
  apart_both xs ys a.1 b cross.1,
)

pub apart_front : (n : ℕ) (xs : List Found) → AreApart xs → AreApart (take n xs)
apart_front zero xs apart = tt
apart_front (suc n) [] apart = tt
apart_front (suc n) (x ∷ xs) apart = (
  never_true (is_known_at (take n xs) x.at) (λ h. true≢false (sym (known_front n xs x.at h) ∙ apart.0)),
  apart_front n xs apart.1,
)
  where
    known_front : (n : ℕ) (ys : List Found) (at : Tid) → is_known_at (take n ys) at ≡ true → is_known_at ys at ≡ true
    known_front zero ys at h = absurd (true≢false (sym h))
    known_front (suc n) [] at h = h
    known_front (suc n) (y ∷ ys) at h =
        elim (either (eq_by_cmp tid_cmp at y.at) (is_known_at (take n ys) at) h) as (λ _. (eq_by_cmp tid_cmp at y.at || is_known_at ys at) ≡ true) [
          | inl here ↦ or_first (eq_by_cmp tid_cmp at y.at) (is_known_at ys at) here
          | inr there ↦ or_second (eq_by_cmp tid_cmp at y.at) (is_known_at ys at) (known_front n ys at there)
        ]

pub all_front : {X : Type 0} (P : X → Type 0) (n : ℕ) (xs : List X) → AllByRecursion P xs → AllByRecursion P (take n xs)
all_front P zero xs a = tt
all_front P (suc n) [] a = tt
all_front P (suc n) (x ∷ xs) a = (a.0, all_front P n xs a.1)

-- ---- places named for the first time

unnamed_new : (is_named : Tid → Bool) (places : List Tid) (at : Tid) → is_among (unnamed is_named places) at ≡ true → is_named at ≡ true → ⊥
unnamed_new is_named [] at h n = true≢false (sym h)
unnamed_new is_named (p ∷ places) at h n =
    (elim (is_named p) as (λ b. is_named p ≡ b
    → is_among (cond b (unnamed is_named places) (p ∷ unnamed (λ q. is_named q || is_among (p ∷ []) q) places)) at ≡ true → ⊥) [
      | true ↦ λ was among. unnamed_new is_named places at among n
      | false ↦ λ was among.
          elim (either (eq_by_cmp tid_cmp at p) (is_among (unnamed (λ q. is_named q || is_among (p ∷ []) q) places) at) among) as (λ _. ⊥) [
            | inl here ↦ true≢false (sym n ∙ ap is_named (same_place at p here) ∙ was)
            | inr there ↦ unnamed_new (λ q. is_named q || is_among (p ∷ []) q) places at there (or_first (is_named at) (is_among (p ∷ []) at) n)
          ]
    ]) refl h

unnamed_among : (is_named : Tid → Bool) (places : List Tid) (at : Tid) → is_among (unnamed is_named places) at ≡ true → is_among places at ≡ true
unnamed_among is_named [] at h = h
unnamed_among is_named (p ∷ places) at h =
    (elim (is_named p) as (λ b. is_among (cond b (unnamed is_named places) (p ∷ unnamed (λ q. is_named q || is_among (p ∷ []) q) places)) at ≡ true
    → (eq_by_cmp tid_cmp at p || is_among places at) ≡ true) [
      | true ↦ λ among. or_second (eq_by_cmp tid_cmp at p) (is_among places at) (unnamed_among is_named places at among)
      | false ↦ λ among.
          elim (either (eq_by_cmp tid_cmp at p) (is_among (unnamed (λ q. is_named q || is_among (p ∷ []) q) places) at) among) as
          (λ _. (eq_by_cmp tid_cmp at p || is_among places at) ≡ true) [
            | inl here ↦ or_first (eq_by_cmp tid_cmp at p) (is_among places at) here
            | inr there ↦
                or_second (eq_by_cmp tid_cmp at p) (is_among places at) (unnamed_among (λ q. is_named q || is_among (p ∷ []) q) places at there)
          ]
    ]) h

-- each place once
abbrev Once : List Tid → Type 0
Once [] = Unit {0}
Once (p ∷ places) = (is_among places p ≡ false) × Once places

unnamed_once : (is_named : Tid → Bool) (places : List Tid) → Once (unnamed is_named places)
unnamed_once is_named [] = tt
unnamed_once is_named (p ∷ places) =
    elim (is_named p) as (λ b. Once (cond b (unnamed is_named places) (p ∷ unnamed (λ q. is_named q || is_among (p ∷ []) q) places))) [
      | true ↦ unnamed_once is_named places
      | false ↦ (
        never_true (is_among (unnamed (λ q. is_named q || is_among (p ∷ []) q) places) p)
            (λ h. unnamed_new (λ q. is_named q || is_among (p ∷ []) q) places p h
            (or_second (is_named p) (is_among (p ∷ []) p) (or_first (eq_by_cmp tid_cmp p p) false (itself p)))),
        unnamed_once (λ q. is_named q || is_among (p ∷ []) q) places,
      )
    ]

-- ---- elements that looks told

told_there : (ops : Ops) (query : List Bool) (at : Tid) (told : Answer) (q : Tid) → is_known_at (element_of ops query at told) q ≡ true → eq_by_cmp tid_cmp q at ≡ true
told_there ops query at Gone q h = absurd (true≢false (sym h))
told_there ops query at (OfMeta entry level hint blocks) q h = absurd (true≢false (sym h))
told_there ops query at (OfNode level version list_at ids bits) q h =
    elim (either (eq_by_cmp tid_cmp q at) false h) as (λ _. eq_by_cmp tid_cmp q at ≡ true) [ inl here ↦ here | inr never ↦ absurd (true≢false (sym never)) ]
told_there ops query at (OfList slots) q h = absurd (true≢false (sym h))
told_there ops query at (OfPage nodes) q h = absurd (true≢false (sym h))

told_among : (ops : Ops) (query : List Bool) (nodes : List (Tid × Answer)) (q : Tid) → is_known_at (elements_of ops query nodes) q ≡ true
    → is_among (map (λ n. n.0) nodes) q ≡ true
told_among ops query [] q h = h
told_among ops query (n ∷ nodes) q h =
    elim (either (is_known_at (element_of ops query n.0 n.1) q) (is_known_at (elements_of ops query nodes) q)
    (sym (known_both (element_of ops query n.0 n.1) (elements_of ops query nodes) q) ∙ h)) as (λ _. (eq_by_cmp tid_cmp q n.0 || is_among (map (λ n. n.0) nodes) q) ≡ true) [
      | inl here ↦ or_first (eq_by_cmp tid_cmp q n.0) (is_among (map (λ n. n.0) nodes) q) (told_there ops query n.0 n.1 q here)
      | inr there ↦ or_second (eq_by_cmp tid_cmp q n.0) (is_among (map (λ n. n.0) nodes) q) (told_among ops query nodes q there)
    ]

one_apart : (ops : Ops) (query : List Bool) (at : Tid) (told : Answer) → AreApart (element_of ops query at told)
one_apart ops query at Gone = tt
one_apart ops query at (OfMeta entry level hint blocks) = tt
one_apart ops query at (OfNode level version list_at ids bits) = (refl, tt)
one_apart ops query at (OfList slots) = tt
one_apart ops query at (OfPage nodes) = tt

one_cross : (ops : Ops) (query : List Bool) (at : Tid) (told : Answer) (others : List Found) → is_known_at others at ≡ false
    → AllByRecursion (λ x. is_known_at others x.at ≡ false) (element_of ops query at told)
one_cross ops query at Gone others none = tt
one_cross ops query at (OfMeta entry level hint blocks) others none = tt
one_cross ops query at (OfNode level version list_at ids bits) others none = (none, tt)
one_cross ops query at (OfList slots) others none = tt
one_cross ops query at (OfPage nodes) others none = tt

told_apart : (ops : Ops) (query : List Bool) (nodes : List (Tid × Answer)) → Once (map (λ n. n.0) nodes) → AreApart (elements_of ops query nodes)
told_apart ops query [] once = tt
told_apart ops query (n ∷ nodes) once =
    apart_both (element_of ops query n.0 n.1) (elements_of ops query nodes) (one_apart ops query n.0 n.1) (told_apart ops query nodes once.1)
    (one_cross ops query n.0 n.1 (elements_of ops query nodes)
    (never_true (is_known_at (elements_of ops query nodes) n.0) (λ h. true≢false (sym (told_among ops query nodes n.0 h) ∙ once.0))))

-- ---- one turn more

-- of elements that stood apart at named places, some are left, and new ones come at places that were not named
module _ (is_named now_named : Tid → Bool) (still : (at : Tid) → is_named at ≡ true → now_named at ≡ true) (keeps : Found → Bool) (xs ys : List Found)
    (was : AreNamedApart is_named xs) (apart : AreApart ys) (new : (at : Tid) → is_known_at ys at ≡ true → is_named at ≡ true → ⊥)
    (now : (at : Tid) → is_known_at ys at ≡ true → now_named at ≡ true) where
  crossed : (zs : List Found) → ((at : Tid) → is_known_at zs at ≡ true → is_named at ≡ true) → AllByRecursion (λ z. is_known_at ys z.at ≡ false) zs
  crossed [] named = tt
  crossed (z ∷ zs) named = (
    never_true (is_known_at ys z.at) (λ h. new z.at h (named z.at (or_first (eq_by_cmp tid_cmp z.at z.at) (is_known_at zs z.at) (itself z.at)))),
    crossed zs (λ at h. named at (or_second (eq_by_cmp tid_cmp at z.at) (is_known_at zs at) h)),
  )

  pub joined : AreNamedApart now_named (in_order (filter keeps xs ++ ys))
  joined = record {
    apart = apart_ranked is_before (filter keeps xs ++ ys)
        (apart_both (filter keeps xs) ys (apart_kept keeps xs was.apart) apart
        (crossed (filter keeps xs) (λ at h. was.named at (known_kept keeps xs at h))));
    named = λ at h.
        elim (either (is_known_at (filter keeps xs) at) (is_known_at ys at)
        (sym (known_ranked is_before (filter keeps xs ++ ys) at ∙ known_both (filter keeps xs) ys at) ∙ h)) as (λ _. now_named at ≡ true) [
          | inl old ↦ still at (was.named at (known_kept keeps xs at old))
          | inr fresh ↦ now at fresh
        ];
  }

kept_all : (xs : List Found) → filter (λ e. true) xs ≡ xs
kept_all [] = refl
kept_all (x ∷ xs) = ap (λ (l : List Found). x ∷ l) (kept_all xs)

pub firsts : (xs : List Found) → map (λ (p : Found × Bool). p.0) (map (λ (e : Found). (e, false)) xs) ≡ xs
firsts [] = refl
firsts (x ∷ xs) = ap (λ (l : List Found). x ∷ l) (firsts xs)

-- those that were found after a turn
pub found_turned : (s : Start) (t : Turn) (h : Held) → found_held (after_turn s t h) ≡ in_order (found_held h ++ filter is_live (elements_of s.ops s.query t.nodes))
found_turned s t h =
    let flag : Found → Found × Bool = λ e. (e, false) in
    let lives : List Found = filter is_live (elements_of s.ops s.query t.nodes) in
    sym (ranked-map (λ (p : Found × Bool). p.0) is_before (h.found ++ map flag lives))
    ∙ ap in_order (map-append (λ (p : Found × Bool). p.0) h.found (map flag lives) ∙ ap (λ (l : List Found). found_held h ++ l) (firsts lives))

-- what all that wait, and all that were found, are, they are after a turn
module _ (P : Found → Type 0) (s : Start) (t : Turn) (h : Held) (told : AllByRecursion P (elements_of s.ops s.query t.nodes)) where
  pub waiting_all : AllByRecursion P h.unexpanded → AllByRecursion P (after_turn s t h).unexpanded
  waiting_all all =
      let other : Found → Bool = λ e. not (eq_by_cmp tid_cmp e.at t.element.at) in
      all_ranked P is_before (filter other h.unexpanded ++ elements_of s.ops s.query t.nodes)
      (all_both P (filter other h.unexpanded) (elements_of s.ops s.query t.nodes) (all_kept P other h.unexpanded all) told)

  pub found_all : AllByRecursion P (found_held h) → AllByRecursion P (found_held (after_turn s t h))
  found_all all =
      subst (λ (l : List Found). AllByRecursion P l) (sym (found_turned s t h))
      (all_ranked P is_before (found_held h ++ filter is_live (elements_of s.ops s.query t.nodes))
      (all_both P (found_held h) (filter is_live (elements_of s.ops s.query t.nodes)) all
      (all_kept P is_live (elements_of s.ops s.query t.nodes) told)))

module _ (s : Start) (h : Held) (t : Turn) (n : ℕ) (steady : IsSteady n h) (looks : map (λ n. n.0) t.nodes ≡ unnamed h.is_named (named_in t.list))
    (long : AreLong n (elements_of s.ops s.query t.nodes)) where
  told_is_apart : AreApart (elements_of s.ops s.query t.nodes)
  told_is_apart = told_apart s.ops s.query t.nodes (subst Once (sym looks) (unnamed_once h.is_named (named_in t.list)))

  told_unnamed : (at : Tid) → is_known_at (elements_of s.ops s.query t.nodes) at ≡ true → is_among (unnamed h.is_named (named_in t.list)) at ≡ true
  told_unnamed at k = ap (λ (ps : List Tid). is_among ps at) (sym looks) ∙ told_among s.ops s.query t.nodes at k

  told_new : (at : Tid) → is_known_at (elements_of s.ops s.query t.nodes) at ≡ true → h.is_named at ≡ true → ⊥
  told_new at k = unnamed_new h.is_named (named_in t.list) at (told_unnamed at k)

  told_named : (at : Tid) → is_known_at (elements_of s.ops s.query t.nodes) at ≡ true → (h.is_named at || is_among (named_in t.list) at) ≡ true
  told_named at k =
      or_second (h.is_named at) (is_among (named_in t.list) at) (unnamed_among h.is_named (named_in t.list) at (told_unnamed at k))

  still : (at : Tid) → h.is_named at ≡ true → (h.is_named at || is_among (named_in t.list) at) ≡ true
  still at was = or_first (h.is_named at) (is_among (named_in t.list) at) was

  pub steady_turned : IsSteady n (after_turn s t h)
  steady_turned =
      let told : List Found = elements_of s.ops s.query t.nodes in
      let lives : List Found = filter is_live told in
      let named : Tid → Bool = λ at. h.is_named at || is_among (named_in t.list) at in
      record {
        waiting = joined h.is_named named still (λ e. not (eq_by_cmp tid_cmp e.at t.element.at)) h.unexpanded told steady.waiting told_is_apart told_new told_named;
        found = subst (λ (l : List Found). AreNamedApart named l) (sym (found_turned s t h))
            (subst (λ (l : List Found). AreNamedApart named (in_order (l ++ lives))) (kept_all (found_held h))
            (joined h.is_named named still (λ e. true) (found_held h) lives steady.found (apart_kept is_live told told_is_apart)
            (λ at k. told_new at (known_kept is_live told at k)) (λ at k. told_named at (known_kept is_live told at k))));
        waiting_long = waiting_all (λ e. length e.bits ≡ n) s t h long steady.waiting_long;
        found_long = found_all (λ e. length e.bits ≡ n) s t h long steady.found_long;
      }

pub steady_same : (n : ℕ) (g h : Held) → HoldTheSame g h → IsSteady n h → IsSteady n g
steady_same n g h same steady =
    let found_same : found_held g ≡ found_held h = ap (map (λ (p : Found × Bool). p.0)) same.found_are in
    record {
      waiting = record {
        apart = subst AreApart (sym same.unexpanded_are) steady.waiting.apart;
        named = λ at k. same.names at ∙ steady.waiting.named at (ap (λ (es : List Found). is_known_at es at) (sym same.unexpanded_are) ∙ k);
      };
      found = record {
        apart = subst AreApart (sym found_same) steady.found.apart;
        named = λ at k. same.names at ∙ steady.found.named at (ap (λ (es : List Found). is_known_at es at) (sym found_same) ∙ k);
      };
      waiting_long = subst (AreLong n) (sym same.unexpanded_are) steady.waiting_long;
      found_long = subst (AreLong n) (sym found_same) steady.found_long;
    }

pub steady_begun : (n : ℕ) (from : List Found) → AreApart from → AreLong n from → IsSteady n (begun_from from)
steady_begun n from apart long =
    let lives : found_held (begun_from from) ≡ in_order (filter is_live from) = firsts (in_order (filter is_live from)) in
    record {
      waiting = record { apart = apart_ranked is_before from apart; named = λ at k. sym (known_ranked is_before from at) ∙ k };
      found = subst (AreNamedApart (is_among (map place_of from))) (sym lives)
          (record {
            apart = apart_ranked is_before (filter is_live from) (apart_kept is_live from apart);
            named = λ at k. known_kept is_live from at (sym (known_ranked is_before (filter is_live from) at) ∙ k);
          });
      waiting_long = all_ranked (λ e. length e.bits ≡ n) is_before from long;
      found_long = subst (AreLong n) (sym lives)
          (all_ranked (λ e. length e.bits ≡ n) is_before (filter is_live from) (all_kept (λ e. length e.bits ≡ n) is_live from long));
    }
