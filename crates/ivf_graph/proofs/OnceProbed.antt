-- A row that stands in a probed list while a search reads is found once.
use Rattle.std.proofs.Common.{◌≡◌, inl, inr, ℕ, zero, suc, ◌+◌, ◌-◌, ◌*◌, ◌<◌, ◌≤◌, Bool, true, false, cond, List, [], ◌∷◌, ◌++◌, map, take, drop, length, slice_get, Contains, Option, Some, None, replicate, refl, sym, ap, subst, ◌∙◌, arith}
use Rattle.std.specs.List.{filter_map, cons_option, enumerate_from, AllByRecursion}
use Rattle.std.specs.Option.{option_and_then}
use Rattle.std.specs.Ordering.{is_lt}
use Rattle.std.proofs.Math.Seq.{take-add}
use Rattle.std.proofs.lemmas.Option.{same_Some, none-some, slice_get_within, slice_get_read}
use Rattle.std.proofs.lemmas.List.{take-map, drop-map, map-append, length-map, length-take-le}
use Rattle.list_values.specs.Ranking.{placed, ranked}
use Rattle.list_values.proofs.RankedOrder.{ranked-map}
use Rattle.index_sizes.specs.declared.limits.TheConstants.{MOST_BITS}
use Rattle.index_sizes.specs.Sizes.{centres_on_page}
use Rattle.bit_dist.specs.Distances.{hamming_of}
use Rattle.bit_dist.specs.Hits.{Hit}
use Rattle.vec_history.specs.declared.event.Act.{Act}
use Rattle.vec_history.specs.Acts.{IsRising}
use Rattle.ivf_graph.specs.declared.list.IvfList.{IvfList}
use Rattle.ivf_graph.specs.declared.graph.IvfGraph.{IvfGraph}
use Rattle.ivf_graph.specs.Graph.{Row, Part, centres, AreBlocksOwn}
use Rattle.ivf_graph.specs.Effect.{state_after}
use Rattle.ivf_graph.specs.Legal.{IsLegal}
use Rattle.ivf_graph.specs.Answer.{Found, found_from, found_on, near_cmp, is_nearer, by_nearness}
use Rattle.ivf_graph.specs.Looks.{first_block, Centre, centre_of, centre_pages, centres_of_block, next_on}
use Rattle.ivf_graph.specs.Lasting.{numbers, place_after, place_later, StandsAt}
use Rattle.ivf_graph.specs.Reads.{Walks, centres_read, is_centre_nearer, firsts, IsAnswerAt}
use Rattle.ivf_graph.specs.Reads.Walks.{done, begins, reads}
use Rattle.ivf_graph.specs.Once.{IsProbed, found_row, StandsIn, IsFoundOnce}
use Rattle.ivf_graph.proofs.Places.{stands_later}
use Rattle.ivf_graph.proofs.ReadsAtOne.{centres_after, as_many_lists}
use Rattle.ivf_graph.proofs.ReadsOfOne.{all_centres}
use Rattle.ivf_graph.proofs.OnceFound.{in_left, in_right, in_both, all_weaker, NoneOf, AtSlot, slot_later, slot_once, next_slot, IsOther, WasRead, none_here, more_before, walk_along, cons_apart}

-- ---- a number that stands once in a list

NoneIs : ℕ → List ℕ → Type 0
NoneIs n [] = Unit {0}
NoneIs n (m ∷ ms) = (m ≡ n → ⊥) × NoneIs n ms

data IsOnce (n : ℕ) : List ℕ → Type 0 where
  here : (m : ℕ) (ms : List ℕ) → m ≡ n → NoneIs n ms → IsOnce n (m ∷ ms)
  there : (m : ℕ) (ms : List ℕ) → (m ≡ n → ⊥) → IsOnce n ms → IsOnce n (m ∷ ms)

none_contained : (n : ℕ) (ms : List ℕ) → NoneIs n ms → Contains ms n → ⊥
unfolding NoneIs
none_contained n [] none c = absurd (omega (arith, c.1))
none_contained n (m ∷ ms) none (zero, low, is) = none.0 is
none_contained n (m ∷ ms) none (suc k, low, is) = none_contained n ms none.1 (k, omega (arith, low), is)

none_taken : (n k : ℕ) (ms : List ℕ) → NoneIs n ms → NoneIs n (take k ms)
unfolding NoneIs
none_taken n zero ms none = tt
none_taken n (suc k) [] none = tt
none_taken n (suc k) (m ∷ ms) none = (none.0, none_taken n k ms none.1)

once_taken : (n k : ℕ) (ms : List ℕ) → IsOnce n ms → Contains (take k ms) n → IsOnce n (take k ms)
once_taken n zero ms once c = absurd (omega (arith, c.1))
once_taken n (suc k) _ (here m ms is none) c = here m (take k ms) is (none_taken n k ms none)
once_taken n (suc k) _ (there m ms other once) (zero, low, is) = absurd (other is)
once_taken n (suc k) _ (there m ms other once) (suc i, low, is) = there m (take k ms) other (once_taken n k ms once (i, omega (arith, low), is))

module _ {X : Type 0} (key : X → ℕ) (lt : X → X → Bool) (n : ℕ) where
  none_placed : (x : X) (xs : List X) → (key x ≡ n → ⊥) → NoneIs n (map key xs) → NoneIs n (map key (placed lt x xs))
  unfolding NoneIs
  none_placed x [] other none = (other, tt)
  none_placed x (y ∷ ys) other none =
      elim (lt y x) as (λ b. NoneIs n (map key (cond b (y ∷ placed lt x ys) (x ∷ y ∷ ys)))) [
        | true ↦ (none.0, none_placed x ys other none.1)
        | false ↦ (other, none)
      ]

  it_placed : (x : X) (xs : List X) → key x ≡ n → NoneIs n (map key xs) → IsOnce n (map key (placed lt x xs))
  unfolding NoneIs
  it_placed x [] is none = here (key x) [] is tt
  it_placed x (y ∷ ys) is none =
      elim (lt y x) as (λ b. IsOnce n (map key (cond b (y ∷ placed lt x ys) (x ∷ y ∷ ys)))) [
        | true ↦ there (key y) (map key (placed lt x ys)) none.0 (it_placed x ys is none.1)
        | false ↦ here (key x) (map key (y ∷ ys)) is none
      ]

  -- by the keys, as a plain list with its equation
  once_placed : (ms : List ℕ) → IsOnce n ms → (x : X) (xs : List X) → ms ≡ map key xs → (key x ≡ n → ⊥) → IsOnce n (map key (placed lt x xs))
  once_placed _ (here m ms is none) x [] same other = absurd (cons_apart m ms same)
  once_placed _ (there m ms away once) x [] same other = absurd (cons_apart m ms same)
  once_placed _ (here m ms is none) x (y ∷ ys) same other =
      let head : m ≡ key y = cc in
      let rest : ms ≡ map key ys = cc in
      elim (lt y x) as (λ b. IsOnce n (map key (cond b (y ∷ placed lt x ys) (x ∷ y ∷ ys)))) [
        | true ↦ here (key y) (map key (placed lt x ys)) (sym head ∙ is) (none_placed x ys other (subst (NoneIs n) rest none))
        | false ↦ there (key x) (map key (y ∷ ys)) other (here (key y) (map key ys) (sym head ∙ is) (subst (NoneIs n) rest none))
      ]
  once_placed _ (there m ms away once) x (y ∷ ys) same other =
      let head : m ≡ key y = cc in
      let rest : ms ≡ map key ys = cc in
      elim (lt y x) as (λ b. IsOnce n (map key (cond b (y ∷ placed lt x ys) (x ∷ y ∷ ys)))) [
        | true ↦ there (key y) (map key (placed lt x ys)) (λ is. away (head ∙ is)) (once_placed ms once x ys rest other)
        | false ↦ there (key x) (map key (y ∷ ys)) other (there (key y) (map key ys) (λ is. away (head ∙ is)) (subst (IsOnce n) rest once))
      ]

  none_ranked : (xs : List X) → NoneIs n (map key xs) → NoneIs n (map key (ranked lt xs))
  unfolding NoneIs
  none_ranked [] none = tt
  none_ranked (x ∷ xs) none = none_placed x (ranked lt xs) none.0 (none_ranked xs none.1)

  once_ranked : (ms : List ℕ) → IsOnce n ms → (xs : List X) → ms ≡ map key xs → IsOnce n (map key (ranked lt xs))
  once_ranked _ (here m ms is none) [] same = absurd (cons_apart m ms same)
  once_ranked _ (there m ms away once) [] same = absurd (cons_apart m ms same)
  once_ranked _ (here m ms is none) (x ∷ xs) same =
      let head : m ≡ key x = cc in
      let rest : ms ≡ map key xs = cc in
      it_placed x (ranked lt xs) (sym head ∙ is) (none_ranked xs (subst (NoneIs n) rest none))
  once_ranked _ (there m ms away once) (x ∷ xs) same =
      let head : m ≡ key x = cc in
      let rest : ms ≡ map key xs = cc in
      once_placed (map key (ranked lt xs)) (once_ranked ms once xs rest) x (ranked lt xs) refl (λ is. away (head ∙ is))

-- ---- lists by their numbers

number_of : ℕ × IvfList → ℕ
number_of e = e.0

none_numbered : (n from : ℕ) (ls : List IvfList) → n < from → NoneIs n (map (λ e. e.0) (enumerate_from from ls))
unfolding NoneIs
none_numbered n from [] low = tt
none_numbered n from (l ∷ ls) low = ((λ is. absurd (omega (arith, is, low))), none_numbered n (from + 1) ls (omega (arith, low)))

once_numbered : (j from : ℕ) (ls : List IvfList) → j < length ls → IsOnce (from + j) (map (λ e. e.0) (enumerate_from from ls))
once_numbered j from [] low = absurd (omega (arith, low))
once_numbered zero from (l ∷ ls) low =
    here from (map (λ e. e.0) (enumerate_from (from + 1) ls)) (omega arith) (none_numbered (from + zero) (from + 1) ls (omega arith))
once_numbered (suc j) from (l ∷ ls) low =
    let same : from + 1 + j ≡ from + suc j = omega arith in
    there from (map (λ e. e.0) (enumerate_from (from + 1) ls)) (λ is. absurd (omega (arith, is)))
    (subst (λ (k : ℕ). IsOnce k (map (λ e. e.0) (enumerate_from (from + 1) ls))) same (once_numbered j (from + 1) ls (omega (arith, low))))

-- each element of the numbered list is that of its number
numbered_as : (all : List IvfList) (from : ℕ) (ls : List IvfList) → ((k : ℕ) (l : IvfList) → slice_get ls k ≡ Some l → slice_get all (from + k) ≡ Some l)
    → AllByRecursion (λ e. slice_get all e.0 ≡ Some e.1) (enumerate_from from ls)
numbered_as all from [] each = tt
numbered_as all from (l ∷ ls) each =
    let first : from + 0 ≡ from = omega arith in (
      ap (λ (k : ℕ). slice_get all k) (sym first) ∙ each 0 l refl,
      numbered_as all (from + 1) ls
          (λ k m is. let same : from + 1 + k ≡ from + suc k = omega arith in ap (λ (i : ℕ). slice_get all i) same ∙ each (suc k) m is),
    )

numbered : (ls : List IvfList) → AllByRecursion (λ e. slice_get ls e.0 ≡ Some e.1) (enumerate_from 0 ls)
numbered ls = numbered_as ls 0 ls (λ k l is. let same : 0 + k ≡ k = omega arith in ap (λ (i : ℕ). slice_get ls i) same ∙ is)

module _ {X : Type 0} (P : X → Type 0) where
  all_taken : (n : ℕ) (xs : List X) → AllByRecursion P xs → AllByRecursion P (take n xs)
  all_taken zero xs all = tt
  all_taken (suc n) [] all = tt
  all_taken (suc n) (x ∷ xs) all = (all.0, all_taken n xs all.1)

  all_dropped : (n : ℕ) (xs : List X) → AllByRecursion P xs → AllByRecursion P (drop n xs)
  all_dropped zero xs all = all
  all_dropped (suc n) [] all = tt
  all_dropped (suc n) (x ∷ xs) all = all_dropped n xs all.1

  all_both : (xs ys : List X) → AllByRecursion P xs → AllByRecursion P ys → AllByRecursion P (xs ++ ys)
  all_both [] ys p q = q
  all_both (x ∷ xs) ys p q = (p.0, all_both xs ys p.1 q)

  module _ (lt : X → X → Bool) where
    all_placed : (x : X) (ys : List X) → P x → AllByRecursion P ys → AllByRecursion P (placed lt x ys)
    all_placed x [] p all = (p, tt)
    all_placed x (y ∷ ys) p all =
        elim (lt y x) as (λ b. AllByRecursion P (cond b (y ∷ placed lt x ys) (x ∷ y ∷ ys))) [
          | true ↦ (all.0, all_placed x ys p all.1)
          | false ↦ (p, all)
        ]

    all_ranked : (xs : List X) → AllByRecursion P xs → AllByRecursion P (ranked lt xs)
    all_ranked [] all = tt
    all_ranked (x ∷ xs) all = all_placed x (ranked lt xs) all.0 (all_ranked xs all.1)

all_mapped : {X Y : Type 0} (P : Y → Type 0) (f : X → Y) (xs : List X) → AllByRecursion (λ x. P (f x)) xs → AllByRecursion P (map f xs)
all_mapped P f [] all = tt
all_mapped P f (x ∷ xs) all = (all.0, all_mapped P f xs all.1)

-- ---- what is ranked of a list: its number and its centre

abbrev key : Centre → ℕ × List Bool
key c = (c.list, c.bits)

abbrev key_of : ℕ × IvfList → ℕ × List Bool
key_of e = (e.0, e.1.centre)

map_after : {X Y Z : Type 0} (f : X → Y) (g : Y → Z) (xs : List X) → map g (map f xs) ≡ map (λ x. g (f x)) xs
map_after {Z = Z} f g [] = refl
map_after {Z = Z} f g (x ∷ xs) = ap (λ (z : List Z). g (f x) ∷ z) (map_after f g xs)

keys_by_centres : (from : ℕ) (ls ms : List IvfList) → map (λ l. l.centre) ls ≡ map (λ l. l.centre) ms
    → map key_of (enumerate_from from ls) ≡ map key_of (enumerate_from from ms)
keys_by_centres from [] [] same = refl
keys_by_centres from [] (m ∷ ms) same = absurd (cons_apart m.centre (map (λ l. l.centre) ms) (sym same))
keys_by_centres from (l ∷ ls) [] same = absurd (cons_apart l.centre (map (λ l. l.centre) ls) same)
keys_by_centres from (l ∷ ls) (m ∷ ms) same =
    let head : l.centre ≡ m.centre = cc in
    let rest : map (λ l. l.centre) ls ≡ map (λ l. l.centre) ms = cc in
    ap (λ (c : List Bool). (from, c) ∷ map key_of (enumerate_from (from + 1) ls)) head
    ∙ ap (λ (z : List (ℕ × List Bool)). (from, m.centre) ∷ z) (keys_by_centres (from + 1) ls ms rest)

page_keys : (g : IvfGraph) (places block : ℕ)
    → map key (centres_of_block places block g)
    ≡ take (centres_on_page places) (drop ((block - 1) * centres_on_page places) (map key_of (enumerate_from 0 g.lists)))
page_keys g places block =
    let count = centres_on_page places in
    let from = (block - 1) * centres_on_page places in
    map_after centre_of key (take count (drop from (enumerate_from 0 g.lists)))
    ∙ sym (take-map key_of count (drop from (enumerate_from 0 g.lists)))
    ∙ ap (take count) (sym (drop-map key_of from (enumerate_from 0 g.lists)))

-- reads in states of the same centres tell the same keys
read_keys : (g : IvfGraph) (places block : ℕ) (states : List IvfGraph) → AllByRecursion (λ s. centres s ≡ centres g) states
    → map key (centres_read places block states) ≡ map key (centres_read places block (replicate (length states) g))
read_keys g places block [] same = refl
read_keys g places block (s ∷ states) same =
    map-append key (centres_of_block places block s) (centres_read places (block + 1) states)
    ∙ ap (λ (z : List (ℕ × List Bool)). z ++ map key (centres_read places (block + 1) states))
    (page_keys s places block
    ∙ ap (λ (z : List (ℕ × List Bool)). take (centres_on_page places) (drop ((block - 1) * centres_on_page places) z)) (keys_by_centres 0 s.lists g.lists same.0)
    ∙ sym (page_keys g places block))
    ∙ ap (λ (z : List (ℕ × List Bool)). map key (centres_of_block places block g) ++ z) (read_keys g places (block + 1) states same.1)
    ∙ sym (map-append key (centres_of_block places block g) (centres_read places (block + 1) (replicate (length states) g)))

-- the numbers of the nearest centres are those of the nearest lists
nearest_keys : (g : IvfGraph) (query : List Bool) (probes : ℕ) (cs : List Centre) → map key cs ≡ map key_of (enumerate_from 0 g.lists)
    → map (λ c. c.list) (take probes (ranked (is_centre_nearer query) cs)) ≡ map (λ e. e.0) (take probes (by_nearness g query))
nearest_keys g query probes cs same =
    let nearer : (ℕ × List Bool) → (ℕ × List Bool) → Bool = λ u v. is_lt (near_cmp (hamming_of u.1 query, u.0) (hamming_of v.1 query, v.0)) in
    let number : ℕ × List Bool → ℕ = λ k. k.0 in
    sym (map_after key number (take probes (ranked (is_centre_nearer query) cs)))
    ∙ ap (map number) (sym (take-map key probes (ranked (is_centre_nearer query) cs))
    ∙ ap (take probes) (sym (ranked-map key nearer cs) ∙ ap (ranked nearer) same ∙ ranked-map key_of nearer (enumerate_from 0 g.lists))
    ∙ take-map key_of probes (by_nearness g query))
    ∙ map_after key_of number (take probes (by_nearness g query))

-- ---- walks along the chains that are probed

module _ (base : IvfGraph) (acts : List Act) (legal : IsLegal base acts) (own : AreBlocksOwn base) (query : List Bool) (high list slot b : ℕ) where
  At : ℕ → ℕ → ℕ → ℕ → Type 0
  At p j i x = AtSlot base acts legal own p j i x

  -- what a centre told of its chain is so, and the chain of this list has a first block
  record IsTold (p : ℕ) (c : Centre) : Type 0 where
    first_at : (x : ℕ) → c.first ≡ Some x → AtSlot base acts legal own p c.list 0 x
    has_first : c.list ≡ list → (x : ℕ) × (c.first ≡ Some x)

  told_later : (p q : ℕ) (cs : List Centre) → p ≤ q → AllByRecursion (IsTold p) cs → AllByRecursion (IsTold q) cs
  told_later p q cs later all =
      all_weaker (IsTold p) (IsTold q)
      (λ c t. record { first_at = λ x is. slot_later base acts legal own p q c.list 0 x later (t.first_at x is); has_first = t.has_first }) cs all

  Other : ℕ → ℕ → Type 0
  Other p x = IsOther base acts legal own query high list slot b p x

  others_of : (p : ℕ) (cs : List Centre) → AllByRecursion (IsTold p) cs → NoneIs list (map (λ c. c.list) cs)
      → AllByRecursion (IsOther base acts legal own query high list slot b p) (filter_map (λ c. c.first) cs)
  unfolding NoneIs
  others_of p [] all none = tt
  others_of p (c ∷ cs) all none = by_first c.first (all.0.first_at) (others_of p cs all.1 none.1)
    where
      by_first : (o : Option ℕ) → ((x : ℕ) → o ≡ Some x → AtSlot base acts legal own p c.list 0 x)
          → AllByRecursion (IsOther base acts legal own query high list slot b p) (filter_map (λ c. c.first) cs)
          → AllByRecursion (IsOther base acts legal own query high list slot b p) (cons_option o (filter_map (λ c. c.first) cs))
      by_first None at rest = rest
      by_first (Some x) at rest = (record { j = c.list; at = at x refl; other = none.0 }, rest)

  -- the first chain that has a block: this list's, or another's
  data Begun (p first : ℕ) (more : List ℕ) : Type 0 where
    this : AtSlot base acts legal own p list 0 first → AllByRecursion (IsOther base acts legal own query high list slot b p) more → Begun p first more
    another : (j : ℕ) (cs : List Centre) → (j ≡ list → ⊥) → AtSlot base acts legal own p j 0 first → more ≡ filter_map (λ c. c.first) cs
        → AllByRecursion (IsTold p) cs → IsOnce list (map (λ c. c.list) cs) → Begun p first more

  begun_at : (p first : ℕ) (more ms : List ℕ) → IsOnce list ms → (cs : List Centre) → ms ≡ map (λ c. c.list) cs → AllByRecursion (IsTold p) cs
      → first ∷ more ≡ filter_map (λ c. c.first) cs → Begun p first more
  begun_at p first more _ (here m ms is none) [] same all e = absurd (cons_apart m ms same)
  begun_at p first more _ (there m ms away once) [] same all e = absurd (cons_apart m ms same)
  begun_at p first more _ (here m ms is none) (c ∷ cs) same all e =
      let head : m ≡ c.list = cc in
      let rest : ms ≡ map (λ c. c.list) cs = cc in
      let has = all.0.has_first (sym head ∙ is) in
      let whole : first ∷ more ≡ has.0 ∷ filter_map (λ c. c.first) cs = e ∙ ap (λ (o : Option ℕ). cons_option o (filter_map (λ c. c.first) cs)) has.1 in
      let first_is : first ≡ has.0 = cc in
      let more_is : more ≡ filter_map (λ c. c.first) cs = cc in
      this
      (subst (λ (j : ℕ). AtSlot base acts legal own p j 0 first) (sym head ∙ is)
      (subst (λ (x : ℕ). AtSlot base acts legal own p c.list 0 x) (sym first_is) (all.0.first_at has.0 has.1)))
      (subst (AllByRecursion (IsOther base acts legal own query high list slot b p)) (sym more_is) (others_of p cs all.1 (subst (NoneIs list) rest none)))
  begun_at p first more _ (there m ms away once) (c ∷ cs) same all e =
      let head : m ≡ c.list = cc in
      let rest : ms ≡ map (λ c. c.list) cs = cc in
      by_first c.first all.0.first_at e (λ f. begun_at p first more ms once cs rest all.1 f) (λ is. away (head ∙ is)) (subst (IsOnce list) rest once)
    where
      by_first : (o : Option ℕ) → ((x : ℕ) → o ≡ Some x → AtSlot base acts legal own p c.list 0 x)
          → first ∷ more ≡ cons_option o (filter_map (λ c. c.first) cs) → (first ∷ more ≡ filter_map (λ c. c.first) cs → Begun p first more)
          → (c.list ≡ list → ⊥) → IsOnce list (map (λ c. c.list) cs) → Begun p first more
      by_first None at e further other once_in = further e
      by_first (Some x) at e further other once_in =
          let first_is : first ≡ x = cc in
          let more_is : more ≡ filter_map (λ c. c.first) cs = cc in
          another c.list cs other (subst (λ (y : ℕ). AtSlot base acts legal own p c.list 0 y) (sym first_is) (at x refl)) more_is all.1 once_in

  none_left : (p : ℕ) (ms : List ℕ) → IsOnce list ms → (cs : List Centre) → ms ≡ map (λ c. c.list) cs → AllByRecursion (IsTold p) cs
      → [] ≡ filter_map (λ c. c.first) cs → ⊥
  none_left p _ (here m ms is none) [] same all e = cons_apart m ms same
  none_left p _ (there m ms away once) [] same all e = cons_apart m ms same
  none_left p _ (here m ms is none) (c ∷ cs) same all e =
      let head : m ≡ c.list = cc in
      let has = all.0.has_first (sym head ∙ is) in
      cons_apart has.0 (filter_map (λ c. c.first) cs) (sym (e ∙ ap (λ (o : Option ℕ). cons_option o (filter_map (λ c. c.first) cs)) has.1))
  none_left p _ (there m ms away once) (c ∷ cs) same all e =
      let rest : ms ≡ map (λ c. c.list) cs = cc in
      by_first c.first e (λ f. none_left p ms once cs rest all.1 f)
    where
      by_first : (o : Option ℕ) → [] ≡ cons_option o (filter_map (λ c. c.first) cs) → ([] ≡ filter_map (λ c. c.first) cs → ⊥) → ⊥
      by_first None e further = further e
      by_first (Some x) e further = cons_apart x (filter_map (λ c. c.first) cs) (sym e)

  Was : ℕ → List Found → Type 0
  Was p fs = WasRead base acts legal own query high list slot b p fs

  -- the chains one after the other: the block is read once
  walk_chains : {states : List IvfGraph} {at : Option ℕ} {later : List ℕ} {fs : List Found} → Walks query states at later fs
      → (ps : List ℕ) (p : ℕ) → states ≡ map (state_after base acts) ps → IsRising p ps high → AtSlot base acts legal own p list slot b
      → ((x : ℕ) → at ≡ Some x → (j : ℕ) × (i : ℕ) × AtSlot base acts legal own p j i x × (j ≡ list → ⊥))
      → (cs : List Centre) → later ≡ filter_map (λ c. c.first) cs → AllByRecursion (IsTold p) cs → IsOnce list (map (λ c. c.list) cs)
      → WasRead base acts legal own query high list slot b p fs
  walk_chains done ps p are rising here_b at cs later_is all once = absurd (none_left p (map (λ c. c.list) cs) once cs refl all later_is)
  walk_chains (begins states first more fs w) ps p are rising here_b at cs later_is all once =
      elim (begun_at p first more (map (λ c. c.list) cs) once cs refl all later_is) as (λ _. WasRead base acts legal own query high list slot b p fs) [
        | this here_first others ↦
            walk_along base acts legal own query high list slot b w ps p 0 first are rising here_b refl here_first (omega arith) others
        | another j ds other at_first more_is told once_in ↦
            walk_chains w ps p are rising here_b
            (λ x same. (j, 0, subst (λ (y : ℕ). AtSlot base acts legal own p j 0 y) (same_Some first x same) at_first, other)) ds more_is told once_in
      ]
  walk_chains (reads g states block rows more fs on w) [] p are rising here_b at cs later_is all once = absurd (cons_apart g states are)
  walk_chains (reads g states block rows more fs on w) (q ∷ ps) p are rising here_b at cs later_is all once =
      let state : g ≡ state_after base acts q = cc in
      let rest : states ≡ map (state_after base acts) ps = cc in
      let was = at block refl in
      let now = slot_later base acts legal own p q was.0 was.1 block rising.0 was.2 in
      let here_now = slot_later base acts legal own p q list slot b rising.0 here_b in
      let other : block ≡ b → ⊥ =
      (λ same. was.3 (slot_once base acts legal own q was.0 was.1 list slot b (subst (λ (y : ℕ). AtSlot base acts legal own q was.0 was.1 y) same now) here_now).0) in
      more_before base acts legal own query high list slot b p q (found_on query (block, rows)) fs rising.0 (none_here query b block rows other)
      (walk_chains w ps q rest rising.1 here_now
      (λ x same.
      (was.0, suc was.1, next_slot base acts legal own q was.0 was.1 block x now (ap (λ (h : IvfGraph). next_on h block) (sym state) ∙ same), was.3))
      cs later_is (told_later p q cs rising.0 all) once)

  -- ---- the pages of the centres

  told_page : (q places block : ℕ) → AtSlot base acts legal own q list slot b
      → AllByRecursion (IsTold q) (centres_of_block places block (state_after base acts q))
  told_page q places block there_b =
      let g : IvfGraph = state_after base acts q in
      let count = centres_on_page places in
      let from = (block - 1) * centres_on_page places in
      all_mapped (IsTold q) centre_of (take count (drop from (enumerate_from 0 g.lists)))
      (all_weaker (λ e. slice_get g.lists e.0 ≡ Some e.1) (λ e. IsTold q (centre_of e))
      (λ e is. record {
        first_at = λ x first. record { of_list = e.1; is_list = is; is = first_number e.1.chain x first };
        has_first = λ same.
            let this_list : there_b.of_list ≡ e.1 = same_Some there_b.of_list e.1 (sym there_b.is_list ∙ ap (λ (k : ℕ). slice_get g.lists k) (sym same) ∙ is) in
            some_first e.1.chain slot b (subst (λ (l : IvfList). slice_get (numbers l) slot ≡ Some b) this_list there_b.is);
      })
      (take count (drop from (enumerate_from 0 g.lists)))
      (all_taken (λ e. slice_get g.lists e.0 ≡ Some e.1) count (drop from (enumerate_from 0 g.lists))
      (all_dropped (λ e. slice_get g.lists e.0 ≡ Some e.1) from (enumerate_from 0 g.lists) (numbered g.lists))))
    where
      first_number : (chain : List Part) (x : ℕ) → first_block chain ≡ Some x → slice_get (map (λ p. p.0) chain) 0 ≡ Some x
      first_number [] x e = absurd (none-some x e)
      first_number (p ∷ chain) x e = e

      some_first : (chain : List Part) (i x : ℕ) → slice_get (map (λ p. p.0) chain) i ≡ Some x → (y : ℕ) × (first_block chain ≡ Some y)
      some_first [] i x e = absurd (none-some x e)
      some_first (p ∷ chain) i x e = (p.0, refl)

  told_pages : (low p places block : ℕ) (qs : List ℕ) → AtSlot base acts legal own low list slot b → AllByRecursion (λ q. (low ≤ q) × (q ≤ p)) qs
      → AllByRecursion (IsTold p) (centres_read places block (map (state_after base acts) qs))
  told_pages low p places block [] here_b within = tt
  told_pages low p places block (q ∷ qs) here_b within =
      all_both (IsTold p) (centres_of_block places block (state_after base acts q)) (centres_read places (block + 1) (map (state_after base acts) qs))
      (told_later q p (centres_of_block places block (state_after base acts q)) within.0.1
      (told_page q places block (slot_later base acts legal own low q list slot b within.0.0 here_b)))
      (told_pages low p places (block + 1) qs here_b within.1)

-- ---- positions

-- where the first so many positions end
record IsCut (low high n : ℕ) (ps : List ℕ) : Type 0 where
  at : ℕ
  from_low : low ≤ at
  within : AllByRecursion (λ q. (low ≤ q) × (q ≤ at)) (take n ps)
  rising : IsRising at (drop n ps) high

cut_at : (low high n : ℕ) (ps : List ℕ) → IsRising low ps high → IsCut low high n ps
cut_at low high zero ps up = record { at = low; from_low = omega arith; within = tt; rising = up }
cut_at low high (suc n) [] up = record { at = low; from_low = omega arith; within = tt; rising = up }
cut_at low high (suc n) (p ∷ ps) up =
    let rest = cut_at p high n ps up.1 in
    let from = rest.from_low in
    let first = up.0 in
    record {
      at = rest.at;
      from_low = omega (arith, from, first);
      within = (
        (first, from),
        all_weaker (λ q. (p ≤ q) × (q ≤ rest.at)) (λ q. (low ≤ q) × (q ≤ rest.at)) (λ q w. let a = w.0 in (omega (arith, a, first), w.1)) (take n ps) rest.within,
      );
      rising = rest.rising;
    }

same_centres : (base : IvfGraph) (acts : List Act) (low : ℕ) (qs : List ℕ)
    → AllByRecursion (λ s. centres s ≡ centres (state_after base acts low)) (map (state_after base acts) qs)
same_centres base acts low [] = tt
same_centres base acts low (q ∷ qs) = (centres_after base (take q acts) ∙ sym (centres_after base (take low acts)), same_centres base acts low qs)

-- ---- the row on its block

front_place : (xs ys : List Act) (block place z : ℕ) → place_later (xs ++ ys) block place ≡ Some z → (y : ℕ) × (place_later xs block place ≡ Some y)
front_place [] ys block place z e = (place, refl)
front_place (a ∷ xs) ys block place z e =
    elim (place_after a.event block place) as
    (λ o. option_and_then (λ p. place_later (xs ++ ys) block p) o ≡ Some z → (y : ℕ) × (option_and_then (λ p. place_later xs block p) o ≡ Some y)) [
      | None ↦ λ none. absurd (none-some z none)
      | Some p ↦ λ some. front_place xs ys block p z some
    ] e

then_place : (acts : List Act) (low mid high block place z : ℕ) → low ≤ mid → mid ≤ high
    → place_later (take (high - low) (drop low acts)) block place ≡ Some z
    → (y : ℕ) × (place_later (take (mid - low) (drop low acts)) block place ≡ Some y)
then_place acts low mid high block place z from to e =
    let whole : high - low ≡ (mid - low) + (high - mid) = omega (arith, from, to) in
    front_place (take (mid - low) (drop low acts)) (take (high - mid) (drop (mid - low) (drop low acts))) block place z
    (ap (λ (xs : List Act). place_later xs block place) (sym (ap (λ (n : ℕ). take n (drop low acts)) whole ∙ take-add (mid - low) (high - mid) (drop low acts))) ∙ e)

row_found : (query : List Bool) (block offset : ℕ) (rows : List Row) (k : ℕ) (r : Row) → slice_get rows k ≡ Some r
    → slice_get (found_from query block offset rows) k ≡ Some (record { distance = hamming_of r.1 query; id = r.0; block = block; offset = offset + k })
row_found query block offset [] k r e = absurd (none-some r e)
row_found query block offset (s ∷ rows) zero r e =
    let same : offset ≡ offset + 0 = omega arith in
    ap (λ (x : Row). Some (record { distance = hamming_of x.1 query; id = x.0; block = block; offset = offset })) (same_Some s r e)
    ∙ ap (λ (o : ℕ). Some (record { distance = hamming_of r.1 query; id = r.0; block = block; offset = o })) same
row_found query block offset (s ∷ rows) (suc k) r e =
    let same : offset + 1 + k ≡ offset + suc k = omega arith in
    row_found query block (offset + 1) rows k r e
    ∙ ap (λ (o : ℕ). Some (record { distance = hamming_of r.1 query; id = r.0; block = block; offset = o })) same

offset_found : (query : List Bool) (block offset : ℕ) (rows : List Row) (k : ℕ) (f : Found) → slice_get (found_from query block offset rows) k ≡ Some f
    → f.offset ≡ offset + k
offset_found query block offset [] k f e = absurd (none-some f e)
offset_found query block offset (s ∷ rows) zero f e = let is = ap (λ (g : Found). g.offset) (same_Some _ f e) in omega (arith, is)
offset_found query block offset (s ∷ rows) (suc k) f e = let is = offset_found query block (offset + 1) rows k f e in omega (arith, is)

-- one row of the block and the offset, where no row before and behind is of the block
only_one : (query : List Bool) (block : ℕ) (before : List Found) (rows : List Row) (behind : List Found) (now : ℕ) → NoneOf block before → NoneOf block behind → (k : ℕ) (f : Found)
    → slice_get (before ++ (found_on query (block, rows) ++ behind)) k ≡ Some f → f.block ≡ block → f.offset ≡ now + 1 → k ≡ length before + now
only_one query block before rows behind now none_before none_behind k f is of_block of_offset =
    elim (in_both before (found_on query (block, rows) ++ behind) k f is) as (λ _. k ≡ length before + now) [
      | inl left ↦ absurd (none_before k f left of_block)
      | inr right ↦
          elim (in_both (found_on query (block, rows)) behind right.place f right.is) as (λ _. k ≡ length before + now) [
            | inl it ↦
                let at = offset_found query block 1 rows right.place f it in
                let place_is = right.behind in
                omega (arith, at, place_is, of_offset)
            | inr last ↦ absurd (none_behind last.place f last.is of_block)
          ]
    ]

-- ---- the law

module _ (base : IvfGraph) (acts : List Act) (legal : IsLegal base acts) (own : AreBlocksOwn base) (low high list block place probes : ℕ) (row : Row)
    (positions : List ℕ) (query : List Bool) (answer : List Hit) (long : length query ≤ MOST_BITS) (rising : IsRising low positions high)
    (a : IsAnswerAt base acts positions query probes answer) (probed : IsProbed (state_after base acts low) query probes list)
    (s : StandsIn base acts low high list block place row) where
  slot : ℕ
  slot = s.in_chain.0

  here_block : AtSlot base acts legal own low list slot block
  unfolding slot
  here_block = record {
    of_list = s.of_list;
    is_list = s.is_list;
    is = slice_get_read (numbers s.of_list) (length (numbers s.of_list)) s.in_chain.0 block refl s.in_chain.1 (sym s.in_chain.2);
  }

  pages : ℕ
  pages = centre_pages (length query) (length base.lists)

  first_positions : take (centre_pages (length query) (length base.lists)) (map (state_after base acts) positions)
      ≡ map (state_after base acts) (take (centre_pages (length query) (length base.lists)) positions)
  first_positions = take-map (state_after base acts) (centre_pages (length query) (length base.lists)) positions

  told : List Centre
  told = centres_read (length query) 1 (map (state_after base acts) (take (centre_pages (length query) (length base.lists)) positions))

  told_keys : map key told ≡ map key_of (enumerate_from 0 (state_after base acts low).lists)
  unfolding told
  told_keys =
      let g : IvfGraph = state_after base acts low in
      let n : ℕ = centre_pages (length query) (length base.lists) in
      let enough : n ≤ length positions = subst (λ (k : ℕ). n ≤ k) (length-map positions (state_after base acts)) a.answers.enough in
      let many : length (map (state_after base acts) (take n positions)) ≡ centre_pages (length query) (length g.lists) =
      length-map (take n positions) (state_after base acts) ∙ length-take-le n positions enough
      ∙ ap (centre_pages (length query)) (sym (as_many_lists base (take low acts))) in
      read_keys g (length query) 1 (map (state_after base acts) (take n positions)) (same_centres base acts low (take n positions))
      ∙ ap (λ (k : ℕ). map key (centres_read (length query) 1 (replicate k g))) many
      ∙ ap (map key) (all_centres g (length query) long) ∙ map_after centre_of key (enumerate_from 0 g.lists)

  chosen : List Centre
  chosen = take probes (ranked (is_centre_nearer query) told)

  chosen_numbers : map (λ c. c.list) chosen ≡ map (λ e. e.0) (take probes (by_nearness (state_after base acts low) query))
  unfolding chosen
  chosen_numbers = nearest_keys (state_after base acts low) query probes told told_keys

  once : IsOnce list (map (λ c. c.list) chosen)
  once =
      let g : IvfGraph = state_after base acts low in
      let within : list < length g.lists = slice_get_within g.lists list s.of_list s.is_list in
      let same : 0 + list ≡ list = omega arith in
      let all : IsOnce list (map (λ e. e.0) (by_nearness g query)) =
      once_ranked (λ (e : ℕ × IvfList). e.0) (is_nearer query) list (map (λ e. e.0) (enumerate_from 0 g.lists))
      (subst (λ (k : ℕ). IsOnce k (map (λ e. e.0) (enumerate_from 0 g.lists))) same (once_numbered list 0 g.lists within)) (enumerate_from 0 g.lists) refl in
      let front : take probes (map (λ e. e.0) (by_nearness g query)) ≡ map (λ e. e.0) (take probes (by_nearness g query)) =
      take-map (λ (e : ℕ × IvfList). e.0) probes (by_nearness g query) in
      subst (IsOnce list) (front ∙ sym chosen_numbers)
      (once_taken list probes (map (λ e. e.0) (by_nearness g query)) all (subst (λ (ns : List ℕ). Contains ns list) (sym front) probed))

  was_read : (cut : IsCut low high (centre_pages (length query) (length base.lists)) positions)
      → WasRead base acts legal own query high list slot block cut.at a.answers.found
  unfolding told chosen
  was_read cut =
      let n : ℕ = centre_pages (length query) (length base.lists) in
      let all : AllByRecursion (IsTold base acts legal own query high list slot block cut.at) chosen =
      all_taken (IsTold base acts legal own query high list slot block cut.at) probes (ranked (is_centre_nearer query) told)
      (all_ranked (IsTold base acts legal own query high list slot block cut.at) (is_centre_nearer query) told
      (told_pages base acts legal own query high list slot block low cut.at (length query) 1 (take n positions) here_block cut.within)) in
      walk_chains base acts legal own query high list slot block a.answers.walked (drop n positions) cut.at
      (drop-map (state_after base acts) n positions) cut.rising
      (slot_later base acts legal own low cut.at list slot block cut.from_low here_block)
      (λ x none. absurd (none-some x none)) chosen
      (ap (λ (states : List IvfGraph). firsts query probes (centres_read (length query) 1 states)) first_positions) all once

  pub found_once : IsFoundOnce base acts low high query block place row a.answers.found
  found_once =
      let cut = cut_at low high (centre_pages (length query) (length base.lists)) positions rising in
      let r = was_read cut in
      let from : low ≤ r.position = (let x = cut.from_low in let y = r.from_low in omega (arith, x, y)) in
      let moved = then_place acts low r.position high block place s.last from r.to_high s.not_cut in
      let stands : StandsAt (state_after base acts r.position) block moved.0 row =
      stands_later base acts legal own low r.position block place moved.0 row from s.stands moved.1 in
      let same_rows : stands.rows ≡ r.rows = same_Some stands.rows r.rows (sym stands.stands ∙ r.on) in
      let there : slice_get r.rows moved.0 ≡ Some row = ap (λ (rs : List Row). slice_get rs moved.0) (sym same_rows) ∙ stands.here in
      let offset : 1 + moved.0 ≡ moved.0 + 1 = omega arith in
      let it : slice_get (found_on query (block, r.rows)) moved.0 ≡ Some (found_row query block moved.0 row) =
      row_found query block 1 r.rows moved.0 row there
      ∙ ap (λ (o : ℕ). Some (record { distance = hamming_of row.1 query; id = row.0; block = block; offset = o })) offset in
      record {
        position = r.position;
        from_low = from;
        to_high = r.to_high;
        now = moved.0;
        moved = moved.1;
        number = length r.before + moved.0;
        is = ap (λ (fs : List Found). slice_get fs (length r.before + moved.0)) r.is
            ∙ in_right r.before (found_on query (block, r.rows) ++ r.behind) moved.0 (found_row query block moved.0 row)
            (in_left (found_on query (block, r.rows)) r.behind moved.0 (found_row query block moved.0 row) it);
        only = λ k f is of_block of_offset.
            only_one query block r.before r.rows r.behind moved.0 r.none_before r.none_behind k f
            (ap (λ (fs : List Found). slice_get fs k) (sym r.is) ∙ is) of_block of_offset;
      }
