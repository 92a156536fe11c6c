-- The blocks of all chains are apart, and below the number of blocks.
use Rattle.std.proofs.Common.{◌≡◌, ℕ, zero, suc, ◌+◌, ◌<◌, ◌≤◌, ◌||◌, ◌==◌, eqb, not, Bool, true, false, List, [], ◌∷◌, ◌++◌, map, length, Option, Some, None, refl, sym, ap, ap₂, subst, ◌∙◌, arith}
use Rattle.std.specs.Prelude.{slice_get, if◌then◌else◌, flat_map}
use Rattle.std.specs.List.{All, AllByRecursion, IsDistinct}
use Rattle.std.proofs.lemmas.Bool.{and_parts, eqb-true, eq-eqb, or_parts}
use Rattle.std.proofs.lemmas.List.{map-append}
use Rattle.std.proofs.lemmas.List.Elements.{All-nil, All-cons}
use Rattle.std.proofs.lemmas.List.Folds.{list_any-append}
use Rattle.std.proofs.lemmas.Map.Keys.{IsDistinct-cons, IsDistinct-head, IsDistinct-tail}
use Rattle.std.proofs.lemmas.Option.{slice_get_within}
use Rattle.vec_names.specs.declared.params.Params.{Params}
use Rattle.page_bytes.specs.Content.{Content}
use Rattle.vec_tuples.specs.declared.centre.CentreTuple.{CentreTuple}
use Rattle.ivf_graph.specs.declared.list.IvfList.{IvfList}
use Rattle.ivf_graph.specs.declared.graph.IvfGraph.{IvfGraph}
use Rattle.ivf_graph.specs.Graph.{Part, block_numbers, AreBlocksOwn}
use Rattle.page_redo.specs.PageTuples.{is_entries_page}
use Rattle.ivf_pages.specs.Standing.{is_among, has_entries, next_of, goes_to, followed, centre_in, chain_from, chain_of, chain_in, part_in, Stands}
use Rattle.ivf_pages.proofs.Given.{or_parts_of}
use Rattle.ivf_pages.proofs.Chains.{among_chain, entries_there}
use Rattle.ivf_pages.proofs.Root.{entries_behind}
use Rattle.ivf_pages.proofs.RowsThere.{tuple_of_list}

none_apart : IsDistinct eqb []
unfolding IsDistinct
none_apart = tt

flipped : (x y : ℕ) → (y == x) ≡ false → eqb x y ≡ false
flipped x y is = by_test (eqb x y) refl
  where
    by_test : (t : Bool) → eqb x y ≡ t → eqb x y ≡ false
    by_test true e = let same : (y == x) ≡ true = eq-eqb y x (sym (eqb-true x y e)) in absurd cc
    by_test false e = e

-- a block that is not among others differs from each
all_apart : (b : ℕ) (bs : List ℕ) → is_among b bs ≡ false → AllByRecursion (λ y. eqb b y ≡ false) bs
all_apart b [] out = tt
all_apart b (x ∷ bs) out =
    let parts = or_parts (x == b) (is_among b bs) out in (flipped b x parts.0, all_apart b bs parts.1)

among_apart : (b : ℕ) (bs : List ℕ) → AllByRecursion (λ y. eqb b y ≡ false) bs → is_among b bs ≡ false
among_apart b [] all = refl
among_apart b (x ∷ bs) (first, rest) = ap₂ (λ (s t : Bool). s || t) (flipped x b first) (among_apart b bs rest)

-- lists that share no block
apart_append : (xs ys : List ℕ) → IsDistinct eqb xs → IsDistinct eqb ys → ((b : ℕ) → is_among b xs ≡ true → is_among b ys ≡ false)
    → IsDistinct eqb (xs ++ ys)
apart_append [] ys d e apart = e
apart_append (x ∷ xs) ys d e apart =
    let out : is_among x xs ≡ false = among_apart x xs (IsDistinct-head eqb x xs d) in
    let here : is_among x ys ≡ false = apart x (ap (λ (t : Bool). t || is_among x xs) (eq-eqb x x refl)) in
    IsDistinct-cons eqb x (xs ++ ys)
    (all_apart x (xs ++ ys) (list_any-append (λ (b : ℕ). b == x) xs ys ∙ ap₂ (λ (s t : Bool). s || t) out here))
    (apart_append xs ys (IsDistinct-tail eqb x xs d) e (λ b is. apart b (either (x == b) (is_among b xs) is)))
  where
    either : (s t : Bool) → t ≡ true → (s || t) ≡ true
    either true t is = refl
    either false t is = is

-- ---- one chain

module _ (pages : List Content) where
  -- a block of a chain was not met before it
  not_met : (most : ℕ) (met : List ℕ) (to : Option ℕ) (b : ℕ) → is_among b (followed pages most met to) ≡ true → is_among b met ≡ false
  not_met zero met to b is = absurd cc
  not_met (suc most) met None b is = absurd cc
  not_met (suc most) met (Some block) b is =
      by_test (λ within. (or_parts (block == b) (is_among b met) (not_met most (block ∷ met) (next_of (slice_get pages block)) b within)).1)
      (goes_to pages met block) refl
    where
      behind : List ℕ
      behind = followed pages most (block ∷ met) (next_of (slice_get pages block))

      not_is : (t : Bool) → not t ≡ true → t ≡ false
      not_is true e = absurd cc
      not_is false e = refl

      by_block : (is_among b behind ≡ true → is_among b met ≡ false) → (t : Bool) → (block == b) ≡ t → is_among block met ≡ false
          → ((block == b) || is_among b behind) ≡ true → is_among b met ≡ false
      by_block later true e out either = ap (λ (n : ℕ). is_among n met) (sym (eqb-true block b e)) ∙ out
      by_block later false e out either = later (or_parts_of (block == b) (is_among b behind) either e)

      by_test : (is_among b behind ≡ true → is_among b met ≡ false) → (t : Bool) → goes_to pages met block ≡ t → is_among b met ≡ false
      by_test later true e =
          by_block later (block == b) refl (not_is (is_among block met) (and_parts (has_entries (slice_get pages block)) (not (is_among block met)) e).1)
          (ap (λ (g : Bool). is_among b (if g then block ∷ behind else [])) (sym e) ∙ is)
      by_test later false e = let none : false ≡ true = ap (λ (g : Bool). is_among b (if g then block ∷ behind else [])) (sym e) ∙ is in absurd cc

  chain_apart : (most : ℕ) (met : List ℕ) (to : Option ℕ) → IsDistinct eqb (followed pages most met to)
  chain_apart zero met to = none_apart
  chain_apart (suc most) met None = none_apart
  chain_apart (suc most) met (Some block) =
      by_test (goes_to pages met block) (chain_apart most (block ∷ met) (next_of (slice_get pages block))) (not_behind (is_among block behind) refl)
    where
      behind : List ℕ
      behind = followed pages most (block ∷ met) (next_of (slice_get pages block))

      not_behind : (t : Bool) → is_among block behind ≡ t → is_among block behind ≡ false
      not_behind true e =
          let out = not_met most (block ∷ met) (next_of (slice_get pages block)) block e in
          let first : is_among block (block ∷ met) ≡ true = ap (λ (t : Bool). t || is_among block met) (eq-eqb block block refl) in absurd cc
      not_behind false e = e

      by_test : (t : Bool) → IsDistinct eqb behind → is_among block behind ≡ false → IsDistinct eqb (if t then block ∷ behind else [])
      by_test true rest out = IsDistinct-cons eqb block behind (all_apart block behind out) rest
      by_test false rest out = none_apart

-- ---- all chains

numbers_of : (f : ℕ → Part) → ((b : ℕ) → (f b).0 ≡ b) → (bs : List ℕ) → map (λ (q : Part). q.0) (map f bs) ≡ bs
numbers_of f numbers [] = refl
numbers_of f numbers (b ∷ bs) = ap₂ (λ (x : ℕ) (xs : List ℕ). x ∷ xs) (numbers b) (numbers_of f numbers bs)

abbrev numbers_in : List IvfList → List ℕ
numbers_in xs = map (λ (q : Part). q.0) (flat_map (λ (l : IvfList). l.chain) xs)

module _ (p : Params) (pages : List Content) (g : IvfGraph) (s : Stands p pages g) where
  chain_numbers : (i : ℕ) (l : IvfList) → slice_get g.lists i ≡ Some l → map (λ (q : Part). q.0) l.chain ≡ chain_in p pages i
  chain_numbers i l is =
      let t = tuple_of_list p pages g s i l is in
      ap (λ (l : IvfList). map (λ (q : Part). q.0) l.chain) (sym t.2)
      ∙ numbers_of (part_in p pages) (λ b. refl) (chain_from pages t.0.first) ∙ sym (ap (chain_of pages) t.1)

  in_one_list : (b i j : ℕ) → i < p.lists → j < p.lists → is_among b (chain_in p pages i) ≡ true → is_among b (chain_in p pages j) ≡ true → i ≡ j
  in_one_list b i j low also is is_too =
      let has = among_chain pages (centre_in p pages i) b is in
      let c = entries_there (slice_get pages b) has in
      let kind : is_entries_page c.0.kind ≡ true = ap has_entries (sym c.1) ∙ has in
      let one = ((s.whole b).entries (entries_behind p pages g s b c.0 c.1 kind) c.0 c.1).in_one in
      one.only i low is ∙ sym (one.only j also is_too)

  chain_distinct : (o : Option CentreTuple) → IsDistinct eqb (chain_of pages o)
  chain_distinct None = none_apart
  chain_distinct (Some l) = chain_apart pages (length pages) [] (Some l.first)

  -- the list in whose chain the block stands, from that of a number on
  record HasOwner (k b : ℕ) : Type 0 where
    pub list : ℕ
    pub from : k ≤ list
    pub is_list : list < p.lists
    pub within : is_among b (chain_in p pages list) ≡ true

  either_one : (s t : Bool) → (s || t) ≡ true → s ≡ false → t ≡ true
  either_one true t is out = absurd cc
  either_one false t is out = is

  numbers_from : (xs : List IvfList) (k : ℕ) → ((i : ℕ) (l : IvfList) → slice_get xs i ≡ Some l → slice_get g.lists (k + i) ≡ Some l)
      → IsDistinct eqb (numbers_in xs) × ((b : ℕ) → is_among b (numbers_in xs) ≡ true → HasOwner k b)
  numbers_from [] k are = (none_apart, λ b is. absurd cc)
  numbers_from (x ∷ xs) k are =
      let next : (i : ℕ) → k + suc i ≡ k + 1 + i = λ i. omega arith in
      let rest = numbers_from xs (k + 1) (λ i l is. ap (slice_get g.lists) (sym (next i)) ∙ are (suc i) l is) in
      let none : k + 0 ≡ k = omega arith in
      let here : slice_get g.lists k ≡ Some x = ap (slice_get g.lists) (sym none) ∙ are 0 x refl in
      let low : k < p.lists = omega (arith, slice_get_within g.lists k x here, s.count) in
      let numbers = chain_numbers k x here in
      let all = map-append (λ (q : Part). q.0) x.chain (flat_map (λ (l : IvfList). l.chain) xs) in
      let first = map (λ (q : Part). q.0) x.chain in (
        subst (IsDistinct eqb) (sym all) (apart_append first (numbers_in xs) (subst (IsDistinct eqb) (sym numbers) (chain_distinct (centre_in p pages k))) rest.0
            (λ b is. not_rest b (sym (ap (is_among b) numbers) ∙ is) low rest.1 (is_among b (numbers_in xs)) refl)),
        λ b is. by_first b low numbers rest.1 (is_among b first) refl (sym (ap (is_among b) all ∙ list_any-append (λ (n : ℕ). n == b) first (numbers_in xs)) ∙ is),
      )
    where
      not_rest : (b : ℕ) → is_among b (chain_in p pages k) ≡ true → k < p.lists → ((b : ℕ) → is_among b (numbers_in xs) ≡ true → HasOwner (k + 1) b)
          → (t : Bool) → is_among b (numbers_in xs) ≡ t → t ≡ false
      not_rest b is low owner true e =
          let o = owner b e in absurd (omega (arith, in_one_list b k o.list low o.is_list is o.within, o.from))
      not_rest b is low owner false e = refl

      by_first : (b : ℕ) → k < p.lists → map (λ (q : Part). q.0) x.chain ≡ chain_in p pages k
          → ((b : ℕ) → is_among b (numbers_in xs) ≡ true → HasOwner (k + 1) b)
          → (t : Bool) → is_among b (map (λ (q : Part). q.0) x.chain) ≡ t
          → (is_among b (map (λ (q : Part). q.0) x.chain) || is_among b (numbers_in xs)) ≡ true → HasOwner k b
      by_first b low numbers owner true e either = record {
        list = k;
        from = omega arith;
        is_list = low;
        within = sym (ap (is_among b) numbers) ∙ e;
      }
      by_first b low numbers owner false e either =
          let o = owner b (either_one (is_among b (map (λ (q : Part). q.0) x.chain)) (is_among b (numbers_in xs)) either e) in
          record { list = o.list; from = omega (arith, o.from); is_list = o.is_list; within = o.within }

  all_below : (n : ℕ) (bs : List ℕ) → ((b : ℕ) → is_among b bs ≡ true → b < n) → All (λ b. b < n) bs
  all_below n [] below = All-nil (λ b. b < n)
  all_below n (b ∷ bs) below =
      All-cons (λ b. b < n) b bs (below b (ap (λ (t : Bool). t || is_among b bs) (eq-eqb b b refl)))
      (all_below n bs (λ x is. below x (either (b == x) (is_among x bs) is)))
    where
      either : (s t : Bool) → t ≡ true → (s || t) ≡ true
      either true t is = refl
      either false t is = is

  pub own_blocks : AreBlocksOwn g
  own_blocks =
      let all = numbers_from g.lists 0 (λ i l is. let same : 0 + i ≡ i = omega arith in ap (slice_get g.lists) same ∙ is) in
      record {
        apart = all.0;
        within = all_below g.blocks (block_numbers g) (λ b is.
            let o = all.1 b is in
            let c = entries_there (slice_get pages b) (among_chain pages (centre_in p pages o.list) b o.within) in
            omega (arith, slice_get_within pages b c.0 c.1, s.blocks));
      }
