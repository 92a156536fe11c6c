-- Which events follow, told by the blocks that are reached from a list's first one.
use Rattle.std.proofs.Common.{◌≡◌, ◌↔◌, ℕ, zero, suc, ◌-◌, ◌<◌, ◌&&◌, ◌||◌, ◌==◌, not, Bool, true, false, List, [], ◌∷◌, map, length, Option, Some, None, refl, sym, ap, subst, ◌∙◌, arith, IsTrue}
use Rattle.std.specs.Prelude.{slice_get, nat_lt, if◌then◌else◌}
use Rattle.std.specs.List.{Any}
use Rattle.std.specs.Option.{option_map, is_some}
use Rattle.std.proofs.lemmas.Bool.{and_parts, and_from, eqb-true, eq-eqb, ltb-true, lt-ltb}
use Rattle.std.proofs.lemmas.List.Folds.{Any-from_list_any}
use Rattle.std.proofs.lemmas.Option.{slice_get_within}
use Rattle.index_sizes.specs.declared.limits.TheConstants.{MOST_BLOCKS}
use Rattle.vec_names.specs.declared.params.Params.{Params}
use Rattle.page_bytes.specs.Content.{Content, IsPage}
use Rattle.vec_tuples.specs.declared.centre.CentreTuple.{CentreTuple}
use Rattle.ivf_graph.specs.declared.list.IvfList.{IvfList}
use Rattle.ivf_graph.specs.declared.graph.IvfGraph.{IvfGraph}
use Rattle.ivf_graph.specs.Graph.{Part, IsOfChain, last_block}
use Rattle.ivf_graph.specs.Rules.{IsAimAllowed}
use Rattle.ivf_pages.specs.Standing.{is_among, next_of, followed, centre_in, chain_from, ends_at, part_in, list_with, Stands}
use Rattle.ivf_pages.specs.Following.{IsNextBehind}
use Rattle.ivf_pages.specs.Walking.{IsEnded, reaches}
use Rattle.ivf_pages.specs.FollowTests.{leads_to, is_on_chain, is_next_behind}
use Rattle.ivf_pages.proofs.AimEffect.{among_parts, among_chain_of}
use Rattle.ivf_pages.proofs.GrowEffect.{last_among}
use Rattle.ivf_pages.proofs.Ended.{ends_among}
use Rattle.ivf_pages.proofs.Root.{in_range}
use Rattle.ivf_pages.proofs.RowsThere.{tuple_of_list}
use Rattle.ivf_pages.proofs.WholeChains.{chain_ended}
use Rattle.std.specs.List.{All}

-- ---- chains that end

module _ (pages : List Content) where
  -- a block is reached just where it stands in the chain
  reached : (most : ℕ) (met : List ℕ) (to : Option ℕ) (block : ℕ) → IsEnded pages most met to
      → reaches pages most block to ≡ is_among block (followed pages most met to)
  reached zero met to block ends = refl
  reached (suc most) met None block ends = refl
  reached (suc most) met (Some b) block (goes, ends) =
      ap (λ (r : Bool). (b == block) || r) (reached most (b ∷ met) (next_of (slice_get pages b)) block ends)
      ∙ sym (ap (λ (g : Bool). is_among block (if g then b ∷ followed pages most (b ∷ met) (next_of (slice_get pages b)) else [])) goes)

  nothing : (most : ℕ) (met : List ℕ) → followed pages most met None ≡ []
  nothing zero met = refl
  nothing (suc most) met = refl

  -- a chain that goes on has a block
  some_block : (most : ℕ) (met : List ℕ) (n : ℕ) → IsEnded pages most met (Some n) → (x : ℕ) × (xs : List ℕ) × (followed pages most met (Some n) ≡ x ∷ xs)
  some_block zero met n ends = absurd ends
  some_block (suc most) met n (goes, ends) = (
    n,
    followed pages most (n ∷ met) (next_of (slice_get pages n)),
    ap (λ (g : Bool). if g then n ∷ followed pages most (n ∷ met) (next_of (slice_get pages n)) else []) goes,
  )

  ends_more : (block b : ℕ) (bs : List ℕ) → (x : ℕ) × (xs : List ℕ) × (bs ≡ x ∷ xs) → ends_at block (b ∷ bs) ≡ ends_at block bs
  ends_more block b bs (x, xs, is) = ap (λ (ys : List ℕ). ends_at block (b ∷ ys)) is ∙ sym (ap (ends_at block) is)

  -- the page of the last block names no next one
  pub ended_none : (most : ℕ) (met : List ℕ) (to : Option ℕ) (block : ℕ) → IsEnded pages most met to → ends_at block (followed pages most met to) ≡ true
      → next_of (slice_get pages block) ≡ None
  ended_none zero met to block ends at = absurd cc
  ended_none (suc most) met None block ends at = absurd cc
  ended_none (suc most) met (Some b) block (goes, ends) at =
      by_next (λ e. ended_none most (b ∷ met) (next_of (slice_get pages b)) block ends e) (next_of (slice_get pages b)) refl
    where
      open_at : ends_at block (b ∷ followed pages most (b ∷ met) (next_of (slice_get pages b))) ≡ true
      open_at =
          ap (λ (g : Bool). ends_at block (if g then b ∷ followed pages most (b ∷ met) (next_of (slice_get pages b)) else [])) (sym goes) ∙ at

      by_next : (ends_at block (followed pages most (b ∷ met) (next_of (slice_get pages b))) ≡ true → next_of (slice_get pages block) ≡ None)
          → (o : Option ℕ) → next_of (slice_get pages b) ≡ o → next_of (slice_get pages block) ≡ None
      by_next later None e =
          let alone : ends_at block (b ∷ []) ≡ true =
          sym (ap (λ (bs : List ℕ). ends_at block (b ∷ bs)) (ap (followed pages most (b ∷ met)) e ∙ nothing most (b ∷ met))) ∙ open_at in
          ap (λ (n : ℕ). next_of (slice_get pages n)) (sym (eqb-true b block alone)) ∙ e
      by_next later (Some n) e =
          let some = some_block most (b ∷ met) n (subst (λ (o : Option ℕ). IsEnded pages most (b ∷ met) o) e ends) in
          let bs = followed pages most (b ∷ met) (next_of (slice_get pages b)) in
          later (sym (ends_more block b bs (some.0, some.1, ap (followed pages most (b ∷ met)) e ∙ some.2)) ∙ open_at)

  -- and no other page
  pub ended_last : (most : ℕ) (met : List ℕ) (to : Option ℕ) (block : ℕ) → IsEnded pages most met to → is_among block (followed pages most met to) ≡ true
      → next_of (slice_get pages block) ≡ None → ends_at block (followed pages most met to) ≡ true
  ended_last zero met to block ends within none = absurd cc
  ended_last (suc most) met None block ends within none = absurd cc
  ended_last (suc most) met (Some b) block (goes, ends) within none =
      ap (λ (g : Bool). ends_at block (if g then b ∷ followed pages most (b ∷ met) (next_of (slice_get pages b)) else [])) goes
      ∙ by_next (λ e. ended_last most (b ∷ met) (next_of (slice_get pages b)) block ends e none) (next_of (slice_get pages b)) refl
    where
      open_within : ((b == block) || is_among block (followed pages most (b ∷ met) (next_of (slice_get pages b)))) ≡ true
      open_within =
          ap (λ (g : Bool). is_among block (if g then b ∷ followed pages most (b ∷ met) (next_of (slice_get pages b)) else [])) (sym goes) ∙ within

      either : (a c : Bool) → (a || c) ≡ true → (a ≡ true → c ≡ true) → c ≡ true
      either true c is here = here refl
      either false c is here = is

      no_rest : (a : Bool) → (a || false) ≡ true → a ≡ true
      no_rest true is = refl
      no_rest false is = is

      by_next : (is_among block (followed pages most (b ∷ met) (next_of (slice_get pages b))) ≡ true
          → ends_at block (followed pages most (b ∷ met) (next_of (slice_get pages b))) ≡ true)
          → (o : Option ℕ) → next_of (slice_get pages b) ≡ o
          → ends_at block (b ∷ followed pages most (b ∷ met) (next_of (slice_get pages b))) ≡ true
      by_next later None e =
          let empty : followed pages most (b ∷ met) (next_of (slice_get pages b)) ≡ [] = ap (followed pages most (b ∷ met)) e ∙ nothing most (b ∷ met) in
          ap (λ (bs : List ℕ). ends_at block (b ∷ bs)) empty
          ∙ no_rest (b == block) (ap (λ (bs : List ℕ). (b == block) || is_among block bs) (sym empty) ∙ open_within)
      by_next later (Some n) e =
          let some = some_block most (b ∷ met) n (subst (λ (o : Option ℕ). IsEnded pages most (b ∷ met) o) e ends) in
          let bs = followed pages most (b ∷ met) (next_of (slice_get pages b)) in
          ends_more block b bs (some.0, some.1, ap (followed pages most (b ∷ met)) e ∙ some.2)
          ∙ later (either (b == block) (is_among block bs) open_within (λ same.
          let both : None ≡ Some n = sym none ∙ ap (λ (k : ℕ). next_of (slice_get pages k)) (sym (eqb-true b block same)) ∙ e in absurd cc))

-- ---- the words of the index

-- the last block of a list of parts, by their numbers
last_of_ends : (f : ℕ → Part) → ((b : ℕ) → (f b).0 ≡ b) → (bs : List ℕ) (last : ℕ) → ends_at last bs ≡ true → last_block (map f bs) ≡ Some last
last_of_ends f numbers [] last is = absurd cc
last_of_ends f numbers (b ∷ []) last is = ap (λ (n : ℕ). Some n) (numbers b ∙ eqb-true b last is)
last_of_ends f numbers (b ∷ c ∷ bs) last is =
    let back : length (map f (b ∷ c ∷ bs)) - 1 ≡ suc (length (map f (c ∷ bs)) - 1) = omega arith in
    ap (λ (n : ℕ). option_map (λ (q : Part). q.0) (slice_get (map f (b ∷ c ∷ bs)) n)) back ∙ last_of_ends f numbers (c ∷ bs) last is

tests_to : (chain : List Part) (block : ℕ) → Any (λ (q : Part). (q.0 == block) ≡ true) chain → IsOfChain chain block
tests_to chain block (k, q, low, here, is) = (k, q, low, here, eqb-true q.0 block is)

of_chain : (f : ℕ → Part) → ((b : ℕ) → (f b).0 ≡ b) → (bs : List ℕ) (block : ℕ) → is_among block bs ≡ true → IsOfChain (map f bs) block
of_chain f numbers bs block is =
    tests_to (map f bs) block (Any-from_list_any (λ (q : Part). q.0 == block) (map f bs) (among_parts f numbers bs block ∙ is))

-- the list of a number, with its tuple
record HasTuple (p : Params) (pages : List Content) (g : IvfGraph) (list : ℕ) : Type 0 where
  pub tuple : CentreTuple
  pub low : list < p.lists
  pub is : centre_in p pages list ≡ Some tuple
  pub there : slice_get g.lists list ≡ Some (list_with p pages tuple)

none_is : (o : Option ℕ) → not (is_some o) ≡ true → o ≡ None
none_is None is = refl
none_is (Some b) is = absurd cc

module _ (p : Params) (pages : List Content) (g : IvfGraph) (all : All IsPage pages) (s : Stands p pages g) where
  tuple_ended : (list : ℕ) (t : CentreTuple) → list < p.lists → centre_in p pages list ≡ Some t → IsEnded pages (length pages) [] (Some t.first)
  tuple_ended list t low is = chain_ended p pages (in_range pages p all s.params) s.params s.whole list t low is

  led : (block : ℕ) (o : Option CentreTuple) → leads_to pages block o ≡ true → (t : CentreTuple) × (o ≡ Some t) × (reaches pages (length pages) block (Some t.first) ≡ true)
  led block None is = absurd cc
  led block (Some t) is = (t, refl, is)

  -- the test of a block of a chain
  on_chain : (list block : ℕ) → is_on_chain p pages list block ≡ true → (h : HasTuple p pages g list) × (is_among block (chain_from pages h.tuple.first) ≡ true)
  on_chain list block is =
      let parts = and_parts (nat_lt list p.lists) (leads_to pages block (centre_in p pages list)) is in
      let low : list < p.lists = ltb-true list p.lists parts.0 in
      let t = led block (centre_in p pages list) parts.1 in (
        record { tuple = t.0; low = low; is = t.1; there = s.lists list low ∙ ap (option_map (list_with p pages)) t.1 },
        sym (reached pages (length pages) [] (Some t.0.first) block (tuple_ended list t.0 low t.1)) ∙ t.2,
      )

  chain_on : (list block : ℕ) (t : CentreTuple) → list < p.lists → centre_in p pages list ≡ Some t → is_among block (chain_from pages t.first) ≡ true
      → is_on_chain p pages list block ≡ true
  chain_on list block t low is within =
      and_from (nat_lt list p.lists) (leads_to pages block (centre_in p pages list)) (lt-ltb list p.lists low)
      (ap (leads_to pages block) is ∙ reached pages (length pages) [] (Some t.first) block (tuple_ended list t low is) ∙ within)

  pub hint_told : (list block : ℕ) (told : Bool) → told ≡ is_on_chain p pages list block → IsTrue told ↔ IsAimAllowed g list block
  hint_told list block told same = (
    λ yes.
        let h = on_chain list block (sym same ∙ yes) in
        record { aims = list_with p pages h.0.tuple; is_there = h.0.there; of_chain = of_chain (part_in p pages) (λ b. refl) (chain_from pages h.0.tuple.first) block h.1 },
    λ may.
        let t = tuple_of_list p pages g s list may.aims may.is_there in
        let low : list < p.lists = omega (arith, slice_get_within g.lists list may.aims may.is_there, s.count) in
        same ∙ chain_on list block t.0 low t.1
        (among_chain_of (part_in p pages) (λ b. refl) (chain_from pages t.0.first) block (subst (λ (l : IvfList). IsOfChain l.chain block) (sym t.2) may.of_chain)),
  )

  pub grow_told : (list last block : ℕ) (told : Bool) → told ≡ is_next_behind p pages list last block → IsTrue told ↔ IsNextBehind g list last block
  grow_told list last block told same = (
    λ yes.
        let parts =
        and_parts (is_on_chain p pages list last && not (is_some (next_of (slice_get pages last)))) (block == length pages && nat_lt block MOST_BLOCKS) (sym same ∙ yes) in
        let ends = and_parts (is_on_chain p pages list last) (not (is_some (next_of (slice_get pages last)))) parts.0 in
        let new = and_parts (block == length pages) (nat_lt block MOST_BLOCKS) parts.1 in
        let h = on_chain list last ends.0 in
        let t = h.0.tuple in
        let none = none_is (next_of (slice_get pages last)) ends.1 in
        record {
          grows = list_with p pages t;
          is_there = h.0.there;
          ends = last_of_ends (part_in p pages) (λ b. refl) (chain_from pages t.first) last
              (ended_last pages (length pages) [] (Some t.first) last (tuple_ended list t h.0.low h.0.is) h.1 none);
          is_next = eqb-true block (length pages) new.0 ∙ sym s.blocks;
          not_high = ltb-true block MOST_BLOCKS new.1;
        },
    λ next.
        let t = tuple_of_list p pages g s list next.grows next.is_there in
        let low : list < p.lists = omega (arith, slice_get_within g.lists list next.grows next.is_there, s.count) in
        let at = last_among (part_in p pages) (λ b. refl) (chain_from pages t.0.first) last (ap (λ (l : IvfList). last_block l.chain) t.2 ∙ next.ends) in
        let none = ended_none pages (length pages) [] (Some t.0.first) last (tuple_ended list t.0 low t.1) at in
        same
        ∙ and_from (is_on_chain p pages list last && not (is_some (next_of (slice_get pages last)))) (block == length pages && nat_lt block MOST_BLOCKS)
        (and_from (is_on_chain p pages list last) (not (is_some (next_of (slice_get pages last))))
        (chain_on list last t.0 low t.1 (ends_among last (chain_from pages t.0.first) at)) (ap (λ (o : Option ℕ). not (is_some o)) none))
        (and_from (block == length pages) (nat_lt block MOST_BLOCKS) (eq-eqb block (length pages) (next.is_next ∙ s.blocks)) (lt-ltb block MOST_BLOCKS next.not_high)),
  )
