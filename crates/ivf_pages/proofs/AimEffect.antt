-- Redo of a list's other aim.
use Rattle.std.proofs.Common.{◌≡◌, ℕ, ◌+◌, ◌-◌, ◌*◌, ◌/◌, ◌%◌, ◌^◌, ◌<◌, ◌≤◌, ◌&&◌, ◌||◌, ◌==◌, not, Bool, true, false, List, [], ◌∷◌, map, length, Option, Some, None, refl, sym, ap, ap₂, subst, ◌∙◌, arith, inl, inr}
use Rattle.std.specs.Prelude.{slice_get, slice_set}
use Rattle.std.specs.List.{All, Any, list_any}
use Rattle.std.specs.Option.{option_map, option_and_then}
use Rattle.std.proofs.lemmas.Bool.{cases_eq, eq-eqb, eqb-true, and_parts}
use Rattle.std.proofs.lemmas.List.{length-set}
use Rattle.std.proofs.lemmas.List.Folds.{list_any-from_Any}
use Rattle.std.proofs.lemmas.Option.{slice_get_within}
use native.Mathlib.Nat.{div-add-mod'}
use Rattle.index_sizes.specs.Sizes.{centres_on_page}
use Rattle.vec_names.specs.declared.params.Params.{Params}
use Rattle.vec_history.specs.declared.event.Event.TheVariants.{IvfHint}
use Rattle.byte_fields.proofs.EachField.{some_is}
use Rattle.page_bytes.specs.Content.{Content, IsPage, item_at}
use Rattle.vec_tuples.specs.declared.centre.CentreTuple.{CentreTuple}
use Rattle.vec_tuples.specs.Spelling.{IsCentre, centre_with, centre_bytes}
use Rattle.vec_tuples.specs.Reading.{centre}
use Rattle.vec_tuples.proofs.RowLaws.{centre_field}
use Rattle.ivf_graph.specs.declared.list.IvfList.{IvfList}
use Rattle.ivf_graph.specs.declared.graph.IvfGraph.{IvfGraph}
use Rattle.ivf_graph.specs.Graph.{Part, IsOfChain}
use Rattle.ivf_graph.specs.Effect.{aimed as aimed_list, changed_from, effect}
use Rattle.ivf_graph.specs.Rules.{IsAimAllowed}
use Rattle.page_redo.specs.PageTuples.{in_whole, with_item, centre_at, is_graph, is_lists_page}
use Rattle.page_redo.specs.PageChanges.{list_block, list_offset, aimed}
use Rattle.page_redo.specs.Redo.{at_one, numbered}
use Rattle.page_redo.proofs.ItemLaws.{whole_spelled, whole_read}
use Rattle.page_redo.proofs.Others.{set_apart}
use Rattle.page_redo.proofs.Putting.{set_here, with_item_here, with_item_others}
use Rattle.page_redo.proofs.Given.{then_is, map_is, if_is, item_bytes}
use Rattle.ivf_pages.specs.Standing.{params_on, lists_end, is_among, has_entries, centre_in, chain_from, chain_of, chain_in, has_aim, rows_of, part_in, list_with, list_in, IsListPage, IsEntryPage, Stands}
use Rattle.ivf_pages.specs.Effects.{RedoIsEffect}
use Rattle.ivf_pages.proofs.Given.{map_same_on}
use Rattle.ivf_pages.proofs.Chains.{AreLinkedAlike, same_chain, same_chain_of, same_aim, among_chain}
use Rattle.ivf_pages.proofs.Root.{in_range, lists_before, no_entries}
use Rattle.ivf_pages.proofs.PagesChanged.{alike_at, one_stays, end_stays}

-- two lists have their tuples at two places
pub one_place : (p : Params) (a b : ℕ) → list_block p a ≡ list_block p b → list_offset p a ≡ list_offset p b → a ≡ b
one_place p a b block off =
    let c = centres_on_page p.bits in
    let q : a / c ≡ b / c = omega (arith, block) in
    let r : a % c ≡ b % c = omega (arith, off) in
    sym (div-add-mod' a c) ∙ ap₂ (λ (x y : ℕ). x * c + y) q r ∙ div-add-mod' b c

-- a block of the list's chain is one of the blocks followed
pub among_parts : (f : ℕ → Part) → ((b : ℕ) → (f b).0 ≡ b) → (bs : List ℕ) (block : ℕ)
    → list_any (λ (q : Part). q.0 == block) (map f bs) ≡ is_among block bs
among_parts f numbers [] block = refl
among_parts f numbers (b ∷ bs) block =
    ap₂ (λ (x y : Bool). x || y) (ap (λ (n : ℕ). n == block) (numbers b)) (among_parts f numbers bs block)

tests_from : (chain : List Part) (block : ℕ) → IsOfChain chain block → Any (λ (q : Part). (q.0 == block) ≡ true) chain
tests_from chain block (k, q, low, here, is) = (k, q, low, here, eq-eqb q.0 block is)

pub among_chain_of : (f : ℕ → Part) → ((b : ℕ) → (f b).0 ≡ b) → (bs : List ℕ) (block : ℕ) → IsOfChain (map f bs) block
    → is_among block bs ≡ true
among_chain_of f numbers bs block is =
    sym (among_parts f numbers bs block) ∙ list_any-from_Any (λ (q : Part). q.0 == block) (map f bs) (tests_from (map f bs) block is)

module _ (p : Params) (pages : List Content) (g : IvfGraph) (all : All IsPage pages) (s : Stands p pages g) (list aim number : ℕ) (aims : IvfList) (low : list < p.lists)
    (is_there : slice_get g.lists list ≡ Some aims) (of_chain : IsOfChain aims.chain aim) (c : Content) (l : CentreTuple) (there : slice_get pages (list_block p list) ≡ Some c)
    (kind : is_lists_page c.kind ≡ true) (tuple : centre_at p c (list_offset p list) ≡ Some l) (small : aim < 2 ^ 32) where
  abbrev block : ℕ
  block = list_block p list

  abbrev new : CentreTuple
  new = centre_with l.first aim l.bits

  abbrev d : Content
  d = numbered number (with_item c (list_offset p list) (centre_bytes new))

  abbrev after : List Content
  after = slice_set pages block d

  here : slice_get after block ≡ Some d
  here = set_here pages block c d there

  apart : (b : ℕ) → (block ≡ b → ⊥) → slice_get after b ≡ slice_get pages b
  apart b other = set_apart pages block b d other

  before : (1 ≤ block) × (block ≤ lists_end p)
  before = lists_before p pages g s block c there kind

  alike : AreLinkedAlike pages after
  alike = alike_at pages block c d there refl refl

  -- ---- the tuples

  item : (x : List ℕ) × (item_at c.items (list_offset p list) ≡ Some x) × (in_whole (centre p x) ≡ Some l)
  item = then_is (λ x. in_whole (centre p x)) (item_at c.items (list_offset p list)) l tuple

  fits : IsCentre p l
  fits = (whole_spelled (centre_field p (in_range pages p all s.params)) item.0 l (item_bytes pages block (list_offset p list) c item.0 all there item.1) item.2).0

  tuple_now : centre_in p after list ≡ Some new
  tuple_now =
      ap (λ o. option_and_then (λ c. centre_at p c (list_offset p list)) o) here
      ∙ ap (λ o. option_and_then (λ x. in_whole (centre p x)) o) (with_item_here c (list_offset p list) item.0 (centre_bytes new) item.1)
      ∙ whole_read (centre_field p (in_range pages p all s.params)) (centre_bytes new) new (fits.0, small, fits.2) refl

  tuple_was : centre_in p pages list ≡ Some l
  tuple_was = ap (λ o. option_and_then (λ c. centre_at p c (list_offset p list)) o) there ∙ tuple

  tuple_apart : (other : ℕ) → (list ≡ other → ⊥) → centre_in p after other ≡ centre_in p pages other
  tuple_apart other differs = elim (cases_eq block (list_block p other)) as (λ _. centre_in p after other ≡ centre_in p pages other) [
    | inl same ↦
        ap (λ o. option_and_then (λ c. centre_at p c (list_offset p other)) o) (ap (slice_get after) (sym same) ∙ here)
        ∙ ap (λ o. option_and_then (λ x. in_whole (centre p x)) o)
        (with_item_others c (list_offset p list) item.0 (centre_bytes new) (list_offset p other) item.1 (λ e. differs (one_place p list other same e)))
        ∙ sym (ap (λ o. option_and_then (λ c. centre_at p c (list_offset p other)) o) (ap (slice_get pages) (sym same) ∙ there))
    | inr other_block ↦ ap (λ o. option_and_then (λ c. centre_at p c (list_offset p other)) o) (apart (list_block p other) other_block)
  ]

  chains : (other : ℕ) → other < p.lists → chain_in p after other ≡ chain_in p pages other
  chains other within = elim (cases_eq list other) as (λ _. chain_in p after other ≡ chain_in p pages other) [
    | inl same ↦
        subst (λ (n : ℕ). chain_in p after n ≡ chain_in p pages n) same
        (ap (chain_of after) tuple_now ∙ same_chain pages after alike l.first ∙ sym (ap (chain_of pages) tuple_was))
    | inr differs ↦ ap (chain_of after) (tuple_apart other differs) ∙ same_chain_of pages after alike (centre_in p pages other)
  ]

  -- ---- the aim

  was_list : list_with p pages l ≡ aims
  was_list = some_is (list_with p pages l) aims (sym (s.lists list low ∙ ap (option_map (list_with p pages)) tuple_was) ∙ is_there)

  among : is_among aim (chain_from pages l.first) ≡ true
  among = among_chain_of (part_in p pages) (λ b. refl) (chain_from pages l.first) aim (subst (λ (a : IvfList). IsOfChain a.chain aim) (sym was_list) of_chain)

  aims_good : (other : ℕ) → has_aim pages (centre_in p pages other) ≡ true → has_aim after (centre_in p after other) ≡ true
  aims_good other was = elim (cases_eq list other) as (λ _. has_aim after (centre_in p after other) ≡ true) [
    | inl same ↦
        subst (λ (n : ℕ). has_aim after (centre_in p after n) ≡ true) same
        (ap (has_aim after) tuple_now ∙ ap (is_among aim) (same_chain pages after alike l.first) ∙ among)
    | inr differs ↦ ap (has_aim after) (tuple_apart other differs) ∙ same_aim pages after alike (centre_in p pages other) ∙ was
  ]

  -- ---- the lists

  behind_stays : (b : ℕ) → lists_end p < b → slice_get after b ≡ slice_get pages b
  behind_stays b above = apart b (λ e. absurd (omega (arith, e, above, before.1)))

  -- a block of a chain has entries, and so is not that of the tuple
  parts_stay : (o : Option CentreTuple) → map (part_in p after) (chain_of pages o) ≡ map (part_in p pages) (chain_of pages o)
  parts_stay None = refl
  parts_stay (Some k) = map_same_on (part_in p after) (part_in p pages) (chain_from pages k.first)
      (λ b within. ap (λ o. (b, rows_of p o)) (apart b (λ same.
      let has : has_entries (slice_get pages b) ≡ true = among_chain pages (Some k) b within in
      let none : has_entries (slice_get pages b) ≡ false =
      ap (λ (n : ℕ). has_entries (slice_get pages n)) (sym same) ∙ ap has_entries there ∙ no_entries c.kind kind in absurd cc)))

  list_apart : (o : Option CentreTuple) → option_map (list_with p after) o ≡ option_map (list_with p pages) o
  list_apart None = refl
  list_apart (Some k) =
      ap (λ (ps : List Part). Some (record { centre = k.bits; aim = k.aim; chain = ps }))
      (ap (map (part_in p after)) (same_chain pages after alike k.first) ∙ parts_stay (Some k))

  list_now : list_in p after list ≡ Some (aimed_list aim aims)
  list_now =
      ap (option_map (list_with p after)) tuple_now
      ∙ ap (λ (ps : List Part). Some (record { centre = l.bits; aim = aim; chain = ps }))
      (ap (map (part_in p after)) (same_chain pages after alike l.first) ∙ parts_stay (Some l))
      ∙ ap (λ (a : IvfList). Some (aimed_list aim a)) was_list

  lists_now : (other : ℕ) → other < p.lists → slice_get (slice_set g.lists list (aimed_list aim aims)) other ≡ list_in p after other
  lists_now other within = elim (cases_eq list other) as (λ _. slice_get (slice_set g.lists list (aimed_list aim aims)) other ≡ list_in p after other) [
    | inl same ↦
        subst (λ (n : ℕ). slice_get (slice_set g.lists list (aimed_list aim aims)) n ≡ list_in p after n) same
        (set_here g.lists list aims (aimed_list aim aims) is_there ∙ sym list_now)
    | inr differs ↦
        set_apart g.lists list other (aimed_list aim aims) differs ∙ s.lists other within
        ∙ sym (ap (option_map (list_with p after)) (tuple_apart other differs) ∙ list_apart (centre_in p pages other))
  ]

  -- ---- the rules

  list_page : (b : ℕ) → 1 ≤ b → b ≤ lists_end p → IsListPage p after b
  list_page b some within =
      let was = (s.whole b).lists some within in
      elim (cases_eq block b) as (λ _. IsListPage p after b) [
        | inl same ↦
            let is_c : was.page ≡ c = some_is was.page c (sym was.there ∙ ap (slice_get pages) (sym same) ∙ there) in
            record {
              page = d;
              there = ap (slice_get after) (sym same) ∙ here;
              kind = kind;
              count = length-set c.items (list_offset p list - 1) (centre_bytes new) ∙ ap (λ (x : Content). length x.items) (sym is_c) ∙ was.count;
              lists = λ other low on. aims_good other (was.lists other low on);
            }
        | inr differs ↦ record {
          page = was.page;
          there = apart b differs ∙ was.there;
          kind = was.kind;
          count = was.count;
          lists = λ other low on. aims_good other (was.lists other low on);
        }
      ]

  entry_page : (b : ℕ) (e : Content) → lists_end p < b → slice_get after b ≡ Some e → IsEntryPage p after b e
  entry_page b e above is =
      let was = (s.whole b).entries above e (sym (behind_stays b above) ∙ is) in
      record {
        kind = was.kind;
        entries = was.entries;
        in_one = one_stays p pages after chains b was.in_one;
        ends = λ other low at. was.ends other low (end_stays p pages after chains b other low at);
      }

  pub aim_changed : Stands p after (effect (IvfHint list aim) g)
  aim_changed =
      subst (λ (ls : List IvfList). Stands p after (record g { lists = ls })) (sym (ap (changed_from g.lists list (aimed_list aim)) is_there))
      (record {
        params = ap (λ o. option_and_then params_on o) (apart 0 (λ e. absurd (omega (arith, e, before.0)))) ∙ s.params;
        whole = λ b. record {
          lists = λ some within. list_page b some within;
          entries = λ above e is. entry_page b e above is;
        };
        count = length-set g.lists list (aimed_list aim aims) ∙ s.count;
        lists = lists_now;
        blocks = s.blocks ∙ sym (length-set pages block d);
      })

pub aim_effect : (p : Params) (pages : List Content) (g : IvfGraph) (list aim : ℕ) → IsAimAllowed g list aim → aim < 2 ^ 32
    → RedoIsEffect p pages g (IvfHint list aim)
aim_effect p pages g list aim may small wrap number block c after all s there is =
    let m = map_is (numbered number) (at_one (list_block p list) (aimed p list aim) block c) after is in
    let o = if_is (list_block p list == block) (aimed p list aim c) m.0 m.1 in
    let same : list_block p list ≡ block = eqb-true (list_block p list) block o.0 in
    let r = if_is (not (is_graph p.kind) && is_lists_page c.kind) (option_map (λ l. with_item c (list_offset p list) (centre_bytes (centre_with l.first aim l.bits))) (centre_at p c (list_offset p list))) m.0 o.1 in
    let t = map_is (λ l. with_item c (list_offset p list) (centre_bytes (centre_with l.first aim l.bits))) (centre_at p c (list_offset p list)) m.0 r.1 in
    let kind = (and_parts (not (is_graph p.kind)) (is_lists_page c.kind) r.0).1 in
    let low : list < p.lists = omega (arith, slice_get_within g.lists list may.aims may.is_there, s.count) in
    let done = aim_changed p pages g all s list aim number may.aims low may.is_there may.of_chain c t.0 (ap (slice_get pages) same ∙ there) kind t.1 small in
    subst (λ (z : Content). Stands p (slice_set pages block z) (effect (IvfHint list aim) g)) (ap (numbered number) t.2 ∙ m.2)
    (subst (λ (n : ℕ). Stands p (slice_set pages n (numbered number (with_item c (list_offset p list) (centre_bytes (centre_with t.0.first aim t.0.bits))))) (effect (IvfHint list aim) g)) same done)
