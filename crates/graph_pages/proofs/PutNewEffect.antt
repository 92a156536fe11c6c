-- Redo of a new node at new places: its element and its neighbour tuple, on one page or on two, which may be fresh.
use Rattle.std.proofs.Common.{◌≡◌, ℕ, suc, ◌+◌, ◌-◌, ◌<◌, ◌≤◌, ◌&&◌, ◌==◌, max, Bool, true, List, [], ◌∷◌, ◌++◌, length, replicate, Some, None, refl, sym, ap, subst, ◌∙◌, arith, inl, inr, get_or}
use Rattle.std.specs.Prelude.{slice_get, slice_set, All, Contains, nat_le}
use Rattle.std.specs.Option.{option_and_then}
use Rattle.std.specs.FinMap.{insert}
use Rattle.std.proofs.lemmas.Bool.{and_parts, eqb-true, cases_eq}
use Rattle.std.proofs.lemmas.Option.{slice_get_within, slice_get-get_or}
use Rattle.index_sizes.specs.declared.limits.TheConstants.{MOST_BLOCKS}
use Rattle.vec_names.specs.declared.tid.Tid.{Tid}
use Rattle.vec_names.specs.declared.params.Params.{Params}
use Rattle.vec_names.specs.Params.{IsInRange}
use Rattle.vec_history.specs.declared.event.Event.TheVariants.{Put}
use Rattle.page_bytes.specs.declared.kind.PageKind.TheVariants.{Hnsw}
use Rattle.page_bytes.specs.Content.{Content, IsPage, item_at, round8, free_of}
use Rattle.vec_tuples.specs.declared.element.Element.{Element}
use Rattle.vec_tuples.specs.declared.links.Links.{Links}
use Rattle.vec_tuples.specs.Spelling.{element_bytes, IsElement, links_bytes, IsLinks}
use Rattle.vec_tuples.proofs.ElementLaws.{element_field}
use Rattle.vec_tuples.proofs.LinksLaws.{links_field}
use Rattle.vec_graph.specs.declared.graph.Graph.{Graph}
use Rattle.vec_graph.specs.Effect.{effect, with_node}
use Rattle.page_redo.specs.PageTuples.{element_at, links_at, is_graph, is_graph_page, added}
use Rattle.page_redo.specs.PageChanges.{PageChange, NewNode, is_node, new_element, new_links, is_old_element, are_old_links, put_over, put, put_element, put_links, if_so}
use Rattle.page_redo.specs.Redo.{at_two, numbered}
use Rattle.page_redo.proofs.ItemLaws.{whole_read}
use Rattle.page_redo.proofs.Others.{set_apart}
use Rattle.page_redo.proofs.Putting.{IsPut, set_here, put_behind}
use Rattle.page_redo.proofs.Pairs.{no_list, put_not_same}
use Rattle.graph_pages.specs.Standing.{item_in, pointers, times_in, node_with as made_of, Stands}
use Rattle.page_redo.specs.Growing.{AreRedone}
use Rattle.page_redo.specs.Growing.{fresh_page}
use Rattle.page_redo.proofs.Given.{then_is, map_is, if_is, when_is}
use Rattle.graph_pages.proofs.KindsApart.{list_is_no_element}
use Rattle.graph_pages.proofs.PagePlaces.{item_on}
use Rattle.graph_pages.proofs.OneItem.{not_root}
use Rattle.graph_pages.proofs.StandingShape.{in_range}
use Rattle.graph_pages.proofs.SlotEffect.{below_all}
use Rattle.graph_pages.proofs.TwoItems.{none_or_some}
use Rattle.page_redo.proofs.TwoBlocks.{is_first, is_second, is_neither, two_same, two_first, two_second}
use Rattle.page_redo.proofs.TwoBlocks.{two_set}
use Rattle.graph_pages.proofs.PutOldEffect.{any_slots, IsNode, node_is}
use Rattle.graph_pages.proofs.FreshPages.{fresh_stands, fresh_items, fresh_pointers, fresh_length}
use Rattle.graph_pages.proofs.ItemAdded.{IsAddedAt, with_more, added_at}
use Rattle.graph_pages.proofs.Unnamed.{unnamed}
use Rattle.graph_pages.proofs.TwoNew.{AreNew, new_stands}

-- ---- one of the two tuples

-- what the change found, and that it put the item behind the last one
pub record IsNewPut (p : Params) (n : NewNode) (off : ℕ) (x : List ℕ) (c d : Content) : Type 0 where
  pub kind : is_graph_page c.kind ≡ true
  pub node : IsNode p n
  pub none : item_at c.items off ≡ None
  pub behind : off ≡ suc (length c.items)
  pub made : with_more c x ≡ d

new_put : (p : Params) (n : NewNode) (off : ℕ) (go : Bool) (x : List ℕ) (c d : Content) → item_at c.items off ≡ None
    → if_so (is_graph p.kind && is_graph_page c.kind) (if_so (is_node p n) (put off go x c)) ≡ Some d → IsNewPut p n off x c d
new_put p n off go x c d none is =
    let on = if_is (is_graph p.kind && is_graph_page c.kind) (if_so (is_node p n) (put off go x c)) d is in
    let node = if_is (is_node p n) (put off go x c) d on.1 in
    let next = if_is (off == length c.items + 1) (added x c) d (ap (λ o. put_over o off go x c) (sym none) ∙ node.1) in
    let room = when_is (nat_le (round8 (length x) + 4) (free_of c)) (with_more c x) d next.1 in
    record {
      kind = (and_parts (is_graph p.kind) (is_graph_page c.kind) on.0).1;
      node = node_is p n node.0;
      none = none;
      behind = omega (arith, eqb-true off (length c.items + 1) next.0);
      made = room.1;
    }

-- the number of the page is no part of it
renumbered : (p : Params) (n : NewNode) (off : ℕ) (x : List ℕ) (number : ℕ) (c d : Content) → IsNewPut p n off x c d
    → IsNewPut p n off x (numbered number c) (numbered number d)
renumbered p n off x number c d was = record {
  kind = was.kind;
  node = was.node;
  none = was.none;
  behind = was.behind;
  made = ap (numbered number) was.made;
}

-- the items at other offsets stay
others_stay : (p : Params) (n : NewNode) (off : ℕ) (x : List ℕ) (c d : Content) (b : ℕ) → IsNewPut p n off x c d → (off ≡ b → ⊥)
    → item_at d.items b ≡ item_at c.items b
others_stay p n off x c d b was other =
    let made : IsPut off x 1 (round8 (length x) + 4) c (with_more c x) = put_behind c (with_more c x) off x was.behind refl in
    ap (λ (d : Content). item_at d.items b) (sym was.made) ∙ made.apart b other

page_there : (pages : List Content) (block : ℕ) → block < length pages → (c : Content) × (slice_get pages block ≡ Some c)
page_there pages block within = (get_or pages block (fresh_page Hnsw), slice_get-get_or pages block (fresh_page Hnsw) within)

-- what a node is that fits into its tuples
element_fits : (p : Params) (n : NewNode) → IsNode p n → n.version ≤ 255 → n.level ≤ 255 → IsElement p (new_element n)
element_fits p n node version level = record {
  head = record { level = level; version_low = node.version; version_high = version; few = omega arith; none_left = tt };
  long = node.bits;
  cleared = refl;
}

links_fit : (p : Params) (n : NewNode) → IsNode p n → n.version ≤ 255 → n.level ≤ 255 → IsLinks p (new_links n)
links_fit p n node version level = record {
  version_low = node.version;
  version_high = version;
  count = (node.few, n.level, level, node.slots);
  slots = any_slots n.slots;
}

-- ---- redo, where all pages are there

module _ (pages : List Content) (g : Graph) (n : NewNode) (wrap number : ℕ) (s : Stands pages g) (range : IsInRange s.meta.params)
    (version : n.version ≤ 255) (level : n.level ≤ 255)
    (none : item_in pages n.at ≡ None) (list_none : item_in pages n.list_at ≡ None)
    (within : n.at.block < length pages) (list_within : n.list_at.block < length pages)
    (not_named : times_in n.list_at (pointers s.meta.params pages) ≡ 0)
    (below : (slot : ℕ) (to : Tid) → slice_get n.slots slot ≡ Some (Some to) → to.block < length pages) where
  abbrev p : Params
  p = s.meta.params

  abbrev at : Tid
  at = n.at

  abbrev list_at : Tid
  list_at = n.list_at

  abbrev f : Element
  f = new_element n

  abbrev k : Links
  k = new_links n

  page : (c : Content) × (slice_get pages at.block ≡ Some c)
  page = page_there pages at.block within

  list_page : (c : Content) × (slice_get pages list_at.block ≡ Some c)
  list_page = page_there pages list_at.block list_within

  none_here : item_at page.0.items at.off ≡ None
  none_here = sym (item_on pages page.0 at at.block page.1 refl) ∙ none

  list_none_here : (c : Content) → slice_get pages list_at.block ≡ Some c → item_at c.items list_at.off ≡ None
  list_none_here c there = sym (item_on pages c list_at list_at.block there refl) ∙ list_none

  are_new : IsNode p n → AreNew p list_at (element_bytes f) (links_bytes k) f k
  are_new node = record {
    now = whole_read (element_field p range) (element_bytes f) f (element_fits p n node version level) refl;
    no_list = no_list p f;
    list_now = whole_read (links_field p range) (links_bytes k) k (links_fit p n node version level) refl;
    no_element = list_is_no_element p k;
    points = refl;
    count = node.slots;
    version = refl;
    deleted = refl;
  }

  -- one change after the other, whichever page the second finds
  turned : (c m b w : Content) → slice_get pages at.block ≡ Some c → IsNewPut p n at.off (element_bytes f) c m
      → slice_get (slice_set pages at.block (numbered number m)) list_at.block ≡ Some b → IsNewPut p n list_at.off (links_bytes k) b w
      → Stands (slice_set (slice_set pages at.block (numbered number m)) list_at.block (numbered number w)) (with_node g at (made_of f k))
  turned c m b w page_is first then_there second =
      let mid = slice_set pages at.block (numbered number m) in
      let one : IsAddedAt at (element_bytes f) pages mid =
      subst (λ (z : Content). IsAddedAt at (element_bytes f) pages (slice_set pages at.block (numbered number z)))
      first.made (added_at pages at c number (element_bytes f) page_is first.none first.behind) in
      let two : IsAddedAt list_at (links_bytes k) mid (slice_set mid list_at.block (numbered number w)) =
      subst (λ (z : Content). IsAddedAt list_at (links_bytes k) mid (slice_set mid list_at.block (numbered number z)))
      second.made (added_at mid list_at b number (links_bytes k) then_there second.none second.behind) in
      let apart : at.block ≡ 0 → ⊥ = not_root pages g at.block c s page_is first.kind in
      let list_apart : list_at.block ≡ 0 → ⊥ = λ zero_is. not_root pages g list_at.block b s
      (sym (one.elsewhere list_at.block (λ same. apart (same ∙ zero_is))) ∙ then_there) second.kind zero_is in
      new_stands pages mid (slice_set mid list_at.block (numbered number w)) g at list_at (element_bytes f) (links_bytes k) f k s
      one two apart list_apart not_named (are_new first.node) (below_all (length pages) n.slots below)

  module _ (after : List Content) (are : AreRedone p wrap number (Put n.at n.list_at n.version n.level n.id n.bits n.slots) pages after) where
    abbrev first : PageChange
    first = put_element p n

    abbrev second : PageChange
    second = put_links p n

    -- what redo made of the page of a touched block
    made_at : (block : ℕ) (c : Content) → Contains (at.block ∷ list_at.block ∷ []) block → slice_get pages block ≡ Some c
        → (d : Content) × (at_two at.block first list_at.block second block c ≡ Some d) × (slice_get after block ≡ Some (numbered number d))
    made_at block c touched there =
        let inside : block < length after = omega (arith, slice_get_within pages block c there, are.count) in
        let got : slice_get after block ≡ Some (get_or after block c) = slice_get-get_or after block c inside in
        let made = map_is (numbered number) (at_two at.block first list_at.block second block c) (get_or after block c)
        (sym (are.there block c touched there) ∙ got) in
        (made.0, made.1, got ∙ ap (λ (d : Content). Some d) (sym made.2))

    pages_stay : (block : ℕ) → (at.block ≡ block → ⊥) → (list_at.block ≡ block → ⊥) → slice_get after block ≡ slice_get pages block
    pages_stay block other list_other = are.elsewhere block (is_neither at.block list_at.block block other list_other)

    element_put : (c d : Content) → item_at c.items at.off ≡ None → first c ≡ Some d → IsNewPut p n at.off (element_bytes f) c d
    element_put c d no_item is = new_put p n at.off (is_old_element n.version (element_at p c at.off)) (element_bytes f) c d no_item is

    list_put : (c d : Content) → item_at c.items list_at.off ≡ None → second c ≡ Some d → IsNewPut p n list_at.off (links_bytes k) c d
    list_put c d no_item is = new_put p n list_at.off (are_old_links n.version (links_at p c list_at.off)) (links_bytes k) c d no_item is

    on_one_page : at.block ≡ list_at.block → Stands after (with_node g at (made_of f k))
    on_one_page same =
        let made = made_at at.block page.0 (is_first at.block list_at.block) page.1 in
        let both : option_and_then second (first page.0) ≡ Some made.0 =
        sym (two_same at.block list_at.block at.block first second page.0 refl (sym same)) ∙ made.1 in
        let pair = then_is second (first page.0) made.0 both in
        let m = pair.0 in
        let one = element_put page.0 m none_here pair.1 in
        let offsets_apart : at.off ≡ list_at.off → ⊥ = λ e. none_or_some made.0 (sym (put_not_same p n page.0 e) ∙ both) in
        let still : item_at m.items list_at.off ≡ None =
        others_stay p n at.off (element_bytes f) page.0 m list_at.off one offsets_apart
        ∙ list_none_here page.0 (ap (slice_get pages) (sym same) ∙ page.1) in
        let two = list_put m made.0 still pair.2 in
        let here : slice_get (slice_set pages at.block (numbered number m)) list_at.block ≡ Some (numbered number m) =
        ap (slice_get (slice_set pages at.block (numbered number m))) (sym same) ∙ set_here pages at.block page.0 (numbered number m) page.1 in
        subst (λ (z : List Content). Stands z (with_node g at (made_of f k)))
        (sym (two_set pages after at.block list_at.block page.0 (numbered number m) (numbered number m) (numbered number made.0) page.1 here
        (λ other. absurd (other same)) (ap (slice_get after) (sym same) ∙ made.2) pages_stay))
        (turned page.0 m (numbered number m) (numbered number made.0) page.1 one here
        (renumbered p n list_at.off (links_bytes k) number m made.0 two))

    on_two_pages : (at.block ≡ list_at.block → ⊥) → Stands after (with_node g at (made_of f k))
    on_two_pages other =
        let made = made_at at.block page.0 (is_first at.block list_at.block) page.1 in
        let list_made = made_at list_at.block list_page.0 (is_second at.block list_at.block) list_page.1 in
        let first_is = sym (two_first at.block list_at.block at.block first second page.0 refl (λ e. other (sym e))) ∙ made.1 in
        let second_is = sym (two_second at.block list_at.block list_at.block first second list_page.0 other refl) ∙ list_made.1 in
        let here : slice_get (slice_set pages at.block (numbered number made.0)) list_at.block ≡ Some list_page.0 =
        set_apart pages at.block list_at.block (numbered number made.0) other ∙ list_page.1 in
        subst (λ (z : List Content). Stands z (with_node g at (made_of f k)))
        (sym (two_set pages after at.block list_at.block page.0 list_page.0 (numbered number made.0) (numbered number list_made.0) page.1 here
        (λ e. made.2) list_made.2 pages_stay))
        (turned page.0 made.0 list_page.0 list_made.0 page.1 (element_put page.0 made.0 none_here first_is) here
        (list_put list_page.0 list_made.0 (list_none_here list_page.0 list_page.1) second_is))

    put_here : Stands after (with_node g at (made_of f k))
    put_here = elim (cases_eq at.block list_at.block) as (λ _. Stands after (with_node g at (made_of f k))) [
      | inl same ↦ on_one_page same
      | inr other ↦ on_two_pages other
    ]

-- ---- with the fresh pages that the event makes

module _ (pages : List Content) (g : Graph) (n : NewNode) (wrap number : ℕ) (few : length pages ≤ MOST_BLOCKS) (all : All IsPage pages) (s : Stands pages g)
    (version : n.version ≤ 255) (level : n.level ≤ 255)
    (none : item_in pages n.at ≡ None) (list_none : item_in pages n.list_at ≡ None) where
  abbrev blocks : ℕ
  blocks = max (length pages) (max (n.at.block + 1) (n.list_at.block + 1))

  abbrev count : ℕ
  count = blocks - length pages

  abbrev grown : List Content
  grown = pages ++ replicate count (fresh_page Hnsw)

  abbrev h : Graph
  h = record g { blocks = g.blocks + count }

  as_many : length grown ≡ blocks
  as_many = let many = fresh_length pages g count s in omega (arith, many)

  stands : Stands grown h
  stands = fresh_stands pages g count s

  same_params : s.meta.params ≡ stands.meta.params
  same_params = sym s.params ∙ stands.params

  not_named : times_in n.list_at (pointers stands.meta.params grown) ≡ 0
  not_named = subst (λ (q : Params). times_in n.list_at (pointers q grown) ≡ 0) same_params
      (ap (times_in n.list_at) (fresh_pointers pages g count s) ∙ unnamed pages g n.list_at few all s list_none)

  pub put_new_effect : (after : List Content) → ((slot : ℕ) (to : Tid) → slice_get n.slots slot ≡ Some (Some to) → to.block < blocks)
      → AreRedone g.params wrap number (Put n.at n.list_at n.version n.level n.id n.bits n.slots) grown after
      → Stands after (effect wrap (Put n.at n.list_at n.version n.level n.id n.bits n.slots) g)
  put_new_effect after below are =
      let redone = subst (λ (q : Params). AreRedone q wrap number (Put n.at n.list_at n.version n.level n.id n.bits n.slots) grown after) stands.params are in
      let here = put_here grown h n wrap number stands (subst IsInRange stands.params (in_range pages g all s)) version level
      (fresh_items pages g count s n.at ∙ none) (fresh_items pages g count s n.list_at ∙ list_none)
      (omega (arith, as_many)) (omega (arith, as_many)) not_named
      (λ slot to is. omega (arith, below slot to is, as_many)) after redone in
      let same : g.blocks + count ≡ max g.blocks (max (n.at.block + 1) (n.list_at.block + 1)) = omega (arith, s.blocks) in
      subst (λ (z : Graph). Stands after z)
      (ap (λ (b : ℕ). record g { nodes = insert g.nodes n.at (made_of (new_element n) (new_links n)); blocks = b }) same) here
