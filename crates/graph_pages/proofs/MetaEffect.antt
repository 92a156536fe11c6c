-- Redo of an event that changes the meta tuple of a graph.
use Rattle.std.proofs.Common.{◌≡◌, ℕ, ◌-◌, ◌<◌, ◌≤◌, ◌&&◌, ◌||◌, ◌==◌, true, List, length, Option, Some, None, refl, sym, ap, ap₂, subst, ◌∙◌, arith, lit<, lit≤}
use Rattle.std.specs.Prelude.{slice_get, slice_set, nat_le, All}
use Rattle.std.specs.Option.{option_map, option_and_then, option_to_list}
use Rattle.std.proofs.lemmas.Bool.{and_parts, and_from, eqb-true, eq-eqb, leb-true, le-leb}
use Rattle.std.proofs.lemmas.List.{length-set}
use Rattle.vec_names.specs.declared.tid.Tid.{Tid}
use Rattle.vec_names.specs.declared.params.Params.{Params}
use Rattle.page_bytes.specs.Content.{Content, IsPage, item_at}
use Rattle.vec_tuples.specs.declared.meta.Meta.{Meta}
use Rattle.vec_tuples.specs.declared.element.Element.{Element}
use Rattle.byte_fields.specs.Levels.{is_level}
use Rattle.vec_tuples.specs.Spelling.{IsMeta, IsLevelOf, meta_bytes, head_of_element}
use Rattle.vec_tuples.specs.Reading.{meta, element, links}
use Rattle.vec_tuples.proofs.MetaLaws.{meta_field}
use Rattle.vec_tuples.proofs.ElementLaws.{element_field}
use Rattle.vec_graph.specs.declared.node.Node.{Node}
use Rattle.vec_graph.specs.declared.graph.Graph.{Graph}
use Rattle.vec_graph.specs.Graph.{HasLevel}
use Rattle.page_redo.specs.PageTuples.{in_whole, meta_at, with_item, meta_changed, is_graph, is_meta_page}
use Rattle.page_redo.specs.PageChanges.{on_meta, entered, hinted}
use Rattle.page_redo.specs.Redo.{at_one, numbered}
use Rattle.graph_pages.specs.Standing.{item_in, element_in, head_in, links_in, root_on, root, of_graph, is_of_level, is_entry, is_element, pointers, is_list, is_node_item, node_with as made_of, node_in, Stands}
use Rattle.byte_fields.proofs.EachField.{some_is}
use Rattle.page_redo.proofs.Given.{then_is, map_is, if_is, when_is, item_bytes}
use Rattle.page_redo.proofs.ItemLaws.{whole_spelled, whole_read}
use Rattle.page_redo.proofs.MetaChanges.{entry_of_graph, hint_of_graph}
use Rattle.graph_pages.proofs.KindsApart.{meta_is_no_element, meta_is_no_list}
use Rattle.page_redo.proofs.Putting.{set_here, with_item_here}
use Rattle.graph_pages.proofs.PageSets.{IsChangedAt, changed_at, node_page, read_alike}
use Rattle.graph_pages.proofs.OneItem.{same_element, same_list, same_entry}
use Rattle.graph_pages.proofs.HeadEffect.{one_place, params_in_range}
use Rattle.graph_pages.proofs.StandingLaws.{IsRootOf, root_is, root_fits, root_spelled, root_holds, node_pages, stands_from}

-- the place of the meta tuple
abbrev root_place : Tid
root_place = record { block = 0; off = 1; within_blocks = lit≤ tt; counted_from_one = lit≤ tt; in_two_bytes = lit< tt }

root_from : (pages : List Content) (c : Content) (x : List ℕ) (m : Meta) → slice_get pages 0 ≡ Some c
    → is_meta_page c.kind ≡ true → length c.items ≡ 1 → item_at c.items 1 ≡ Some x → in_whole (meta x) ≡ Some m
    → is_graph m.params.kind ≡ true → root pages ≡ Some m
root_from pages c x m there kind alone is reads graph =
    let tests : (is_meta_page c.kind && length c.items == 1) ≡ true = and_from (is_meta_page c.kind) (length c.items == 1) kind (eq-eqb (length c.items) 1 alone) in
    let item : meta_at c ≡ Some m = ap (λ o. option_and_then (λ x. in_whole (meta x)) o) is ∙ reads in
    let read : of_graph m ≡ Some m = rw graph refl in
    ap (λ o. option_and_then root_on o) there ∙ rw (tests, item, read) refl

-- the meta tuple with another format, entry and hint
abbrev meta_with : Meta → ℕ → Option Tid → ℕ → ℕ → Meta
meta_with m format entry level hint = record m { format = format; entry = entry; level = level; hint = hint }

module _ (pages : List Content) (g : Graph) (c : Content) (number : ℕ) (all : All IsPage pages) (s : Stands pages g) (there : slice_get pages 0 ≡ Some c) (format : ℕ) (entry : Option Tid) (level hint : ℕ)
    (fits : IsMeta (meta_with s.meta format entry level hint)) where
  abbrev p : Params
  p = s.meta.params

  abbrev m : Meta
  m = meta_with s.meta format entry level hint

  abbrev after : List Content
  after = slice_set pages 0 (numbered number (with_item c 1 (meta_bytes m)))

  r : IsRootOf pages s.meta
  r = root_is pages s.meta s.read

  r_there : r.page ≡ c
  r_there = some_is r.page c (sym r.there ∙ there)

  old_is : item_at c.items 1 ≡ Some r.item
  old_is = ap (λ (d : Content). item_at d.items 1) (sym r_there) ∙ r.is

  change : IsChangedAt root_place r.item (meta_bytes m) pages after
  change = changed_at pages root_place c number r.item (meta_bytes m) there old_is

  old_spelled : r.item ≡ meta_bytes s.meta
  old_spelled = root_spelled pages s.meta all r

  no_element_was : in_whole (element p r.item) ≡ None
  no_element_was = ap (λ x. in_whole (element p x)) old_spelled ∙ meta_is_no_element p s.meta

  no_list_was : in_whole (links p r.item) ≡ None
  no_list_was = ap (λ x. in_whole (links p x)) old_spelled ∙ meta_is_no_list p s.meta

  elements_stay : (at : Tid) → element_in p after at ≡ element_in p pages at
  elements_stay = read_alike change (element p) (meta_is_no_element p m ∙ sym no_element_was)

  links_stay : (at : Tid) → links_in p after at ≡ links_in p pages at
  links_stay = read_alike change (links p) (meta_is_no_list p m ∙ sym no_list_was)

  heads_stay : (at : Tid) → head_in p after at ≡ head_in p pages at
  heads_stay at = ap (option_map head_of_element) (elements_stay at)

  named_stays : pointers p after ≡ pointers p pages
  named_stays = change.named p (ap (λ o. option_to_list (option_map (λ (e : Element). e.list_at) o)) (meta_is_no_element p m ∙ sym no_element_was))

  items_stay : (at : Tid) → is_node_item p after at ≡ is_node_item p pages at
  items_stay at = ap₂ (λ a b. a || b)
      (ap (is_element p after) (heads_stay at) ∙ same_element p pages after (head_in p pages at) links_stay)
      (ap (is_list p after at) (links_stay at) ∙ same_list p pages after at (links_in p pages at) change.count named_stays)

  same_node : (o : Option Element)
      → option_and_then (λ e. option_map (made_of e) (links_in p after e.list_at)) o ≡ option_and_then (λ e. option_map (made_of e) (links_in p pages e.list_at)) o
  same_node None = refl
  same_node (Some e) = ap (option_map (made_of e)) (links_stay e.list_at)

  nodes_stay : (at : Tid) → node_in p after at ≡ node_in p pages at
  nodes_stay at = ap (λ o. option_and_then (λ e. option_map (made_of e) (links_in p after e.list_at)) o) (elements_stay at) ∙ same_node (element_in p pages at)

  root_now : root after ≡ Some m
  root_now =
      let kind : is_meta_page c.kind ≡ true = ap (λ (d : Content). is_meta_page d.kind) (sym r_there) ∙ r.of_kind in
      let alone : length c.items ≡ 1 = ap (λ (d : Content). length d.items) (sym r_there) ∙ r.alone in
      root_from after (numbered number (with_item c 1 (meta_bytes m))) (meta_bytes m) m (set_here pages 0 c (numbered number (with_item c 1 (meta_bytes m))) there) kind
      (length-set c.items (1 - 1) (meta_bytes m) ∙ alone) (with_item_here c 1 r.item (meta_bytes m) old_is) (whole_read meta_field (meta_bytes m) m fits refl) r.graph

  pub meta_effect : hint ≤ length pages → is_entry p pages entry level ≡ true
      → Stands after (record g { entry = entry; level = level; hint = hint })
  meta_effect low good =
      let low_after : hint ≤ length after = omega (arith, low, change.count) in
      let same : is_entry p after entry level ≡ is_entry p pages entry level = same_entry p pages after entry level (λ at level. ap (is_of_level level) (heads_stay at)) in
      stands_from after (record g { entry = entry; level = level; hint = hint }) m root_now
      (and_from (nat_le hint (length after)) (is_entry p after entry level) (le-leb hint (length after) low_after) (same ∙ good))
      (λ block low. node_page change p (λ at was. items_stay at ∙ was) block (node_pages pages g s block low))
      s.params refl refl refl (s.blocks ∙ sym change.count) (λ at. s.nodes at ∙ sym (nodes_stay at))

-- ---- what the rules of block 0 say

module _ (pages : List Content) (g : Graph) (all : All IsPage pages) (s : Stands pages g) where
  pub root_parts : (nat_le s.meta.hint (length pages) ≡ true) × (is_entry s.meta.params pages s.meta.entry s.meta.level ≡ true)
  root_parts = and_parts (nat_le s.meta.hint (length pages)) (is_entry s.meta.params pages s.meta.entry s.meta.level) (root_holds pages g s)

  pub meta_fits : IsMeta s.meta
  meta_fits = root_fits pages s.meta all (root_is pages s.meta s.read)

  pub meta_there : (c : Content) → slice_get pages 0 ≡ Some c → meta_at c ≡ Some s.meta
  meta_there c there =
      let r = root_is pages s.meta s.read in
      let same : c ≡ r.page = some_is c r.page (sym there ∙ r.there) in
      ap (λ (d : Content). meta_at d) same ∙ ap (λ o. option_and_then (λ x. in_whole (meta x)) o) r.is ∙ r.reads

  -- a node's level is that of an element
  element_there : (at : Tid) (level : ℕ) → HasLevel g at level
      → (level < 256) × (is_of_level level (head_in s.meta.params pages at) ≡ true)
  element_there at level has =
      let p = s.meta.params in
      let e = then_is (λ e. option_map (made_of e) (links_in p pages e.list_at)) (element_in p pages at) has.node (sym (s.nodes at) ∙ has.stands) in
      let l = map_is (made_of e.0) (links_in p pages e.0.list_at) has.node e.2 in
      let same : e.0.level ≡ level = ap (λ (n : Node). n.level) l.2 ∙ has.of_level in
      let x = then_is (λ x. in_whole (element p x)) (item_in pages at) e.0 e.1 in
      let c = then_is (λ (c : Content). item_at c.items at.off) (slice_get pages at.block) x.0 x.1 in
      let spelled = whole_spelled (element_field p (params_in_range pages g s all)) x.0 e.0 (item_bytes pages at.block at.off c.0 x.0 all c.1 c.2) x.2 in
      (omega (arith, spelled.0.head.level, same), ap (λ o. is_of_level level (option_map head_of_element o)) e.1 ∙ eq-eqb e.0.level level same)

  entry_good : (to : Option Tid) (level : ℕ) → ((at : Tid) → to ≡ Some at → HasLevel g at level)
      → is_entry s.meta.params pages to level ≡ true
  entry_good None level has = refl
  entry_good (Some at) level has = (element_there at level (has at refl)).1

  level_good : (to : Option Tid) (level : ℕ) → is_level to level ≡ true → ((at : Tid) → to ≡ Some at → HasLevel g at level)
      → IsLevelOf to level
  level_good None level is has = (is, omega (arith, eqb-true level 0 is))
  level_good (Some at) level is has = (is, (element_there at level (has at refl)).0)

  -- ---- redo

  module _ (number block : ℕ) (page after : Content) (there : slice_get pages block ≡ Some page) where
    meta_redone : (change : Meta → Option Meta) (h : Graph)
        → option_map (numbered number) (at_one 0 (on_meta (meta_changed change)) block page) ≡ Some after
        → ((k : Meta) → slice_get pages 0 ≡ Some page → change s.meta ≡ Some k → Stands (slice_set pages 0 (numbered number (with_item page 1 (meta_bytes k)))) h) → Stands (slice_set pages block after) h
    meta_redone change h is effect =
        one_place pages h 0 number block (on_meta (meta_changed change)) page after there is (λ d here made.
        let on = if_is (is_meta_page page.kind) (meta_changed change page) d made in
        let a = map_is (λ changed. with_item page 1 (meta_bytes changed)) (change s.meta) d
        (ap (λ o. option_and_then (λ m. option_map (λ changed. with_item page 1 (meta_bytes changed)) (change m)) o) (sym (meta_there page here)) ∙ on.1) in
        subst (λ (z : Content). Stands (slice_set pages 0 (numbered number z)) h) a.2 (effect a.0 here a.1))

    pub hint_effect : (hint : ℕ) → hint ≤ g.blocks
        → option_map (numbered number) (at_one 0 (on_meta (meta_changed (hinted hint))) block page) ≡ Some after
        → Stands (slice_set pages block after) (record g { hint = hint })
    hint_effect hint low is = meta_redone (hinted hint) (record g { hint = hint }) is (λ k here made.
        let w = when_is (is_graph s.meta.params.kind && (nat_le 1 hint && nat_le hint 32768)) (record s.meta { hint = hint }) k made in
        let t = and_parts (is_graph s.meta.params.kind) (nat_le 1 hint && nat_le hint 32768) w.0 in
        let u = and_parts (nat_le 1 hint) (nat_le hint 32768) t.1 in
        let fits : IsMeta (record s.meta { hint = hint }) = record {
          format_low = meta_fits.format_low;
          format_high = meta_fits.format_high;
          params = meta_fits.params;
          entry = meta_fits.entry;
          level = meta_fits.level;
          hint = hint_of_graph s.meta.params.kind hint t.0 (leb-true 1 hint u.0) (leb-true hint 32768 u.1);
        } in
        let same : record g { entry = s.meta.entry; level = s.meta.level; hint = hint } ≡ record g { hint = hint } =
        ap₂ (λ (e : Option Tid) (l : ℕ). record g { entry = e; level = l; hint = hint }) (sym s.entry) (sym s.level) in
        subst (λ (m : Meta). Stands (slice_set pages 0 (numbered number (with_item page 1 (meta_bytes m)))) (record g { hint = hint })) w.1
        (subst (λ (h : Graph). Stands (slice_set pages 0 (numbered number (with_item page 1 (meta_bytes (record s.meta { hint = hint }))))) h) same
        (meta_effect pages g page number all s here s.meta.format s.meta.entry s.meta.level hint fits (omega (arith, low, s.blocks)) root_parts.1)))

    pub entry_effect : (to : Option Tid) (level : ℕ) → ((at : Tid) → to ≡ Some at → HasLevel g at level)
        → option_map (numbered number) (at_one 0 (on_meta (meta_changed (entered to level))) block page) ≡ Some after
        → Stands (slice_set pages block after) (record g { entry = to; level = level })
    entry_effect to level has is = meta_redone (entered to level) (record g { entry = to; level = level }) is (λ k here made.
        let w = when_is (is_graph s.meta.params.kind && is_level to level) (record s.meta { entry = to; level = level }) k made in
        let t = and_parts (is_graph s.meta.params.kind) (is_level to level) w.0 in
        let fits : IsMeta (record s.meta { entry = to; level = level }) = record {
          format_low = meta_fits.format_low;
          format_high = meta_fits.format_high;
          params = meta_fits.params;
          entry = entry_of_graph s.meta.params.kind to t.0;
          level = level_good to level t.1 has;
          hint = meta_fits.hint;
        } in
        let same : record g { entry = to; level = level; hint = s.meta.hint } ≡ record g { entry = to; level = level } = ap (λ (n : ℕ). record g { entry = to; level = level; hint = n }) (sym s.hint) in
        subst (λ (m : Meta). Stands (slice_set pages 0 (numbered number (with_item page 1 (meta_bytes m)))) (record g { entry = to; level = level })) w.1
        (subst (λ (h : Graph). Stands (slice_set pages 0 (numbered number (with_item page 1 (meta_bytes (record s.meta { entry = to; level = level }))))) h) same
        (meta_effect pages g page number all s here s.meta.format to level s.meta.hint fits (leb-true s.meta.hint (length pages) root_parts.0) (entry_good to level has))))
