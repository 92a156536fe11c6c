-- Redo of an event that deletes a node: its element and its neighbour tuple, on one page or on two.
use Rattle.std.proofs.Common.{◌≡◌, ℕ, zero, suc, ◌+◌, ◌≤◌, ◌&&◌, ◌||◌, ◌==◌, Bool, true, false, List, [], ◌∷◌, length, replicate, Some, None, refl, sym, ap, subst, ◌∙◌, arith, inl, inr, ◌<◌, get_or}
use Rattle.std.specs.Prelude.{slice_get, slice_set, All, Contains, if◌then◌else◌}
use Rattle.std.specs.List.{list_all, AllByRecursion}
use Rattle.std.specs.Option.{option_map, option_and_then}
use Rattle.std.proofs.lemmas.Bool.{and_parts, eqb-true, eq-eqb, cases_eq}
use Rattle.std.proofs.lemmas.List.{length-replicate}
use Rattle.std.proofs.lemmas.Option.{slice_get_within, slice_get-get_or}
use Rattle.index_sizes.specs.Sizes.{next_version}
use Rattle.byte_fields.proofs.EachField.{some_is}
use Rattle.vec_names.specs.declared.tid.Tid.{Tid}
use Rattle.vec_names.specs.declared.params.Params.{Params}
use Rattle.vec_names.specs.Params.{IsInRange}
use Rattle.vec_history.specs.declared.event.Event.TheVariants.{Mark}
use Rattle.page_bytes.specs.Content.{Content, IsPage, item_at}
use Rattle.vec_tuples.specs.declared.element.Element.{Element}
use Rattle.vec_tuples.specs.declared.element.ElementHead.{ElementHead}
use Rattle.vec_tuples.specs.declared.links.Links.{Links}
use Rattle.vec_tuples.specs.Spelling.{element_bytes, head_with, head_of_element, IsElement, links_bytes, links_with, IsLinks, IsSlotCount, IsSlotOf}
use Rattle.vec_tuples.specs.Reading.{element, links}
use Rattle.vec_tuples.proofs.ElementLaws.{element_field}
use Rattle.vec_tuples.proofs.LinksLaws.{links_field}
use Rattle.vec_graph.specs.declared.node.Node.{Node}
use Rattle.vec_graph.specs.declared.graph.Graph.{Graph}
use Rattle.vec_graph.specs.Graph.{node_at}
use Rattle.vec_graph.specs.Effect.{marked as node_marked, changed}
use Rattle.page_redo.specs.PageTuples.{in_whole, with_item, with_head, head_changed, links_changed, element_at, links_at, is_graph, is_graph_page}
use Rattle.page_redo.specs.PageChanges.{PageChange, on_graph, is_current, marked, emptied}
use Rattle.page_redo.specs.Redo.{at_two, numbered}
use Rattle.graph_pages.specs.Standing.{element_in, links_in, item_in, is_slot_below, node_with as made_of, Stands}
use Rattle.page_redo.specs.Growing.{AreRedone}
use Rattle.page_redo.proofs.Given.{then_is, map_is, if_is, when_is, item_bytes}
use Rattle.page_redo.proofs.ItemLaws.{whole_spelled, whole_read}
use Rattle.page_redo.proofs.Others.{set_apart}
use Rattle.page_redo.proofs.Putting.{set_here}
use Rattle.page_redo.proofs.Pairs.{no_list}
use Rattle.graph_pages.proofs.KindsApart.{list_is_no_element}
use Rattle.graph_pages.proofs.PageSets.{IsChangedAt, changed_at}
use Rattle.graph_pages.proofs.OneItem.{not_root}
use Rattle.graph_pages.proofs.HeadEffect.{low_from, params_in_range}
use Rattle.graph_pages.proofs.TwoItems.{AreBoth, none_or_some, both_effect}
use Rattle.page_redo.proofs.TwoBlocks.{is_first, is_second, is_neither, two_set, two_same, two_first, two_second}

-- ---- the two tuples

-- the head of the element once it is deleted
abbrev marked_head : ℕ → Element → ElementHead
marked_head wrap e = head_with e.level true (next_version wrap e.version) [] e.list_at

abbrev marked_element : ℕ → Element → Element
marked_element wrap e = with_head (marked_head wrap e) e

-- and its neighbour tuple
abbrev emptied_list : ℕ → Links → Links
emptied_list wrap l = links_with true (next_version wrap l.version) (replicate (length l.tids) None)

true_or_false : true ≡ false → ⊥
true_or_false is = absurd cc

next_in_range : (wrap v : ℕ) → v ≤ 255 → (1 ≤ next_version wrap v) × (next_version wrap v ≤ 255)
next_in_range wrap v high = by_tests (v == wrap) (v == 255) refl
  where
    low_enough : (v == 255) ≡ false → v + 1 ≤ 255
    low_enough is = elim (cases_eq v 255) as (λ _. v + 1 ≤ 255) [
      | inl same ↦ absurd (let t = eq-eqb v 255 same in true_or_false (sym t ∙ is))
      | inr other ↦ omega (arith, high, other)
    ]

    by_tests : (a b : Bool) → (v == 255) ≡ b → (1 ≤ (if a || b then 1 else v + 1)) × ((if a || b then 1 else v + 1) ≤ 255)
    by_tests true b is = (omega arith, omega arith)
    by_tests false true is = (omega arith, omega arith)
    by_tests false false is = (omega arith, low_enough is)

marked_fits : (p : Params) (wrap : ℕ) (e : Element) → IsElement p e → IsElement p (marked_element wrap e)
marked_fits p wrap e fits =
    let next = next_in_range wrap e.version fits.head.version_high in
    let long : length (replicate (length e.bits) false) ≡ length e.bits = length-replicate (length e.bits) false in
    record {
      head = record { level = fits.head.level; version_low = next.0; version_high = next.1; few = omega arith; none_left = refl };
      long = long ∙ fits.long;
      cleared = sym (ap (λ n. replicate n false) long);
    }

no_slots : (n : ℕ) → AllByRecursion (IsSlotOf true) (replicate n None)
no_slots zero = tt
no_slots (suc n) = (refl, no_slots n)

none_below : (blocks n : ℕ) → list_all (is_slot_below blocks) (replicate n None) ≡ true
none_below blocks zero = refl
none_below blocks (suc n) = none_below blocks n

emptied_fits : (p : Params) (wrap : ℕ) (l : Links) → IsLinks p l → IsLinks p (emptied_list wrap l)
emptied_fits p wrap l fits =
    let next = next_in_range wrap l.version fits.version_high in
    record {
      version_low = next.0;
      version_high = next.1;
      count = subst (IsSlotCount p.m) (sym (length-replicate (length l.tids) None)) fits.count;
      slots = no_slots (length l.tids);
    }

version_is : (deleted : Bool) (found version : ℕ) → is_current deleted found version ≡ true → found ≡ version
version_is false found version is = eqb-true found version is
version_is true found version is = absurd cc

-- ---- the two roles

-- what the first role found and made
record IsMarked (p : Params) (wrap version off : ℕ) (c d : Content) : Type 0 where
  kind : is_graph_page c.kind ≡ true
  e : Element
  item : List ℕ
  is : item_at c.items off ≡ Some item
  reads : in_whole (element p item) ≡ Some e
  of_version : e.version ≡ version
  made : with_item c off (element_bytes (marked_element wrap e)) ≡ d

is_marked : (p : Params) (wrap version off : ℕ) (c d : Content) → on_graph p (head_changed (marked wrap version) p off) c ≡ Some d
    → IsMarked p wrap version off c d
is_marked p wrap version off c d is =
    let on = if_is (is_graph p.kind && is_graph_page c.kind) (head_changed (marked wrap version) p off c) d is in
    let a = then_is (λ e. option_map (λ h. with_item c off (element_bytes (with_head h e))) (marked wrap version (head_of_element e)))
    (element_at p c off) d on.1 in
    let e = a.0 in
    let b = map_is (λ h. with_item c off (element_bytes (with_head h e))) (marked wrap version (head_of_element e)) d a.2 in
    let w = when_is (is_current e.deleted e.version version) (marked_head wrap e) b.0 b.1 in
    let i = then_is (λ x. in_whole (element p x)) (item_at c.items off) e a.1 in
    record {
      kind = (and_parts (is_graph p.kind) (is_graph_page c.kind) on.0).1;
      e = e;
      item = i.0;
      is = i.1;
      reads = i.2;
      of_version = version_is e.deleted e.version version w.0;
      made = ap (λ h. with_item c off (element_bytes (with_head h e))) w.1 ∙ b.2;
    }

-- and the second
record IsEmptied (p : Params) (wrap version off : ℕ) (c d : Content) : Type 0 where
  kind : is_graph_page c.kind ≡ true
  l : Links
  item : List ℕ
  is : item_at c.items off ≡ Some item
  reads : in_whole (links p item) ≡ Some l
  of_version : l.version ≡ version
  made : with_item c off (links_bytes (emptied_list wrap l)) ≡ d

is_emptied : (p : Params) (wrap version off : ℕ) (c d : Content) → on_graph p (links_changed (emptied wrap version) p off) c ≡ Some d
    → IsEmptied p wrap version off c d
is_emptied p wrap version off c d is =
    let on = if_is (is_graph p.kind && is_graph_page c.kind) (links_changed (emptied wrap version) p off c) d is in
    let a = then_is (λ l. option_map (λ changed. with_item c off (links_bytes changed)) (emptied wrap version l))
    (links_at p c off) d on.1 in
    let l = a.0 in
    let b = map_is (λ changed. with_item c off (links_bytes changed)) (emptied wrap version l) d a.2 in
    let w = when_is (is_current l.deleted l.version version) (emptied_list wrap l) b.0 b.1 in
    let i = then_is (λ x. in_whole (links p x)) (item_at c.items off) l a.1 in
    record {
      kind = (and_parts (is_graph p.kind) (is_graph_page c.kind) on.0).1;
      l = l;
      item = i.0;
      is = i.1;
      reads = i.2;
      of_version = version_is l.deleted l.version version w.0;
      made = ap (λ changed. with_item c off (links_bytes changed)) w.1 ∙ b.2;
    }

-- the number of the page is no part of it
renumbered : (p : Params) (wrap version off number : ℕ) (c d : Content) → IsEmptied p wrap version off c d
    → IsEmptied p wrap version off (numbered number c) (numbered number d)
renumbered p wrap version off number c d was = record {
  kind = was.kind;
  l = was.l;
  item = was.item;
  is = was.is;
  reads = was.reads;
  of_version = was.of_version;
  made = ap (numbered number) was.made;
}

-- ---- redo

module _ (pages : List Content) (g : Graph) (at list_at : Tid) (version wrap number : ℕ) (n : Node) (all : All IsPage pages) (s : Stands pages g)
    (stands : node_at g at ≡ Some n) (listed : n.list_at ≡ list_at) where
  abbrev p : Params
  p = s.meta.params

  range : IsInRange p
  range = params_in_range pages g s all

  there : (e : Element) × (element_in p pages at ≡ Some e) × (option_map (made_of e) (links_in p pages e.list_at) ≡ Some n)
  there = then_is (λ e. option_map (made_of e) (links_in p pages e.list_at)) (element_in p pages at) n (sym (s.nodes at) ∙ stands)

  list : (l : Links) × (links_in p pages there.0.list_at ≡ Some l) × (made_of there.0 l ≡ n)
  list = map_is (made_of there.0) (links_in p pages there.0.list_at) n there.2

  points : there.0.list_at ≡ list_at
  points = ap (λ (n : Node). n.list_at) list.2 ∙ listed

  item : (x : List ℕ) × (item_in pages at ≡ Some x) × (in_whole (element p x) ≡ Some there.0)
  item = then_is (λ x. in_whole (element p x)) (item_in pages at) there.0 there.1

  page : (c : Content) × (slice_get pages at.block ≡ Some c) × (item_at c.items at.off ≡ Some item.0)
  page = then_is (λ (c : Content). item_at c.items at.off) (slice_get pages at.block) item.0 item.1

  list_item : (u : List ℕ) × (item_in pages list_at ≡ Some u) × (in_whole (links p u) ≡ Some list.0)
  list_item = then_is (λ x. in_whole (links p x)) (item_in pages list_at) list.0 (ap (links_in p pages) (sym points) ∙ list.1)

  list_page : (d : Content) × (slice_get pages list_at.block ≡ Some d) × (item_at d.items list_at.off ≡ Some list_item.0)
  list_page = then_is (λ (c : Content). item_at c.items list_at.off) (slice_get pages list_at.block) list_item.0 list_item.1

  -- one role after the other, whichever page the second finds
  module _ (c m b w : Content) (page_is : slice_get pages at.block ≡ Some c) (first : IsMarked p wrap version at.off c m)
      (then_there : slice_get (slice_set pages at.block (numbered number m)) list_at.block ≡ Some b)
      (second : IsEmptied p wrap version list_at.off b w) where
    abbrev mid : List Content
    mid = slice_set pages at.block (numbered number m)

    abbrev f : Element
    f = marked_element wrap first.e

    abbrev k : Links
    k = emptied_list wrap second.l

    one : IsChangedAt at first.item (element_bytes f) pages mid
    one = subst (λ (z : Content). IsChangedAt at first.item (element_bytes f) pages (slice_set pages at.block (numbered number z)))
        first.made (changed_at pages at c number first.item (element_bytes f) page_is first.is)

    two : IsChangedAt list_at second.item (links_bytes k) mid (slice_set mid list_at.block (numbered number w))
    two = subst (λ (z : Content). IsChangedAt list_at second.item (links_bytes k) mid (slice_set mid list_at.block (numbered number z)))
        second.made (changed_at mid list_at b number second.item (links_bytes k) then_there second.is)

    apart : at.block ≡ 0 → ⊥
    apart = not_root pages g at.block c s page_is first.kind

    list_apart : list_at.block ≡ 0 → ⊥
    list_apart zero_is = not_root pages g list_at.block b s
        (sym (one.elsewhere list_at.block (λ same. apart (same ∙ zero_is))) ∙ then_there) second.kind zero_is

    spelled : IsElement p first.e × (first.item ≡ element_bytes first.e)
    spelled = whole_spelled (element_field p range) first.item first.e
        (item_bytes pages at.block at.off c first.item all page_is first.is) first.reads

    other_place : at ≡ list_at → ⊥
    other_place same =
        let one_item : second.item ≡ element_bytes f = some_is second.item (element_bytes f)
        (sym two.was ∙ ap (item_in mid) (sym same) ∙ one.now) in
        none_or_some second.l (sym (no_list p f) ∙ ap (λ x. in_whole (links p x)) (sym one_item) ∙ second.reads)

    list_before : (d : Content) × (slice_get pages list_at.block ≡ Some d) × (item_at d.items list_at.off ≡ Some second.item)
    list_before = then_is (λ (c : Content). item_at c.items list_at.off) (slice_get pages list_at.block) second.item (sym (one.apart list_at other_place) ∙ two.was)

    list_spelled : IsLinks p second.l × (second.item ≡ links_bytes second.l)
    list_spelled = whole_spelled (links_field p range) second.item second.l
        (item_bytes pages list_at.block list_at.off list_before.0 second.item all list_before.1 list_before.2) second.reads

    same_element : there.0 ≡ first.e
    same_element = some_is there.0 first.e (sym there.1 ∙ ap (λ o. option_and_then (λ x. in_whole (element p x)) o) one.was ∙ first.reads)

    names : first.e.list_at ≡ list_at
    names = ap (λ (e : Element). e.list_at) (sym same_element) ∙ points

    are : AreBoth p list_at first.item (element_bytes f) second.item (links_bytes k) first.e f second.l k
    are = record {
      was = first.reads;
      now = whole_read (element_field p range) (element_bytes f) f (marked_fits p wrap first.e spelled.0) refl;
      no_list = ap (λ x. in_whole (links p x)) spelled.1 ∙ no_list p first.e;
      no_list_now = no_list p f;
      list_was = second.reads;
      list_now = whole_read (links_field p range) (links_bytes k) k (emptied_fits p wrap second.l list_spelled.0) refl;
      no_element = ap (λ x. in_whole (element p x)) list_spelled.1 ∙ list_is_no_element p second.l;
      no_element_now = list_is_no_element p k;
      level = refl;
      points = names;
      points_now = names;
      count = length-replicate (length second.l.tids) None;
      version = ap (next_version wrap) (second.of_version ∙ sym first.of_version);
      deleted = refl;
    }

    turned : Stands (slice_set mid list_at.block (numbered number w)) (changed g at (node_marked wrap))
    turned = both_effect pages mid (slice_set mid list_at.block (numbered number w)) g at list_at
        first.item (element_bytes f) second.item (links_bytes k) first.e f second.l k s
        one two apart list_apart (low_from at.block apart) (low_from list_at.block list_apart) are
        (λ good. none_below (length pages) (length second.l.tids)) (node_marked wrap) refl

  module _ (after : List Content) (are : AreRedone p wrap number (Mark at list_at version) pages after) where
    abbrev first : PageChange
    first = on_graph p (head_changed (marked wrap version) p at.off)

    abbrev second : PageChange
    second = on_graph p (links_changed (emptied wrap version) p list_at.off)

    -- what redo made of the page of a touched block
    made_at : (block : ℕ) (c : Content) → Contains (at.block ∷ list_at.block ∷ []) block → slice_get pages block ≡ Some c
        → (d : Content) × (at_two at.block first list_at.block second block c ≡ Some d) × (slice_get after block ≡ Some (numbered number d))
    made_at block c touched there =
        let within : block < length after = omega (arith, slice_get_within pages block c there, are.count) in
        let got : slice_get after block ≡ Some (get_or after block c) = slice_get-get_or after block c within in
        let made = map_is (numbered number) (at_two at.block first list_at.block second block c) (get_or after block c)
        (sym (are.there block c touched there) ∙ got) in
        (made.0, made.1, got ∙ ap (λ (d : Content). Some d) (sym made.2))

    others_stay : (block : ℕ) → (at.block ≡ block → ⊥) → (list_at.block ≡ block → ⊥) → slice_get after block ≡ slice_get pages block
    others_stay block other list_other = are.elsewhere block (is_neither at.block list_at.block block other list_other)

    on_one_page : at.block ≡ list_at.block → Stands after (changed g at (node_marked wrap))
    on_one_page same =
        let made = made_at at.block page.0 (is_first at.block list_at.block) page.1 in
        let pair = then_is second (first page.0) made.0 (sym (two_same at.block list_at.block at.block first second page.0 refl (sym same)) ∙ made.1) in
        let m = pair.0 in
        let emptied_is = is_emptied p wrap version list_at.off m made.0 pair.2 in
        let here : slice_get (slice_set pages at.block (numbered number m)) list_at.block ≡ Some (numbered number m) =
        ap (slice_get (slice_set pages at.block (numbered number m))) (sym same) ∙ set_here pages at.block page.0 (numbered number m) page.1 in
        subst (λ (z : List Content). Stands z (changed g at (node_marked wrap)))
        (sym (two_set pages after at.block list_at.block page.0 (numbered number m) (numbered number m) (numbered number made.0) page.1 here
        (λ other. absurd (other same)) (ap (slice_get after) (sym same) ∙ made.2) others_stay))
        (turned page.0 m (numbered number m) (numbered number made.0) page.1 (is_marked p wrap version at.off page.0 m pair.1) here
        (renumbered p wrap version list_at.off number m made.0 emptied_is))

    on_two_pages : (at.block ≡ list_at.block → ⊥) → Stands after (changed g at (node_marked wrap))
    on_two_pages other =
        let made = made_at at.block page.0 (is_first at.block list_at.block) page.1 in
        let list_made = made_at list_at.block list_page.0 (is_second at.block list_at.block) list_page.1 in
        let first_is = sym (two_first at.block list_at.block at.block first second page.0 refl (λ e. other (sym e))) ∙ made.1 in
        let second_is = sym (two_second at.block list_at.block list_at.block first second list_page.0 other refl) ∙ list_made.1 in
        let here : slice_get (slice_set pages at.block (numbered number made.0)) list_at.block ≡ Some list_page.0 =
        set_apart pages at.block list_at.block (numbered number made.0) other ∙ list_page.1 in
        subst (λ (z : List Content). Stands z (changed g at (node_marked wrap)))
        (sym (two_set pages after at.block list_at.block page.0 list_page.0 (numbered number made.0) (numbered number list_made.0) page.1 here
        (λ e. made.2) list_made.2 others_stay))
        (turned page.0 made.0 list_page.0 list_made.0 page.1 (is_marked p wrap version at.off page.0 made.0 first_is) here
        (is_emptied p wrap version list_at.off list_page.0 list_made.0 second_is))

    mark_here : Stands after (changed g at (node_marked wrap))
    mark_here = elim (cases_eq at.block list_at.block) as (λ _. Stands after (changed g at (node_marked wrap))) [
      | inl same ↦ on_one_page same
      | inr other ↦ on_two_pages other
    ]

  pub mark_effect : (after : List Content) → AreRedone g.params wrap number (Mark at list_at version) pages after
      → Stands after (changed g at (node_marked wrap))
  mark_effect after are = mark_here after (subst (λ (q : Params). AreRedone q wrap number (Mark at list_at version) pages after) s.params are)
