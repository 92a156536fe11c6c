-- Redo of a new node at the places of a deleted one: its element and its neighbour tuple, on one page or on two.
use Rattle.std.proofs.Common.{◌≡◌, ℕ, ◌+◌, ◌*◌, ◌/◌, ◌<◌, ◌≤◌, ◌&&◌, ◌==◌, max, Bool, true, false, List, [], ◌∷◌, length, Option, Some, None, refl, sym, ap, subst, ◌∙◌, arith, inl, inr, get_or, eqb}
use Rattle.std.specs.Prelude.{slice_get, slice_set, All, Contains, nat_le}
use Rattle.std.specs.List.{AllByRecursion}
use Rattle.std.specs.Option.{option_map, option_and_then}
use Rattle.std.specs.FinMap.{insert}
use Rattle.std.proofs.Math.Nat.{mul-div_cancel}
use Rattle.std.proofs.lemmas.Bool.{and_parts, eqb-true, leb-true, cases_eq}
use Rattle.std.proofs.lemmas.Option.{slice_get_within, slice_get-get_or}
use Rattle.index_sizes.specs.Sizes.{slots_of_level}
use Rattle.index_sizes.specs.declared.limits.TheConstants.{MOST_SLOTS}
use Rattle.byte_fields.proofs.EachField.{some_is}
use Rattle.vec_names.specs.declared.tid.Tid.{Tid}
use Rattle.vec_names.specs.declared.params.Kind.{Kind}
use Rattle.vec_names.specs.declared.params.Kind.TheVariants.{Hnsw, Ivf}
use Rattle.vec_names.specs.declared.params.Params.{Params}
use Rattle.vec_names.specs.Params.{IsInRange, IsInRangeOf}
use Rattle.vec_names.specs.Places.{same_tid}
use Rattle.vec_history.specs.declared.event.Event.TheVariants.{Put}
use Rattle.page_bytes.specs.Content.{Content, IsPage, item_at}
use Rattle.vec_tuples.specs.declared.element.Element.{Element}
use Rattle.vec_tuples.specs.declared.links.Links.{Links}
use Rattle.vec_tuples.specs.Spelling.{element_bytes, IsElement, links_bytes, IsLinks, IsSlotCount, IsSlotOf}
use Rattle.vec_tuples.specs.Reading.{element, links}
use Rattle.vec_tuples.proofs.ElementLaws.{element_field}
use Rattle.vec_tuples.proofs.LinksLaws.{links_field}
use Rattle.vec_tuples.proofs.SlotPlaces.{length-links_bytes}
use Rattle.vec_graph.specs.declared.node.Node.{Node}
use Rattle.vec_graph.specs.declared.graph.Graph.{Graph}
use Rattle.vec_graph.specs.Graph.{node_at}
use Rattle.vec_graph.specs.Effect.{effect, with_node, changed_from, changed}
use Rattle.page_redo.specs.PageTuples.{in_whole, with_item, element_at, links_at, is_graph, is_graph_page}
use Rattle.page_redo.specs.PageChanges.{PageChange, NewNode, is_node, new_element, new_links, is_old_element, are_old_links, put_over, put, put_element, put_links, if_so}
use Rattle.page_redo.specs.Redo.{at_two, numbered}
use Rattle.page_redo.proofs.ItemLaws.{whole_spelled, whole_read}
use Rattle.page_redo.proofs.Others.{set_apart}
use Rattle.page_redo.proofs.Putting.{set_here, with_item_others}
use Rattle.page_redo.proofs.Pairs.{no_list}
use Rattle.graph_pages.specs.Standing.{element_in, links_in, item_in, node_with as made_of, Stands}
use Rattle.page_redo.specs.Growing.{AreRedone}
use Rattle.page_redo.proofs.Given.{then_is, map_is, if_is, when_is, item_bytes}
use Rattle.graph_pages.proofs.KindsApart.{list_is_no_element, element_is_no_list}
use Rattle.graph_pages.proofs.PageSets.{IsChangedAt, changed_at}
use Rattle.graph_pages.proofs.OneItem.{not_root}
use Rattle.graph_pages.proofs.StandingLaws.{node_below}
use Rattle.graph_pages.proofs.StandingShape.{list_below}
use Rattle.graph_pages.proofs.HeadEffect.{low_from, params_in_range}
use Rattle.graph_pages.proofs.RoleFits.{list_alike, of_graph_kind}
use Rattle.graph_pages.proofs.SlotEffect.{below_all}
use Rattle.graph_pages.proofs.TwoItems.{AreBoth, none_or_some, both_effect}
use Rattle.page_redo.proofs.TwoBlocks.{is_first, is_second, is_neither, two_same, two_first, two_second}
use Rattle.page_redo.proofs.TwoBlocks.{two_set}

-- ---- the two tuples

old_version : (deleted : Bool) (found version : ℕ) → (deleted && found == version) ≡ true → found ≡ version
old_version true found version is = eqb-true found version is
old_version false found version is = absurd cc

pub any_slots : (slots : List (Option Tid)) → AllByRecursion (IsSlotOf false) slots
any_slots [] = tt
any_slots (slot ∷ slots) = (tt, any_slots slots)

pub times_cancels : (a b m : ℕ) → 0 < m → a * m ≡ b * m → a ≡ b
times_cancels a b m some same = sym (mul-div_cancel a some) ∙ ap (λ n. n / m) same ∙ mul-div_cancel b some

pub some_m : (k : Kind) (p : Params) → is_graph k ≡ true → IsInRangeOf k p → 2 ≤ p.m
some_m Hnsw p is range = range.m_low
some_m Ivf p is range = absurd cc

-- what a node is that has tuples
pub record IsNode (p : Params) (n : NewNode) : Type 0 where
  pub version : 1 ≤ n.version
  pub bits : length n.bits ≡ p.bits
  pub slots : length n.slots ≡ slots_of_level p.m n.level
  pub few : length n.slots ≤ MOST_SLOTS

pub node_is : (p : Params) (n : NewNode) → is_node p n ≡ true → IsNode p n
node_is p n is =
    let a = and_parts (nat_le 1 n.version) (length n.bits == p.bits && (length n.slots == slots_of_level p.m n.level && nat_le (length n.slots) MOST_SLOTS)) is in
    let b = and_parts (length n.bits == p.bits) (length n.slots == slots_of_level p.m n.level && nat_le (length n.slots) MOST_SLOTS) a.1 in
    let c = and_parts (length n.slots == slots_of_level p.m n.level) (nat_le (length n.slots) MOST_SLOTS) b.1 in
    record {
      version = leb-true 1 n.version a.0;
      bits = eqb-true (length n.bits) p.bits b.0;
      slots = eqb-true (length n.slots) (slots_of_level p.m n.level) c.0;
      few = leb-true (length n.slots) MOST_SLOTS c.1;
    }

-- what the first change found and made
pub record IsElementPut (p : Params) (n : NewNode) (c d : Content) : Type 0 where
  pub kind : is_graph_page c.kind ≡ true
  pub node : IsNode p n
  pub e : Element
  pub item : List ℕ
  pub is : item_at c.items n.at.off ≡ Some item
  pub reads : in_whole (element p item) ≡ Some e
  pub of_version : e.version ≡ n.version
  pub made : with_item c n.at.off (element_bytes (new_element n)) ≡ d

old_element : (version : ℕ) (e : Element) (o : Option Element) → o ≡ Some e → is_old_element version o ≡ true → e.version ≡ version
old_element version e None is old = absurd cc
old_element version e (Some d) is old = ap (λ (e : Element). e.version) (sym (some_is d e is)) ∙ old_version d.deleted d.version version old

pub element_put : (p : Params) (n : NewNode) (c d : Content) (item : List ℕ) (e : Element) → item_at c.items n.at.off ≡ Some item → in_whole (element p item) ≡ Some e
    → put_element p n c ≡ Some d → IsElementPut p n c d
element_put p n c d item e there reads is =
    let x = element_bytes (new_element n) in
    let go = is_old_element n.version (element_at p c n.at.off) in
    let on = if_is (is_graph p.kind && is_graph_page c.kind) (if_so (is_node p n) (put n.at.off go x c)) d is in
    let node = if_is (is_node p n) (put n.at.off go x c) d on.1 in
    let w = when_is (go && eqb (length item) (length x)) (with_item c n.at.off x) d (ap (λ o. put_over o n.at.off go x c) (sym there) ∙ node.1) in
    let read_here : element_at p c n.at.off ≡ Some e = ap (λ o. option_and_then (λ x. in_whole (element p x)) o) there ∙ reads in
    record {
      kind = (and_parts (is_graph p.kind) (is_graph_page c.kind) on.0).1;
      node = node_is p n node.0;
      e = e;
      item = item;
      is = there;
      reads = reads;
      of_version = old_element n.version e (element_at p c n.at.off) read_here (and_parts go (eqb (length item) (length x)) w.0).0;
      made = w.1;
    }

-- and the second
pub record IsListPut (p : Params) (n : NewNode) (c d : Content) : Type 0 where
  pub kind : is_graph_page c.kind ≡ true
  pub l : Links
  pub item : List ℕ
  pub is : item_at c.items n.list_at.off ≡ Some item
  pub reads : in_whole (links p item) ≡ Some l
  pub long : length item ≡ length (links_bytes (new_links n))
  pub made : with_item c n.list_at.off (links_bytes (new_links n)) ≡ d

pub list_put : (p : Params) (n : NewNode) (c d : Content) (item : List ℕ) (l : Links) → item_at c.items n.list_at.off ≡ Some item → in_whole (links p item) ≡ Some l
    → put_links p n c ≡ Some d → IsListPut p n c d
list_put p n c d item l there reads is =
    let y = links_bytes (new_links n) in
    let go = are_old_links n.version (links_at p c n.list_at.off) in
    let on = if_is (is_graph p.kind && is_graph_page c.kind) (if_so (is_node p n) (put n.list_at.off go y c)) d is in
    let node = if_is (is_node p n) (put n.list_at.off go y c) d on.1 in
    let w = when_is (go && eqb (length item) (length y)) (with_item c n.list_at.off y) d (ap (λ o. put_over o n.list_at.off go y c) (sym there) ∙ node.1) in
    record {
      kind = (and_parts (is_graph p.kind) (is_graph_page c.kind) on.0).1;
      l = l;
      item = item;
      is = there;
      reads = reads;
      long = eqb-true (length item) (length y) (and_parts go (eqb (length item) (length y)) w.0).1;
      made = w.1;
    }

-- the number of the page is no part of it
renumbered : (p : Params) (n : NewNode) (number : ℕ) (c d : Content) → IsListPut p n c d → IsListPut p n (numbered number c) (numbered number d)
renumbered p n number c d was = record {
  kind = was.kind;
  l = was.l;
  item = was.item;
  is = was.is;
  reads = was.reads;
  long = was.long;
  made = ap (numbered number) was.made;
}

-- ---- redo

module _ (pages : List Content) (g : Graph) (n : NewNode) (wrap number : ℕ) (was : Node) (all : All IsPage pages) (s : Stands pages g)
    (stands : node_at g n.at ≡ Some was) (listed : was.list_at ≡ n.list_at)
    (below : (slot : ℕ) (to : Tid) → slice_get n.slots slot ≡ Some (Some to) → to.block < g.blocks) where
  abbrev p : Params
  p = s.meta.params

  abbrev at : Tid
  at = n.at

  abbrev list_at : Tid
  list_at = n.list_at

  range : IsInRange p
  range = params_in_range pages g s all

  there : (e : Element) × (element_in p pages at ≡ Some e) × (option_map (made_of e) (links_in p pages e.list_at) ≡ Some was)
  there = then_is (λ e. option_map (made_of e) (links_in p pages e.list_at)) (element_in p pages at) was (sym (s.nodes at) ∙ stands)

  list : (l : Links) × (links_in p pages there.0.list_at ≡ Some l) × (made_of there.0 l ≡ was)
  list = map_is (made_of there.0) (links_in p pages there.0.list_at) was there.2

  points : there.0.list_at ≡ list_at
  points = ap (λ (n : Node). n.list_at) list.2 ∙ listed

  item : (x : List ℕ) × (item_in pages at ≡ Some x) × (in_whole (element p x) ≡ Some there.0)
  item = then_is (λ x. in_whole (element p x)) (item_in pages at) there.0 there.1

  page : (c : Content) × (slice_get pages at.block ≡ Some c) × (item_at c.items at.off ≡ Some item.0)
  page = then_is (λ (c : Content). item_at c.items at.off) (slice_get pages at.block) item.0 item.1

  list_item : (u : List ℕ) × (item_in pages list_at ≡ Some u) × (in_whole (links p u) ≡ Some list.0)
  list_item = then_is (λ x. in_whole (links p x)) (item_in pages list_at) list.0 (ap (links_in p pages) (sym points) ∙ list.1)

  list_page : (d : Content) × (slice_get pages list_at.block ≡ Some d) × (item_at d.items list_at.off ≡ Some list_item.0)
  list_page = then_is (λ (c : Content). item_at c.items list_at.off) (slice_get pages list_at.block) list_item.0 list_item.1

  -- an element and its list stand at two places
  offsets_apart : at.block ≡ list_at.block → at.off ≡ list_at.off → ⊥
  offsets_apart same also =
      let here : at ≡ list_at = same_tid at list_at same also in
      let one : item.0 ≡ list_item.0 = some_is item.0 list_item.0 (sym item.1 ∙ ap (item_in pages) here ∙ list_item.1) in
      none_or_some list.0 (sym (element_is_no_list p item.0 there.0 item.2) ∙ ap (λ x. in_whole (links p x)) one ∙ list_item.2)

  abbrev f : Element
  f = new_element n

  abbrev k : Links
  k = new_links n

  -- one change after the other, whichever page the second finds
  module _ (c m b w : Content) (page_is : slice_get pages at.block ≡ Some c) (first : IsElementPut p n c m)
      (then_there : slice_get (slice_set pages at.block (numbered number m)) list_at.block ≡ Some b)
      (second : IsListPut p n b w) where
    abbrev mid : List Content
    mid = slice_set pages at.block (numbered number m)

    one : IsChangedAt at first.item (element_bytes f) pages mid
    one = subst (λ (z : Content). IsChangedAt at first.item (element_bytes f) pages (slice_set pages at.block (numbered number z)))
        first.made (changed_at pages at c number first.item (element_bytes f) page_is first.is)

    two : IsChangedAt list_at second.item (links_bytes k) mid (slice_set mid list_at.block (numbered number w))
    two = subst (λ (z : Content). IsChangedAt list_at second.item (links_bytes k) mid (slice_set mid list_at.block (numbered number z)))
        second.made (changed_at mid list_at b number second.item (links_bytes k) then_there second.is)

    apart : at.block ≡ 0 → ⊥
    apart = not_root pages g at.block c s page_is first.kind

    list_apart : list_at.block ≡ 0 → ⊥
    list_apart zero_is = not_root pages g list_at.block b s
        (sym (one.elsewhere list_at.block (λ same. apart (same ∙ zero_is))) ∙ then_there) second.kind zero_is

    spelled : IsElement p first.e × (first.item ≡ element_bytes first.e)
    spelled = whole_spelled (element_field p range) first.item first.e
        (item_bytes pages at.block at.off c first.item all page_is first.is) first.reads

    other_place : at ≡ list_at → ⊥
    other_place same =
        let one_item : second.item ≡ element_bytes f = some_is second.item (element_bytes f)
        (sym two.was ∙ ap (item_in mid) (sym same) ∙ one.now) in
        none_or_some second.l (sym (no_list p f) ∙ ap (λ x. in_whole (links p x)) (sym one_item) ∙ second.reads)

    list_was : item_in pages list_at ≡ Some second.item
    list_was = sym (one.apart list_at other_place) ∙ two.was

    list_before : (d : Content) × (slice_get pages list_at.block ≡ Some d) × (item_at d.items list_at.off ≡ Some second.item)
    list_before = then_is (λ (c : Content). item_at c.items list_at.off) (slice_get pages list_at.block) second.item list_was

    list_spelled : IsLinks p second.l × (second.item ≡ links_bytes second.l)
    list_spelled = whole_spelled (links_field p range) second.item second.l
        (item_bytes pages list_at.block list_at.off list_before.0 second.item all list_before.1 list_before.2) second.reads

    element_was : element_in p pages at ≡ Some first.e
    element_was = ap (λ o. option_and_then (λ x. in_whole (element p x)) o) one.was ∙ first.reads

    same_element : there.0 ≡ first.e
    same_element = some_is there.0 first.e (sym there.1 ∙ element_was)

    names : first.e.list_at ≡ list_at
    names = ap (λ (e : Element). e.list_at) (sym same_element) ∙ points

    list_of_old : links_in p pages first.e.list_at ≡ Some second.l
    list_of_old = ap (links_in p pages) names ∙ ap (λ o. option_and_then (λ x. in_whole (links p x)) o) list_was ∙ second.reads

    many : length n.slots ≡ length second.l.tids
    many =
        let a = second.long in
        let b : length second.item ≡ length (links_bytes second.l) = ap (λ (x : List ℕ). length x) list_spelled.1 in
        omega (arith, a, b, length-links_bytes k, length-links_bytes second.l)

    -- a list of as many slots is of the same level
    level : n.level ≡ first.e.level
    level =
        let low : 2 ≤ p.m = some_m p.kind p (of_graph_kind pages g all s) range.of_kind in
        let old = (list_alike pages g all s at first.e second.l element_was list_of_old).2 in
        let same : n.level + 2 ≡ first.e.level + 2 =
        times_cancels (n.level + 2) (first.e.level + 2) p.m (omega (arith, low)) (sym first.node.slots ∙ many ∙ old) in
        omega (arith, same)

    element_fits : IsElement p f
    element_fits = record {
      head = record {
        level = omega (arith, level, spelled.0.head.level);
        version_low = first.node.version;
        version_high = omega (arith, first.of_version, spelled.0.head.version_high);
        few = omega arith;
        none_left = tt;
      };
      long = first.node.bits;
      cleared = refl;
    }

    links_fit : IsLinks p k
    links_fit = record {
      version_low = first.node.version;
      version_high = omega (arith, first.of_version, spelled.0.head.version_high);
      count = subst (IsSlotCount p.m) (sym many) list_spelled.0.count;
      slots = any_slots n.slots;
    }

    are : AreBoth p list_at first.item (element_bytes f) second.item (links_bytes k) first.e f second.l k
    are = record {
      was = first.reads;
      now = whole_read (element_field p range) (element_bytes f) f element_fits refl;
      no_list = ap (λ x. in_whole (links p x)) spelled.1 ∙ no_list p first.e;
      no_list_now = no_list p f;
      list_was = second.reads;
      list_now = whole_read (links_field p range) (links_bytes k) k links_fit refl;
      no_element = ap (λ x. in_whole (element p x)) list_spelled.1 ∙ list_is_no_element p second.l;
      no_element_now = list_is_no_element p k;
      level = level;
      points = names;
      points_now = refl;
      count = many;
      version = refl;
      deleted = refl;
    }

    turned : Stands (slice_set mid list_at.block (numbered number w)) (changed g at (λ _. made_of f k))
    turned = both_effect pages mid (slice_set mid list_at.block (numbered number w)) g at list_at
        first.item (element_bytes f) second.item (links_bytes k) first.e f second.l k s
        one two apart list_apart (low_from at.block apart) (low_from list_at.block list_apart) are
        (λ good. below_all (length pages) n.slots (λ slot to is. omega (arith, below slot to is, s.blocks))) (λ _. made_of f k) refl

  module _ (after : List Content) (are : AreRedone p wrap number (Put n.at n.list_at n.version n.level n.id n.bits n.slots) pages after) where
    abbrev first : PageChange
    first = put_element p n

    abbrev second : PageChange
    second = put_links p n

    -- what redo made of the page of a touched block
    made_at : (block : ℕ) (c : Content) → Contains (at.block ∷ list_at.block ∷ []) block → slice_get pages block ≡ Some c
        → (d : Content) × (at_two at.block first list_at.block second block c ≡ Some d) × (slice_get after block ≡ Some (numbered number d))
    made_at block c touched there =
        let within : block < length after = omega (arith, slice_get_within pages block c there, are.count) in
        let got : slice_get after block ≡ Some (get_or after block c) = slice_get-get_or after block c within in
        let made = map_is (numbered number) (at_two at.block first list_at.block second block c) (get_or after block c)
        (sym (are.there block c touched there) ∙ got) in
        (made.0, made.1, got ∙ ap (λ (d : Content). Some d) (sym made.2))

    others_stay : (block : ℕ) → (at.block ≡ block → ⊥) → (list_at.block ≡ block → ⊥) → slice_get after block ≡ slice_get pages block
    others_stay block other list_other = are.elsewhere block (is_neither at.block list_at.block block other list_other)

    on_one_page : at.block ≡ list_at.block → Stands after (changed g at (λ _. made_of f k))
    on_one_page same =
        let made = made_at at.block page.0 (is_first at.block list_at.block) page.1 in
        let pair = then_is second (first page.0) made.0 (sym (two_same at.block list_at.block at.block first second page.0 refl (sym same)) ∙ made.1) in
        let m = pair.0 in
        let one = element_put p n page.0 m item.0 there.0 page.2 item.2 pair.1 in
        let one_page : list_page.0 ≡ page.0 = some_is list_page.0 page.0 (sym list_page.1 ∙ ap (slice_get pages) (sym same) ∙ page.1) in
        let list_there : item_at page.0.items list_at.off ≡ Some list_item.0 = ap (λ (c : Content). item_at c.items list_at.off) (sym one_page) ∙ list_page.2 in
        let still : item_at m.items list_at.off ≡ Some list_item.0 =
        ap (λ (c : Content). item_at c.items list_at.off) (sym one.made)
        ∙ with_item_others page.0 at.off item.0 (element_bytes f) list_at.off page.2 (offsets_apart same)
        ∙ list_there in
        let two = list_put p n m made.0 list_item.0 list.0 still list_item.2 pair.2 in
        let here : slice_get (slice_set pages at.block (numbered number m)) list_at.block ≡ Some (numbered number m) =
        ap (slice_get (slice_set pages at.block (numbered number m))) (sym same) ∙ set_here pages at.block page.0 (numbered number m) page.1 in
        subst (λ (z : List Content). Stands z (changed g at (λ _. made_of f k)))
        (sym (two_set pages after at.block list_at.block page.0 (numbered number m) (numbered number m) (numbered number made.0) page.1 here
        (λ other. absurd (other same)) (ap (slice_get after) (sym same) ∙ made.2) others_stay))
        (turned page.0 m (numbered number m) (numbered number made.0) page.1 one here (renumbered p n number m made.0 two))

    on_two_pages : (at.block ≡ list_at.block → ⊥) → Stands after (changed g at (λ _. made_of f k))
    on_two_pages other =
        let made = made_at at.block page.0 (is_first at.block list_at.block) page.1 in
        let list_made = made_at list_at.block list_page.0 (is_second at.block list_at.block) list_page.1 in
        let first_is = sym (two_first at.block list_at.block at.block first second page.0 refl (λ e. other (sym e))) ∙ made.1 in
        let second_is = sym (two_second at.block list_at.block list_at.block first second list_page.0 other refl) ∙ list_made.1 in
        let here : slice_get (slice_set pages at.block (numbered number made.0)) list_at.block ≡ Some list_page.0 =
        set_apart pages at.block list_at.block (numbered number made.0) other ∙ list_page.1 in
        subst (λ (z : List Content). Stands z (changed g at (λ _. made_of f k)))
        (sym (two_set pages after at.block list_at.block page.0 list_page.0 (numbered number made.0) (numbered number list_made.0) page.1 here
        (λ e. made.2) list_made.2 others_stay))
        (turned page.0 made.0 list_page.0 list_made.0 page.1 (element_put p n page.0 made.0 item.0 there.0 page.2 item.2 first_is) here
        (list_put p n list_page.0 list_made.0 list_item.0 list.0 list_page.2 list_item.2 second_is))

    put_here : Stands after (changed g at (λ _. made_of f k))
    put_here = elim (cases_eq at.block list_at.block) as (λ _. Stands after (changed g at (λ _. made_of f k))) [
      | inl same ↦ on_one_page same
      | inr other ↦ on_two_pages other
    ]

  -- the blocks stay
  same_blocks : g.blocks ≡ max g.blocks (max (at.block + 1) (list_at.block + 1))
  same_blocks =
      let low = node_below pages g at was s stands in
      let list_low = list_below pages g at was s stands in
      let same : was.list_at.block ≡ list_at.block = ap (λ (t : Tid). t.block) listed in
      omega (arith, low, list_low, same)

  pub put_old_effect : (after : List Content) → AreRedone g.params wrap number (Put n.at n.list_at n.version n.level n.id n.bits n.slots) pages after
      → Stands after (effect wrap (Put n.at n.list_at n.version n.level n.id n.bits n.slots) g)
  put_old_effect after are =
      let here = put_here after (subst (λ (q : Params). AreRedone q wrap number (Put n.at n.list_at n.version n.level n.id n.bits n.slots) pages after) s.params are) in
      let made : changed g at (λ _. made_of f k) ≡ with_node g at (made_of f k) = ap (changed_from g at (λ _. made_of f k)) stands in
      let grown = ap (λ (b : ℕ). record g { nodes = insert g.nodes at (made_of f k); blocks = b }) same_blocks in
      subst (λ (h : Graph). Stands after h) (made ∙ grown) here
