-- Pages on which an element and its neighbour tuple came to stand at new places stand for a graph again.
use Rattle.std.proofs.Common.{◌≡◌, ℕ, ◌+◌, ◌≤◌, ◌&&◌, ◌||◌, ◌==◌, Bool, true, false, cond, List, length, Option, Some, None, refl, sym, ap, ap₂, subst, ◌∙◌, arith}
use Rattle.std.specs.Prelude.{nat_le}
use Rattle.std.specs.Bool.{beq}
use Rattle.std.specs.List.{list_all}
use Rattle.std.specs.Option.{option_map, option_and_then}
use Rattle.std.specs.FinMap.{get, insert}
use Rattle.std.proofs.lemmas.Bool.{and_parts, and_from, eq-eqb, false_from_ne_true}
use Rattle.index_sizes.specs.Sizes.{slots_of_level}
use Rattle.vec_names.specs.declared.tid.Tid.{Tid}
use Rattle.vec_names.specs.declared.params.Params.{Params}
use Rattle.page_bytes.specs.Content.{Content}
use Rattle.vec_tuples.specs.declared.element.Element.{Element}
use Rattle.vec_tuples.specs.declared.element.ElementHead.{ElementHead}
use Rattle.vec_tuples.specs.declared.links.Links.{Links}
use Rattle.vec_tuples.specs.Spelling.{head_of_element}
use Rattle.vec_tuples.specs.Reading.{element, links}
use Rattle.vec_graph.specs.declared.graph.Graph.{Graph}
use Rattle.vec_graph.specs.Effect.{with_node}
use Rattle.page_redo.specs.PageTuples.{in_whole, is_graph_page}
use Rattle.graph_pages.specs.Standing.{item_in, element_in, head_in, links_in, root_on, root, is_of_level, is_entry, is_root, is_list_of, is_element, pointer_of, pointers, is_place, times_in, is_slot_below, is_list, is_node_item, IsNodePage, node_with as made_of, node_in, Stands}
use Rattle.page_redo.proofs.Given.{then_is}
use Rattle.graph_pages.proofs.PlaceTests.{same_if_place, place_itself}
use Rattle.graph_pages.proofs.PageSets.{by_place, get_here, get_apart}
use Rattle.graph_pages.proofs.Pointed.{named_here}
use Rattle.graph_pages.proofs.StandingLaws.{root_holds, node_pages, stands_from}
use Rattle.graph_pages.proofs.ListEffect.{or_second, pointer_names}
use Rattle.graph_pages.proofs.TwoItems.{or_first, same_flag}
use Rattle.graph_pages.proofs.ItemAdded.{IsAddedAt, names_one, names_none, more_now, more_was, more_apart, more_alike}

-- The items at two new places: an element, and its neighbour tuple.
pub record AreNew (p : Params) (list_at : Tid) (y v : List ℕ) (f : Element) (k : Links) : Type 0 where
  pub now : in_whole (element p y) ≡ Some f
  pub no_list : in_whole (links p y) ≡ None
  pub list_now : in_whole (links p v) ≡ Some k
  pub no_element : in_whole (element p v) ≡ None
  pub points : f.list_at ≡ list_at
  pub count : length k.tids ≡ slots_of_level p.m f.level
  pub version : k.version ≡ f.version
  pub deleted : k.deleted ≡ f.deleted

fits_with : (p : Params) (h : ElementHead) (k : Links) → length k.tids ≡ slots_of_level p.m h.level → k.version ≡ h.version
    → k.deleted ≡ h.deleted → is_list_of p h (Some k) ≡ true
fits_with p h k count version deleted =
    and_from (length k.tids == slots_of_level p.m h.level) (k.version == h.version && beq k.deleted h.deleted)
    (eq-eqb (length k.tids) (slots_of_level p.m h.level) count)
    (and_from (k.version == h.version) (beq k.deleted h.deleted) (eq-eqb k.version h.version version) (same_flag k.deleted h.deleted deleted))

module _ (pages mid after : List Content) (g : Graph) (at list_at : Tid) (y v : List ℕ) (f : Element) (k : Links)
    (s : Stands pages g) (one : IsAddedAt at y pages mid) (two : IsAddedAt list_at v mid after)
    (apart : at.block ≡ 0 → ⊥) (list_apart : list_at.block ≡ 0 → ⊥)
    (unnamed : times_in list_at (pointers s.meta.params pages) ≡ 0) (are : AreNew s.meta.params list_at y v f k)
    (below : list_all (is_slot_below (length pages)) k.tids ≡ true) where
  abbrev p : Params
  p = s.meta.params

  count : length after ≡ length pages
  count = two.count ∙ one.count

  root_stays : root after ≡ root pages
  root_stays = ap (λ o. option_and_then root_on o) (two.elsewhere 0 list_apart ∙ one.elsewhere 0 apart)

  -- ---- what stands at each place

  elements_then : (q : Tid) → element_in p after q ≡ element_in p mid q
  elements_then = more_alike two (element p) are.no_element

  element_was : element_in p pages at ≡ None
  element_was = more_was one (element p)

  element_now : element_in p after at ≡ Some f
  element_now = elements_then at ∙ more_now one (element p) ∙ are.now

  element_apart : (q : Tid) → (at ≡ q → ⊥) → element_in p after q ≡ element_in p pages q
  element_apart q other = elements_then q ∙ more_apart one (element p) q other

  lists_then : (q : Tid) → links_in p mid q ≡ links_in p pages q
  lists_then = more_alike one (links p) are.no_list

  list_now : links_in p after list_at ≡ Some k
  list_now = more_now two (links p) ∙ are.list_now

  list_apart_stays : (q : Tid) → (list_at ≡ q → ⊥) → links_in p after q ≡ links_in p pages q
  list_apart_stays q other = more_apart two (links p) q other ∙ lists_then q

  -- ---- how often places are named

  named_now : (q : Tid) → times_in q (pointers p after) ≡ times_in q (pointers p pages) + cond (is_place q list_at) 1 0
  named_now q =
      let here : times_in q (pointer_of p y) ≡ cond (is_place q list_at) 1 0 =
      names_one p y f q are.now ∙ ap (λ t. cond (is_place q t) 1 0) are.points in
      omega (arith, two.named p q, one.named p q, names_none p v q are.no_element, here)

  named_once_now : times_in list_at (pointers p after) ≡ 1
  named_once_now =
      let here : ◌≡◌ {A = ℕ} (cond (is_place list_at list_at) 1 0) 1 = ap (λ (b : Bool). cond b 1 0) (place_itself list_at) in
      omega (arith, named_now list_at, unnamed, here)

  named_apart : (q : Tid) → (list_at ≡ q → ⊥) → times_in q (pointers p after) ≡ times_in q (pointers p pages)
  named_apart q other =
      let not_here : is_place q list_at ≡ false = false_from_ne_true (is_place q list_at) (λ e. other (same_if_place q list_at e)) in
      let none : ◌≡◌ {A = ℕ} (cond (is_place q list_at) 1 0) 0 = ap (λ (b : Bool). cond b 1 0) not_here in
      omega (arith, named_now q, none)

  -- ---- the rules of the two items

  list_is_good : is_list p after list_at (Some k) ≡ true
  list_is_good =
      and_from (times_in list_at (pointers p after) == 1) (list_all (is_slot_below (length after)) k.tids)
      (eq-eqb (times_in list_at (pointers p after)) 1 named_once_now)
      (ap (λ (n : ℕ). list_all (is_slot_below n) k.tids) count ∙ below)

  element_is_good : is_element p after (head_in p after at) ≡ true
  element_is_good =
      ap (λ o. is_element p after (option_map head_of_element o)) element_now
      ∙ ap (is_list_of p (head_of_element f)) (ap (links_in p after) are.points ∙ list_now)
      ∙ fits_with p (head_of_element f) k are.count are.version are.deleted

  -- ---- the other items

  -- no element had this list
  not_named : (q : Tid) (d : Element) → element_in p pages q ≡ Some d → d.list_at ≡ list_at → ⊥
  not_named q d is also =
      let z = then_is (λ x. in_whole (element p x)) (item_in pages q) d is in
      let some : 1 ≤ times_in list_at (pointer_of p z.0) = pointer_names p z.0 d list_at z.2 also in
      absurd (omega (arith, named_here p pages list_at q z.0 z.1, some, unnamed))

  other_list : (q : Tid) (d : Element) → element_in p pages q ≡ Some d → links_in p after d.list_at ≡ links_in p pages d.list_at
  other_list q d is = list_apart_stays d.list_at (λ same. not_named q d is (sym same))

  other_element : (q : Tid) → (o : Option Element) → element_in p pages q ≡ o
      → is_element p after (option_map head_of_element o) ≡ is_element p pages (option_map head_of_element o)
  other_element q None is = refl
  other_element q (Some d) is = ap (is_list_of p (head_of_element d)) (other_list q d is)

  elements_stay : (q : Tid) → (at ≡ q → ⊥) → is_element p after (head_in p after q) ≡ is_element p pages (head_in p pages q)
  elements_stay q other = ap (λ o. is_element p after (option_map head_of_element o)) (element_apart q other) ∙ other_element q (element_in p pages q) refl

  list_so : (q : Tid) → (list_at ≡ q → ⊥) → (o : Option Links) → is_list p after q o ≡ is_list p pages q o
  list_so q other None = refl
  list_so q other (Some l) = ap₂ (λ (n blocks : ℕ). n == 1 && list_all (is_slot_below blocks) l.tids) (named_apart q other) count

  lists_stay : (q : Tid) → (list_at ≡ q → ⊥) → is_list p after q (links_in p after q) ≡ is_list p pages q (links_in p pages q)
  lists_stay q other = ap (is_list p after q) (list_apart_stays q other) ∙ list_so q other (links_in p pages q)

  items_apart : (q : Tid) → (at ≡ q → ⊥) → (list_at ≡ q → ⊥) → is_node_item p after q ≡ is_node_item p pages q
  items_apart q other apart = ap₂ (λ (a b : Bool). a || b) (elements_stay q other) (lists_stay q apart)

  here_good : is_node_item p after at ≡ true
  here_good = or_first (is_element p after (head_in p after at)) (is_list p after at (links_in p after at)) element_is_good

  there_good : is_node_item p after list_at ≡ true
  there_good = or_second (is_element p after (head_in p after list_at)) (is_list p after list_at (links_in p after list_at))
      (ap (is_list p after list_at) list_now ∙ list_is_good)

  items_good : (block : ℕ) → IsNodePage p pages block → (q : Tid) (x : List ℕ) → q.block ≡ block → item_in after q ≡ Some x
      → is_node_item p after q ≡ true
  items_good block whole q x same is = by_place (is_node_item p after q ≡ true) q at
      (λ here. subst (λ t. is_node_item p after t ≡ true) here here_good)
      (λ other. by_place (is_node_item p after q ≡ true) q list_at
      (λ here. subst (λ t. is_node_item p after t ≡ true) here there_good)
      (λ apart. items_apart q other apart ∙ whole.items q x same (sym (two.apart q apart ∙ one.apart q other) ∙ is)))

  node_page_good : (block : ℕ) → IsNodePage p pages block → IsNodePage p after block
  node_page_good block whole = record {
    kind = λ d is.
        let b = two.kinds block d is in
        let a = one.kinds block b.0 b.1 in
        ap is_graph_page (b.2 ∙ a.2) ∙ whole.kind a.0 a.1;
    items = items_good block whole;
  }

  -- ---- block 0

  level_so : (q : Tid) (level : ℕ) → is_of_level level (head_in p pages q) ≡ true → is_of_level level (head_in p after q) ≡ true
  level_so q level was = by_place (is_of_level level (head_in p after q) ≡ true) q at
      (λ here. none_there (head_in p pages q) (ap (head_in p pages) (sym here) ∙ ap (λ o. option_map head_of_element o) element_was) was)
      (λ other. ap (λ o. is_of_level level (option_map head_of_element o)) (element_apart q other) ∙ was)
    where
      none_there : (o : Option ElementHead) → o ≡ None → is_of_level level o ≡ true → is_of_level level (head_in p after q) ≡ true
      none_there None none was = absurd cc
      none_there (Some h) none was = absurd cc

  entry_so : (entry : Option Tid) (level : ℕ) → is_entry p pages entry level ≡ true → is_entry p after entry level ≡ true
  entry_so None level was = was
  entry_so (Some q) level was = level_so q level was

  root_good : is_root after s.meta ≡ true
  root_good =
      let parts = and_parts (nat_le s.meta.hint (length pages)) (is_entry p pages s.meta.entry s.meta.level) (root_holds pages g s) in
      and_from (nat_le s.meta.hint (length after)) (is_entry p after s.meta.entry s.meta.level)
      (ap (λ (n : ℕ). nat_le s.meta.hint n) count ∙ parts.0) (entry_so s.meta.entry s.meta.level parts.1)

  -- ---- the graph

  node_now : node_in p after at ≡ Some (made_of f k)
  node_now = ap (λ o. option_and_then (λ e. option_map (made_of e) (links_in p after e.list_at)) o) element_now
      ∙ ap (option_map (made_of f)) (ap (links_in p after) are.points ∙ list_now)

  same_node : (q : Tid) (o : Option Element) → element_in p pages q ≡ o
      → option_and_then (λ e. option_map (made_of e) (links_in p after e.list_at)) o
      ≡ option_and_then (λ e. option_map (made_of e) (links_in p pages e.list_at)) o
  same_node q None is = refl
  same_node q (Some d) is = ap (option_map (made_of d)) (other_list q d is)

  node_apart : (q : Tid) → (at ≡ q → ⊥) → node_in p after q ≡ node_in p pages q
  node_apart q other = ap (λ o. option_and_then (λ e. option_map (made_of e) (links_in p after e.list_at)) o) (element_apart q other)
      ∙ same_node q (element_in p pages q) refl

  nodes_are : (q : Tid) → get (insert g.nodes at (made_of f k)) q ≡ node_in p after q
  nodes_are q = by_place (get (insert g.nodes at (made_of f k)) q ≡ node_in p after q) q at
      (λ here. ap (λ t. get (insert g.nodes at (made_of f k)) t) (sym here)
      ∙ get_here g.nodes at (made_of f k) ∙ sym node_now ∙ ap (node_in p after) here)
      (λ other. get_apart g.nodes at q (made_of f k) other ∙ s.nodes q ∙ sym (node_apart q other))

  pub new_stands : Stands after (with_node g at (made_of f k))
  new_stands = stands_from after (with_node g at (made_of f k)) s.meta (root_stays ∙ s.read) root_good
      (λ block from. node_page_good block (node_pages pages g s block from))
      s.params s.entry s.level s.hint (s.blocks ∙ sym count) nodes_are
