-- Pages of which an element and its neighbour tuple are changed stand for a graph again.
use Rattle.std.proofs.Common.{◌≡◌, ℕ, ◌≤◌, ◌&&◌, ◌||◌, ◌==◌, Bool, true, false, List, [], ◌∷◌, length, Option, Some, None, refl, sym, ap, ap₂, subst, ◌∙◌}
use Rattle.std.specs.Bool.{beq}
use Rattle.std.specs.List.{list_all}
use Rattle.std.specs.Option.{option_map, option_and_then, option_to_list}
use Rattle.std.specs.FinMap.{get, insert}
use Rattle.std.proofs.lemmas.Bool.{and_parts, and_from, eqb-true, eq-eqb}
use Rattle.index_sizes.specs.Sizes.{slots_of_level}
use Rattle.vec_names.specs.declared.tid.Tid.{Tid}
use Rattle.vec_names.specs.declared.params.Params.{Params}
use Rattle.page_bytes.specs.Content.{Content}
use Rattle.vec_tuples.specs.declared.element.Element.{Element}
use Rattle.vec_tuples.specs.declared.element.ElementHead.{ElementHead}
use Rattle.vec_tuples.specs.declared.links.Links.{Links}
use Rattle.vec_tuples.specs.Spelling.{head_of_element}
use Rattle.vec_tuples.specs.Reading.{element, links}
use Rattle.vec_graph.specs.declared.node.Node.{Node}
use Rattle.vec_graph.specs.declared.graph.Graph.{Graph}
use Rattle.vec_graph.specs.Graph.{node_at}
use Rattle.vec_graph.specs.Effect.{with_node, changed_from, changed}
use Rattle.page_redo.specs.PageTuples.{in_whole, is_graph_page}
use Rattle.graph_pages.specs.Standing.{item_in, element_in, head_in, links_in, root_on, root, is_of_level, is_root, is_list_of, is_element, pointers, times_in, is_slot_below, is_list, is_node_item, IsNodePage, node_with as made_of, node_in, Stands}
use Rattle.page_redo.proofs.Given.{then_is}
use Rattle.graph_pages.proofs.PageSets.{IsChangedAt, by_place, get_here, get_apart, read_now, read_was, read_apart, read_alike, stood}
use Rattle.graph_pages.proofs.Pointed.{named_once}
use Rattle.graph_pages.proofs.OneItem.{same_list, same_entry}
use Rattle.graph_pages.proofs.StandingLaws.{root_holds, node_pages, stands_from}
use Rattle.graph_pages.proofs.ElementEffect.{element_good}
use Rattle.graph_pages.proofs.ListEffect.{list_good, or_second, pointer_names}

-- The items at two places: an element became another one, and its neighbour tuple became another one. The element keeps its
-- level and its list pointer, the list keeps its number of slots, and the two agree.
pub record AreBoth (p : Params) (list_at : Tid) (x y u v : List ℕ) (e f : Element) (l k : Links) : Type 0 where
  pub was : in_whole (element p x) ≡ Some e
  pub now : in_whole (element p y) ≡ Some f
  pub no_list : in_whole (links p x) ≡ None
  pub no_list_now : in_whole (links p y) ≡ None
  pub list_was : in_whole (links p u) ≡ Some l
  pub list_now : in_whole (links p v) ≡ Some k
  pub no_element : in_whole (element p u) ≡ None
  pub no_element_now : in_whole (element p v) ≡ None
  pub level : f.level ≡ e.level
  pub points : e.list_at ≡ list_at
  pub points_now : f.list_at ≡ list_at
  pub count : length k.tids ≡ length l.tids
  pub version : k.version ≡ f.version
  pub deleted : k.deleted ≡ f.deleted

pub or_first : (a b : Bool) → a ≡ true → (a || b) ≡ true
or_first true b is = refl
or_first false b is = absurd cc

pub same_flag : (a b : Bool) → a ≡ b → beq a b ≡ true
same_flag true true is = refl
same_flag true false is = absurd cc
same_flag false true is = absurd cc
same_flag false false is = refl

pub none_or_some : {A : Type 0} (v : A) → None ≡ Some v → ⊥
none_or_some v is = absurd cc

-- a neighbour tuple of as many slots, with the element's version and state, is the list of an element of that level
list_fits : (p : Params) (h was : ElementHead) (l k : Links) → h.level ≡ was.level → length k.tids ≡ length l.tids
    → k.version ≡ h.version → k.deleted ≡ h.deleted → is_list_of p was (Some l) ≡ true → is_list_of p h (Some k) ≡ true
list_fits p h was l k level count version deleted good =
    let before = and_parts (length l.tids == slots_of_level p.m was.level)
    (l.version == was.version && beq l.deleted was.deleted) good in
    let long : (length k.tids == slots_of_level p.m h.level) ≡ true = ap₂ (λ n level. n == slots_of_level p.m level) count level ∙ before.0 in
    let alike = and_from (k.version == h.version) (beq k.deleted h.deleted)
    (eq-eqb k.version h.version version) (same_flag k.deleted h.deleted deleted) in
    and_from (length k.tids == slots_of_level p.m h.level) (k.version == h.version && beq k.deleted h.deleted) long alike

module _ (pages mid after : List Content) (g : Graph) (at list_at : Tid) (x y u v : List ℕ) (e f : Element) (l k : Links)
    (s : Stands pages g) (one : IsChangedAt at x y pages mid) (two : IsChangedAt list_at u v mid after)
    (apart : at.block ≡ 0 → ⊥) (list_apart : list_at.block ≡ 0 → ⊥)
    (low : 1 ≤ at.block) (list_low : 1 ≤ list_at.block) (are : AreBoth s.meta.params list_at x y u v e f l k)
    (below : list_all (is_slot_below (length pages)) l.tids ≡ true
    → list_all (is_slot_below (length pages)) k.tids ≡ true) where
  abbrev p : Params
  p = s.meta.params

  count : length after ≡ length pages
  count = two.count ∙ one.count

  root_stays : root after ≡ root pages
  root_stays = ap (λ o. option_and_then root_on o) (two.elsewhere 0 list_apart ∙ one.elsewhere 0 apart)

  -- ---- what stands at each place

  elements_then : (q : Tid) → element_in p after q ≡ element_in p mid q
  elements_then = read_alike two (element p) (are.no_element_now ∙ sym are.no_element)

  element_was : element_in p pages at ≡ Some e
  element_was = read_was one (element p) ∙ are.was

  element_now : element_in p after at ≡ Some f
  element_now = elements_then at ∙ read_now one (element p) ∙ are.now

  element_apart : (q : Tid) → (at ≡ q → ⊥) → element_in p after q ≡ element_in p pages q
  element_apart q other = elements_then q ∙ read_apart one (element p) q other

  lists_then : (q : Tid) → links_in p mid q ≡ links_in p pages q
  lists_then = read_alike one (links p) (are.no_list_now ∙ sym are.no_list)

  list_was : links_in p pages list_at ≡ Some l
  list_was = sym (lists_then list_at) ∙ read_was two (links p) ∙ are.list_was

  list_now : links_in p after list_at ≡ Some k
  list_now = read_now two (links p) ∙ are.list_now

  list_apart_stays : (q : Tid) → (list_at ≡ q → ⊥) → links_in p after q ≡ links_in p pages q
  list_apart_stays q other = read_apart two (links p) q other ∙ lists_then q

  places_apart : at ≡ list_at → ⊥
  places_apart same = none_or_some l (sym are.no_list ∙ sym (read_was one (links p)) ∙ ap (links_in p pages) same ∙ list_was)

  list_item : item_in pages list_at ≡ Some u
  list_item = sym (one.apart list_at places_apart) ∙ two.was

  named_stays : pointers p after ≡ pointers p pages
  named_stays =
      two.named p (ap (λ o. option_to_list (option_map (λ (e : Element). e.list_at) o)) (are.no_element_now ∙ sym are.no_element))
      ∙ one.named p (
      ap (λ o. option_to_list (option_map (λ (e : Element). e.list_at) o)) are.now
      ∙ ap (λ t. t ∷ []) (are.points_now ∙ sym are.points)
      ∙ sym (ap (λ o. option_to_list (option_map (λ (e : Element). e.list_at) o)) are.was)
      )

  -- ---- the rules of the two items

  good : is_list p pages list_at (Some l) ≡ true
  good = list_good p pages list_at u l (node_pages pages g s list_at.block list_low) list_item are.no_element are.list_was

  good_parts : ((times_in list_at (pointers p pages) == 1) ≡ true) × (list_all (is_slot_below (length pages)) l.tids ≡ true)
  good_parts = and_parts (times_in list_at (pointers p pages) == 1) (list_all (is_slot_below (length pages)) l.tids) good

  list_still_good : is_list p after list_at (Some k) ≡ true
  list_still_good = same_list p pages after list_at (Some k) count named_stays
      ∙ and_from (times_in list_at (pointers p pages) == 1) (list_all (is_slot_below (length pages)) k.tids)
      good_parts.0 (below good_parts.1)

  fitted : is_list_of p (head_of_element e) (Some l) ≡ true
  fitted = ap (is_list_of p (head_of_element e)) (sym list_was ∙ ap (links_in p pages) (sym are.points))
      ∙ element_good p pages at x e (node_pages pages g s at.block low) one.was are.was are.no_list

  element_still_good : is_element p after (head_in p after at) ≡ true
  element_still_good =
      ap (λ o. is_element p after (option_map head_of_element o)) element_now
      ∙ ap (is_list_of p (head_of_element f)) (ap (links_in p after) are.points_now ∙ list_now)
      ∙ list_fits p (head_of_element f) (head_of_element e) l k are.level are.count are.version are.deleted fitted

  -- ---- the other items

  -- no other element has this list
  only : (q : Tid) (d : Element) → element_in p pages q ≡ Some d → d.list_at ≡ list_at → at ≡ q
  only q d is also =
      let z = then_is (λ x. in_whole (element p x)) (item_in pages q) d is in
      named_once p pages list_at at q x z.0 (eqb-true (times_in list_at (pointers p pages)) 1 good_parts.0)
      one.was z.1
      (pointer_names p x e list_at are.was are.points) (pointer_names p z.0 d list_at z.2 also)

  other_list : (q : Tid) (d : Element) → (at ≡ q → ⊥) → element_in p pages q ≡ Some d
      → links_in p after d.list_at ≡ links_in p pages d.list_at
  other_list q d other is = list_apart_stays d.list_at (λ same. other (only q d is (sym same)))

  other_element : (q : Tid) → (at ≡ q → ⊥) → (o : Option Element) → element_in p pages q ≡ o
      → is_element p after (option_map head_of_element o) ≡ is_element p pages (option_map head_of_element o)
  other_element q other None is = refl
  other_element q other (Some d) is = ap (is_list_of p (head_of_element d)) (other_list q d other is)

  elements_stay : (q : Tid) → (at ≡ q → ⊥) → is_element p after (head_in p after q) ≡ is_element p pages (head_in p pages q)
  elements_stay q other = ap (λ o. is_element p after (option_map head_of_element o)) (element_apart q other) ∙ other_element q other (element_in p pages q) refl

  lists_stay : (q : Tid) → (list_at ≡ q → ⊥) → is_list p after q (links_in p after q) ≡ is_list p pages q (links_in p pages q)
  lists_stay q other = ap (is_list p after q) (list_apart_stays q other) ∙ same_list p pages after q (links_in p pages q) count named_stays

  items_stay : (q : Tid) → is_node_item p pages q ≡ true → is_node_item p after q ≡ true
  items_stay q was = by_place (is_node_item p after q ≡ true) q at
      (λ here. subst (λ t. is_node_item p after t ≡ true) here
      (or_first (is_element p after (head_in p after at)) (is_list p after at (links_in p after at)) element_still_good))
      (λ other. by_place (is_node_item p after q ≡ true) q list_at
      (λ here. subst (λ t. is_node_item p after t ≡ true) here
      (or_second (is_element p after (head_in p after list_at)) (is_list p after list_at (links_in p after list_at))
      (ap (is_list p after list_at) list_now ∙ list_still_good)))
      (λ apart. ap₂ (λ a b. a || b) (elements_stay q other) (lists_stay q apart) ∙ was))

  levels_stay : (q : Tid) (level : ℕ) → is_of_level level (head_in p after q) ≡ is_of_level level (head_in p pages q)
  levels_stay q level = by_place (is_of_level level (head_in p after q) ≡ is_of_level level (head_in p pages q)) q at
      (λ here. ap (λ t. is_of_level level (head_in p after t)) (sym here)
      ∙ ap (λ o. is_of_level level (option_map head_of_element o)) element_now ∙ ap (λ n. n == level) are.level
      ∙ sym (ap (λ o. is_of_level level (option_map head_of_element o)) element_was)
      ∙ ap (λ t. is_of_level level (head_in p pages t)) here)
      (λ other. ap (λ o. is_of_level level (option_map head_of_element o)) (element_apart q other))

  node_page_stays : (block : ℕ) → IsNodePage p pages block → IsNodePage p after block
  node_page_stays block whole = record {
    kind = λ d is.
        let b = two.kinds block d is in
        let a = one.kinds block b.0 b.1 in
        ap is_graph_page (b.2 ∙ a.2) ∙ whole.kind a.0 a.1;
    items = λ q z same is.
        let b = stood two q z is in
        let a = stood one q b.0 b.1 in
        items_stay q (whole.items q a.0 same a.1);
  }

  -- ---- the graph

  node_was : node_at g at ≡ Some (made_of e l)
  node_was = s.nodes at ∙ ap (λ o. option_and_then (λ e. option_map (made_of e) (links_in p pages e.list_at)) o) element_was
      ∙ ap (option_map (made_of e)) (ap (links_in p pages) are.points ∙ list_was)

  node_now : node_in p after at ≡ Some (made_of f k)
  node_now = ap (λ o. option_and_then (λ e. option_map (made_of e) (links_in p after e.list_at)) o) element_now
      ∙ ap (option_map (made_of f)) (ap (links_in p after) are.points_now ∙ list_now)

  same_node : (q : Tid) → (at ≡ q → ⊥) → (o : Option Element) → element_in p pages q ≡ o
      → option_and_then (λ e. option_map (made_of e) (links_in p after e.list_at)) o
      ≡ option_and_then (λ e. option_map (made_of e) (links_in p pages e.list_at)) o
  same_node q other None is = refl
  same_node q other (Some d) is = ap (option_map (made_of d)) (other_list q d other is)

  node_apart : (q : Tid) → (at ≡ q → ⊥) → node_in p after q ≡ node_in p pages q
  node_apart q other = ap (λ o. option_and_then (λ e. option_map (made_of e) (links_in p after e.list_at)) o) (element_apart q other)
      ∙ same_node q other (element_in p pages q) refl

  nodes_are : (q : Tid) → get (insert g.nodes at (made_of f k)) q ≡ node_in p after q
  nodes_are q = by_place (get (insert g.nodes at (made_of f k)) q ≡ node_in p after q) q at
      (λ here. ap (λ t. get (insert g.nodes at (made_of f k)) t) (sym here)
      ∙ get_here g.nodes at (made_of f k) ∙ sym node_now ∙ ap (node_in p after) here)
      (λ other. get_apart g.nodes at q (made_of f k) other ∙ s.nodes q ∙ sym (node_apart q other))

  root_good : is_root after s.meta ≡ true
  root_good =
      let same : is_root after s.meta ≡ is_root pages s.meta =
      rw (count, same_entry p pages after s.meta.entry s.meta.level levels_stay) refl in
      same ∙ root_holds pages g s

  stands_now : Stands after (with_node g at (made_of f k))
  stands_now = stands_from after (with_node g at (made_of f k)) s.meta (root_stays ∙ s.read) root_good
      (λ block from. node_page_stays block (node_pages pages g s block from))
      s.params s.entry s.level s.hint (s.blocks ∙ sym count) nodes_are

  pub both_effect : (to : Node → Node) → to (made_of e l) ≡ made_of f k → Stands after (changed g at to)
  both_effect to is =
      let made : changed g at to ≡ with_node g at (made_of f k) = ap (changed_from g at to) node_was ∙ ap (with_node g at) is in
      subst (λ h. Stands after h) (sym made) stands_now
