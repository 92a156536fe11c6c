-- A neighbour tuple whose slots are changed.
use Rattle.std.proofs.Common.{◌≡◌, ℕ, ◌+◌, ◌≤◌, ◌||◌, ◌==◌, Bool, true, false, cond, List, [], ◌∷◌, length, Option, Some, None, refl, sym, ap, ap₂, subst, ◌∙◌, arith}
use Rattle.std.specs.List.{list_all}
use Rattle.std.specs.Option.{option_map, option_and_then, option_to_list}
use Rattle.std.specs.FinMap.{get, insert}
use Rattle.std.proofs.lemmas.Bool.{and_parts, and_from, eqb-true}
use Rattle.byte_fields.proofs.EachField.{some_is}
use Rattle.vec_names.specs.declared.tid.Tid.{Tid}
use Rattle.vec_names.specs.declared.params.Params.{Params}
use Rattle.page_bytes.specs.Content.{Content}
use Rattle.vec_tuples.specs.declared.element.Element.{Element}
use Rattle.vec_tuples.specs.declared.element.ElementHead.{ElementHead}
use Rattle.vec_tuples.specs.declared.links.Links.{Links}
use Rattle.vec_tuples.specs.Spelling.{head_of_element}
use Rattle.vec_tuples.specs.Reading.{element, links}
use Rattle.vec_graph.specs.declared.node.Node.{Node}
use Rattle.vec_graph.specs.declared.graph.Graph.{Graph}
use Rattle.vec_graph.specs.Graph.{node_at}
use Rattle.vec_graph.specs.Effect.{with_node, changed_from, changed}
use Rattle.page_redo.specs.PageTuples.{in_whole}
use Rattle.graph_pages.specs.Standing.{item_in, element_in, head_in, links_in, is_of_level, is_list_of, is_element, pointer_of, pointers, times_in, is_slot_below, is_list, is_node_item, IsNodePage, node_with as made_of, node_in, Stands}
use Rattle.page_redo.proofs.Given.{then_is, map_is}
use Rattle.graph_pages.proofs.PlaceTests.{place_itself}
use Rattle.graph_pages.proofs.PageSets.{IsChangedAt, by_place, get_here, get_apart, read_now, read_was, read_apart, read_alike}
use Rattle.graph_pages.proofs.Pointed.{named_once}
use Rattle.graph_pages.proofs.OneItem.{stands_with, same_list}
use Rattle.graph_pages.proofs.StandingLaws.{node_pages}

-- both items are neighbour tuples, which differ in what their slots name at most
pub record AreLists (p : Params) (old new : List ℕ) (l k : Links) : Type 0 where
  pub was : in_whole (links p old) ≡ Some l
  pub now : in_whole (links p new) ≡ Some k
  pub no_element : in_whole (element p old) ≡ None
  pub no_element_now : in_whole (element p new) ≡ None
  pub version : k.version ≡ l.version
  pub deleted : k.deleted ≡ l.deleted
  pub count : length k.tids ≡ length l.tids

second_of_two : (a b : Bool) → (a || b) ≡ true → a ≡ false → b ≡ true
second_of_two true b either none = absurd cc
second_of_two false b either none = either

pub or_second : (a b : Bool) → b ≡ true → (a || b) ≡ true
or_second true b is = refl
or_second false b is = is

names_itself : (at : Tid) → 1 ≤ times_in at (at ∷ [])
names_itself at =
    let one : times_in at (at ∷ []) ≡ 0 + 1 = ap (λ b. 0 + cond b 1 0) (place_itself at) in
    omega (arith, one)

alike_lists : (p : Params) (h : ElementHead) (l k : Links) → k.version ≡ l.version → k.deleted ≡ l.deleted
    → length k.tids ≡ length l.tids → is_list_of p h (Some k) ≡ is_list_of p h (Some l)
alike_lists p h l k version deleted count = rw (version, deleted, count) refl

-- a neighbour tuple of a node page keeps its rule
pub list_good : (p : Params) (pages : List Content) (at : Tid) (x : List ℕ) (l : Links) → IsNodePage p pages at.block
    → item_in pages at ≡ Some x → in_whole (element p x) ≡ None → in_whole (links p x) ≡ Some l
    → is_list p pages at (Some l) ≡ true
list_good p pages at x l page is no_element list =
    let item = page.items at x refl is in
    let as_head : head_in p pages at ≡ None = ap (λ o. option_map head_of_element (option_and_then (λ x. in_whole (element p x)) o)) is ∙ ap (option_map head_of_element) no_element in
    let as_list : links_in p pages at ≡ Some l = ap (λ o. option_and_then (λ x. in_whole (links p x)) o) is ∙ list in
    let not_element : is_element p pages (head_in p pages at) ≡ false = ap (is_element p pages) as_head in
    ap (is_list p pages at) (sym as_list) ∙ second_of_two (is_element p pages (head_in p pages at)) (is_list p pages at (links_in p pages at)) item not_element

-- the list pointer of an element
pub pointer_names : (p : Params) (x : List ℕ) (e : Element) (at : Tid) → in_whole (element p x) ≡ Some e → e.list_at ≡ at
    → 1 ≤ times_in at (pointer_of p x)
pointer_names p x e at is names =
    let one : pointer_of p x ≡ at ∷ [] = ap (λ o. option_to_list (option_map (λ (e : Element). e.list_at) o)) is ∙ ap (λ t. t ∷ []) names in
    subst (λ ts. 1 ≤ times_in at ts) (sym one) (names_itself at)

module _ (pages after : List Content) (g : Graph) (place : Tid) (old new : List ℕ) (l k : Links) (s : Stands pages g) (change : IsChangedAt place old new pages after)
    (apart : place.block ≡ 0 → ⊥) (low : 1 ≤ place.block) (are : AreLists s.meta.params old new l k)
    (below : list_all (is_slot_below (length pages)) l.tids ≡ true → list_all (is_slot_below (length pages)) k.tids ≡ true) where
  abbrev p : Params
  p = s.meta.params

  elements_stay : (at : Tid) → element_in p after at ≡ element_in p pages at
  elements_stay = read_alike change (element p) (are.no_element_now ∙ sym are.no_element)

  heads_stay : (at : Tid) → head_in p after at ≡ head_in p pages at
  heads_stay at = ap (option_map head_of_element) (elements_stay at)

  named_stays : pointers p after ≡ pointers p pages
  named_stays = change.named p (ap (λ o. option_to_list (option_map (λ (e : Element). e.list_at) o)) (are.no_element_now ∙ sym are.no_element))

  list_now : links_in p after place ≡ Some k
  list_now = read_now change (links p) ∙ are.now

  list_was : links_in p pages place ≡ Some l
  list_was = read_was change (links p) ∙ are.was

  lists_fit : (h : ElementHead) (t : Tid) → is_list_of p h (links_in p after t) ≡ is_list_of p h (links_in p pages t)
  lists_fit h t = by_place (is_list_of p h (links_in p after t) ≡ is_list_of p h (links_in p pages t)) t place
      (λ here. ap (λ t. is_list_of p h (links_in p after t)) (sym here) ∙ ap (is_list_of p h) list_now ∙ alike_lists p h l k are.version are.deleted are.count
      ∙ sym (ap (is_list_of p h) list_was) ∙ ap (λ t. is_list_of p h (links_in p pages t)) here)
      (λ other. ap (is_list_of p h) (read_apart change (links p) t other))

  element_fits : (o : Option ElementHead) → is_element p after o ≡ is_element p pages o
  element_fits None = refl
  element_fits (Some h) = lists_fit h h.list_at

  good : is_list p pages place (Some l) ≡ true
  good = list_good p pages place old l (node_pages pages g s place.block low) change.was are.no_element are.was

  good_parts : ((times_in place (pointers p pages) == 1) ≡ true) × (list_all (is_slot_below (length pages)) l.tids ≡ true)
  good_parts = and_parts (times_in place (pointers p pages) == 1) (list_all (is_slot_below (length pages)) l.tids) good

  still_good : is_list p after place (Some k) ≡ true
  still_good = same_list p pages after place (Some k) change.count named_stays ∙ and_from (times_in place (pointers p pages) == 1) (list_all (is_slot_below (length pages)) k.tids) good_parts.0 (below good_parts.1)

  items_stay : (at : Tid) → is_node_item p pages at ≡ true → is_node_item p after at ≡ true
  items_stay at was = by_place (is_node_item p after at ≡ true) at place
      (λ here. subst (λ t. is_node_item p after t ≡ true) here
      (or_second (is_element p after (head_in p after place)) (is_list p after place (links_in p after place)) (ap (is_list p after place) list_now ∙ still_good)))
      (λ other. ap₂ (λ a b. a || b) (ap (is_element p after) (heads_stay at) ∙ element_fits (head_in p pages at))
      (ap (is_list p after at) (read_apart change (links p) at other) ∙ same_list p pages after at (links_in p pages at) change.count named_stays) ∙ was)

  module _ (at : Tid) (n : Node) (stands : node_at g at ≡ Some n) (listed : n.list_at ≡ place) where
    there : (e : Element) × (element_in p pages at ≡ Some e) × (option_map (made_of e) (links_in p pages e.list_at) ≡ Some n)
    there = then_is (λ e. option_map (made_of e) (links_in p pages e.list_at)) (element_in p pages at) n (sym (s.nodes at) ∙ stands)

    abbrev e : Element
    e = there.0

    list : (m : Links) × (links_in p pages e.list_at ≡ Some m) × (made_of e m ≡ n)
    list = map_is (made_of e) (links_in p pages e.list_at) n there.2

    points : e.list_at ≡ place
    points = ap (λ (n : Node). n.list_at) list.2 ∙ listed

    node_was : node_at g at ≡ Some (made_of e l)
    node_was =
        let same : list.0 ≡ l = some_is list.0 l (sym list.1 ∙ ap (links_in p pages) points ∙ list_was) in
        stands ∙ ap (λ (n : Node). Some n) (sym list.2) ∙ ap (λ m. Some (made_of e m)) same

    node_now : node_in p after at ≡ Some (made_of e k)
    node_now =
        ap (λ o. option_and_then (λ e. option_map (made_of e) (links_in p after e.list_at)) o) (elements_stay at ∙ there.1)
        ∙ ap (option_map (made_of e)) (ap (links_in p after) points ∙ list_now)

    -- no other element has this list
    only : (q : Tid) (f : Element) → element_in p pages q ≡ Some f → f.list_at ≡ place → at ≡ q
    only q f is also =
        let x = then_is (λ x. in_whole (element p x)) (item_in pages at) e there.1 in
        let y = then_is (λ x. in_whole (element p x)) (item_in pages q) f is in
        named_once p pages place at q x.0 y.0 (eqb-true (times_in place (pointers p pages)) 1 good_parts.0) x.1 y.1 (pointer_names p x.0 e place x.2 points) (pointer_names p y.0 f place y.2 also)

    same_node : (q : Tid) → (at ≡ q → ⊥) → (o : Option Element) → element_in p pages q ≡ o
        → option_and_then (λ e. option_map (made_of e) (links_in p after e.list_at)) o ≡ option_and_then (λ e. option_map (made_of e) (links_in p pages e.list_at)) o
    same_node q other None is = refl
    same_node q other (Some f) is = ap (option_map (made_of f)) (read_apart change (links p) f.list_at (λ e. other (only q f is (sym e))))

    node_apart : (q : Tid) → (at ≡ q → ⊥) → node_in p after q ≡ node_in p pages q
    node_apart q other = ap (λ o. option_and_then (λ e. option_map (made_of e) (links_in p after e.list_at)) o) (elements_stay q) ∙ same_node q other (element_in p pages q) refl

    nodes_are : (q : Tid) → get (insert g.nodes at (made_of e k)) q ≡ node_in p after q
    nodes_are q = by_place (get (insert g.nodes at (made_of e k)) q ≡ node_in p after q) q at
        (λ here. ap (λ t. get (insert g.nodes at (made_of e k)) t) (sym here) ∙ get_here g.nodes at (made_of e k) ∙ sym node_now ∙ ap (node_in p after) here)
        (λ other. get_apart g.nodes at q (made_of e k) other ∙ s.nodes q ∙ sym (node_apart q other))

    pub list_effect : (to : Node → Node) → ((e : Element) → to (made_of e l) ≡ made_of e k) → Stands after (changed g at to)
    list_effect to is =
        let made : changed g at to ≡ with_node g at (made_of e k) = ap (changed_from g at to) node_was ∙ ap (with_node g at) (is e) in
        subst (λ h. Stands after h) (sym made)
        (stands_with pages after g place old new s change apart (λ q level. ap (is_of_level level) (heads_stay q)) items_stay (insert g.nodes at (made_of e k)) nodes_are)
