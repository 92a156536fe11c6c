-- An element whose rows are changed.
use Rattle.std.proofs.Common.{◌≡◌, ℕ, ◌≤◌, ◌||◌, ◌==◌, Bool, true, false, List, [], ◌∷◌, Option, Some, None, refl, sym, ap, ap₂, subst, ◌∙◌}
use Rattle.std.specs.Option.{option_map, option_and_then, option_to_list}
use Rattle.std.specs.FinMap.{get, insert}
use Rattle.vec_names.specs.declared.tid.Tid.{Tid}
use Rattle.vec_names.specs.declared.params.Params.{Params}
use Rattle.page_bytes.specs.Content.{Content}
use Rattle.vec_tuples.specs.declared.element.Element.{Element}
use Rattle.vec_tuples.specs.declared.element.ElementHead.{ElementHead}
use Rattle.vec_tuples.specs.declared.links.Links.{Links}
use Rattle.vec_tuples.specs.Spelling.{head_of_element}
use Rattle.vec_tuples.specs.Reading.{element, links}
use Rattle.vec_graph.specs.declared.node.Node.{Node}
use Rattle.vec_graph.specs.declared.graph.Graph.{Graph}
use Rattle.vec_graph.specs.Graph.{node_at}
use Rattle.vec_graph.specs.Effect.{with_node, changed_from, changed}
use Rattle.page_redo.specs.PageTuples.{in_whole}
use Rattle.graph_pages.specs.Standing.{item_in, element_in, head_in, links_in, is_of_level, is_list_of, is_element, pointers, is_list, is_node_item, IsNodePage, node_with as made_of, node_in, Stands}
use Rattle.graph_pages.proofs.PageSets.{IsChangedAt, by_place, get_here, get_apart, read_now, read_was, read_apart, read_alike}
use Rattle.graph_pages.proofs.OneItem.{stands_with, same_list_of, same_element, same_list}
use Rattle.graph_pages.proofs.StandingLaws.{node_pages}

-- both items are elements, which differ in their rows at most
pub record AreElements (p : Params) (old new : List ℕ) (e f : Element) : Type 0 where
  pub was : in_whole (element p old) ≡ Some e
  pub now : in_whole (element p new) ≡ Some f
  pub no_list : in_whole (links p old) ≡ None
  pub no_list_now : in_whole (links p new) ≡ None
  pub level : f.level ≡ e.level
  pub version : f.version ≡ e.version
  pub deleted : f.deleted ≡ e.deleted
  pub list_at : f.list_at ≡ e.list_at

listed : (p : Params) (h : ElementHead) (o : Option Links) → is_list_of p h o ≡ true → (l : Links) × (o ≡ Some l)
listed p h None is = absurd cc
listed p h (Some l) is = (l, refl)

pub first_of_two : (a b : Bool) → (a || b) ≡ true → b ≡ false → a ≡ true
first_of_two true b either none = refl
first_of_two false b either none = absurd cc

-- an element of a node page keeps its rule
pub element_good : (p : Params) (pages : List Content) (at : Tid) (x : List ℕ) (e : Element) → IsNodePage p pages at.block
    → item_in pages at ≡ Some x → in_whole (element p x) ≡ Some e → in_whole (links p x) ≡ None
    → is_list_of p (head_of_element e) (links_in p pages e.list_at) ≡ true
element_good p pages at x e page is element_is no_list =
    let h = head_of_element e in
    let item = page.items at x refl is in
    let as_head : head_in p pages at ≡ Some h = ap (λ o. option_map head_of_element (option_and_then (λ x. in_whole (element p x)) o)) is ∙ ap (option_map head_of_element) element_is in
    let as_list : links_in p pages at ≡ None = ap (λ o. option_and_then (λ x. in_whole (links p x)) o) is ∙ no_list in
    let not_list : is_list p pages at (links_in p pages at) ≡ false = ap (is_list p pages at) as_list in
    let good : is_element p pages (head_in p pages at) ≡ true = first_of_two (is_element p pages (head_in p pages at)) (is_list p pages at (links_in p pages at)) item not_list in
    ap (is_element p pages) (sym as_head) ∙ good

-- and has its list
pub list_there : (p : Params) (pages : List Content) (at : Tid) (x : List ℕ) (e : Element) → IsNodePage p pages at.block
    → item_in pages at ≡ Some x → in_whole (element p x) ≡ Some e → in_whole (links p x) ≡ None
    → (l : Links) × (links_in p pages e.list_at ≡ Some l)
list_there p pages at x e page is element_is no_list =
    listed p (head_of_element e) (links_in p pages e.list_at) (element_good p pages at x e page is element_is no_list)

module _ (pages after : List Content) (g : Graph) (place : Tid) (old new : List ℕ) (e f : Element) (s : Stands pages g) (change : IsChangedAt place old new pages after)
    (apart : place.block ≡ 0 → ⊥) (low : 1 ≤ place.block) (are : AreElements s.meta.params old new e f) where
  abbrev p : Params
  p = s.meta.params

  links_stay : (at : Tid) → links_in p after at ≡ links_in p pages at
  links_stay = read_alike change (links p) (are.no_list_now ∙ sym are.no_list)

  named_stays : pointers p after ≡ pointers p pages
  named_stays = change.named p (
      ap (λ o. option_to_list (option_map (λ (e : Element). e.list_at) o)) are.now
      ∙ ap (λ t. t ∷ []) are.list_at
      ∙ sym (ap (λ o. option_to_list (option_map (λ (e : Element). e.list_at) o)) are.was)
      )

  head_now : head_in p after place ≡ Some (head_of_element f)
  head_now = ap (option_map head_of_element) (read_now change (element p) ∙ are.now)

  head_was : head_in p pages place ≡ Some (head_of_element e)
  head_was = ap (option_map head_of_element) (read_was change (element p) ∙ are.was)

  head_apart : (at : Tid) → (place ≡ at → ⊥) → head_in p after at ≡ head_in p pages at
  head_apart at other = ap (option_map head_of_element) (read_apart change (element p) at other)

  levels_stay : (at : Tid) (level : ℕ) → is_of_level level (head_in p after at) ≡ is_of_level level (head_in p pages at)
  levels_stay at level = by_place (is_of_level level (head_in p after at) ≡ is_of_level level (head_in p pages at)) at place
      (λ here. ap (λ t. is_of_level level (head_in p after t)) (sym here) ∙ ap (is_of_level level) head_now ∙ ap (λ n. n == level) are.level
      ∙ sym (ap (is_of_level level) head_was) ∙ ap (λ t. is_of_level level (head_in p pages t)) here)
      (λ other. ap (is_of_level level) (head_apart at other))

  elements_stay : (at : Tid) → is_element p after (head_in p after at) ≡ is_element p pages (head_in p pages at)
  elements_stay at = by_place (is_element p after (head_in p after at) ≡ is_element p pages (head_in p pages at)) at place
      (λ here. ap (λ t. is_element p after (head_in p after t)) (sym here) ∙ ap (is_element p after) head_now
      ∙ same_list_of p (head_of_element f) (head_of_element e) (links_in p after f.list_at) are.level are.version are.deleted
      ∙ ap (is_list_of p (head_of_element e)) (links_stay f.list_at ∙ ap (links_in p pages) are.list_at)
      ∙ sym (ap (is_element p pages) head_was) ∙ ap (λ t. is_element p pages (head_in p pages t)) here)
      (λ other. ap (is_element p after) (head_apart at other) ∙ same_element p pages after (head_in p pages at) links_stay)

  items_stay : (at : Tid) → is_node_item p after at ≡ is_node_item p pages at
  items_stay at = ap₂ (λ a b. a || b) (elements_stay at)
      (ap (is_list p after at) (links_stay at) ∙ same_list p pages after at (links_in p pages at) change.count named_stays)

  list : (l : Links) × (links_in p pages e.list_at ≡ Some l)
  list = list_there p pages place old e (node_pages pages g s place.block low) change.was are.was are.no_list

  node_was : node_at g place ≡ Some (made_of e list.0)
  node_was = s.nodes place ∙ ap (λ o. option_and_then (λ e. option_map (made_of e) (links_in p pages e.list_at)) o) (read_was change (element p) ∙ are.was) ∙ ap (option_map (made_of e)) list.1

  node_now : node_in p after place ≡ Some (made_of f list.0)
  node_now =
      ap (λ o. option_and_then (λ e. option_map (made_of e) (links_in p after e.list_at)) o) (read_now change (element p) ∙ are.now)
      ∙ ap (option_map (made_of f)) (links_stay f.list_at ∙ ap (links_in p pages) are.list_at ∙ list.1)

  same_node : (o : Option Element)
      → option_and_then (λ e. option_map (made_of e) (links_in p after e.list_at)) o ≡ option_and_then (λ e. option_map (made_of e) (links_in p pages e.list_at)) o
  same_node None = refl
  same_node (Some e) = ap (option_map (made_of e)) (links_stay e.list_at)

  node_apart : (at : Tid) → (place ≡ at → ⊥) → node_in p after at ≡ node_in p pages at
  node_apart at other = ap (λ o. option_and_then (λ e. option_map (made_of e) (links_in p after e.list_at)) o) (read_apart change (element p) at other) ∙ same_node (element_in p pages at)

  nodes_are : (at : Tid) → get (insert g.nodes place (made_of f list.0)) at ≡ node_in p after at
  nodes_are at = by_place (get (insert g.nodes place (made_of f list.0)) at ≡ node_in p after at) at place
      (λ here. ap (λ t. get (insert g.nodes place (made_of f list.0)) t) (sym here) ∙ get_here g.nodes place (made_of f list.0) ∙ sym node_now ∙ ap (node_in p after) here)
      (λ other. get_apart g.nodes place at (made_of f list.0) other ∙ s.nodes at ∙ sym (node_apart at other))

  pub element_effect : (to : Node → Node) → ((l : Links) → to (made_of e l) ≡ made_of f l) → Stands after (changed g place to)
  element_effect to is =
      let made : changed g place to ≡ with_node g place (made_of f list.0) = ap (changed_from g place to) node_was ∙ ap (with_node g place) (is list.0) in
      subst (λ h. Stands after h) (sym made)
      (stands_with pages after g place old new s change apart levels_stay (λ at good. items_stay at ∙ good) (insert g.nodes place (made_of f list.0)) nodes_are)
