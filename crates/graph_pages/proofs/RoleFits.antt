-- The change of an event of one block fits the page there, where pages stand for a graph.
use Rattle.std.proofs.Common.{◌≡◌, ℕ, zero, suc, ◌&&◌, ◌==◌, Bool, true, false, List, length, Option, Some, None, refl, sym, ap, subst, ◌∙◌, arith}
use Rattle.std.specs.Prelude.{slice_get, All}
use Rattle.std.specs.Bool.{beq}
use Rattle.std.specs.Option.{option_map, option_and_then}
use Rattle.std.proofs.lemmas.Bool.{and_parts, eqb-true}
use Rattle.std.proofs.lemmas.Option.{slice_get_within}
use Rattle.index_sizes.specs.Sizes.{slots_of_level}
use Rattle.byte_fields.specs.Reading.{Reader}
use Rattle.byte_fields.proofs.EachField.{some_is}
use Rattle.vec_names.specs.declared.tid.Tid.{Tid}
use Rattle.page_bytes.specs.Content.{Content, IsPage, item_at}
use Rattle.vec_tuples.specs.declared.meta.Meta.{Meta}
use Rattle.vec_tuples.specs.declared.element.Element.{Element}
use Rattle.vec_tuples.specs.declared.element.ElementHead.{ElementHead}
use Rattle.vec_tuples.specs.declared.links.Links.{Links}
use Rattle.vec_tuples.specs.Spelling.{meta_bytes, element_bytes, links_bytes, head_of_element}
use Rattle.vec_tuples.specs.Reading.{meta, element, links}
use Rattle.vec_graph.specs.declared.node.Node.{Node}
use Rattle.vec_graph.specs.declared.graph.Graph.{Graph}
use Rattle.vec_graph.specs.Graph.{node_at}
use Rattle.page_redo.specs.PageTuples.{in_whole, read_at, with_item, with_head, meta_at, head_changed, links_changed, meta_changed, is_graph, is_graph_page}
use Rattle.page_redo.specs.PageChanges.{on_graph, on_meta}
use Rattle.graph_pages.specs.Standing.{item_in, read_in, element_in, links_in, head_in, is_list_of, is_element, is_list, node_with as made_of, Stands}
use Rattle.page_redo.proofs.Given.{then_is, map_is}
use Rattle.graph_pages.proofs.KindsApart.{meta_is_no_element, meta_is_no_list, element_is_no_list}
use Rattle.graph_pages.proofs.StandingLaws.{IsRootOf, root_is, root_spelled, node_pages}
use Rattle.graph_pages.proofs.HeadEffect.{low_from}
use Rattle.graph_pages.proofs.OneItem.{not_root}
use Rattle.graph_pages.proofs.ElementEffect.{first_of_two}
use Rattle.page_redo.proofs.OneFits.{OneFits, one_fits}

same_if_beq : (a b : Bool) → beq a b ≡ true → a ≡ b
same_if_beq true true is = refl
same_if_beq false false is = refl
same_if_beq true false is = absurd cc
same_if_beq false true is = absurd cc

-- ---- block 0

module _ (pages : List Content) (g : Graph) (all : All IsPage pages) (s : Stands pages g) where
  r : IsRootOf pages s.meta
  r = root_is pages s.meta s.read

  -- an event that changes the meta tuple
  pub meta_role_fits : (number : ℕ) (change : Meta → Option Meta) (k : Meta) → change s.meta ≡ Some k
      → OneFits pages 0 number (on_meta (meta_changed change))
  meta_role_fits number change k is =
      let read : meta_at r.page ≡ Some s.meta = ap (λ o. option_and_then (λ x. in_whole (meta x)) o) r.is ∙ r.reads in
      one_fits pages 0 number (on_meta (meta_changed change)) r.page (with_item r.page 1 (meta_bytes k)) r.there (rw (r.of_kind, read, is) refl)

  pub of_graph_kind : is_graph s.meta.params.kind ≡ true
  of_graph_kind = r.graph

  -- ---- tuples of nodes

  -- an item of block 0 is the meta tuple
  first_item : (at : Tid) (x : List ℕ) → item_in pages at ≡ Some x → at.block ≡ 0 → x ≡ meta_bytes s.meta
  first_item at x is first =
      let c = then_is (λ (c : Content). item_at c.items at.off) (slice_get pages at.block) x is in
      let same : c.0 ≡ r.page = some_is c.0 r.page (sym c.1 ∙ ap (slice_get pages) first ∙ r.there) in
      only at.off (ap (λ (d : Content). item_at d.items at.off) (sym same) ∙ c.2) ∙ root_spelled pages s.meta all r
    where
      only : (off : ℕ) → item_at r.page.items off ≡ Some x → x ≡ r.item
      only zero is = absurd cc
      only (suc i) is =
          let here : i ≡ 0 = omega (arith, slice_get_within r.page.items i x is, r.alone) in
          some_is x r.item (sym is ∙ ap (slice_get r.page.items) here ∙ r.is)

  -- a tuple of a node stands on a page of a graph
  pub tuple_there : {A : Type 0} (f : Reader A) (at : Tid) (v : A) → in_whole (f (meta_bytes s.meta)) ≡ None → read_in f pages at ≡ Some v
      → (c : Content) × (slice_get pages at.block ≡ Some c) × (is_graph_page c.kind ≡ true) × (read_at f c at.off ≡ Some v)
  tuple_there f at v other is =
      let x = then_is (λ x. in_whole (f x)) (item_in pages at) v is in
      let c = then_is (λ (c : Content). item_at c.items at.off) (slice_get pages at.block) x.0 x.1 in
      let apart : at.block ≡ 0 → ⊥ = λ first. let none = sym x.2 ∙ ap (λ x. in_whole (f x)) (first_item at x.0 x.1 first) ∙ other in absurd cc in
      let page = node_pages pages g s at.block (low_from at.block apart) in
      (c.0, c.1, page.kind c.0 c.1, ap (λ o. option_and_then (λ x. in_whole (f x)) o) c.2 ∙ x.2)

  -- the element and the list that a node is made of
  pub node_there : (at : Tid) (n : Node) → node_at g at ≡ Some n
      → (e : Element) × (element_in s.meta.params pages at ≡ Some e) × (l : Links) × (links_in s.meta.params pages e.list_at ≡ Some l) × (made_of e l ≡ n)
  node_there at n stands =
      let p = s.meta.params in
      let e = then_is (λ e. option_map (made_of e) (links_in p pages e.list_at)) (element_in p pages at) n (sym (s.nodes at) ∙ stands) in
      let l = map_is (made_of e.0) (links_in p pages e.0.list_at) n e.2 in
      (e.0, e.1, l.0, l.1, l.2)

  -- the list of an element fits it
  pub list_fits : (at : Tid) (e : Element) (l : Links) → element_in s.meta.params pages at ≡ Some e → links_in s.meta.params pages e.list_at ≡ Some l
      → is_list_of s.meta.params (head_of_element e) (Some l) ≡ true
  list_fits at e l element_is list_is =
      let p = s.meta.params in
      let h = head_of_element e in
      let x = then_is (λ x. in_whole (element p x)) (item_in pages at) e element_is in
      let there = tuple_there (element p) at e (meta_is_no_element p s.meta) element_is in
      let apart : at.block ≡ 0 → ⊥ = not_root pages g at.block there.0 s there.1 there.2 in
      let page = node_pages pages g s at.block (low_from at.block apart) in
      let as_head : head_in p pages at ≡ Some h = ap (option_map head_of_element) element_is in
      let as_list : links_in p pages at ≡ None = ap (λ o. option_and_then (λ x. in_whole (links p x)) o) x.1 ∙ element_is_no_list p x.0 e x.2 in
      let good = first_of_two (is_element p pages (head_in p pages at)) (is_list p pages at (links_in p pages at)) (page.items at x.0 refl x.1) (ap (is_list p pages at) as_list) in
      ap (is_list_of p h) (sym list_is) ∙ ap (is_element p pages) (sym as_head) ∙ good

  -- so it has the slots of its level, is of its version and of its deleted state
  pub list_alike : (at : Tid) (e : Element) (l : Links) → element_in s.meta.params pages at ≡ Some e → links_in s.meta.params pages e.list_at ≡ Some l
      → (l.version ≡ e.version) × (l.deleted ≡ e.deleted) × (length l.tids ≡ slots_of_level s.meta.params.m e.level)
  list_alike at e l element_is list_is =
      let p = s.meta.params in
      let parts = and_parts (length l.tids == slots_of_level p.m e.level) (l.version == e.version && beq l.deleted e.deleted) (list_fits at e l element_is list_is) in
      let alike = and_parts (l.version == e.version) (beq l.deleted e.deleted) parts.1 in
      (eqb-true l.version e.version alike.0, same_if_beq l.deleted e.deleted alike.1, eqb-true (length l.tids) (slots_of_level p.m e.level) parts.0)

  -- an event that changes the head of a node's element
  pub head_role_fits : (number : ℕ) (at : Tid) (n : Node) (change : ElementHead → Option ElementHead) → node_at g at ≡ Some n
      → ((e : Element) (l : Links) → made_of e l ≡ n → (k : ElementHead) × (change (head_of_element e) ≡ Some k))
      → OneFits pages at.block number (on_graph g.params (head_changed change g.params at.off))
  head_role_fits number at n change stands goes =
      let p = s.meta.params in
      let node = node_there at n stands in
      let e = node.0 in
      let there = tuple_there (element p) at e (meta_is_no_element p s.meta) node.1 in
      let c = there.0 in
      let k = goes e node.2 node.4 in
      subst (λ p. OneFits pages at.block number (on_graph p (head_changed change p at.off))) (sym s.params)
      (one_fits pages at.block number (on_graph p (head_changed change p at.off)) c (with_item c at.off (element_bytes (with_head k.0 e))) there.1
      (rw (of_graph_kind, there.2, there.3, k.1) refl))

  -- an event that changes the slots of a node's list
  pub links_role_fits : (number : ℕ) (at list_at : Tid) (n : Node) (change : Links → Option Links) → node_at g at ≡ Some n → n.list_at ≡ list_at
      → ((l : Links) → l.version ≡ n.version → l.deleted ≡ n.deleted → l.tids ≡ n.slots → (k : Links) × (change l ≡ Some k))
      → OneFits pages list_at.block number (on_graph g.params (links_changed change g.params list_at.off))
  links_role_fits number at list_at n change stands listed goes =
      let p = s.meta.params in
      let node = node_there at n stands in
      let e = node.0 in
      let l = node.2 in
      let made = node.4 in
      let names : e.list_at ≡ list_at = ap (λ (n : Node). n.list_at) made ∙ listed in
      let there = tuple_there (links p) list_at l (meta_is_no_list p s.meta) (ap (links_in p pages) (sym names) ∙ node.3) in
      let c = there.0 in
      let alike = list_alike at e l node.1 node.3 in
      let k = goes l (alike.0 ∙ ap (λ (n : Node). n.version) made) (alike.1 ∙ ap (λ (n : Node). n.deleted) made) (ap (λ (n : Node). n.slots) made) in
      subst (λ p. OneFits pages list_at.block number (on_graph p (links_changed change p list_at.off))) (sym s.params)
      (one_fits pages list_at.block number (on_graph p (links_changed change p list_at.off)) c (with_item c list_at.off (links_bytes k.0)) there.1
      (rw (of_graph_kind, there.2, there.3, k.1) refl))
