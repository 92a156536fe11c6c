-- Pages that stand for a graph give a shaped one.
use Rattle.std.proofs.Common.{◌≡◌, ℕ, ◌+◌, ◌*◌, ◌/◌, ◌≤◌, Bool, true, false, List, [], length, Option, Some, None, refl, sym, ap, subst, ◌∙◌, arith}
use Rattle.std.specs.Prelude.{nat_le}
use Rattle.std.specs.List.{All}
use Rattle.std.specs.Option.{option_map, option_and_then}
use Rattle.std.proofs.lemmas.Nat.{le-div}
use Rattle.std.proofs.lemmas.Bool.{and_parts, eqb-true, leb-true}
use Rattle.std.proofs.lemmas.Option.{slice_get_within}
use Rattle.index_sizes.specs.declared.limits.TheConstants.{MOST_BLOCKS, MOST_SLOTS}
use Rattle.byte_fields.specs.Levels.{is_level}
use Rattle.vec_names.specs.declared.tid.Tid.{Tid}
use Rattle.vec_names.specs.declared.heap_id.HeapId.{HeapId}
use Rattle.vec_names.specs.declared.params.Kind.{Kind}
use Rattle.vec_names.specs.declared.params.Kind.TheVariants.{Hnsw, Ivf}
use Rattle.vec_names.specs.declared.params.Params.{Params}
use Rattle.vec_names.specs.Params.{IsInRange}
use Rattle.vec_names.specs.Levels.{most_level}
use Rattle.page_bytes.specs.Content.{Content, IsPage, item_at}
use Rattle.vec_tuples.specs.declared.element.ElementHead.{ElementHead}
use Rattle.vec_tuples.specs.declared.links.Links.{Links}
use Rattle.vec_tuples.specs.Spelling.{IsHintOf, IsEmptyIf, head_of_element}
use Rattle.vec_tuples.specs.Reading.{element, links}
use Rattle.vec_tuples.proofs.ElementLaws.{element_field}
use Rattle.vec_tuples.proofs.LinksLaws.{links_field}
use Rattle.vec_graph.specs.declared.node.Node.{Node}
use Rattle.vec_graph.specs.declared.graph.Graph.{Graph}
use Rattle.vec_graph.specs.Graph.{node_at, HasLevel}
use Rattle.vec_graph.specs.Shaped.{IsShaped, IsShapedNode}
use Rattle.page_redo.specs.PageTuples.{in_whole, is_graph}
use Rattle.page_redo.proofs.ItemLaws.{whole_spelled}
use Rattle.graph_pages.specs.Standing.{item_in, element_in, links_in, head_in, is_of_level, is_entry, is_list_of, node_with as made_of, Stands}
use Rattle.page_redo.proofs.Given.{then_is, map_is, item_bytes}
use Rattle.graph_pages.proofs.KindsApart.{meta_is_no_element, meta_is_no_list, element_is_no_list}
use Rattle.graph_pages.proofs.StandingLaws.{root_is, root_fits, root_holds, node_pages, node_below}
use Rattle.graph_pages.proofs.StandingShape.{list_below, all_slots}
use Rattle.graph_pages.proofs.HeadEffect.{low_from, params_in_range}
use Rattle.graph_pages.proofs.ElementEffect.{element_good}
use Rattle.graph_pages.proofs.OneItem.{not_root}
use Rattle.graph_pages.proofs.RoleFits.{node_there, tuple_there, list_alike, of_graph_kind}
use Rattle.graph_pages.proofs.PutOldEffect.{some_m}

-- a level whose slots fit a tuple is none above the highest
level_fits : (m level : ℕ) → 2 ≤ m → level ≤ 255 → (level + 2) * m ≤ MOST_SLOTS → level ≤ most_level m
level_fits m level some low few =
    let least : level + 2 ≤ MOST_SLOTS / m = le-div (level + 2) MOST_SLOTS m (omega (arith, some)) few in
    omega (arith, least, low)

empty_if : (deleted : Bool) (ids : List HeapId) → IsEmptyIf deleted ids → deleted ≡ true → ids ≡ []
empty_if true ids is e = is
empty_if false ids is e = absurd cc

hint_low : (k : Kind) (hint : ℕ) → is_graph k ≡ true → IsHintOf k hint → 1 ≤ hint
hint_low Hnsw hint is (low, high) = low
hint_low Ivf hint is none = absurd cc

no_level : (entry : Option Tid) (level : ℕ) → entry ≡ None → is_level entry level ≡ true → level ≡ 0
no_level None level none is = eqb-true level 0 is
no_level (Some at) level none is = absurd cc

pub of_level : (level : ℕ) (o : Option ElementHead) → is_of_level level o ≡ true → (h : ElementHead) × (o ≡ Some h) × (h.level ≡ level)
of_level level None is = absurd cc
of_level level (Some h) is = (h, refl, eqb-true h.level level is)

pub list_is : (p : Params) (h : ElementHead) (o : Option Links) → is_list_of p h o ≡ true → (l : Links) × (o ≡ Some l)
list_is p h None good = absurd cc
list_is p h (Some l) good = (l, refl)

module _ (pages : List Content) (g : Graph) (few : length pages ≤ MOST_BLOCKS) (all : All IsPage pages) (s : Stands pages g) where
  abbrev p : Params
  p = s.meta.params

  range : IsInRange p
  range = params_in_range pages g s all

  shaped_node : (at : Tid) (n : Node) → node_at g at ≡ Some n → IsShapedNode g.params.m g.params.bits g.blocks at n
  shaped_node at n stands =
      let node = node_there pages g all s at n stands in
      let e = node.0 in
      let l = node.2 in
      let same : made_of e l ≡ n = node.4 in
      let there = tuple_there pages g all s (element p) at e (meta_is_no_element p s.meta) node.1 in
      let x = then_is (λ x. in_whole (element p x)) (item_at there.0.items at.off) e there.3 in
      let spelled = whole_spelled (element_field p range) x.0 e (item_bytes pages at.block at.off there.0 x.0 all there.1 x.1) x.2 in
      let list = tuple_there pages g all s (links p) e.list_at l (meta_is_no_list p s.meta) node.3 in
      let u = then_is (λ x. in_whole (links p x)) (item_at list.0.items e.list_at.off) l list.3 in
      let list_spelled = whole_spelled (links_field p range) u.0 l (item_bytes pages e.list_at.block e.list_at.off list.0 u.0 all list.1 u.1) u.2 in
      let alike = list_alike pages g all s at e l node.1 node.3 in
      let points : e.list_at ≡ n.list_at = ap (λ (m : Node). m.list_at) same in
      let list_low : 1 ≤ e.list_at.block = low_from e.list_at.block (not_root pages g e.list_at.block list.0 s list.1 list.2) in
      let many : (e.level + 2) * p.m ≤ MOST_SLOTS = omega (arith, alike.2, list_spelled.0.count.0) in
      let high : e.level ≤ most_level p.m = level_fits p.m e.level (some_m p.kind p (of_graph_kind pages g all s) range.of_kind) spelled.0.head.level many in
      record {
        from_1 = low_from at.block (not_root pages g at.block there.0 s there.1 there.2);
        within = node_below pages g at n s stands;
        list_from_1 = subst (λ (t : Tid). 1 ≤ t.block) points list_low;
        list_within = list_below pages g at n s stands;
        as_many = all_slots pages g all s at n stands;
        not_high = subst (λ (q : Params). n.level ≤ most_level q.m) (sym s.params) (subst (λ (m : Node). m.level ≤ most_level p.m) same high);
        version_from_1 = subst (λ (m : Node). 1 ≤ m.version) same spelled.0.head.version_low;
        version_to_255 = subst (λ (m : Node). m.version ≤ 255) same spelled.0.head.version_high;
        as_long = ap (λ (m : Node). length m.bits) (sym same) ∙ spelled.0.long ∙ ap (λ (q : Params). q.bits) (sym s.params);
        few = subst (λ (m : Node). length m.ids ≤ 10) same spelled.0.head.few;
        none_if_deleted = subst (λ (m : Node). m.deleted ≡ true → m.ids ≡ []) same (empty_if e.deleted e.ids.items spelled.0.head.none_left);
      }

  entry_there : (at : Tid) → s.meta.entry ≡ Some at → HasLevel g at s.meta.level
  entry_there at is =
      let root_good = root_holds pages g s in
      let parts = and_parts (nat_le s.meta.hint (length pages)) (is_entry p pages s.meta.entry s.meta.level) root_good in
      let h = of_level s.meta.level (head_in p pages at) (ap (λ o. is_entry p pages o s.meta.level) (sym is) ∙ parts.1) in
      let e = map_is head_of_element (element_in p pages at) h.0 h.1 in
      let x = then_is (λ x. in_whole (element p x)) (item_in pages at) e.0 e.1 in
      let there = tuple_there pages g all s (element p) at e.0 (meta_is_no_element p s.meta) e.1 in
      let low = low_from at.block (not_root pages g at.block there.0 s there.1 there.2) in
      let good = element_good p pages at x.0 e.0 (node_pages pages g s at.block low) x.1 x.2 (element_is_no_list p x.0 e.0 x.2) in
      let l = list_is p (head_of_element e.0) (links_in p pages e.0.list_at) good in
      let stands : node_at g at ≡ Some (made_of e.0 l.0) =
      s.nodes at ∙ ap (λ o. option_and_then (λ e. option_map (made_of e) (links_in p pages e.list_at)) o) e.1 ∙ ap (option_map (made_of e.0)) l.1 in
      record { node = made_of e.0 l.0; stands = stands; of_level = ap (λ (h : ElementHead). h.level) e.2 ∙ h.2 }

  pub shaped : IsShaped g
  shaped =
      let r = root_is pages s.meta s.read in
      let fits = root_fits pages s.meta all r in
      let parts = and_parts (nat_le s.meta.hint (length pages)) (is_entry p pages s.meta.entry s.meta.level) (root_holds pages g s) in
      let hint : 1 ≤ s.meta.hint = hint_low p.kind s.meta.hint (of_graph_kind pages g all s) fits.hint in
      record {
        nodes = shaped_node;
        entry = λ at is. subst (λ level. HasLevel g at level) (sym s.level) (entry_there at (sym s.entry ∙ is));
        no_entry = λ is. s.level ∙ no_level s.meta.entry s.meta.level (sym s.entry ∙ is) fits.level.0;
        hint_from_1 = omega (arith, hint, s.hint);
        hint_within = omega (arith, leb-true s.meta.hint (length pages) parts.0, s.hint, s.blocks);
        blocks_from_1 = omega (arith, slice_get_within pages 0 r.page r.there, s.blocks);
        blocks_within = omega (arith, few, s.blocks);
      }
