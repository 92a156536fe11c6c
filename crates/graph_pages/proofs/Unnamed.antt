-- No list pointer names a place without an item.
use Rattle.std.proofs.Common.{◌≡◌, ℕ, zero, suc, ◌≤◌, Bool, true, false, cond, List, [], ◌∷◌, length, Option, Some, None, refl, sym, ap, ◌∙◌, arith}
use Rattle.std.specs.Prelude.{slice_get, flat_map}
use Rattle.std.specs.List.{All}
use Rattle.std.specs.Option.{option_and_then}
use Rattle.std.proofs.lemmas.Option.{slice_get_within}
use Rattle.index_sizes.specs.declared.limits.TheConstants.{MOST_BLOCKS}
use Rattle.byte_fields.proofs.EachField.{some_is}
use Rattle.vec_names.specs.declared.tid.Tid.{Tid}
use Rattle.vec_names.specs.declared.params.Params.{Params}
use Rattle.page_bytes.specs.Content.{Content, IsPage, item_at}
use Rattle.vec_tuples.specs.declared.element.Element.{Element}
use Rattle.vec_tuples.specs.declared.links.Links.{Links}
use Rattle.vec_tuples.specs.Spelling.{head_of_element}
use Rattle.vec_tuples.specs.Reading.{element, links}
use Rattle.vec_graph.specs.declared.graph.Graph.{Graph}
use Rattle.page_redo.specs.PageTuples.{in_whole}
use Rattle.graph_pages.specs.Standing.{item_in, links_in, is_list_of, pointer_of, pointers_on, pointers, is_place, times_in, Stands}
use Rattle.page_redo.proofs.Given.{got_from_all}
use Rattle.graph_pages.proofs.KindsApart.{meta_is_no_element, element_is_no_list}
use Rattle.graph_pages.proofs.PlaceTests.{same_if_place}
use Rattle.graph_pages.proofs.Pointed.{times_both}
use Rattle.graph_pages.proofs.StandingLaws.{root_is, root_spelled, node_pages}
use Rattle.graph_pages.proofs.ElementEffect.{element_good}
use Rattle.graph_pages.proofs.ItemAdded.{names_one, names_none}

-- what no element of a list names, the list does not name
none_named : {X : Type 0} (f : X → List Tid) (q : Tid) (xs : List X) → ((i : ℕ) (x : X) → slice_get xs i ≡ Some x → times_in q (f x) ≡ 0)
    → times_in q (flat_map f xs) ≡ 0
none_named f q [] each = refl
none_named f q (y ∷ ys) each =
    omega (arith, times_both q (f y) (flat_map f ys), each 0 y refl, none_named f q ys (λ i x is. each (suc i) x is))

-- nor does an item which is no element that names it
item_names_none : (p : Params) (x : List ℕ) (q : Tid) → ((e : Element) → in_whole (element p x) ≡ Some e → e.list_at ≡ q → ⊥)
    → times_in q (pointer_of p x) ≡ 0
item_names_none p x q apart = by_item (in_whole (element p x)) refl
  where
    by_test : (e : Element) → in_whole (element p x) ≡ Some e → (test : Bool) → is_place q e.list_at ≡ test → times_in q (pointer_of p x) ≡ 0
    by_test e is true t = absurd (apart e is (same_if_place q e.list_at t))
    by_test e is false t = names_one p x e q is ∙ ap (λ (b : Bool). cond b 1 0) t

    by_item : (o : Option Element) → in_whole (element p x) ≡ o → times_in q (pointer_of p x) ≡ 0
    by_item None is = names_none p x q is
    by_item (Some e) is = by_test e is (is_place q e.list_at) refl

not_listed : (p : Params) (e : Element) (o : Option Links) → o ≡ None → is_list_of p (head_of_element e) o ≡ true → ⊥
not_listed p e None none is = absurd cc
not_listed p e (Some l) none is = absurd cc

only_one : (items : List (List ℕ)) (first x : List ℕ) (i : ℕ) → length items ≡ 1 → item_at items 1 ≡ Some first → slice_get items i ≡ Some x → x ≡ first
only_one items first x zero one is got = some_is x first (sym got ∙ is)
only_one items first x (suc i) one is got = absurd (omega (arith, one, slice_get_within items (suc i) x got))

module _ (pages : List Content) (g : Graph) (q : Tid) (few : length pages ≤ MOST_BLOCKS) (all : All IsPage pages) (s : Stands pages g)
    (none : item_in pages q ≡ None) where
  abbrev p : Params
  p = s.meta.params

  no_links : links_in p pages q ≡ None
  no_links = ap (λ o. option_and_then (λ x. in_whole (links p x)) o) none

  -- the meta tuple is no element
  root_has_none : (c : Content) (i : ℕ) (x : List ℕ) (e : Element) → slice_get pages 0 ≡ Some c → slice_get c.items i ≡ Some x
      → in_whole (element p x) ≡ Some e → ⊥
  root_has_none c i x e there is reads =
      let r = root_is pages s.meta s.read in
      let page : c ≡ r.page = some_is c r.page (sym there ∙ r.there) in
      let item : x ≡ r.item = only_one r.page.items r.item x i r.alone r.is (ap (λ (d : Content). slice_get d.items i) (sym page) ∙ is) in
      let no_element = ap (λ (y : List ℕ). in_whole (element p y)) (item ∙ root_spelled pages s.meta all r) ∙ meta_is_no_element p s.meta in
      let both = sym reads ∙ no_element in absurd cc

  -- an element on another page has a list there
  named_stands : (block : ℕ) (c : Content) (i : ℕ) (x : List ℕ) (e : Element) → slice_get pages (suc block) ≡ Some c → slice_get c.items i ≡ Some x
      → in_whole (element p x) ≡ Some e → e.list_at ≡ q → ⊥
  named_stands block c i x e there is reads names =
      let whole : IsPage c = got_from_all IsPage pages (suc block) c all there in
      let at : Tid = record {
        block = suc block;
        off = suc i;
        within_blocks = omega (arith, few, slice_get_within pages (suc block) c there);
        counted_from_one = omega arith;
        in_two_bytes = omega (arith, whole.room, slice_get_within c.items i x is);
      } in
      let here : item_in pages at ≡ Some x = ap (λ o. option_and_then (λ (d : Content). item_at d.items (suc i)) o) there ∙ is in
      let good = element_good p pages at x e (node_pages pages g s (suc block) (omega arith)) here reads (element_is_no_list p x e reads) in
      not_listed p e (links_in p pages e.list_at) (ap (links_in p pages) names ∙ no_links) good

  item_names : (block : ℕ) (c : Content) (i : ℕ) (x : List ℕ) → slice_get pages block ≡ Some c → slice_get c.items i ≡ Some x
      → times_in q (pointer_of p x) ≡ 0
  item_names zero c i x there is = item_names_none p x q (λ e reads names. root_has_none c i x e there is reads)
  item_names (suc block) c i x there is = item_names_none p x q (λ e reads names. named_stands block c i x e there is reads names)

  pub unnamed : times_in q (pointers p pages) ≡ 0
  unnamed = none_named (pointers_on p) q pages (λ block c there. none_named (pointer_of p) q c.items (λ i x is. item_names block c i x there is))
