-- That a new node takes the places of a deleted one fits the pages of its element and of its list, which may be one page.
use Rattle.std.proofs.Common.{◌≡◌, ℕ, ◌+◌, ◌-◌, ◌*◌, ◌/◌, ◌&&◌, ◌==◌, max, Bool, true, false, List, [], ◌∷◌, ◌++◌, length, replicate, Option, Some, refl, sym, ap, subst, ◌∙◌, arith}
use Rattle.std.specs.Prelude.{slice_get, All, Contains, nat_le}
use Rattle.std.specs.Option.{option_map, option_and_then}
use Rattle.std.proofs.lemmas.Bool.{and_from, eq-eqb, eqb-true, le-leb}
use Rattle.std.proofs.lemmas.List.{append-nil}
use Rattle.std.proofs.lemmas.Option.{slice_get_within}
use Rattle.index_sizes.specs.Sizes.{slots_of_level}
use Rattle.index_sizes.specs.declared.limits.TheConstants.{MOST_SLOTS}
use Rattle.byte_fields.proofs.EachField.{some_is}
use Rattle.vec_names.specs.declared.tid.Tid.{Tid}
use Rattle.vec_names.specs.declared.params.Params.{Params}
use Rattle.vec_history.specs.declared.event.Event.TheVariants.{Put}
use Rattle.page_bytes.specs.declared.kind.PageKind.TheVariants.{Hnsw}
use Rattle.page_bytes.specs.Content.{Content, IsPage, item_at}
use Rattle.vec_tuples.specs.declared.element.Element.{Element}
use Rattle.vec_tuples.specs.declared.links.Links.{Links}
use Rattle.vec_tuples.specs.Spelling.{element_bytes, links_bytes}
use Rattle.vec_tuples.specs.Reading.{element, links}
use Rattle.vec_tuples.proofs.ElementLaws.{element_field}
use Rattle.vec_tuples.proofs.LinksLaws.{links_field}
use Rattle.vec_tuples.proofs.SlotPlaces.{length-links_bytes}
use Rattle.vec_graph.specs.declared.node.Node.{Node}
use Rattle.vec_graph.specs.declared.graph.Graph.{Graph}
use Rattle.vec_graph.specs.Graph.{node_at}
use Rattle.page_redo.specs.PageTuples.{in_whole, with_item, element_at, links_at, is_graph, is_graph_page}
use Rattle.page_redo.specs.PageChanges.{NewNode, is_node, new_element, new_links, is_old_element, are_old_links, put_over, put, put_element, put_links, if_so}
use Rattle.page_redo.specs.Redo.{at_two, numbered}
use Rattle.page_redo.proofs.ItemLaws.{whole_spelled}
use Rattle.page_redo.proofs.Lengths.{length-element_bytes}
use Rattle.page_redo.proofs.Pairs.{put_pair}
use Rattle.page_redo.proofs.Putting.{with_item_others}
use Rattle.graph_pages.specs.Standing.{links_in, Stands}
use Rattle.page_redo.specs.Growing.{fresh_page}
use Rattle.page_redo.specs.Fitting.{FitsEach}
use Rattle.page_redo.proofs.Given.{then_is, item_bytes}
use Rattle.graph_pages.proofs.KindsApart.{meta_is_no_element, meta_is_no_list}
use Rattle.graph_pages.proofs.HeadEffect.{params_in_range}
use Rattle.graph_pages.proofs.RoleFits.{of_graph_kind, tuple_there, node_there, list_alike}
use Rattle.graph_pages.proofs.MarkFits.{two_first, two_second, two_both, two_offsets, not_touched}

pub so_is : (a b : Bool) (o : Option Content) (d : Content) → a ≡ true → b ≡ true → o ≡ Some d → if_so a (if_so b o) ≡ Some d
so_is a b o d a_is b_is is = rw (a_is, b_is) is

over_is : (o : Option (List ℕ)) (item : List ℕ) (off : ℕ) (go : Bool) (x : List ℕ) (c : Content) → o ≡ Some item → go ≡ true → length item ≡ length x
    → put_over o off go x c ≡ Some (with_item c off x)
over_is o item off go x c is goes long = rw (is, goes, eq-eqb (length item) (length x) long) refl

-- the page of a block that is touched, and what redo makes of it
abbrev pub IsPutAt : List Content → Params → NewNode → ℕ → ℕ → Type 0
IsPutAt pages p n number block =
    (page : Content) × (slice_get pages block ≡ Some page) × (after : Content)
    × (option_map (numbered number) (at_two n.at.block (put_element p n) n.list_at.block (put_links p n) block page) ≡ Some after)

module _ (pages : List Content) (p : Params) (n : NewNode) (number block : ℕ) (e : Element) (l : Links) (x y : List ℕ) (c d : Content)
    (at_c : slice_get pages n.at.block ≡ Some c) (at_d : slice_get pages n.list_at.block ≡ Some d)
    (graph : is_graph p.kind ≡ true) (kind_c : is_graph_page c.kind ≡ true) (kind_d : is_graph_page d.kind ≡ true) (node : is_node p n ≡ true)
    (item : item_at c.items n.at.off ≡ Some x) (list_item : item_at d.items n.list_at.off ≡ Some y)
    (element_is : element_at p c n.at.off ≡ Some e) (list_is : links_at p d n.list_at.off ≡ Some l)
    (long : length x ≡ length (element_bytes (new_element n))) (list_long : length y ≡ length (links_bytes (new_links n)))
    (goes : is_old_element n.version (Some e) ≡ true) (list_goes : are_old_links n.version (Some l) ≡ true) where
  abbrev new_item : List ℕ
  new_item = element_bytes (new_element n)

  abbrev new_list : List ℕ
  new_list = links_bytes (new_links n)

  abbrev put_page : Content
  put_page = with_item c n.at.off new_item

  put_is : put n.at.off (is_old_element n.version (element_at p c n.at.off)) new_item c ≡ Some put_page
  put_is = over_is (item_at c.items n.at.off) x n.at.off (is_old_element n.version (element_at p c n.at.off)) new_item c item (ap (is_old_element n.version) element_is ∙ goes) long

  list_put_is : (b : Content) → item_at b.items n.list_at.off ≡ Some y → (go : Bool) → go ≡ true → put n.list_at.off go new_list b ≡ Some (with_item b n.list_at.off new_list)
  list_put_is b there go is = over_is (item_at b.items n.list_at.off) y n.list_at.off go new_list b there is list_long

  on_graph_c : (is_graph p.kind && is_graph_page c.kind) ≡ true
  on_graph_c = and_from (is_graph p.kind) (is_graph_page c.kind) graph kind_c

  first_is : put_element p n c ≡ Some put_page
  first_is = so_is (is_graph p.kind && is_graph_page c.kind) (is_node p n) (put n.at.off (is_old_element n.version (element_at p c n.at.off)) new_item c) put_page on_graph_c node put_is

  second_is : put_links p n d ≡ Some (with_item d n.list_at.off new_list)
  second_is =
      so_is (is_graph p.kind && is_graph_page d.kind) (is_node p n) (put n.list_at.off (are_old_links n.version (links_at p d n.list_at.off)) new_list d) (with_item d n.list_at.off new_list)
      (and_from (is_graph p.kind) (is_graph_page d.kind) graph kind_d) node
      (list_put_is d list_item (are_old_links n.version (links_at p d n.list_at.off)) (ap (are_old_links n.version) list_is ∙ list_goes))

  on_block : (a : Tid) (page : Content) → (a.block == block) ≡ true → slice_get pages a.block ≡ Some page → slice_get pages block ≡ Some page
  on_block a page is there = ap (slice_get pages) (sym (eqb-true a.block block is)) ∙ there

  both_is : (n.at.block == block) ≡ true → (n.list_at.block == block) ≡ true
      → option_and_then (put_links p n) (put_element p n c) ≡ Some (with_item put_page n.list_at.off new_list)
  both_is is_at is_list =
      let same : d ≡ c = some_is d c (sym (on_block n.list_at d is_list at_d) ∙ on_block n.at c is_at at_c) in
      let list_here : links_at p c n.list_at.off ≡ Some l = ap (λ (z : Content). links_at p z n.list_at.off) (sym same) ∙ list_is in
      let item_here : item_at c.items n.list_at.off ≡ Some y = ap (λ (z : Content). item_at z.items n.list_at.off) (sym same) ∙ list_item in
      let apart = two_offsets p c n.at.off n.list_at.off e l element_is list_here in
      let still : item_at put_page.items n.list_at.off ≡ Some y = with_item_others c n.at.off x new_item n.list_at.off item apart ∙ item_here in
      let go = are_old_links n.version (links_at p c n.list_at.off) in
      put_pair p n c on_graph_c node apart
      ∙ ap (option_and_then (put n.list_at.off go new_list)) put_is
      ∙ list_put_is put_page still go (ap (are_old_links n.version) list_here ∙ list_goes)

  put_at : (a b : Bool) → (n.at.block == block) ≡ a → (n.list_at.block == block) ≡ b → Contains (n.at.block ∷ n.list_at.block ∷ []) block
      → IsPutAt pages p n number block
  put_at true true is_at is_list touches = (
    c,
    on_block n.at c is_at at_c,
    numbered number (with_item put_page n.list_at.off new_list),
    two_both n.at.block n.list_at.block block number (put_element p n) (put_links p n) c (with_item put_page n.list_at.off new_list) is_at is_list (both_is is_at is_list),
  )
  put_at true false is_at is_list touches =
      (c, on_block n.at c is_at at_c, numbered number put_page, two_first n.at.block n.list_at.block block number (put_element p n) (put_links p n) c put_page is_at is_list first_is)
  put_at false true is_at is_list touches = (
    d,
    on_block n.list_at d is_list at_d,
    numbered number (with_item d n.list_at.off new_list),
    two_second n.at.block n.list_at.block block number (put_element p n) (put_links p n) d (with_item d n.list_at.off new_list) is_at is_list second_is,
  )
  put_at false false is_at is_list touches = absurd (not_touched n.at.block n.list_at.block block is_at is_list touches)

module _ (pages : List Content) (g : Graph) (all : All IsPage pages) (s : Stands pages g) where
  put_fits_there : (n : NewNode) (was : Node) → node_at g n.at ≡ Some was → was.list_at ≡ n.list_at → was.deleted ≡ true → was.version ≡ n.version
      → was.level ≡ n.level → length n.bits ≡ s.meta.params.bits → length n.slots ≡ slots_of_level s.meta.params.m n.level
      → FitsEach pages s.meta.params (Put n.at n.list_at n.version n.level n.id n.bits n.slots)
  put_fits_there n was stands listed gone of_version of_level of_bits of_slots wrap number block touches =
      let p = s.meta.params in
      let range = params_in_range pages g s all in
      let node = node_there pages g all s n.at was stands in
      let e = node.0 in
      let l = node.2 in
      let names : e.list_at ≡ n.list_at = ap (λ (n : Node). n.list_at) node.4 ∙ listed in
      let c = tuple_there pages g all s (element p) n.at e (meta_is_no_element p s.meta) node.1 in
      let d = tuple_there pages g all s (links p) n.list_at l (meta_is_no_list p s.meta) (ap (links_in p pages) (sym names) ∙ node.3) in
      let alike = list_alike pages g all s n.at e l node.1 node.3 in
      let x = then_is (λ x. in_whole (element p x)) (item_at c.0.items n.at.off) e c.3 in
      let y = then_is (λ x. in_whole (links p x)) (item_at d.0.items n.list_at.off) l d.3 in
      let spelled = whole_spelled (element_field p range) x.0 e (item_bytes pages n.at.block n.at.off c.0 x.0 all c.1 x.1) x.2 in
      let list_spelled = whole_spelled (links_field p range) y.0 l (item_bytes pages n.list_at.block n.list_at.off d.0 y.0 all d.1 y.1) y.2 in
      let state : e.deleted ≡ true = ap (λ (n : Node). n.deleted) node.4 ∙ gone in
      let found : e.version ≡ n.version = ap (λ (n : Node). n.version) node.4 ∙ of_version in
      let level : e.level ≡ n.level = ap (λ (n : Node). n.level) node.4 ∙ of_level in
      let many : length n.slots ≡ length l.tids = of_slots ∙ ap (slots_of_level p.m) (sym level) ∙ sym alike.2 in
      let long : length x.0 ≡ length (element_bytes (new_element n)) =
      ap (λ (z : List ℕ). length z) spelled.1 ∙ length-element_bytes e ∙ ap (λ count. 80 + (count + 7) / 8) (spelled.0.long ∙ sym of_bits) ∙ sym (length-element_bytes (new_element n)) in
      let list_long : length y.0 ≡ length (links_bytes (new_links n)) =
      ap (λ (z : List ℕ). length z) list_spelled.1 ∙ length-links_bytes l ∙ ap (λ count. 4 + 6 * count) (sym many) ∙ sym (length-links_bytes (new_links n)) in
      let is : is_node p n ≡ true =
      and_from (nat_le 1 n.version) (length n.bits == p.bits && (length n.slots == slots_of_level p.m n.level && nat_le (length n.slots) MOST_SLOTS))
      (le-leb 1 n.version (omega (arith, found, spelled.0.head.version_low)))
      (and_from (length n.bits == p.bits) (length n.slots == slots_of_level p.m n.level && nat_le (length n.slots) MOST_SLOTS) (eq-eqb (length n.bits) p.bits of_bits)
      (and_from (length n.slots == slots_of_level p.m n.level) (nat_le (length n.slots) MOST_SLOTS) (eq-eqb (length n.slots) (slots_of_level p.m n.level) of_slots)
      (le-leb (length n.slots) MOST_SLOTS (omega (arith, many, list_spelled.0.count.0))))) in
      let r = put_at pages p n number block e l x.0 y.0 c.0 d.0 c.1 d.1 (of_graph_kind pages g all s) c.2 d.2 is x.1 y.1 c.3 d.3 long list_long
      (and_from e.deleted (e.version == n.version) state (eq-eqb e.version n.version found))
      (and_from l.deleted (l.version == n.version) (alike.1 ∙ state) (eq-eqb l.version n.version (alike.0 ∙ found)))
      (n.at.block == block) (n.list_at.block == block) refl refl touches in
      let none : max (length pages) (max (n.at.block + 1) (n.list_at.block + 1)) - length pages ≡ 0 =
      omega (arith, slice_get_within pages n.at.block c.0 c.1, slice_get_within pages n.list_at.block d.0 d.1) in
      let same : pages ++ replicate (max (length pages) (max (n.at.block + 1) (n.list_at.block + 1)) - length pages) (fresh_page Hnsw) ≡ pages =
      ap (λ count. pages ++ replicate count (fresh_page Hnsw)) none ∙ append-nil pages in
      (r.0, ap (λ (l : List Content). slice_get l block) same ∙ r.1, r.2, r.3)

  pub put_old_fits : (n : NewNode) (was : Node) → node_at g n.at ≡ Some was → was.list_at ≡ n.list_at → was.deleted ≡ true → was.version ≡ n.version
      → was.level ≡ n.level → length n.bits ≡ g.params.bits → length n.slots ≡ slots_of_level g.params.m n.level
      → FitsEach pages g.params (Put n.at n.list_at n.version n.level n.id n.bits n.slots)
  put_old_fits n was stands listed gone of_version of_level of_bits of_slots =
      subst (λ (p : Params). FitsEach pages p (Put n.at n.list_at n.version n.level n.id n.bits n.slots)) (sym s.params)
      (put_fits_there n was stands listed gone of_version of_level (of_bits ∙ ap (λ (p : Params). p.bits) s.params) (of_slots ∙ ap (λ (p : Params). slots_of_level p.m n.level) s.params))
