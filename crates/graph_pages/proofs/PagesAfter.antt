-- All pages after redo of an event that follows have bytes, and those that it touches carry its number.
use Rattle.std.proofs.Common.{◌≡◌, inl, inr, ℕ, ◌+◌, ◌-◌, ◌^◌, ◌<◌, ◌≤◌, ◌&&◌, List, length, replicate, get_or, Option, Some, None, refl, sym, ap, subst, ◌∙◌, arith}
use Rattle.std.specs.Prelude.{slice_get, Contains}
use Rattle.std.specs.List.{All}
use Rattle.std.specs.Option.{option_map, option_and_then}
use Rattle.std.proofs.lemmas.Bool.{and_parts, eqb-true, cases_eq}
use Rattle.std.proofs.lemmas.List.Elements.{All-append, All-replicate}
use Rattle.std.proofs.lemmas.Option.{slice_get_within, slice_get-get_or}
use Rattle.byte_fields.specs.Levels.{is_level}
use Rattle.byte_fields.proofs.EachField.{some_is}
use Rattle.vec_names.specs.declared.tid.Tid.{Tid}
use Rattle.vec_names.specs.declared.params.Params.{Params}
use Rattle.vec_names.specs.Params.{IsInRange}
use Rattle.vec_history.specs.declared.event.Event.{Event}
use Rattle.vec_history.specs.declared.event.Event.TheVariants.{Put, Join, Link, Relist, Drop, Mark, Entry, Hint, IvfAdd, IvfGrow, IvfDrop, IvfHint, Gate, Ungate, Phase, VacuumEnd, Cancel, Settled, DiskFaulted}
use Rattle.page_bytes.specs.Content.{Content, IsPage, item_at}
use Rattle.vec_tuples.specs.declared.element.Element.{Element}
use Rattle.vec_tuples.specs.declared.links.Links.{Links}
use Rattle.vec_tuples.specs.Spelling.{meta_bytes, element_bytes, links_bytes}
use Rattle.vec_tuples.specs.Reading.{element, links}
use Rattle.vec_tuples.proofs.ElementLaws.{element_field}
use Rattle.vec_tuples.proofs.LinksLaws.{links_field}
use Rattle.vec_tuples.proofs.SlotPlaces.{length-links_bytes}
use Rattle.vec_graph.specs.declared.node.Node.{Node}
use Rattle.vec_graph.specs.declared.graph.Graph.{Graph}
use Rattle.page_redo.specs.PageTuples.{in_whole, with_item, meta_at, meta_changed, is_graph, is_meta_page}
use Rattle.page_redo.specs.PageChanges.{NewNode, new_node, new_element, new_links, put_element, put_links, entered}
use Rattle.page_redo.specs.Redo.{changed, touched, numbered}
use Rattle.page_redo.proofs.ItemLaws.{whole_spelled}
use Rattle.page_redo.proofs.Putting.{with_item_others}
use Rattle.page_redo.proofs.Pairs.{put_not_same}
use Rattle.graph_pages.specs.Standing.{links_in, item_in, Stands}
use Rattle.graph_pages.specs.Effects.{format_in}
use Rattle.page_redo.specs.Growing.{fresh_page, new_kind, blocks_after, extended, AreAllRedone}
use Rattle.graph_pages.specs.Following.{HasList, Follows}
use Rattle.page_redo.proofs.Given.{then_is, map_is, if_is, when_is, item_bytes, got_from_all}
use Rattle.graph_pages.proofs.StandingLaws.{root_is}
use Rattle.graph_pages.proofs.HeadEffect.{params_in_range}
use Rattle.graph_pages.proofs.RoleFits.{node_there, of_graph_kind}
use Rattle.page_redo.proofs.RedoneOnce.{is_in}
use Rattle.page_redo.proofs.FreshBehind.{get_front}
use Rattle.graph_pages.proofs.TwoItems.{none_or_some}
use Rattle.page_redo.proofs.TwoBlocks.{is_first, is_second, two_same, two_first, two_second}
use Rattle.graph_pages.proofs.PutOldEffect.{element_put, list_put, times_cancels, some_m}
use Rattle.graph_pages.proofs.FormatKept.{format_kept}
use Rattle.page_redo.proofs.KeptPages.{with_number, fresh_has_bytes}
use Rattle.graph_pages.proofs.PagesKept.{AreSmall, keeps_page}

-- ---- what redo made of one page

module _ (pages after : List Content) (params : Params) (event : Event) (wrap number : ℕ) (are : AreAllRedone params wrap number event pages after) where
  pub there_still : (block : ℕ) (c : Content) → slice_get pages block ≡ Some c → slice_get (extended event pages) block ≡ Some c
  there_still block c there =
      get_front pages (replicate (blocks_after event (length pages) - length pages) (fresh_page (new_kind event))) block (slice_get_within pages block c there) ∙ there

  pub made_at : (block : ℕ) (c : Content) → Contains (touched event params) block → slice_get (extended event pages) block ≡ Some c
      → (d : Content) × (changed event params wrap block c ≡ Some d) × (slice_get after block ≡ Some (numbered number d))
  made_at block c touches there =
      let inside : block < length after = omega (arith, slice_get_within (extended event pages) block c there, are.count) in
      let got : slice_get after block ≡ Some (get_or after block c) = slice_get-get_or after block c inside in
      let made = map_is (numbered number) (changed event params wrap block c) (get_or after block c) (sym (are.there block c touches there) ∙ got) in
      (made.0, made.1, got ∙ ap (λ (d : Content). Some d) (sym made.2))

  pub numbered_after : (block : ℕ) (d : Content) → Contains (touched event params) block → slice_get after block ≡ Some d → d.number ≡ number
  numbered_after block d touches now =
      let c = get_or (extended event pages) block d in
      let within : block < length (extended event pages) = omega (arith, slice_get_within after block d now, are.count) in
      let made = made_at block c touches (slice_get-get_or (extended event pages) block d within) in
      ap (λ (d : Content). d.number) (sym (some_is (numbered number made.0) d (sym made.2 ∙ now)))

-- ---- a Put at the places of a node: its version and its level have one byte each

module _ (pages after : List Content) (g : Graph) (n : NewNode) (wrap number : ℕ) (all : All IsPage pages) (s : Stands pages g)
    (has : HasList g n.at n.list_at)
    (are : AreAllRedone s.meta.params wrap number (Put n.at n.list_at n.version n.level n.id n.bits n.slots) pages after) where
  abbrev p : Params
  p = s.meta.params

  abbrev put : Event
  put = Put n.at n.list_at n.version n.level n.id n.bits n.slots

  range : IsInRange p
  range = params_in_range pages g s all

  -- the first change, and the second on the page that it leaves or on another one
  small_from : (c m b w : Content) (x u : List ℕ) (e : Element) (l : Links) → slice_get pages n.at.block ≡ Some c
      → item_at c.items n.at.off ≡ Some x → in_whole (element p x) ≡ Some e → put_element p n c ≡ Some m
      → item_in pages n.list_at ≡ Some u → item_at b.items n.list_at.off ≡ Some u → in_whole (links p u) ≡ Some l → put_links p n b ≡ Some w
      → (n.version ≤ 255) × (n.level ≤ 255)
  small_from c m b w x u e l page_is is reads first list_in list_is list_reads second =
      let one = element_put p n c m x e is reads first in
      let two = list_put p n b w u l list_is list_reads second in
      let spelled = whole_spelled (element_field p range) one.item one.e (item_bytes pages n.at.block n.at.off c one.item all page_is one.is) one.reads in
      let page = then_is (λ (c : Content). item_at c.items n.list_at.off) (slice_get pages n.list_at.block) u list_in in
      let same : u ≡ two.item = some_is u two.item (sym list_is ∙ two.is) in
      let list_spelled = whole_spelled (links_field p range) u two.l (item_bytes pages n.list_at.block n.list_at.off page.0 u all page.1 page.2)
      (ap (λ y. in_whole (links p y)) same ∙ two.reads) in
      let a : length u ≡ length (links_bytes two.l) = ap (λ (y : List ℕ). length y) list_spelled.1 in
      let same_long : length u ≡ length two.item = ap (λ (y : List ℕ). length y) same in
      let many : length n.slots ≡ length two.l.tids =
      omega (arith, a, same_long, two.long, length-links_bytes (new_links n), length-links_bytes two.l) in
      let count = list_spelled.0.count in
      let low : 2 ≤ p.m = some_m p.kind p (of_graph_kind pages g all s) range.of_kind in
      let level : n.level + 2 ≡ count.1 + 2 =
      times_cancels (n.level + 2) (count.1 + 2) p.m (omega (arith, low)) (sym one.node.slots ∙ many ∙ count.3) in
      (omega (arith, one.of_version, spelled.0.head.version_high), omega (arith, level, count.2))

  pub small_put : (n.version ≤ 255) × (n.level ≤ 255)
  small_put =
      let node = node_there pages g all s n.at has.node has.stands in
      let e = node.0 in
      let l = node.2 in
      let points : e.list_at ≡ n.list_at = ap (λ (m : Node). m.list_at) node.4 ∙ has.listed in
      let x = then_is (λ x. in_whole (element p x)) (item_in pages n.at) e node.1 in
      let c = then_is (λ (c : Content). item_at c.items n.at.off) (slice_get pages n.at.block) x.0 x.1 in
      let u = then_is (λ x. in_whole (links p x)) (item_in pages n.list_at) l (ap (links_in p pages) (sym points) ∙ node.3) in
      let b = then_is (λ (c : Content). item_at c.items n.list_at.off) (slice_get pages n.list_at.block) u.0 u.1 in
      let made = made_at pages after p put wrap number are n.at.block c.0 (is_first n.at.block n.list_at.block)
      (there_still pages after p put wrap number are n.at.block c.0 c.1) in
      elim (cases_eq n.at.block n.list_at.block) as (λ _. (n.version ≤ 255) × (n.level ≤ 255)) [
        | inl same ↦
            let both : option_and_then (put_links p n) (put_element p n c.0) ≡ Some made.0 =
            sym (two_same n.at.block n.list_at.block n.at.block (put_element p n) (put_links p n) c.0 refl (sym same)) ∙ made.1 in
            let pair = then_is (put_links p n) (put_element p n c.0) made.0 both in
            let offsets_apart : n.at.off ≡ n.list_at.off → ⊥ = λ f. none_or_some made.0 (sym (put_not_same p n c.0 f) ∙ both) in
            let one = element_put p n c.0 pair.0 x.0 e c.2 x.2 pair.1 in
            let one_page : b.0 ≡ c.0 = some_is b.0 c.0 (sym b.1 ∙ ap (slice_get pages) (sym same) ∙ c.1) in
            let still : item_at pair.0.items n.list_at.off ≡ Some u.0 =
            ap (λ (d : Content). item_at d.items n.list_at.off) (sym one.made)
            ∙ with_item_others c.0 n.at.off x.0 (element_bytes (new_element n)) n.list_at.off c.2 offsets_apart
            ∙ ap (λ (d : Content). item_at d.items n.list_at.off) (sym one_page) ∙ b.2 in
            small_from c.0 pair.0 pair.0 made.0 x.0 u.0 e l c.1 c.2 x.2 pair.1 u.1 still u.2 pair.2
        | inr other ↦
            let list_made = made_at pages after p put wrap number are n.list_at.block b.0 (is_second n.at.block n.list_at.block)
            (there_still pages after p put wrap number are n.list_at.block b.0 b.1) in
            let first = sym (two_first n.at.block n.list_at.block n.at.block (put_element p n) (put_links p n) c.0 refl (λ f. other (sym f))) ∙ made.1 in
            let second = sym (two_second n.at.block n.list_at.block n.list_at.block (put_element p n) (put_links p n) b.0 other refl) ∙ list_made.1 in
            small_from c.0 made.0 b.0 list_made.0 x.0 u.0 e l c.1 c.2 x.2 first u.1 b.2 u.2 second
      ]

-- ---- all pages

module _ (pages after : List Content) (g : Graph) (wrap number : ℕ) (all : All IsPage pages) (s : Stands pages g) where
  abbrev its : Params
  its = s.meta.params

  in_its : IsInRange its
  in_its = params_in_range pages g s all

  low_level : (to : Option Tid) (level : ℕ) → Follows pages g (Entry to level) → AreAllRedone its wrap number (Entry to level) pages after → level ≤ 255
  low_level (Some at) level follows are =
      let has = follows at refl in
      let node = node_there pages g all s at has.node has.stands in
      let x = then_is (λ x. in_whole (element its x)) (item_in pages at) node.0 node.1 in
      let c = then_is (λ (c : Content). item_at c.items at.off) (slice_get pages at.block) x.0 x.1 in
      let spelled = whole_spelled (element_field its in_its) x.0 node.0 (item_bytes pages at.block at.off c.0 x.0 all c.1 c.2) x.2 in
      let same : node.0.level ≡ level = ap (λ (m : Node). m.level) node.4 ∙ has.of_level in
      omega (arith, same, spelled.0.head.level)
  low_level None level follows are =
      let r = root_is pages s.meta s.read in
      let made = made_at pages after its (Entry None level) wrap number are 0 r.page (0, omega arith, refl)
      (there_still pages after its (Entry None level) wrap number are 0 r.page r.there) in
      let on = if_is (is_meta_page r.page.kind) (meta_changed (entered None level) r.page) made.0 made.1 in
      let m = then_is (λ m. option_map (λ changed. with_item r.page 1 (meta_bytes changed)) (entered None level m)) (meta_at r.page) made.0 on.1 in
      let k = map_is (λ changed. with_item r.page 1 (meta_bytes changed)) (entered None level m.0) made.0 m.2 in
      let w = when_is (is_graph m.0.params.kind && is_level None level) (record m.0 { entry = None; level = level }) k.0 k.1 in
      let zero_is : level ≡ 0 = eqb-true level 0 (and_parts (is_graph m.0.params.kind) (is_level None level) w.0).1 in
      omega (arith, zero_is)

  small : (event : Event) → Follows pages g event → AreAllRedone its wrap number event pages after → AreSmall event
  small (Put at list_at version level id bits lists) (inl has, below) are =
      small_put pages after g (new_node at list_at version level id bits lists) wrap number all s has are
  small (Put at list_at version level id bits lists) (inr places, below) are = (places.version_high, places.level_high)
  small (Join at version id) follows are = tt
  small (Link at list_at version slot to) follows are = tt
  small (Relist at list_at version lists) follows are = tt
  small (Drop at version gone) follows are = tt
  small (Mark at list_at version) follows are = tt
  small (Entry to level) follows are = low_level to level follows are
  small (Hint hint) follows are = tt
  small (IvfAdd to id bits) follows are = absurd follows
  small (IvfGrow list last new id bits) follows are = absurd follows
  small (IvfDrop of gone) follows are = absurd follows
  small (IvfHint list aim) follows are = absurd follows
  small (Gate gate hold) follows are = absurd follows
  small (Ungate gate) follows are = absurd follows
  small (Phase stage) follows are = absurd follows
  small VacuumEnd follows are = absurd follows
  small (Cancel stage) follows are = absurd follows
  small (Settled upto) follows are = absurd follows
  small (DiskFaulted count) follows are = absurd follows

  module _ (event : Event) (follows : Follows pages g event) (are : AreAllRedone g.params wrap number event pages after) where
    here : AreAllRedone its wrap number event pages after
    here = subst (λ (q : Params). AreAllRedone q wrap number event pages after) s.params are

    before : All IsPage (extended event pages)
    before =
        let count = blocks_after event (length pages) - length pages in
        All-append IsPage pages (replicate count (fresh_page (new_kind event))) all
        (All-replicate IsPage count (fresh_page (new_kind event)) (fresh_has_bytes (new_kind event)))

    at_block : number < 2 ^ 64 → (block : ℕ) (c d : Content) → slice_get (extended event pages) block ≡ Some c → slice_get after block ≡ Some d → IsPage d
    at_block low block c d there now = elim (is_in (touched event its) block) as (λ _. IsPage d) [
      | inl touches ↦
          let made = made_at pages after its event wrap number here block c touches there in
          let d_is : numbered number made.0 ≡ d = some_is (numbered number made.0) d (sym made.2 ∙ now) in
          let page = got_from_all IsPage (extended event pages) block c before there in
          subst IsPage d_is (with_number number made.0 low
          (keeps_page its in_its wrap block event (small event follows here) c made.0 page made.1))
      | inr apart ↦
          let d_is : c ≡ d = some_is c d (sym there ∙ sym (here.elsewhere block apart) ∙ now) in
          subst IsPage d_is (got_from_all IsPage (extended event pages) block c before there)
    ]

    pub pages_after : number < 2 ^ 64 → All IsPage after
    pages_after low block d h =
        let within : block < length (extended event pages) = omega (arith, h, here.count) in
        at_block low block (get_or (extended event pages) block d) (get_or after block d)
        (slice_get-get_or (extended event pages) block d within) (slice_get-get_or after block d h)

    pub format_after : format_in after ≡ format_in pages
    format_after = format_kept pages after g event wrap number all s (λ to level is. subst AreSmall is (small event follows here)) are
