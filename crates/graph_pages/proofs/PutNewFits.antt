-- That a new node fits the pages of two new places, which may be one page, where these have room.
use Rattle.std.proofs.Common.{◌≡◌, ℕ, suc, ◌+◌, ◌-◌, ◌≤◌, ◌&&◌, ◌==◌, max, Bool, true, false, cond, List, [], ◌∷◌, ◌++◌, length, replicate, Some, None, refl, sym, ap, ◌∙◌, arith}
use Rattle.std.specs.Prelude.{slice_get, All, Contains, nat_le}
use Rattle.std.specs.Option.{option_and_then}
use Rattle.std.proofs.lemmas.Bool.{and_from, eq-eqb, eqb-true, le-leb}
use Rattle.std.proofs.lemmas.Option.{slice_get_past}
use Rattle.index_sizes.specs.Sizes.{slots_of_level, item_need, element_size, links_size}
use Rattle.index_sizes.specs.declared.limits.TheConstants.{MOST_SLOTS}
use Rattle.byte_fields.proofs.EachField.{some_is}
use Rattle.vec_names.specs.declared.tid.Tid.{Tid}
use Rattle.vec_names.specs.declared.params.Params.{Params}
use Rattle.vec_history.specs.declared.event.Event.TheVariants.{Put}
use Rattle.page_bytes.specs.declared.kind.PageKind.TheVariants.{Hnsw}
use Rattle.page_bytes.specs.Content.{Content, IsPage, item_at, round8, free_of}
use Rattle.vec_tuples.specs.Spelling.{element_bytes, links_bytes}
use Rattle.vec_tuples.proofs.SlotPlaces.{length-links_bytes}
use Rattle.vec_graph.specs.declared.graph.Graph.{Graph}
use Rattle.page_redo.specs.PageTuples.{element_at, links_at, is_graph, is_graph_page}
use Rattle.page_redo.specs.PageChanges.{NewNode, is_node, new_element, new_links, is_old_element, are_old_links, put_over, put, put_element, put_links}
use Rattle.page_redo.specs.Redo.{numbered}
use Rattle.page_redo.proofs.Lengths.{length-element_bytes}
use Rattle.page_redo.proofs.Pairs.{put_pair}
use Rattle.page_redo.proofs.Putting.{IsPut, put_behind}
use Rattle.graph_pages.specs.Standing.{Stands}
use Rattle.page_redo.specs.Growing.{fresh_page}
use Rattle.page_redo.specs.Fitting.{FitsEach}
use Rattle.graph_pages.specs.Fitting.{AreNextPlaces}
use Rattle.graph_pages.proofs.StandingLaws.{node_pages}
use Rattle.graph_pages.proofs.RoleFits.{of_graph_kind}
use Rattle.graph_pages.proofs.FreshPages.{fresh_stands}
use Rattle.graph_pages.proofs.MarkFits.{two_first, two_second, two_both, not_touched}
use Rattle.graph_pages.proofs.PutOldFits.{IsPutAt, so_is}
use Rattle.graph_pages.proofs.ItemAdded.{with_more}

-- ---- one item

need_is : (n : ℕ) → round8 n + 4 ≡ item_need n
unfolding round8
need_is n = refl

over_none : (off : ℕ) (go : Bool) (x : List ℕ) (c : Content) → (off == length c.items + 1) ≡ true → nat_le (round8 (length x) + 4) (free_of c) ≡ true
    → put_over None off go x c ≡ Some (with_more c x)
over_none off go x c next room = rw (next, room) refl

-- an item goes behind the last one, where it has room
put_next : (off : ℕ) (go : Bool) (x : List ℕ) (c : Content) → off ≡ suc (length c.items) → round8 (length x) + 4 ≤ free_of c
    → put off go x c ≡ Some (with_more c x)
put_next off go x c next room =
    let none : item_at c.items off ≡ None = ap (item_at c.items) next ∙ slice_get_past c.items (length c.items) (omega arith) in
    ap (λ o. put_over o off go x c) none
    ∙ over_none off go x c (eq-eqb off (length c.items + 1) (omega (arith, next))) (le-leb (round8 (length x) + 4) (free_of c) room)

-- ---- the two of them

module _ (pages : List Content) (p : Params) (n : NewNode) (number block : ℕ) (c d : Content)
    (at_c : slice_get pages n.at.block ≡ Some c) (at_d : slice_get pages n.list_at.block ≡ Some d)
    (graph : is_graph p.kind ≡ true) (kind_c : is_graph_page c.kind ≡ true) (kind_d : is_graph_page d.kind ≡ true) (node : is_node p n ≡ true)
    (next : n.at.off ≡ suc (length c.items)) (room : item_need (element_size (length n.bits)) ≤ free_of c)
    (list_next : (n.at.block == n.list_at.block) ≡ false → n.list_at.off ≡ suc (length d.items))
    (list_room : (n.at.block == n.list_at.block) ≡ false → item_need (links_size (length n.slots)) ≤ free_of d)
    (next_both : (n.at.block == n.list_at.block) ≡ true → n.list_at.off ≡ suc (suc (length d.items)))
    (room_both : (n.at.block == n.list_at.block) ≡ true
    → item_need (element_size (length n.bits)) + item_need (links_size (length n.slots)) ≤ free_of d) where
  abbrev new_item : List ℕ
  new_item = element_bytes (new_element n)

  abbrev new_list : List ℕ
  new_list = links_bytes (new_links n)

  abbrev put_page : Content
  put_page = with_more c new_item

  item_takes : round8 (length new_item) + 4 ≡ item_need (element_size (length n.bits))
  item_takes = need_is (length new_item) ∙ ap item_need (length-element_bytes (new_element n))

  list_takes : round8 (length new_list) + 4 ≡ item_need (links_size (length n.slots))
  list_takes = need_is (length new_list) ∙ ap item_need (length-links_bytes (new_links n))

  on_graph_c : (is_graph p.kind && is_graph_page c.kind) ≡ true
  on_graph_c = and_from (is_graph p.kind) (is_graph_page c.kind) graph kind_c

  on_graph_d : (is_graph p.kind && is_graph_page d.kind) ≡ true
  on_graph_d = and_from (is_graph p.kind) (is_graph_page d.kind) graph kind_d

  put_is : put n.at.off (is_old_element n.version (element_at p c n.at.off)) new_item c ≡ Some put_page
  put_is = put_next n.at.off (is_old_element n.version (element_at p c n.at.off)) new_item c next (omega (arith, item_takes, room))

  first_is : put_element p n c ≡ Some put_page
  first_is = so_is (is_graph p.kind && is_graph_page c.kind) (is_node p n) (put n.at.off (is_old_element n.version (element_at p c n.at.off)) new_item c) put_page
      on_graph_c node put_is

  second_is : (n.at.block == n.list_at.block) ≡ false → put_links p n d ≡ Some (with_more d new_list)
  second_is other =
      let go = are_old_links n.version (links_at p d n.list_at.off) in
      so_is (is_graph p.kind && is_graph_page d.kind) (is_node p n) (put n.list_at.off go new_list d) (with_more d new_list) on_graph_d node
      (put_next n.list_at.off go new_list d (list_next other) (omega (arith, list_takes, list_room other)))

  on_block : (a : Tid) (page : Content) → (a.block == block) ≡ true → slice_get pages a.block ≡ Some page → slice_get pages block ≡ Some page
  on_block a page is there = ap (slice_get pages) (sym (eqb-true a.block block is)) ∙ there

  one_block : (n.at.block == block) ≡ true → (n.list_at.block == block) ≡ true → (n.at.block == n.list_at.block) ≡ true
  one_block is_at is_list = eq-eqb n.at.block n.list_at.block (eqb-true n.at.block block is_at ∙ sym (eqb-true n.list_at.block block is_list))

  both_is : (n.at.block == block) ≡ true → (n.list_at.block == block) ≡ true
      → option_and_then (put_links p n) (put_element p n c) ≡ Some (with_more put_page new_list)
  both_is is_at is_list =
      let one = one_block is_at is_list in
      let same : d ≡ c = some_is d c (sym (on_block n.list_at d is_list at_d) ∙ on_block n.at c is_at at_c) in
      let many : length d.items ≡ length c.items = ap (λ (z : Content). length z.items) same in
      let free : free_of d ≡ free_of c = ap free_of same in
      let apart : n.at.off ≡ n.list_at.off → ⊥ = λ e. absurd (omega (arith, e, next, next_both one, many)) in
      let go = are_old_links n.version (links_at p c n.list_at.off) in
      let made : IsPut n.at.off new_item 1 (round8 (length new_item) + 4) c put_page = put_behind c put_page n.at.off new_item next refl in
      put_pair p n c on_graph_c node apart
      ∙ ap (option_and_then (put n.list_at.off go new_list)) put_is
      ∙ put_next n.list_at.off go new_list put_page (omega (arith, next_both one, many, made.count))
      (omega (arith, item_takes, list_takes, room_both one, free, made.free))

  put_new_at : (a b : Bool) → (n.at.block == block) ≡ a → (n.list_at.block == block) ≡ b → Contains (n.at.block ∷ n.list_at.block ∷ []) block
      → IsPutAt pages p n number block
  put_new_at true true is_at is_list touches = (
    c,
    on_block n.at c is_at at_c,
    numbered number (with_more put_page new_list),
    two_both n.at.block n.list_at.block block number (put_element p n) (put_links p n) c (with_more put_page new_list) is_at is_list (both_is is_at is_list),
  )
  put_new_at true false is_at is_list touches =
      (c, on_block n.at c is_at at_c, numbered number put_page, two_first n.at.block n.list_at.block block number (put_element p n) (put_links p n) c put_page is_at is_list first_is)
  put_new_at false true is_at is_list touches = (
    d,
    on_block n.list_at d is_list at_d,
    numbered number (with_more d new_list),
    two_second n.at.block n.list_at.block block number (put_element p n) (put_links p n) d (with_more d new_list) is_at is_list
        (second_is (ap (λ (b : ℕ). n.at.block == b) (eqb-true n.list_at.block block is_list) ∙ is_at)),
  )
  put_new_at false false is_at is_list touches = absurd (not_touched n.at.block n.list_at.block block is_at is_list touches)

is_new_node : (p : Params) (n : NewNode) → 1 ≤ n.version → length n.bits ≡ p.bits → length n.slots ≡ slots_of_level p.m n.level
    → length n.slots ≤ MOST_SLOTS → is_node p n ≡ true
is_new_node p n version bits slots few =
    and_from (nat_le 1 n.version) (length n.bits == p.bits && (length n.slots == slots_of_level p.m n.level && nat_le (length n.slots) MOST_SLOTS))
    (le-leb 1 n.version version)
    (and_from (length n.bits == p.bits) (length n.slots == slots_of_level p.m n.level && nat_le (length n.slots) MOST_SLOTS)
    (eq-eqb (length n.bits) p.bits bits)
    (and_from (length n.slots == slots_of_level p.m n.level) (nat_le (length n.slots) MOST_SLOTS)
    (eq-eqb (length n.slots) (slots_of_level p.m n.level) slots) (le-leb (length n.slots) MOST_SLOTS few)))

-- what is said of a place by whether the two are on one page
module _ (off count need used free : ℕ) where
  next_alone : (same : Bool) → off ≡ count + cond same 1 0 + 1 → same ≡ false → off ≡ suc count
  next_alone true next is = absurd cc
  next_alone false next is = omega (arith, next)

  next_other : (same : Bool) → off ≡ count + cond same 1 0 + 1 → same ≡ true → off ≡ suc (suc count)
  next_other true next is = omega (arith, next)
  next_other false next is = absurd cc

  room_alone : (same : Bool) → cond same used 0 + need ≤ free → same ≡ false → need ≤ free
  room_alone true room is = absurd cc
  room_alone false room is = omega (arith, room)

  room_other : (same : Bool) → cond same used 0 + need ≤ free → same ≡ true → used + need ≤ free
  room_other true room is = room
  room_other false room is = absurd cc

module _ (pages : List Content) (g : Graph) (all : All IsPage pages) (s : Stands pages g) (n : NewNode) where
  abbrev count : ℕ
  count = max (length pages) (max (n.at.block + 1) (n.list_at.block + 1)) - length pages

  abbrev grown : List Content
  grown = pages ++ replicate count (fresh_page Hnsw)

  kind_is : (block : ℕ) (c : Content) → 1 ≤ block → slice_get grown block ≡ Some c → is_graph_page c.kind ≡ true
  kind_is block c low there = (node_pages grown (record g { blocks = g.blocks + count }) (fresh_stands pages g count s) block low).kind c there

  pub put_new_fits : 1 ≤ n.at.block → 1 ≤ n.list_at.block → 1 ≤ n.version → length n.bits ≡ g.params.bits
      → length n.slots ≡ slots_of_level g.params.m n.level → length n.slots ≤ MOST_SLOTS
      → AreNextPlaces grown n.at n.list_at (length n.bits) (length n.slots)
      → FitsEach pages g.params (Put n.at n.list_at n.version n.level n.id n.bits n.slots)
  put_new_fits low list_low version bits slots few (here, there) wrap number block touches =
      let p = g.params in
      let c = here.0 in
      let d = there.0 in
      let same = n.at.block == n.list_at.block in
      let graph : is_graph p.kind ≡ true = ap (λ (p : Params). is_graph p.kind) s.params ∙ of_graph_kind pages g all s in
      let takes = item_need (element_size (length n.bits)) in
      let needs = item_need (links_size (length n.slots)) in
      put_new_at grown p n number block c d here.1 there.1 graph (kind_is n.at.block c low here.1) (kind_is n.list_at.block d list_low there.1)
      (is_new_node p n version bits slots few) (omega (arith, here.2)) (omega (arith, here.3))
      (next_alone n.list_at.off (length d.items) needs takes (free_of d) same there.2) (room_alone n.list_at.off (length d.items) needs takes (free_of d) same there.3)
      (next_other n.list_at.off (length d.items) needs takes (free_of d) same there.2) (room_other n.list_at.off (length d.items) needs takes (free_of d) same there.3)
      (n.at.block == block) (n.list_at.block == block) refl refl touches
