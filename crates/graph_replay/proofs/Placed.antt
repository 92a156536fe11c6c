-- A new node at the place that the graph gives follows on the pages, and fits them.
use Rattle.std.proofs.Common.{◌≡◌, inl, inr, ℕ, ◌+◌, ◌-◌, ◌*◌, ◌/◌, ◌<◌, ◌≤◌, ◌==◌, ◌&&◌, Bool, true, false, cond, List, find, length, replicate, get_or, Option, Some, None, refl, sym, ap, ◌∙◌, arith}
use Rattle.std.specs.Prelude.{slice_get, nat_le, nat_lt}
use Rattle.std.specs.List.{All}
use Rattle.std.specs.Option.{option_or}
use Rattle.std.specs.FinMap as fin
use Rattle.std.proofs.Math.Nat.{div-mul-le_self, mul-le-mul_right}
use Rattle.std.proofs.lemmas.Nat.{le-div}
use Rattle.std.proofs.lemmas.Bool.{and_parts, eqb-true, eq-eqb, ne_eqb, leb-true, ltb-true}
use Rattle.std.proofs.lemmas.Option.{slice_get-get_or, slice_get_past, same_Some, none-some}
use Rattle.index_sizes.specs.declared.limits.TheConstants.{MOST_BLOCKS, MOST_SLOTS}
use Rattle.index_sizes.specs.Sizes.{item_need, element_size, links_size, slots_of_level}
use Rattle.vec_names.specs.declared.tid.Tid.{Tid}
use Rattle.vec_names.specs.declared.heap_id.HeapId.{HeapId}
use Rattle.vec_names.specs.declared.params.Kind.{Kind}
use Rattle.vec_names.specs.declared.params.Kind.TheVariants.{Hnsw, Ivf}
use Rattle.vec_names.specs.declared.params.Params.{Params}
use Rattle.vec_names.specs.Params.{IsInRangeOf}
use Rattle.vec_names.specs.Levels.{most_level}
use Rattle.vec_names.specs.Order.{tid_cmp, tid_cmp_total}
use Rattle.vec_names.specs.Places.{tid_of}
use Rattle.vec_names.proofs.PlaceLaws.{tid_of-numbers}
use Rattle.vec_history.specs.declared.event.Event.{Event}
use Rattle.vec_history.specs.declared.event.Event.TheVariants.{Put}
use Rattle.page_bytes.specs.declared.kind.PageKind.TheVariants.{Hnsw as HnswPage}
use Rattle.page_bytes.specs.Content.{Content, IsPage, free_of, item_at}
use Rattle.vec_graph.specs.declared.place.Place.{Place}
use Rattle.vec_graph.specs.declared.node.Node.{Node}
use Rattle.vec_graph.specs.declared.graph.Graph.{Graph}
use Rattle.vec_graph.specs.Graph.{node_at}
use Rattle.vec_graph.specs.Places.{one_if, element_need, list_need, room, next_off, fresh_place, fresh_at, fits_one_page, is_reusable, reused, together_on, apart_on, fresh_on, new_place}
use Rattle.vec_graph.specs.Rules.{IsPlaced}
use Rattle.vec_graph.proofs.Placing.{stands_there, passes_there}
use Rattle.page_redo.specs.PageChanges.{new_node}
use Rattle.graph_pages.specs.Standing.{item_in, Stands}
use Rattle.page_redo.specs.Growing.{fresh_page, blocks_after, extended}
use Rattle.page_redo.specs.Fitting.{FitsEach}
use Rattle.graph_pages.specs.Fitting.{IsNextPlace}
use Rattle.graph_pages.specs.Following.{AreBelow, AreNextBlocks, Follows}
use Rattle.page_redo.proofs.Given.{then_is, if_is}
use Rattle.graph_pages.proofs.PagePlaces.{item_within}
use Rattle.page_redo.proofs.FreshBehind.{get_front}
use Rattle.graph_pages.proofs.StandingShape.{in_range, of_kind}
use Rattle.graph_pages.proofs.PutOldFits.{put_old_fits}
use Rattle.graph_pages.proofs.PutNewFits.{put_new_fits}
use Rattle.graph_pages.proofs.PutFreshFits.{put_fresh_fits}
use Rattle.graph_pages.proofs.PageRoom.{room_is, next_is}
use Rattle.graph_pages.proofs.PageShape.{shaped}

-- ---- numbers

-- a level that is none above the highest has slots that fit a tuple
pub slots_fit : (m level : ℕ) → 2 ≤ m → m ≤ 100 → level ≤ most_level m → (level + 2) * m ≤ MOST_SLOTS
slots_fit m level low high is =
    let some : 2 ≤ MOST_SLOTS / m = le-div 2 MOST_SLOTS m (omega (arith, low)) (omega (arith, high)) in
    let less : level + 2 ≤ MOST_SLOTS / m = omega (arith, is, some) in
    let back : MOST_SLOTS / m * m ≤ MOST_SLOTS = div-mul-le_self MOST_SLOTS m in
    let more : (level + 2) * m ≤ MOST_SLOTS / m * m = mul-le-mul_right m less in
    omega (arith, back, more)

pub m_low : (k : Kind) (p : Params) → k ≡ Hnsw → IsInRangeOf k p → (2 ≤ p.m) × (p.m ≤ 100)
m_low Hnsw p is range = (range.m_low, range.m_high)
m_low Ivf p is range = absurd cc

-- a fresh place: its numbers, and its version
record IsFreshAt (block off list_block list_off : ℕ) (at list_at : Tid) (version : ℕ) : Type 0 where
  block_is : at.block ≡ block
  off_is : at.off ≡ off
  list_block_is : list_at.block ≡ list_block
  list_off_is : list_at.off ≡ list_off
  version_is : version ≡ 1

parts_of : (o l : Option Tid) (s : Place) → fresh_place o l ≡ Some s → (o ≡ Some s.at) × (l ≡ Some s.list_at) × (s.version ≡ 1)
parts_of (Some at) (Some list_at) s e =
    let same = same_Some _ s e in
    (ap (λ (t : Place). Some t.at) same, ap (λ (t : Place). Some t.list_at) same, sym (ap (λ (t : Place). t.version) same))
parts_of (Some at) None s e = absurd (none-some s e)
parts_of None l s e = absurd (none-some s e)

fresh_is : (block off list_block list_off : ℕ) (at list_at : Tid) (version : ℕ)
    → fresh_at block off list_block list_off ≡ Some (record { at = at; list_at = list_at; version = version })
    → IsFreshAt block off list_block list_off at list_at version
fresh_is block off list_block list_off at list_at version e =
    let s : Place = record { at = at; list_at = list_at; version = version } in
    let both = parts_of (tid_of block off) (tid_of list_block list_off) s e in
    let one = tid_of-numbers block off at both.0 in
    let two = tid_of-numbers list_block list_off list_at both.1 in
    record { block_is = one.0; off_is = one.1; list_block_is = two.0; list_off_is = two.1; version_is = both.2 }

-- ---- pages that stand for a graph

module _ (pages : List Content) (g : Graph) (few : length pages ≤ MOST_BLOCKS) (all : All IsPage pages) (s : Stands pages g) where
  -- no item stands behind the last one of a page, nor where there is no page
  no_item : (t : Tid) → ((c : Content) → slice_get pages t.block ≡ Some c → length c.items < t.off) → item_in pages t ≡ None
  no_item t past = by_item (item_in pages t) refl
    where
      by_item : (o : Option (List ℕ)) → item_in pages t ≡ o → item_in pages t ≡ None
      by_item None is = is
      by_item (Some x) is =
          let c = then_is (λ (c : Content). item_at c.items t.off) (slice_get pages t.block) x is in
          absurd (omega (arith, past c.0 c.1, item_within pages c.0 t t.block x c.1 refl is))

  page_at : (b : ℕ) → b < length pages → (c : Content) × (slice_get pages b ≡ Some c)
  page_at b within = (get_or pages b (fresh_page HnswPage), slice_get-get_or pages b (fresh_page HnswPage) within)

  module _ (at list_at : Tid) (version level : ℕ) (id : HeapId) (bits : List Bool) (lists : List (Option Tid))
      (as_long : length bits ≡ g.params.bits) (not_high : level ≤ most_level g.params.m) (as_many : length lists ≡ slots_of_level g.params.m level)
      (below : AreBelow g.blocks lists) where
    abbrev put : Event
    put = Put at list_at version level id bits lists

    abbrev spot : Place
    spot = record { at = at; list_at = list_at; version = version }

    abbrev grown : List Content
    grown = extended put pages

    pub few_slots : length lists ≤ MOST_SLOTS
    few_slots =
        let m = m_low g.params.kind g.params (of_kind pages g all s) (in_range pages g all s).of_kind in
        omega (arith, as_many, slots_fit g.params.m level m.0 m.1 not_high)

    below_after : AreBelow (blocks_after put (length pages)) lists
    below_after slot to is = omega (arith, below slot to is, s.blocks)

    still_there : (b : ℕ) (c : Content) → b < length pages → slice_get pages b ≡ Some c → slice_get grown b ≡ Some c
    still_there b c within there =
        get_front pages (replicate (blocks_after put (length pages) - length pages) (fresh_page HnswPage)) b within ∙ there

    abbrev Taken : Type 0
    Taken = Follows pages g put × FitsEach pages g.params put × (1 ≤ version)

    -- the places of a deleted node
    anew : (n : Node) → node_at g at ≡ Some n → n.deleted ≡ true → n.level ≡ level → n.list_at ≡ list_at → n.version ≡ version → Taken
    anew n stands gone of_level listed of_version =
        let some = ((shaped pages g few all s).nodes at n stands).version_from_1 in (
          (inl (record { node = n; stands = stands; listed = listed }), below_after),
          put_old_fits pages g all s (new_node at list_at version level id bits lists) n stands listed gone of_version of_level as_long as_many,
          omega (arith, some, of_version),
        )

    -- the next places of pages that have room
    next_places : (c d : Content) → 1 ≤ at.block → at.block < length pages → 1 ≤ list_at.block → list_at.block < length pages → version ≡ 1
        → slice_get pages at.block ≡ Some c → slice_get pages list_at.block ≡ Some d
        → at.off ≡ length c.items + 1 → list_at.off ≡ length d.items + one_if (at.block == list_at.block) 1 + 1
        → element_need g ≤ free_of c
        → one_if (at.block == list_at.block) (element_need g) + list_need g level ≤ free_of d → Taken
    next_places c d low within list_low list_within first there list_there off list_off room list_room =
        let element_takes : item_need (element_size (length bits)) ≡ element_need g = ap (λ n. item_need (element_size n)) as_long in
        let list_takes : item_need (links_size (length lists)) ≡ list_need g level = ap (λ n. item_need (links_size n)) as_many in
        let same = at.block == list_at.block in
        let used : one_if same (item_need (element_size (length bits))) ≡ one_if same (element_need g) = ap (one_if same) element_takes in
        let here : IsNextPlace grown at 0 0 (element_size (length bits)) =
        (c, still_there at.block c within there, omega (arith, off), omega (arith, room, element_takes)) in
        let list_here : IsNextPlace grown list_at (one_if same 1) (one_if same (item_need (element_size (length bits)))) (links_size (length lists)) =
        (d, still_there list_at.block d list_within list_there, list_off, omega (arith, list_room, list_takes, used)) in
        let none : item_in pages at ≡ None = no_item at (λ e is. let one = same_Some c e (sym there ∙ is) in
        let long = ap (λ (e : Content). length e.items) one in omega (arith, off, long)) in
        let list_none : item_in pages list_at ≡ None = no_item list_at (λ e is. let one = same_Some d e (sym list_there ∙ is) in
        let long = ap (λ (e : Content). length e.items) one in omega (arith, list_off, long)) in
        let high : level ≤ 255 = omega (arith, not_high) in (
          (
            inr (record { none = none; no_list = list_none; next = inl (omega (arith, within, list_within)); version_high = omega (arith, first); level_high = high }),
            below_after,
          ),
          put_new_fits pages g all s (new_node at list_at version level id bits lists) low list_low (omega (arith, first)) as_long as_many few_slots (here, list_here),
          omega (arith, first),
        )

    together : 1 ≤ at.block → at.block < g.blocks → (b : ℕ) → b ≡ at.block → together_on g b level ≡ Some spot → Taken
    together low high b here is =
        let on = if_is (nat_le (element_need g + list_need g level) (room g b)) (fresh_at b (next_off g b) b (next_off g b + 1)) spot is in
        let f = fresh_is b (next_off g b) b (next_off g b + 1) at list_at version on.1 in
        let within : b < length pages = omega (arith, here, high, s.blocks) in
        let c = page_at b within in
        let enough = leb-true (element_need g + list_need g level) (room g b) on.0 in
        let room_of = room_is pages g few all s b c.0 (omega (arith, here, low)) c.1 in
        let next_of = next_is pages g few all s b c.0 (omega (arith, here, low)) c.1 in
        let same : (at.block == list_at.block) ≡ true = eq-eqb at.block list_at.block (sym here ∙ sym f.list_block_is) in
        let one : one_if (at.block == list_at.block) 1 ≡ 1 = ap (λ (t : Bool). one_if t 1) same in
        let used : one_if (at.block == list_at.block) (element_need g) ≡ element_need g = ap (λ (t : Bool). one_if t (element_need g)) same in
        next_places c.0 c.0 low (omega (arith, here, within)) (omega (arith, f.list_block_is, here, low)) (omega (arith, f.list_block_is, within)) f.version_is
        (ap (slice_get pages) (sym here) ∙ c.1) (ap (slice_get pages) f.list_block_is ∙ c.1)
        (f.off_is ∙ next_of) (omega (arith, f.list_off_is, next_of, one)) (omega (arith, enough, room_of)) (omega (arith, enough, room_of, used))

    apart : 1 ≤ at.block → at.block < g.blocks → (b : ℕ) → b ≡ at.block → apart_on g b level ≡ Some spot → Taken
    apart low high b here is =
        let test = nat_lt (b + 1) g.blocks && (nat_le (element_need g) (room g b) && nat_le (list_need g level) (room g (b + 1))) in
        let on = if_is test (fresh_at b (next_off g b) (b + 1) (next_off g (b + 1))) spot is in
        let f = fresh_is b (next_off g b) (b + 1) (next_off g (b + 1)) at list_at version on.1 in
        let tests = and_parts (nat_lt (b + 1) g.blocks) (nat_le (element_need g) (room g b) && nat_le (list_need g level) (room g (b + 1))) on.0 in
        let rooms = and_parts (nat_le (element_need g) (room g b)) (nat_le (list_need g level) (room g (b + 1))) tests.1 in
        let next_within : b + 1 < length pages = omega (arith, ltb-true (b + 1) g.blocks tests.0, s.blocks) in
        let c = page_at b (omega (arith, next_within)) in
        let d = page_at (b + 1) next_within in
        let element_room = leb-true (element_need g) (room g b) rooms.0 in
        let list_room = leb-true (list_need g level) (room g (b + 1)) rooms.1 in
        let room_of = room_is pages g few all s b c.0 (omega (arith, here, low)) c.1 in
        let next_of = next_is pages g few all s b c.0 (omega (arith, here, low)) c.1 in
        let list_room_of = room_is pages g few all s (b + 1) d.0 (omega arith) d.1 in
        let list_next_of = next_is pages g few all s (b + 1) d.0 (omega arith) d.1 in
        let other : (at.block == list_at.block) ≡ false = ne_eqb at.block list_at.block (λ e. omega (arith, e, here, f.list_block_is)) in
        let zero_is : one_if (at.block == list_at.block) 1 ≡ 0 = ap (λ (t : Bool). one_if t 1) other in
        let unused : one_if (at.block == list_at.block) (element_need g) ≡ 0 = ap (λ (t : Bool). one_if t (element_need g)) other in
        next_places c.0 d.0 low (omega (arith, here, next_within)) (omega (arith, f.list_block_is)) (omega (arith, f.list_block_is, next_within)) f.version_is
        (ap (slice_get pages) (sym here) ∙ c.1) (ap (slice_get pages) f.list_block_is ∙ d.1)
        (f.off_is ∙ next_of) (omega (arith, f.list_off_is, list_next_of, zero_is)) (omega (arith, element_room, room_of)) (omega (arith, list_room, list_room_of, unused))

    -- on a block that there is
    on_block : 1 ≤ at.block → at.block < g.blocks → (o : Option (Tid × Node)) → find (is_reusable at.block level) (fin.entries g.nodes) ≡ o
        → option_or (reused o) (fresh_on g at.block level) ≡ Some spot → Taken
    on_block low high None found is =
        elim (fits_one_page g level) as (λ t. cond t (together_on g at.block level) (apart_on g at.block level) ≡ Some spot → Taken) [
          | true ↦ λ e. together low high at.block refl e
          | false ↦ λ e. apart low high at.block refl e
        ] is
    on_block low high (Some e) found is =
        let stands : node_at g e.0 ≡ Some e.1 =
        fin.get-entries g.nodes e.0 ∙ stands_there tid_cmp tid_cmp_total (fin.entries g.nodes) (is_reusable at.block level) e (fin.entries_sorted g.nodes) found in
        let test = passes_there tid_cmp tid_cmp_total (fin.entries g.nodes) (is_reusable at.block level) e found in
        let gone = and_parts e.1.deleted (e.1.level == level) (and_parts (e.0.block == at.block) (e.1.deleted && (e.1.level == level)) test).1 in
        let same = same_Some (record { at = e.0; list_at = e.1.list_at; version = e.1.version }) spot is in
        anew e.1 (ap (node_at g) (sym (ap (λ (t : Place). t.at) same)) ∙ stands) gone.0 (eqb-true e.1.level level gone.1)
        (ap (λ (t : Place). t.list_at) same) (ap (λ (t : Place). t.version) same)

    -- on new blocks
    on_new : new_place g level ≡ Some spot → Taken
    on_new is =
        elim (fits_one_page g level) as (λ t. cond t (fresh_at g.blocks 1 g.blocks 2) (fresh_at g.blocks 1 (g.blocks + 1) 1) ≡ Some spot → Taken) [
          | true ↦ λ e.
              let f = fresh_is g.blocks 1 g.blocks 2 at list_at version e in
              behind f.version_is (omega (arith, f.block_is, s.blocks)) (omega (arith, f.list_block_is, s.blocks))
              (inl (omega (arith, f.block_is, f.list_block_is, s.blocks)))
          | false ↦ λ e.
              let f = fresh_is g.blocks 1 (g.blocks + 1) 1 at list_at version e in
              behind f.version_is (omega (arith, f.block_is, s.blocks)) (omega (arith, f.list_block_is, s.blocks))
              (inr (omega (arith, f.block_is, f.list_block_is, s.blocks), omega (arith, f.block_is, f.list_block_is, s.blocks)))
        ] is
      where
        no_page : (t : Tid) → length pages ≤ t.block → item_in pages t ≡ None
        no_page t past = no_item t (λ c there. absurd (none-some c (sym (slice_get_past pages t.block past) ∙ there)))

        behind : version ≡ 1 → length pages ≤ at.block → length pages ≤ list_at.block → AreNextBlocks (length pages) at.block list_at.block → Taken
        behind first past list_past next =
            let high : level ≤ 255 = omega (arith, not_high) in (
              (
                inr (record { none = no_page at past; no_list = no_page list_at list_past; next = next; version_high = omega (arith, first); level_high = high }),
                below_after,
              ),
              put_fresh_fits pages g all s spot level id bits lists is as_long as_many few_slots,
              omega (arith, first),
            )

    pub placed : IsPlaced g at level spot → Taken
    placed (inl is) =
        let on = if_is (nat_le 1 at.block && nat_lt at.block g.blocks) (option_or (reused (find (is_reusable at.block level) (fin.entries g.nodes))) (fresh_on g at.block level)) spot is in
        let tests = and_parts (nat_le 1 at.block) (nat_lt at.block g.blocks) on.0 in
        on_block (leb-true 1 at.block tests.0) (ltb-true at.block g.blocks tests.1) (find (is_reusable at.block level) (fin.entries g.nodes)) refl on.1
    placed (inr is) = on_new is.0
