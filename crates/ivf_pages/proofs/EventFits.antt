-- The events that the rules allow on an index of lists fit the pages that stand for it.
use Rattle.std.proofs.Common.{◌≡◌, ℕ, zero, suc, ◌+◌, ◌-◌, ◌*◌, ◌<◌, ◌≤◌, ◌&&◌, ◌==◌, max, not, Bool, true, List, [], ◌∷◌, ◌++◌, length, replicate, get_or, Some, None, refl, sym, ap, subst, ◌∙◌, arith}
use Rattle.std.specs.Prelude.{slice_get, slice_index, nat_le, nat_lt, if◌then◌else◌}
use Rattle.std.specs.List.{All}
use Rattle.std.specs.List.Sorted.{IsStrictlyIncreasing}
use Rattle.std.specs.Option.{option_map, option_and_then}
use Rattle.std.proofs.lemmas.Bool.{and_from, eq-eqb, le-leb, lt-ltb}
use Rattle.std.proofs.lemmas.List.Elements.{All-head, All-tail}
use Rattle.std.proofs.lemmas.Option.{slice_get_within, slice_get-get_or}
use Rattle.vec_names.specs.declared.heap_id.HeapId.{HeapId}
use Rattle.vec_names.specs.declared.params.Params.{Params}
use Rattle.vec_names.specs.Params.{IsInRange, IsInRangeOf, AreListsInRange}
use Rattle.vec_history.specs.declared.event.Event.TheVariants.{IvfAdd, IvfGrow, IvfDrop, IvfHint}
use Rattle.page_bytes.specs.declared.kind.PageKind.TheVariants.{IvfEntries}
use Rattle.page_bytes.specs.Content.{Content, IsPage, round8, taken as taken_of, free_of, others as others_left}
use Rattle.page_bytes.proofs.Placing.{taken-nil}
use Rattle.vec_tuples.specs.Spelling.{centre_with, centre_bytes, entry_bytes, row_with as entry_with}
use Rattle.vec_tuples.specs.Reading.{centre}
use Rattle.vec_tuples.proofs.RowLaws.{centre_field}
use Rattle.ivf_graph.specs.declared.list.IvfList.{IvfList}
use Rattle.ivf_graph.specs.declared.graph.IvfGraph.{IvfGraph}
use Rattle.ivf_graph.specs.Graph.{Row, row_need, taken, IsAsLong, rows_on, last_block}
use Rattle.ivf_graph.specs.Rules.{IsAddAllowed, IsGrowAllowed, IsAimAllowed}
use Rattle.page_redo.specs.PageTuples.{in_whole, with_item, added, centre_at, is_graph, is_lists_page, is_entries_page}
use Rattle.page_redo.specs.PageChanges.{PageChange, when, if_so, on_entries, entry_added, grown, chained, rises, entries_dropped, list_block, list_offset, aimed}
use Rattle.page_redo.specs.Redo.{numbered, redone}
use Rattle.page_redo.proofs.ItemLaws.{whole_spelled}
use Rattle.page_redo.specs.Growing.{fresh_page, extended}
use Rattle.page_redo.specs.Fitting.{FitsEach}
use Rattle.page_redo.proofs.Given.{then_is, got_from_all, item_bytes}
use Rattle.page_redo.proofs.FreshBehind.{get_front}
use Rattle.page_redo.proofs.TwoBlocks.{two_first, two_second}
use Rattle.page_redo.proofs.OneFits.{OneFits, each_of_one}
use Rattle.ivf_pages.specs.Standing.{has_entries, chain_from, part_in, Stands}
use Rattle.ivf_pages.proofs.Chains.{among_chain, entries_there}
use Rattle.ivf_pages.proofs.Root.{root_is, in_range, entries_behind, list_block_low}
use Rattle.ivf_pages.proofs.StandingLaws.{of_kind}
use Rattle.ivf_pages.proofs.Ended.{ends_among}
use Rattle.ivf_pages.proofs.GrowEffect.{last_among}
use Rattle.ivf_pages.proofs.GrowRedo.{at_end}
use Rattle.ivf_pages.proofs.RowRoom.{need_is, taken_is, count_is}
use Rattle.ivf_pages.proofs.RowsThere.{rows_there, tuple_of_list}

-- offsets that rise, from above one up to another
pub rises_from : (low high : ℕ) (offs : List ℕ) → IsStrictlyIncreasing offs → All (λ off. (1 ≤ off) × (off ≤ high)) offs
    → ((first : ℕ) (rest : List ℕ) → offs ≡ first ∷ rest → low < first) → rises low high offs ≡ true
rises_from low high [] rising within above = refl
rises_from low high (off ∷ offs) rising within above =
    let here = All-head (λ off. (1 ≤ off) × (off ≤ high)) off offs within in
    and_from (nat_lt low off) (nat_le off high && rises off high offs) (lt-ltb low off (above off offs refl))
    (and_from (nat_le off high) (rises off high offs) (le-leb off high here.1)
    (rises_from off high offs (λ k h. later k h) (All-tail (λ off. (1 ≤ off) × (off ≤ high)) off offs within) next))
  where
    later : (k : ℕ) → k + 1 < length offs → slice_index offs k < slice_index offs (k + 1)
    later k h =
        let a : suc k ≡ k + 1 = omega arith in
        let b : suc (k + 1) ≡ k + 1 + 1 = omega arith in
        let less : slice_index (off ∷ offs) (k + 1) < slice_index (off ∷ offs) (k + 1 + 1) = rising (k + 1) (omega (arith, h)) in
        let x : slice_index (off ∷ offs) (k + 1) ≡ slice_index offs k = ap (slice_index (off ∷ offs)) (sym a) in
        let y : slice_index (off ∷ offs) (k + 1 + 1) ≡ slice_index offs (k + 1) = ap (slice_index (off ∷ offs)) (sym b) in
        omega (arith, less, x, y)

    next : (first : ℕ) (rest : List ℕ) → offs ≡ first ∷ rest → off < first
    next first rest is =
        let less : slice_index (off ∷ offs) 0 < slice_index (off ∷ offs) (0 + 1) = rising 0 (omega (arith, ap (λ (l : List ℕ). length l) is)) in
        let y : slice_index (off ∷ offs) (0 + 1) ≡ first = ap (λ (l : List ℕ). slice_index (off ∷ l) 1) is in
        omega (arith, less, y)

module _ (p : Params) (pages : List Content) (g : IvfGraph) (all : All IsPage pages) (s : Stands p pages g) where
  range : IsInRange p
  range = in_range pages p all s.params

  of_lists : not (is_graph p.kind) ≡ true
  of_lists = (root_is pages p s.params).lists

  some_list : 1 ≤ p.lists
  some_list = let r : AreListsInRange p = subst (λ k. IsInRangeOf k p) (of_kind p pages g s) range.of_kind in r.lists_low

  -- the centres have the index's length
  pub centre_long : (i : ℕ) (l : IvfList) → slice_get g.lists i ≡ Some l → length l.centre ≡ p.bits
  centre_long i l is =
      let t = tuple_of_list p pages g s i l is in
      let c = then_is (λ c. centre_at p c (list_offset p i)) (slice_get pages (list_block p i)) t.0 t.1 in
      let x = then_is (λ x. in_whole (centre p x)) _ t.0 c.2 in
      let spelled = whole_spelled (centre_field p range) x.0 t.0 (item_bytes pages (list_block p i) (list_offset p i) c.0 x.0 all c.1 x.1) x.2 in
      ap (λ (l : IvfList). length l.centre) (sym t.2) ∙ spelled.0.2

  pub long_from : (bits : List Bool) → IsAsLong g bits → length bits ≡ p.bits
  long_from bits as_long =
      let none : IvfList = record { centre = []; aim = 0; chain = [] } in
      let first : slice_get g.lists 0 ≡ Some (get_or g.lists 0 none) = slice_get-get_or g.lists 0 none (omega (arith, some_list, s.count)) in
      sym (got_from_all (λ l. length l.centre ≡ length bits) g.lists 0 (get_or g.lists 0 none) as_long first) ∙ centre_long 0 (get_or g.lists 0 none) first

  -- ---- entries

  entries_role : (role : PageChange) (c m : Content) → is_entries_page c.kind ≡ true → role c ≡ Some m → on_entries p role c ≡ Some m
  entries_role role c m kind is =
      let test : (not (is_graph p.kind) && is_entries_page c.kind) ≡ true = and_from (not (is_graph p.kind)) (is_entries_page c.kind) of_lists kind in
      ap (λ (t : Bool). if_so t (role c)) test ∙ is

  one_at : (block number : ℕ) (role : PageChange) (c m : Content) → slice_get pages block ≡ Some c → role c ≡ Some m → OneFits pages block number role
  one_at block number role c m there is = record {
    page = c;
    there = there;
    after = numbered number m;
    is = ap (λ (t : Bool). option_map (numbered number) (if t then role c else None)) (eq-eqb block block refl) ∙ ap (option_map (numbered number)) is;
  }

  -- a further item has room
  room_gives : (c : Content) (x : List ℕ) → round8 (length x) + 4 ≤ free_of c → added x c ≡ Some (record c { items = c.items ++ x ∷ [] })
  room_gives c x room =
      ap (λ (t : Bool). if t then Some (record c { items = c.items ++ x ∷ [] }) else None) (le-leb (round8 (length x) + 4) (free_of c) room)

  pub add_fits : (block : ℕ) (id : HeapId) (bits : List Bool) → IsAddAllowed g block bits → FitsEach pages p (IvfAdd block id bits)
  add_fits block id bits may wrap number b touches =
      let r = rows_there p pages g block may.rows s may.stands in
      let c = r.page in
      let x = entry_bytes (entry_with id bits) in
      let long = long_from bits may.as_long in
      let was = (s.whole block).entries (entries_behind p pages g s block c r.there r.kind) c r.there in
      let whole : IsPage c = got_from_all IsPage pages block c all r.there in
      let sum : taken_of c.items + 4 * length c.items ≡ taken may.rows = taken_is p range c.items whole.items was.entries ∙ ap taken r.has in
      let need : round8 (length x) + 4 ≡ row_need (length bits) = need_is (entry_with id bits) in
      let room : round8 (length x) + 4 ≤ free_of c = omega (arith, sum, need, may.room) in
      let made : entry_added p id bits c ≡ Some (record c { items = c.items ++ x ∷ [] }) =
      entries_role (λ c. if_so (length bits == p.bits) (added x c)) c (record c { items = c.items ++ x ∷ [] }) r.kind
      (ap (λ (t : Bool). if_so t (added x c)) (eq-eqb (length bits) p.bits long) ∙ room_gives c x room) in
      each_of_one (one_at block number (entry_added p id bits) c (record c { items = c.items ++ x ∷ [] }) r.there made) b touches

  pub drop_fits : (block : ℕ) (gone : List ℕ) (rows : List Row) → rows_on g block ≡ Some rows → IsStrictlyIncreasing gone
      → All (λ off. (1 ≤ off) × (off ≤ length rows)) gone → FitsEach pages p (IvfDrop block gone)
  drop_fits block gone rows is rising within wrap number b touches =
      let r = rows_there p pages g block rows s is in
      let c = r.page in
      let was = (s.whole block).entries (entries_behind p pages g s block c r.there r.kind) c r.there in
      let count : length rows ≡ length c.items = ap (λ (rs : List Row). length rs) (sym r.has) ∙ count_is p range c.items was.entries in
      let test : rises 0 (length c.items) gone ≡ true =
      rises_from 0 (length c.items) gone rising (subst (λ (n : ℕ). All (λ off. (1 ≤ off) × (off ≤ n)) gone) count within)
      (λ first rest e. (All-head (λ off. (1 ≤ off) × (off ≤ length rows)) first rest (subst (λ (l : List ℕ). All (λ off. (1 ≤ off) × (off ≤ length rows)) l) e within)).0) in
      let made : entries_dropped p gone c ≡ Some (record c { items = others_left gone 1 c.items }) =
      entries_role (λ c. when (rises 0 (length c.items) gone) (record c { items = others_left gone 1 c.items })) c (record c { items = others_left gone 1 c.items }) r.kind
      (ap (λ (t : Bool). when t (record c { items = others_left gone 1 c.items })) test) in
      each_of_one (one_at block number (entries_dropped p gone) c (record c { items = others_left gone 1 c.items }) r.there made) b touches

  -- ---- list tuples

  pub aim_fits : (list block : ℕ) → IsAimAllowed g list block → FitsEach pages p (IvfHint list block)
  aim_fits list block may wrap number b touches =
      let low : list < p.lists = omega (arith, slice_get_within g.lists list may.aims may.is_there, s.count) in
      let page = (s.whole (list_block p list)).lists (omega arith) (list_block_low p range list low) in
      let t = tuple_of_list p pages g s list may.aims may.is_there in
      let c = page.page in
      let tuple : centre_at p c (list_offset p list) ≡ Some t.0 = sym (ap (λ o. option_and_then (λ c. centre_at p c (list_offset p list)) o) page.there) ∙ t.1 in
      let m = with_item c (list_offset p list) (centre_bytes (centre_with t.0.first block t.0.bits)) in
      let test : (not (is_graph p.kind) && is_lists_page c.kind) ≡ true = and_from (not (is_graph p.kind)) (is_lists_page c.kind) of_lists page.kind in
      let made : aimed p list block c ≡ Some m =
      ap (λ (u : Bool). if_so u (option_map (λ l. with_item c (list_offset p list) (centre_bytes (centre_with l.first block l.bits))) (centre_at p c (list_offset p list)))) test
      ∙ ap (option_map (λ l. with_item c (list_offset p list) (centre_bytes (centre_with l.first block l.bits)))) tuple in
      each_of_one (one_at (list_block p list) number (aimed p list block) c m page.there made) b touches

  -- ---- a new block

  -- a value of the index's length has room on a page of its own
  fresh_room : (id : HeapId) (bits : List Bool) → length bits ≡ p.bits → round8 (length (entry_bytes (entry_with id bits))) + 4 ≤ free_of (fresh_page IvfEntries)
  fresh_room id bits long = omega (arith, need_is (entry_with id bits), long, range.bits_high, taken-nil)

  module _ (list last new : ℕ) (id : HeapId) (bits : List Bool) (may : IsGrowAllowed g list last new bits) where
    is_new : new ≡ length pages
    is_new = may.is_next ∙ s.blocks

    long : length bits ≡ p.bits
    long = long_from bits may.as_long

    one_more : extended (IvfGrow list last new id bits) pages ≡ pages ++ fresh_page IvfEntries ∷ []
    one_more =
        let one : max (length pages) (new + 1) - length pages ≡ 1 = omega (arith, is_new) in
        ap (λ (n : ℕ). pages ++ replicate n (fresh_page IvfEntries)) one

    last_there : (c : Content) × (slice_get pages last ≡ Some c) × (is_entries_page c.kind ≡ true)
    last_there =
        let t = tuple_of_list p pages g s list may.grows may.is_there in
        let ends = last_among (part_in p pages) (λ b. refl) (chain_from pages t.0.first) last (ap (λ l. last_block l.chain) t.2 ∙ may.ends) in
        let has = among_chain pages (Some t.0) last (ends_among last (chain_from pages t.0.first) ends) in
        let there = entries_there (slice_get pages last) has in
        (there.0, there.1, ap has_entries (sym there.1) ∙ has)

    apart : new ≡ last → ⊥
    apart same = absurd (omega (arith, same, is_new, slice_get_within pages last last_there.0 last_there.1))

    pub grow_fits : FitsEach pages p (IvfGrow list last new id bits)
    grow_fits wrap number b (zero, h, same) =
        let fresh = fresh_page IvfEntries in
        let x = entry_bytes (entry_with id bits) in
        let m = record fresh { next = None; items = x ∷ [] } in
        let made : grown p id bits fresh ≡ Some m =
        entries_role (λ c. if_so (length c.items == 0 && length bits == p.bits) (added x (record c { next = None }))) fresh m refl
        (ap (λ (t : Bool). if_so t (added x fresh)) (eq-eqb (length bits) p.bits long) ∙ room_gives fresh x (fresh_room id bits long)) in
        subst (λ (z : ℕ). (page : Content) × (slice_get (extended (IvfGrow list last new id bits) pages) z ≡ Some page) × (after : Content)
        × (redone (IvfGrow list last new id bits) p wrap number z page ≡ Some after)) same (
          fresh,
          ap (λ (l : List Content). slice_get l new) one_more ∙ at_end pages fresh new is_new,
          numbered number m,
          ap (option_map (numbered number)) (two_first new last new (grown p id bits) (chained p new bits) fresh refl (λ e. apart (sym e)) ∙ made),
        )
    grow_fits wrap number b (suc zero, h, same) =
        let c = last_there.0 in
        let m = record c { next = Some new } in
        let test : (nat_lt new 0xFFFFFFFF && length bits == p.bits) ≡ true =
        and_from (nat_lt new 0xFFFFFFFF) (length bits == p.bits) (lt-ltb new 0xFFFFFFFF (omega (arith, may.not_high))) (eq-eqb (length bits) p.bits long) in
        let made : chained p new bits c ≡ Some m =
        entries_role (λ c. when (nat_lt new 0xFFFFFFFF && length bits == p.bits) (record c { next = Some new })) c m last_there.2
        (ap (λ (t : Bool). when t m) test) in
        subst (λ (z : ℕ). (page : Content) × (slice_get (extended (IvfGrow list last new id bits) pages) z ≡ Some page) × (after : Content)
        × (redone (IvfGrow list last new id bits) p wrap number z page ≡ Some after)) same (
          c,
          ap (λ (l : List Content). slice_get l last) one_more ∙ get_front pages (fresh_page IvfEntries ∷ []) last (slice_get_within pages last c last_there.1) ∙ last_there.1,
          numbered number m,
          ap (option_map (numbered number)) (two_second new last last (grown p id bits) (chained p new bits) c apart refl ∙ made),
        )
    grow_fits wrap number b (suc (suc i), h, same) = absurd (omega (arith, h))
