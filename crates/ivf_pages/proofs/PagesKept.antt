-- Redo of an event that follows leaves pages that have bytes, and gives each page that it touches its number.
use Rattle.std.proofs.Common.{◌≡◌, ℕ, ◌+◌, ◌-◌, ◌*◌, ◌^◌, ◌<◌, ◌≤◌, ◌&&◌, ◌==◌, not, Bool, true, false, List, [], ◌∷◌, length, replicate, get_or, Some, None, refl, sym, ap, subst, ◌∙◌, arith, inl, inr}
use Rattle.std.specs.Prelude.{slice_get, Contains, nat_lt, if◌then◌else◌}
use Rattle.std.specs.List.{All, list_any}
use Rattle.std.specs.Option.{option_map, option_and_then}
use Rattle.std.proofs.lemmas.Bool.{and_parts, ltb-true}
use Rattle.std.proofs.lemmas.List.Elements.{All-cons, All-nil, All-append, All-replicate, All-head, All-tail}
use Rattle.std.proofs.lemmas.Option.{slice_get_within, slice_get-get_or}
use Rattle.vec_names.specs.declared.heap_id.HeapId.{HeapId}
use Rattle.vec_names.specs.declared.params.Params.{Params}
use Rattle.vec_names.specs.Params.{IsInRange}
use Rattle.vec_history.specs.declared.event.Event.{Event}
use Rattle.vec_history.specs.declared.event.Event.TheVariants.{Put, Join, Link, Relist, Drop, Mark, Entry, Hint, IvfAdd, IvfGrow, IvfDrop, IvfHint, Gate, Ungate, Phase, VacuumEnd, Cancel, Settled, DiskFaulted}
use Rattle.page_bytes.specs.declared.kind.PageKind.{PageKind}
use Rattle.page_bytes.specs.declared.kind.PageKind.TheVariants.{Meta, Hnsw, IvfLists, IvfEntries}
use Rattle.page_bytes.specs.Content.{Content, IsPage, IsItem, IsNext, item_at, taken, others}
use Rattle.page_bytes.proofs.Placing.{taken-nil, taken-cons}
use Rattle.vec_tuples.specs.Spelling.{centre_with, centre_bytes, entry_bytes, row_with}
use Rattle.vec_tuples.specs.Reading.{centre}
use Rattle.vec_tuples.proofs.RowLaws.{centre_field}
use Rattle.ivf_graph.specs.declared.graph.IvfGraph.{IvfGraph}
use Rattle.page_redo.specs.PageTuples.{in_whole, added, with_item, centre_at, is_graph, is_lists_page, is_entries_page}
use Rattle.page_redo.specs.PageChanges.{PageChange, when, if_so, on_entries, entry_added, grown, chained, rises, entries_dropped, list_block, list_offset, aimed}
use Rattle.page_redo.specs.Redo.{at_one, at_two, changed, touched, numbered}
use Rattle.page_redo.proofs.ItemLaws.{whole_spelled}
use Rattle.page_redo.specs.Growing.{fresh_page, new_kind, blocks_after, extended, AreAllRedone}
use Rattle.page_redo.proofs.Given.{then_is, map_is, if_is, when_is, item_bytes, got_from_all}
use Rattle.page_redo.proofs.RedoneOnce.{is_in}
use Rattle.page_redo.proofs.KeptPages.{page_set, page_more}
use Rattle.ivf_pages.specs.Standing.{Stands}
use Rattle.ivf_pages.specs.Following.{Follows}
use Rattle.ivf_pages.proofs.Root.{in_range}
use Rattle.ivf_pages.proofs.ListBytes.{entry_item, centre_item, length-centre_bytes}

-- ---- a page with some items less

module _ (gone : List ℕ) where
  -- some items take no more than all
  record IsPart (some items : List (List ℕ)) : Type 0 where
    pub are : All IsItem some
    pub room : taken some + 4 * length some ≤ taken items + 4 * length items

  part_of : (off : ℕ) (items : List (List ℕ)) → All IsItem items → IsPart (others gone off items) items
  part_of off [] all = record { are = all; room = omega arith }
  part_of off (x ∷ xs) all =
      by_test (part_of (off + 1) xs (All-tail IsItem x xs all)) (list_any (λ (g : ℕ). g == off) gone)
    where
      by_test : IsPart (others gone (off + 1) xs) xs → (t : Bool)
          → IsPart (if t then others gone (off + 1) xs else x ∷ others gone (off + 1) xs) (x ∷ xs)
      by_test rest true = record { are = rest.are; room = omega (arith, rest.room, taken-cons x xs) }
      by_test rest false = record {
        are = All-cons IsItem x (others gone (off + 1) xs) (All-head IsItem x xs all) rest.are;
        room = omega (arith, rest.room, taken-cons x xs, taken-cons x (others gone (off + 1) xs));
      }

  pub page_less : (c : Content) → IsPage c → IsPage (record c { items = others gone 1 c.items })
  page_less c page =
      let part = part_of 1 c.items page.items in
      record { next = page.next; number = page.number; items = part.are; room = omega (arith, page.room, part.room) }

no_next : (k : PageKind) → IsNext k None
no_next k = tt

entries_are : (k : PageKind) → is_entries_page k ≡ true → k ≡ IvfEntries
entries_are Meta is = absurd cc
entries_are Hnsw is = absurd cc
entries_are IvfLists is = absurd cc
entries_are IvfEntries is = refl

-- ---- changes that keep a page

module _ (p : Params) (range : IsInRange p) where
  on_entries_is : (role : PageChange) (c m : Content) → on_entries p role c ≡ Some m → (is_entries_page c.kind ≡ true) × (role c ≡ Some m)
  on_entries_is role c m is =
      let r = if_is (not (is_graph p.kind) && is_entries_page c.kind) (role c) m is in
      ((and_parts (not (is_graph p.kind)) (is_entries_page c.kind) r.0).1, r.1)

  add_keeps : (id : HeapId) (bits : List Bool) (c m : Content) → IsPage c → entry_added p id bits c ≡ Some m → IsPage m
  add_keeps id bits c m page is =
      let x = entry_bytes (row_with id bits) in
      let on = on_entries_is (λ c. if_so (length bits == p.bits) (added x c)) c m is in
      page_more c m x page (entry_item (row_with id bits)) (if_is (length bits == p.bits) (added x c) m on.1).1

  drop_keeps : (gone : List ℕ) (c m : Content) → IsPage c → entries_dropped p gone c ≡ Some m → IsPage m
  drop_keeps gone c m page is =
      let on = on_entries_is (λ c. when (rises 0 (length c.items) gone) (record c { items = others gone 1 c.items })) c m is in
      subst IsPage (when_is (rises 0 (length c.items) gone) (record c { items = others gone 1 c.items }) m on.1).1 (page_less gone c page)

  grown_keeps : (id : HeapId) (bits : List Bool) (c m : Content) → IsPage c → grown p id bits c ≡ Some m → IsPage m
  grown_keeps id bits c m page is =
      let x = entry_bytes (row_with id bits) in
      let on = on_entries_is (λ c. if_so (length c.items == 0 && length bits == p.bits) (added x (record c { next = None }))) c m is in
      let made = (if_is (length c.items == 0 && length bits == p.bits) (added x (record c { next = None })) m on.1).1 in
      let bare : IsPage (record c { next = None }) = record { next = no_next c.kind; number = page.number; items = page.items; room = page.room } in
      page_more (record c { next = None }) m x bare (entry_item (row_with id bits)) made

  chained_keeps : (new : ℕ) (bits : List Bool) (c m : Content) → IsPage c → chained p new bits c ≡ Some m → IsPage m
  chained_keeps new bits c m page is =
      let on = on_entries_is (λ c. when (nat_lt new 0xFFFFFFFF && length bits == p.bits) (record c { next = Some new })) c m is in
      let made = when_is (nat_lt new 0xFFFFFFFF && length bits == p.bits) (record c { next = Some new }) m on.1 in
      let low = ltb-true new 0xFFFFFFFF (and_parts (nat_lt new 0xFFFFFFFF) (length bits == p.bits) made.0).0 in
      let named : IsPage (record c { next = Some new }) = record {
        next = (entries_are c.kind on.0, low);
        number = page.number;
        items = page.items;
        room = page.room;
      } in
      subst IsPage made.1 named

  aim_keeps : (list aim : ℕ) (c m : Content) → IsPage c → aimed p list aim c ≡ Some m → IsPage m
  aim_keeps list aim c m page is =
      let off = list_offset p list in
      let r = if_is (not (is_graph p.kind) && is_lists_page c.kind) (option_map (λ l. with_item c off (centre_bytes (centre_with l.first aim l.bits))) (centre_at p c off)) m is in
      let t = map_is (λ l. with_item c off (centre_bytes (centre_with l.first aim l.bits))) (centre_at p c off) m r.1 in
      let x = then_is (λ x. in_whole (centre p x)) (item_at c.items off) t.0 t.1 in
      let bytes = item_bytes (c ∷ []) 0 off c x.0 (All-cons IsPage c [] page (All-nil IsPage)) refl x.1 in
      let spelled = whole_spelled (centre_field p range) x.0 t.0 bytes x.2 in
      let new = centre_with t.0.first aim t.0.bits in
      let long : length x.0 ≡ length (centre_bytes new) = ap (λ (l : List ℕ). length l) spelled.1 ∙ length-centre_bytes t.0 ∙ sym (length-centre_bytes new) in
      subst IsPage t.2 (page_set c off x.0 (centre_bytes new) page x.1 long (centre_item new))

  at_one_keeps : (a block : ℕ) (role : PageChange) (c m : Content) → (role c ≡ Some m → IsPage m) → at_one a role block c ≡ Some m → IsPage m
  at_one_keeps a block role c m keeps is = keeps (if_is (a == block) (role c) m is).1

  at_two_keeps : (a b block : ℕ) (first second : PageChange) (c m : Content) → ((d : Content) → first c ≡ Some d → IsPage d)
      → ((d e : Content) → IsPage d → second d ≡ Some e → IsPage e) → IsPage c → at_two a first b second block c ≡ Some m → IsPage m
  at_two_keeps a b block first second c m keeps also page is = by_tests (a == block) (b == block) is
    where
      by_tests : (t u : Bool) → (if t then (if u then option_and_then second (first c) else first c) else (if u then second c else None)) ≡ Some m → IsPage m
      by_tests true true is = let d = then_is second (first c) m is in also d.0 m (keeps d.0 d.1) d.2
      by_tests true false is = keeps m is
      by_tests false true is = also c m page is
      by_tests false false is = absurd cc

  event_keeps : (g : IvfGraph) (event : Event) (wrap block : ℕ) (c m : Content) → Follows g event → IsPage c → changed event p wrap block c ≡ Some m → IsPage m
  event_keeps g (Put at list_at version level id bits lists) wrap block c m follows page is = absurd follows
  event_keeps g (Join at version id) wrap block c m follows page is = absurd follows
  event_keeps g (Link at list_at version slot to) wrap block c m follows page is = absurd follows
  event_keeps g (Relist at list_at version lists) wrap block c m follows page is = absurd follows
  event_keeps g (Drop at version gone) wrap block c m follows page is = absurd follows
  event_keeps g (Mark at list_at version) wrap block c m follows page is = absurd follows
  event_keeps g (Entry to level) wrap block c m follows page is = absurd follows
  event_keeps g (Hint hint) wrap block c m follows page is = absurd follows
  event_keeps g (IvfAdd to id bits) wrap block c m follows page is =
      at_one_keeps to block (entry_added p id bits) c m (λ made. add_keeps id bits c m page made) is
  event_keeps g (IvfGrow list last new id bits) wrap block c m follows page is =
      at_two_keeps new last block (grown p id bits) (chained p new bits) c m (λ d made. grown_keeps id bits c d page made)
      (λ d e page made. chained_keeps new bits d e page made) page is
  event_keeps g (IvfDrop of gone) wrap block c m follows page is =
      at_one_keeps of block (entries_dropped p gone) c m (λ made. drop_keeps gone c m page made) is
  event_keeps g (IvfHint list aim) wrap block c m follows page is =
      at_one_keeps (list_block p list) block (aimed p list aim) c m (λ made. aim_keeps list aim c m page made) is
  event_keeps g (Gate gate hold) wrap block c m follows page is = absurd follows
  event_keeps g (Ungate gate) wrap block c m follows page is = absurd follows
  event_keeps g (Phase stage) wrap block c m follows page is = absurd follows
  event_keeps g VacuumEnd wrap block c m follows page is = absurd follows
  event_keeps g (Cancel stage) wrap block c m follows page is = absurd follows
  event_keeps g (Settled upto) wrap block c m follows page is = absurd follows
  event_keeps g (DiskFaulted count) wrap block c m follows page is = absurd follows

-- ---- all pages

all_from : {X : Type 0} (P : X → Type 0) (xs : List X) → ((i : ℕ) (x : X) → slice_get xs i ≡ Some x → P x) → All P xs
all_from P xs each k d h = each k (get_or xs k d) (slice_get-get_or xs k d h)

module _ (p : Params) (pages after : List Content) (event : Event) (wrap number : ℕ) (are : AreAllRedone p wrap number event pages after) where
  -- the page of a block that the event touches was redone
  pub made_from : (block : ℕ) (d : Content) → Contains (touched event p) block → slice_get after block ≡ Some d
      → (c : Content) × (slice_get (extended event pages) block ≡ Some c) × (m : Content) × (changed event p wrap block c ≡ Some m) × (numbered number m ≡ d)
  made_from block d touches is =
      let none = fresh_page (new_kind event) in
      let c = get_or (extended event pages) block none in
      let there = slice_get-get_or (extended event pages) block none (omega (arith, slice_get_within after block d is, are.count)) in
      let m = map_is (numbered number) (changed event p wrap block c) d (sym (are.there block c touches there) ∙ is) in
      (c, there, m.0, m.1, m.2)

  pub number_now : (block : ℕ) (d : Content) → Contains (touched event p) block → slice_get after block ≡ Some d → d.number ≡ number
  number_now block d touches is =
      let m = made_from block d touches is in ap (λ (c : Content). c.number) (sym m.4)

  pub pages_kept : (g : IvfGraph) → All IsPage pages → Stands p pages g → Follows g event → number < 2 ^ 64 → All IsPage after
  pages_kept g all s follows low = all_from IsPage after each
    where
      fresh : IsPage (fresh_page (new_kind event))
      fresh = record { next = tt; number = omega arith; items = All-nil IsItem; room = omega (arith, taken-nil) }

      before : All IsPage (extended event pages)
      before = All-append IsPage pages (replicate (blocks_after event (length pages) - length pages) (fresh_page (new_kind event))) all
          (All-replicate IsPage (blocks_after event (length pages) - length pages) (fresh_page (new_kind event)) fresh)

      each : (block : ℕ) (d : Content) → slice_get after block ≡ Some d → IsPage d
      each block d is = elim (is_in (touched event p) block) as (λ _. IsPage d) [
        | inl touches ↦
            let m = made_from block d touches is in
            let page = got_from_all IsPage (extended event pages) block m.0 before m.1 in
            let made = event_keeps p (in_range pages p all s.params) g event wrap block m.0 m.2 follows page m.3 in
            let now : IsPage (numbered number m.2) = record { next = made.next; number = low; items = made.items; room = made.room } in
            subst IsPage m.4 now
        | inr apart ↦ got_from_all IsPage (extended event pages) block d before (sym (are.elsewhere block apart) ∙ is)
      ]
