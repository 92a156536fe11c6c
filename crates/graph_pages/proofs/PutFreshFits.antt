-- A new node fits the new blocks that the graph gives it.
use Rattle.std.proofs.Common.{◌≡◌, ℕ, ◌+◌, ◌-◌, ◌<◌, ◌≤◌, ◌==◌, max, Bool, true, false, List, ◌++◌, length, replicate, get_or, Option, Some, None, refl, sym, ap, subst, ◌∙◌, arith}
use Rattle.std.specs.Prelude.{slice_get, All, if◌then◌else◌}
use Rattle.std.proofs.lemmas.Bool.{eq-eqb, leb-true, ne_eqb}
use Rattle.std.proofs.lemmas.Option.{slice_get_within, slice_get-get_or}
use Rattle.index_sizes.specs.declared.limits.TheConstants.{MOST_SLOTS, MOST_BITS}
use Rattle.index_sizes.specs.Sizes.{item_need, element_size, links_size, slots_of_level}
use Rattle.byte_fields.proofs.EachField.{some_is}
use Rattle.vec_names.specs.declared.tid.Tid.{Tid}
use Rattle.vec_names.specs.declared.heap_id.HeapId.{HeapId}
use Rattle.vec_names.specs.Places.{tid_of}
use Rattle.vec_names.proofs.PlaceLaws.{tid_of-numbers}
use Rattle.vec_history.specs.declared.event.Event.TheVariants.{Put}
use Rattle.page_bytes.specs.declared.kind.PageKind.TheVariants.{Hnsw}
use Rattle.page_bytes.specs.Content.{Content, IsPage, taken, free_of}
use Rattle.vec_graph.specs.declared.place.Place.{Place}
use Rattle.vec_graph.specs.declared.graph.Graph.{Graph}
use Rattle.vec_graph.specs.Places.{one_if, element_need, list_need, fits_one_page, fresh_place, fresh_at, new_place}
use Rattle.page_redo.specs.PageChanges.{new_node}
use Rattle.graph_pages.specs.Standing.{Stands}
use Rattle.page_redo.specs.Growing.{fresh_page}
use Rattle.page_redo.specs.Fitting.{FitsEach}
use Rattle.graph_pages.specs.Fitting.{IsNextPlace}
use Rattle.graph_pages.proofs.StandingLaws.{root_is}
use Rattle.graph_pages.proofs.StandingShape.{in_range}
use Rattle.graph_pages.proofs.FreshPages.{fresh_length}
use Rattle.page_redo.proofs.FreshBehind.{get_behind}
use Rattle.graph_pages.proofs.PutNewFits.{put_new_fits}

-- ---- places by their numbers

-- two places that are there, and the version of a fresh one
record IsFreshAt (block off list_block list_off : ℕ) (place : Place) : Type 0 where
  at_block : place.at.block ≡ block
  at_off : place.at.off ≡ off
  list_block_is : place.list_at.block ≡ list_block
  list_off_is : place.list_at.off ≡ list_off
  first : place.version ≡ 1

place_is : (a b : Option Tid) (place : Place) → fresh_place a b ≡ Some place → (a ≡ Some place.at) × (b ≡ Some place.list_at) × (place.version ≡ 1)
place_is (Some at) (Some list_at) place is =
    let same = some_is (record { at = at; list_at = list_at; version = 1 }) place is in
    (ap (λ (p : Place). Some p.at) same, ap (λ (p : Place). Some p.list_at) same, sym (ap (λ (p : Place). p.version) same))
place_is (Some at) None place is = absurd cc
place_is None b place is = absurd cc

fresh_is : (block off list_block list_off : ℕ) (place : Place) → fresh_at block off list_block list_off ≡ Some place → IsFreshAt block off list_block list_off place
fresh_is block off list_block list_off place is =
    let parts = place_is (tid_of block off) (tid_of list_block list_off) place is in
    let here = tid_of-numbers block off place.at parts.0 in
    let there = tid_of-numbers list_block list_off place.list_at parts.1 in
    record { at_block = here.0; at_off = here.1; list_block_is = there.0; list_off_is = there.1; first = parts.2 }

-- ---- fresh pages

free_fresh : free_of (fresh_page Hnsw) ≡ 8160
unfolding taken
free_fresh = refl

element_fits_page : (bits : ℕ) → bits ≤ MOST_BITS → item_need (element_size bits) ≤ 8160
element_fits_page bits few = omega (arith, few)

list_fits_page : (slots : ℕ) → slots ≤ MOST_SLOTS → item_need (links_size slots) ≤ 8160
list_fits_page slots few = omega (arith, few)

module _ (pages : List Content) (g : Graph) (all : All IsPage pages) (s : Stands pages g) where
  -- the pages with so many fresh ones have one at each new block
  fresh_there : (count block : ℕ) → length pages ≤ block → block < length pages + count
      → slice_get (pages ++ replicate count (fresh_page Hnsw)) block ≡ Some (fresh_page Hnsw)
  fresh_there count block past within =
      let grown = pages ++ replicate count (fresh_page Hnsw) in
      let got : slice_get grown block ≡ Some (get_or grown block (fresh_page Hnsw)) =
      slice_get-get_or grown block (fresh_page Hnsw) (omega (arith, within, fresh_length pages g count s)) in
      got ∙ ap (λ (c : Content). Some c) (get_behind pages (fresh_page Hnsw) count block (get_or grown block (fresh_page Hnsw)) past got)

  next_on : (count : ℕ) (at : Tid) (more used long : ℕ) → length pages ≤ at.block → at.block < length pages + count
      → at.off ≡ more + 1 → used + item_need long ≤ 8160 → IsNextPlace (pages ++ replicate count (fresh_page Hnsw)) at more used long
  next_on count at more used long past within next room =
      (fresh_page Hnsw, fresh_there count at.block past within, omega (arith, next), omega (arith, room, free_fresh))

  some_pages : 1 ≤ length pages
  some_pages = let r = root_is pages s.meta s.read in omega (arith, slice_get_within pages 0 r.page r.there)

  module _ (at list_at : Tid) (version level : ℕ) (id : HeapId) (bits : List Bool) (lists : List (Option Tid)) (some : 1 ≤ version)
      (of_bits : length bits ≡ g.params.bits) (of_slots : length lists ≡ slots_of_level g.params.m level) (few : length lists ≤ MOST_SLOTS) where
    abbrev count : ℕ
    count = max (length pages) (max (at.block + 1) (list_at.block + 1)) - length pages

    abbrev grown : List Content
    grown = pages ++ replicate count (fresh_page Hnsw)

    abbrev takes : ℕ
    takes = item_need (element_size (length bits))

    bits_few : length bits ≤ MOST_BITS
    bits_few = omega (arith, of_bits, (in_range pages g all s).bits_high)

    element_next : length pages ≤ at.block → at.off ≡ 1 → IsNextPlace grown at 0 0 (element_size (length bits))
    element_next past next = next_on count at 0 0 (element_size (length bits)) past (omega (arith, past)) (omega (arith, next))
        (omega (arith, element_fits_page (length bits) bits_few))

    fits_from : length pages ≤ at.block → length pages ≤ list_at.block → at.off ≡ 1
        → (same : Bool) → (at.block == list_at.block) ≡ same
        → IsNextPlace grown list_at (one_if same 1) (one_if same takes) (links_size (length lists))
        → FitsEach pages g.params (Put at list_at version level id bits lists)
    fits_from past list_past next same is list_next =
        put_new_fits pages g all s (new_node at list_at version level id bits lists) (omega (arith, past, some_pages)) (omega (arith, list_past, some_pages))
        some of_bits of_slots few (
          element_next past next,
          subst (λ (b : Bool). IsNextPlace grown list_at (one_if b 1) (one_if b takes) (links_size (length lists))) (sym is) list_next,
        )

    on_one : at.block ≡ length pages → at.off ≡ 1 → list_at.block ≡ length pages → list_at.off ≡ 2
        → takes + item_need (links_size (length lists)) ≤ 8160 → FitsEach pages g.params (Put at list_at version level id bits lists)
    on_one here next there list_next room =
        fits_from (omega (arith, here)) (omega (arith, there)) next true (eq-eqb at.block list_at.block (here ∙ sym there))
        (next_on count list_at 1 takes (links_size (length lists)) (omega (arith, there)) (omega (arith, there)) (omega (arith, list_next)) room)

    on_two : at.block ≡ length pages → at.off ≡ 1 → list_at.block ≡ length pages + 1 → list_at.off ≡ 1
        → FitsEach pages g.params (Put at list_at version level id bits lists)
    on_two here next there list_next =
        let apart : (at.block == list_at.block) ≡ false = ne_eqb at.block list_at.block (λ e. absurd (omega (arith, e, here, there))) in
        fits_from (omega (arith, here)) (omega (arith, there)) next false apart
        (next_on count list_at 0 0 (links_size (length lists)) (omega (arith, there)) (omega (arith, there)) (omega (arith, list_next))
        (omega (arith, list_fits_page (length lists) few)))

  pub put_fresh_fits : (place : Place) (level : ℕ) (id : HeapId) (bits : List Bool) (lists : List (Option Tid)) → new_place g level ≡ Some place
      → length bits ≡ g.params.bits → length lists ≡ slots_of_level g.params.m level → length lists ≤ MOST_SLOTS
      → FitsEach pages g.params (Put place.at place.list_at place.version level id bits lists)
  put_fresh_fits place level id bits lists is of_bits of_slots few = by_size (fits_one_page g level) refl is
    where
      by_size : (one : Bool) → fits_one_page g level ≡ one
          → (if one then fresh_at g.blocks 1 g.blocks 2 else fresh_at g.blocks 1 (g.blocks + 1) 1) ≡ Some place
          → FitsEach pages g.params (Put place.at place.list_at place.version level id bits lists)
      by_size true fits is =
          let f = fresh_is g.blocks 1 g.blocks 2 place is in
          let room : element_need g + list_need g level ≤ 8160 = leb-true (element_need g + list_need g level) 8160 fits in
          let takes : item_need (element_size (length bits)) ≡ element_need g = ap (λ (n : ℕ). item_need (element_size n)) of_bits in
          let needs : item_need (links_size (length lists)) ≡ list_need g level = ap (λ (n : ℕ). item_need (links_size n)) of_slots in
          on_one place.at place.list_at place.version level id bits lists (omega (arith, f.first)) of_bits of_slots few
          (f.at_block ∙ s.blocks) f.at_off (f.list_block_is ∙ s.blocks) f.list_off_is (omega (arith, room, takes, needs))
      by_size false fits is =
          let f = fresh_is g.blocks 1 (g.blocks + 1) 1 place is in
          on_two place.at place.list_at place.version level id bits lists (omega (arith, f.first)) of_bits of_slots few
          (f.at_block ∙ s.blocks) f.at_off (f.list_block_is ∙ ap (λ (n : ℕ). n + 1) s.blocks) f.list_off_is
