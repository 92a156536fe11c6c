-- Redo keeps the format of the meta tuple.
use Rattle.std.proofs.Common.{◌≡◌, ℕ, ◌-◌, ◌<◌, ◌≤◌, ◌&&◌, ◌==◌, Bool, true, false, not, List, length, replicate, get_or, Option, Some, None, refl, sym, ap, subst, ◌∙◌, arith, inl, inr}
use Rattle.std.specs.Prelude.{slice_get, All, Contains, nat_le}
use Rattle.std.specs.Option.{option_map, option_and_then}
use Rattle.std.proofs.lemmas.Bool.{and_parts, leb-true}
use Rattle.std.proofs.lemmas.Option.{slice_get_within, slice_get-get_or}
use Rattle.vec_names.specs.declared.tid.Tid.{Tid}
use Rattle.vec_names.specs.declared.params.Params.{Params}
use Rattle.vec_history.specs.declared.event.Event.{Event}
use Rattle.vec_history.specs.declared.event.Event.TheVariants.{Put, Join, Link, Relist, Drop, Mark, Entry, Hint, IvfAdd, IvfGrow, IvfDrop, IvfHint, Gate, Ungate, Phase, VacuumEnd, Cancel, Settled, DiskFaulted}
use Rattle.page_bytes.specs.declared.kind.PageKind.{PageKind}
use Rattle.page_bytes.specs.declared.kind.PageKind.TheVariants.{Meta as MetaPage, Hnsw, IvfLists, IvfEntries}
use Rattle.page_bytes.specs.Content.{Content, IsPage, item_at}
use Rattle.byte_fields.specs.Levels.{is_level}
use Rattle.vec_tuples.specs.declared.meta.Meta.{Meta}
use Rattle.vec_tuples.specs.Spelling.{IsMeta, meta_bytes}
use Rattle.vec_tuples.specs.Reading.{meta}
use Rattle.vec_tuples.proofs.MetaLaws.{meta_field}
use Rattle.vec_graph.specs.declared.graph.Graph.{Graph}
use Rattle.page_redo.specs.PageTuples.{in_whole, meta_at, with_item, head_changed, links_changed, meta_changed, is_graph, is_meta_page, is_graph_page, is_lists_page, is_entries_page}
use Rattle.page_redo.specs.PageChanges.{PageChange, if_so, on_graph, on_meta, on_entries, joined, dropped, marked, linked, relisted, emptied, new_node, put_element, put_links, entered, hinted, entry_added, grown, chained, entries_dropped, list_block, aimed}
use Rattle.page_redo.specs.Redo.{at_one, at_two, changed, touched, numbered}
use Rattle.page_redo.proofs.ItemLaws.{whole_read}
use Rattle.page_redo.proofs.MetaChanges.{entry_of_graph, hint_of_graph}
use Rattle.page_redo.proofs.Putting.{with_item_here}
use Rattle.graph_pages.specs.Standing.{Stands}
use Rattle.graph_pages.specs.Effects.{format_in}
use Rattle.page_redo.specs.Growing.{extended, blocks_after, fresh_page, new_kind, AreAllRedone}
use Rattle.page_redo.proofs.Given.{then_is, map_is, if_is, when_is}
use Rattle.graph_pages.proofs.StandingLaws.{IsRootOf, root_is, root_fits}
use Rattle.graph_pages.proofs.TwoItems.{none_or_some}
use Rattle.page_redo.proofs.FreshBehind.{get_front}
use Rattle.page_redo.proofs.RedoneOnce.{is_in}

-- ---- roles that give nothing

one_none : (a block : ℕ) (role : PageChange) (c : Content) → role c ≡ None → at_one a role block c ≡ None
one_none a block role c none = by_test (a == block) refl
  where
    by_test : (test : Bool) → (a == block) ≡ test → at_one a role block c ≡ None
    by_test true is = rw (is, none) refl
    by_test false is = rw is refl

two_none : (a b block : ℕ) (first second : PageChange) (c : Content) → first c ≡ None → second c ≡ None → at_two a first b second block c ≡ None
two_none a b block first second c none also = by_tests (a == block) (b == block) refl refl
  where
    by_tests : (x y : Bool) → (a == block) ≡ x → (b == block) ≡ y → at_two a first b second block c ≡ None
    by_tests true true x y = rw (x, y, none) refl
    by_tests true false x y = rw (x, y, none) refl
    by_tests false true x y = rw (x, y, also) refl
    by_tests false false x y = rw (x, y) refl

second_fails : (a b : Bool) (o : Option Content) → b ≡ false → if_so (a && b) o ≡ None
second_fails true true o is = absurd cc
second_fails true false o is = refl
second_fails false b o is = refl

no_graph_page : (k : PageKind) → is_meta_page k ≡ true → is_graph_page k ≡ false
no_graph_page MetaPage is = refl
no_graph_page Hnsw is = absurd cc
no_graph_page IvfLists is = refl
no_graph_page IvfEntries is = refl

no_entries_page : (k : PageKind) → is_meta_page k ≡ true → is_entries_page k ≡ false
no_entries_page MetaPage is = refl
no_entries_page Hnsw is = refl
no_entries_page IvfLists is = refl
no_entries_page IvfEntries is = absurd cc

no_lists_page : (k : PageKind) → is_meta_page k ≡ true → is_lists_page k ≡ false
no_lists_page MetaPage is = refl
no_lists_page Hnsw is = refl
no_lists_page IvfLists is = absurd cc
no_lists_page IvfEntries is = refl

-- ---- the meta page

module _ (c d : Content) (m : Meta) (kind : is_meta_page c.kind ≡ true) (here : meta_at c ≡ Some m) (fits : IsMeta m) where
  abbrev IsKept : Type 0
  IsKept = option_map (λ (m : Meta). m.format) (meta_at d) ≡ Some m.format

  graph_none : (p : Params) (role : PageChange) → on_graph p role c ≡ None
  graph_none p role = second_fails (is_graph p.kind) (is_graph_page c.kind) (role c) (no_graph_page c.kind kind)

  entries_none : (p : Params) (role : PageChange) → on_entries p role c ≡ None
  entries_none p role = second_fails (not (is_graph p.kind)) (is_entries_page c.kind) (role c) (no_entries_page c.kind kind)

  nothing : {made : Option Content} → made ≡ None → made ≡ Some d → IsKept
  nothing none is = absurd (none_or_some d (sym none ∙ is))

  meta_role : (change : Meta → Option Meta) → ((k : Meta) → change m ≡ Some k → IsMeta k × (k.format ≡ m.format))
      → at_one 0 (on_meta (meta_changed change)) 0 c ≡ Some d → IsKept
  meta_role change keeps is =
      let on = if_is (is_meta_page c.kind) (meta_changed change c) d is in
      let a = map_is (λ changed. with_item c 1 (meta_bytes changed)) (change m) d
      (ap (λ o. option_and_then (λ m. option_map (λ changed. with_item c 1 (meta_bytes changed)) (change m)) o) (sym here) ∙ on.1) in
      let k = a.0 in
      let kept = keeps k a.1 in
      let x = then_is (λ x. in_whole (meta x)) (item_at c.items 1) m here in
      let now : meta_at d ≡ Some k =
      ap (λ (d : Content). meta_at d) (sym a.2)
      ∙ ap (λ o. option_and_then (λ x. in_whole (meta x)) o) (with_item_here c 1 x.0 (meta_bytes k) x.1)
      ∙ whole_read meta_field (meta_bytes k) k kept.0 refl in
      ap (λ o. option_map (λ (m : Meta). m.format) o) now ∙ ap (λ (n : ℕ). Some n) kept.1

  entry_keeps : (to : Option Tid) (level : ℕ) → level ≤ 255 → (k : Meta) → entered to level m ≡ Some k → IsMeta k × (k.format ≡ m.format)
  entry_keeps to level low k made =
      let w = when_is (is_graph m.params.kind && is_level to level) (record m { entry = to; level = level }) k made in
      let t = and_parts (is_graph m.params.kind) (is_level to level) w.0 in
      let good : IsMeta (record m { entry = to; level = level }) = record {
        format_low = fits.format_low;
        format_high = fits.format_high;
        params = fits.params;
        entry = entry_of_graph m.params.kind to t.0;
        level = (t.1, omega (arith, low));
        hint = fits.hint;
      } in
      (subst IsMeta w.1 good, ap (λ (m : Meta). m.format) (sym w.1))

  hint_keeps : (hint : ℕ) (k : Meta) → hinted hint m ≡ Some k → IsMeta k × (k.format ≡ m.format)
  hint_keeps hint k made =
      let w = when_is (is_graph m.params.kind && (nat_le 1 hint && nat_le hint 32768)) (record m { hint = hint }) k made in
      let t = and_parts (is_graph m.params.kind) (nat_le 1 hint && nat_le hint 32768) w.0 in
      let u = and_parts (nat_le 1 hint) (nat_le hint 32768) t.1 in
      let good : IsMeta (record m { hint = hint }) = record {
        format_low = fits.format_low;
        format_high = fits.format_high;
        params = fits.params;
        entry = fits.entry;
        level = fits.level;
        hint = hint_of_graph m.params.kind hint t.0 (leb-true 1 hint u.0) (leb-true hint 32768 u.1);
      } in
      (subst IsMeta w.1 good, ap (λ (m : Meta). m.format) (sym w.1))

  kept : (event : Event) (p : Params) (wrap : ℕ) → ((to : Option Tid) (level : ℕ) → event ≡ Entry to level → level ≤ 255)
      → changed event p wrap 0 c ≡ Some d → IsKept
  kept (Put at list_at version level id bits lists) p wrap low is =
      nothing (two_none at.block list_at.block 0 (put_element p (new_node at list_at version level id bits lists)) (put_links p (new_node at list_at version level id bits lists)) c
      (second_fails (is_graph p.kind) (is_graph_page c.kind) _ (no_graph_page c.kind kind))
      (second_fails (is_graph p.kind) (is_graph_page c.kind) _ (no_graph_page c.kind kind))) is
  kept (Join at version id) p wrap low is =
      nothing (one_none at.block 0 (on_graph p (head_changed (joined version id) p at.off)) c (graph_none p (head_changed (joined version id) p at.off))) is
  kept (Link at list_at version slot to) p wrap low is =
      nothing (one_none list_at.block 0 (on_graph p (links_changed (linked version slot to) p list_at.off)) c (graph_none p (links_changed (linked version slot to) p list_at.off))) is
  kept (Relist at list_at version lists) p wrap low is =
      nothing (one_none list_at.block 0 (on_graph p (links_changed (relisted version lists) p list_at.off)) c (graph_none p (links_changed (relisted version lists) p list_at.off))) is
  kept (Drop at version gone) p wrap low is =
      nothing (one_none at.block 0 (on_graph p (head_changed (dropped version gone) p at.off)) c (graph_none p (head_changed (dropped version gone) p at.off))) is
  kept (Mark at list_at version) p wrap low is =
      nothing (two_none at.block list_at.block 0 (on_graph p (head_changed (marked wrap version) p at.off)) (on_graph p (links_changed (emptied wrap version) p list_at.off)) c
      (graph_none p (head_changed (marked wrap version) p at.off)) (graph_none p (links_changed (emptied wrap version) p list_at.off))) is
  kept (Entry to level) p wrap low is = meta_role (entered to level) (entry_keeps to level (low to level refl)) is
  kept (Hint hint) p wrap low is = meta_role (hinted hint) (hint_keeps hint) is
  kept (IvfAdd to id bits) p wrap low is =
      nothing (one_none to 0 (entry_added p id bits) c (second_fails (not (is_graph p.kind)) (is_entries_page c.kind) _ (no_entries_page c.kind kind))) is
  kept (IvfGrow list last new id bits) p wrap low is =
      nothing (two_none new last 0 (grown p id bits) (chained p new bits) c
      (second_fails (not (is_graph p.kind)) (is_entries_page c.kind) _ (no_entries_page c.kind kind))
      (second_fails (not (is_graph p.kind)) (is_entries_page c.kind) _ (no_entries_page c.kind kind))) is
  kept (IvfDrop of gone) p wrap low is =
      nothing (one_none of 0 (entries_dropped p gone) c (second_fails (not (is_graph p.kind)) (is_entries_page c.kind) _ (no_entries_page c.kind kind))) is
  kept (IvfHint list aim) p wrap low is =
      nothing (one_none (list_block p list) 0 (aimed p list aim) c (second_fails (not (is_graph p.kind)) (is_lists_page c.kind) _ (no_lists_page c.kind kind))) is
  kept (Gate gate hold) p wrap low is = absurd cc
  kept (Ungate gate) p wrap low is = absurd cc
  kept (Phase stage) p wrap low is = absurd cc
  kept VacuumEnd p wrap low is = absurd cc
  kept (Cancel stage) p wrap low is = absurd cc
  kept (Settled upto) p wrap low is = absurd cc
  kept (DiskFaulted count) p wrap low is = absurd cc

-- ---- all pages

module _ (pages after : List Content) (g : Graph) (event : Event) (wrap number : ℕ) (all : All IsPage pages) (s : Stands pages g)
    (low : (to : Option Tid) (level : ℕ) → event ≡ Entry to level → level ≤ 255)
    (are : AreAllRedone g.params wrap number event pages after) where
  r : IsRootOf pages s.meta
  r = root_is pages s.meta s.read

  front : slice_get (extended event pages) 0 ≡ slice_get pages 0
  front = get_front pages (replicate (blocks_after event (length pages) - length pages) (fresh_page (new_kind event))) 0
      (slice_get_within pages 0 r.page r.there)

  there : slice_get (extended event pages) 0 ≡ Some r.page
  there = front ∙ r.there

  meta_here : meta_at r.page ≡ Some s.meta
  meta_here = ap (λ o. option_and_then (λ x. in_whole (meta x)) o) r.is ∙ r.reads

  format_was : format_in pages ≡ Some s.meta.format
  format_was = ap (λ o. option_map (λ (m : Meta). m.format) (option_and_then meta_at o)) r.there
      ∙ ap (λ o. option_map (λ (m : Meta). m.format) o) meta_here

  by_redo : Contains (touched event g.params) 0 → format_in after ≡ format_in pages
  by_redo touches =
      let inside : 0 < length after = omega (arith, slice_get_within (extended event pages) 0 r.page there, are.count) in
      let got : slice_get after 0 ≡ Some (get_or after 0 r.page) = slice_get-get_or after 0 r.page inside in
      let made = map_is (numbered number) (changed event g.params wrap 0 r.page) (get_or after 0 r.page) (sym (are.there 0 r.page touches there) ∙ got) in
      let now : slice_get after 0 ≡ Some (numbered number made.0) = got ∙ ap (λ (d : Content). Some d) (sym made.2) in
      ap (λ o. option_map (λ (m : Meta). m.format) (option_and_then meta_at o)) now
      ∙ kept r.page made.0 s.meta r.of_kind meta_here (root_fits pages s.meta all r) event g.params wrap low made.1
      ∙ sym format_was

  pub format_kept : format_in after ≡ format_in pages
  format_kept = elim (is_in (touched event g.params) 0) as (λ _. format_in after ≡ format_in pages) [
    | inl touches ↦ by_redo touches
    | inr apart ↦ ap (λ o. option_map (λ (m : Meta). m.format) (option_and_then meta_at o)) (are.elsewhere 0 apart ∙ front)
  ]
