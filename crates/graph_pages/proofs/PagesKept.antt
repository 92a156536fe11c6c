-- Redo of an event that follows leaves pages that have bytes, and gives each page that it touches its number.
use Rattle.std.proofs.Common.{◌≡◌, ℕ, ◌+◌, ◌*◌, ◌/◌, ◌<◌, ◌≤◌, ◌&&◌, ◌==◌, eqb, Bool, true, false, List, [], ◌∷◌, length, get_or, Option, Some, None, refl, sym, ap, subst, ◌∙◌, arith, inl, inr}
use Rattle.std.specs.Prelude.{⊤}
use Rattle.std.specs.Option.{option_map}
use Rattle.std.proofs.lemmas.Bool.{and_parts, eqb-true, eq-eqb, ne_eqb, cases_eq}
use Rattle.std.proofs.lemmas.List.{length-set, length-replicate}
use Rattle.std.proofs.lemmas.List.Elements.{All-cons, All-nil}
use Rattle.index_sizes.specs.Sizes.{next_version}
use Rattle.vec_names.specs.declared.tid.Tid.{Tid}
use Rattle.vec_names.specs.declared.heap_id.HeapId.{HeapId}
use Rattle.vec_names.specs.declared.params.Params.{Params}
use Rattle.vec_names.specs.Params.{IsInRange}
use Rattle.vec_history.specs.declared.event.Event.{Event}
use Rattle.vec_history.specs.declared.event.Event.TheVariants.{Put, Join, Link, Relist, Drop, Mark, Entry, Hint, IvfAdd, IvfGrow, IvfDrop, IvfHint, Gate, Ungate, Phase, VacuumEnd, Cancel, Settled, DiskFaulted}
use Rattle.page_bytes.specs.Content.{Content, IsPage, IsItem, item_at}
use Rattle.vec_tuples.specs.declared.meta.Meta.{Meta}
use Rattle.vec_tuples.specs.declared.element.ElementHead.{ElementHead}
use Rattle.vec_tuples.specs.declared.links.Links.{Links}
use Rattle.vec_tuples.specs.Spelling.{meta_bytes, element_bytes, head_of_element, beside, links_bytes}
use Rattle.vec_tuples.specs.Reading.{meta, element, links}
use Rattle.vec_tuples.proofs.MetaLaws.{meta_field}
use Rattle.vec_tuples.proofs.ElementLaws.{element_field}
use Rattle.vec_tuples.proofs.LinksLaws.{links_field}
use Rattle.vec_tuples.proofs.SlotPlaces.{length-links_bytes}
use Rattle.page_redo.specs.PageTuples.{in_whole, element_at, links_at, meta_at, with_item, with_head, added, head_changed, links_changed, meta_changed, is_graph, is_graph_page, is_meta_page}
use Rattle.page_redo.specs.PageChanges.{PageChange, NewNode, new_node, new_element, new_links, is_current, is_node, is_old_element, are_old_links, if_so, on_graph, on_meta, joined, dropped, marked, linked, relisted, emptied, put_over, put, put_element, put_links, entered, hinted}
use Rattle.page_redo.specs.Redo.{at_one, at_two, changed}
use Rattle.page_redo.proofs.ItemLaws.{whole_spelled}
use Rattle.page_redo.proofs.Lengths.{length-element_bytes, element_long, meta_long}
use Rattle.page_redo.proofs.Given.{then_is, map_is, if_is, when_is, item_bytes}
use Rattle.graph_pages.proofs.TwoItems.{none_or_some}
use Rattle.page_redo.proofs.TwoBlocks.{two_same, two_first, two_second}
use Rattle.page_redo.proofs.SpelledBytes.{element_all, links_all, meta_all}
use Rattle.page_redo.proofs.KeptPages.{page_set, page_more}

-- ---- changes that keep a page

unfoldable Keeps : PageChange → Type 0
Keeps role = (c d : Content) → IsPage c → role c ≡ Some d → IsPage d

of_page : (c : Content) (off : ℕ) (x : List ℕ) → IsPage c → item_at c.items off ≡ Some x → (i : ℕ) → get_or x i 0 < 256
of_page c off x page is = item_bytes (c ∷ []) 0 off c x (All-cons IsPage c [] page (All-nil IsPage)) refl is

one_keeps : (a block : ℕ) (role : PageChange) → Keeps role → Keeps (at_one a role block)
unfolding Keeps
one_keeps a block role keeps c d page is = keeps c d page (if_is (a == block) (role c) d is).1

two_keeps : (a b block : ℕ) (first second : PageChange) → Keeps first → Keeps second → Keeps (at_two a first b second block)
unfolding Keeps
two_keeps a b block first second keeps also c d page is = elim (cases_eq a block) as (λ _. IsPage d) [
  | inl e ↦ elim (cases_eq b block) as (λ _. IsPage d) [
    | inl f ↦
        let m = then_is second (first c) d (sym (two_same a b block first second c e f) ∙ is) in
        also m.0 d (keeps c m.0 page m.1) m.2
    | inr f ↦ keeps c d page (sym (two_first a b block first second c e f) ∙ is)
  ]
  | inr e ↦ elim (cases_eq b block) as (λ _. IsPage d) [
    | inl f ↦ also c d page (sym (two_second a b block first second c e f) ∙ is)
    | inr f ↦
        let nothing : at_two a first b second block c ≡ None = rw (ne_eqb a block e, ne_eqb b block f) refl in
        absurd (none_or_some d (sym nothing ∙ is))
  ]
]

nothing_keeps : Keeps (λ c. None)
unfolding Keeps
nothing_keeps c d page is = absurd (none_or_some d is)

graph_keeps : (p : Params) (role : PageChange) → Keeps role → Keeps (on_graph p role)
unfolding Keeps
graph_keeps p role keeps c d page is = keeps c d page (if_is (is_graph p.kind && is_graph_page c.kind) (role c) d is).1

-- ---- of an element's head, of a list and of the meta tuple

same_long : (deleted : Bool) (bits : List Bool) → length (beside deleted bits) ≡ length bits
same_long false bits = refl
same_long true bits = length-replicate (length bits) false

module _ (p : Params) (range : IsInRange p) where
  head_keeps : (change : ElementHead → Option ElementHead) (off : ℕ)
      → ((h k : ElementHead) → change h ≡ Some k → h.version ≤ 255 → (k.level ≡ h.level) × (k.version ≤ 255)) → Keeps (head_changed change p off)
  unfolding Keeps
  head_keeps change off so c d page is =
      let e = then_is (λ e. option_map (λ h. with_item c off (element_bytes (with_head h e))) (change (head_of_element e))) (element_at p c off) d is in
      let h = map_is (λ h. with_item c off (element_bytes (with_head h e.0))) (change (head_of_element e.0)) d e.2 in
      let x = then_is (λ x. in_whole (element p x)) (item_at c.items off) e.0 e.1 in
      let spelled = whole_spelled (element_field p range) x.0 e.0 (of_page c off x.0 page x.1) x.2 in
      let kept = so (head_of_element e.0) h.0 h.1 spelled.0.head.version_high in
      let new = with_head h.0 e.0 in
      let was : length x.0 ≡ length (element_bytes e.0) = ap (λ (y : List ℕ). length y) spelled.1 in
      let long : length new.bits ≡ length e.0.bits = same_long h.0.deleted e.0.bits in
      let item : IsItem (element_bytes new) = record {
        some = omega (arith, element_long new);
        bytes = element_all new (omega (arith, kept.0, spelled.0.head.level)) kept.1;
      } in
      subst IsPage h.2 (page_set c off x.0 (element_bytes new) page x.1
      (was ∙ length-element_bytes e.0 ∙ ap (λ n. 80 + (n + 7) / 8) (sym long) ∙ sym (length-element_bytes new)) item)

  links_keep : (change : Links → Option Links) (off : ℕ)
      → ((l k : Links) → change l ≡ Some k → l.version ≤ 255 → (length k.tids ≡ length l.tids) × (k.version ≤ 255)) → Keeps (links_changed change p off)
  unfolding Keeps
  links_keep change off so c d page is =
      let l = then_is (λ l. option_map (λ changed. with_item c off (links_bytes changed)) (change l)) (links_at p c off) d is in
      let k = map_is (λ changed. with_item c off (links_bytes changed)) (change l.0) d l.2 in
      let x = then_is (λ x. in_whole (links p x)) (item_at c.items off) l.0 l.1 in
      let spelled = whole_spelled (links_field p range) x.0 l.0 (of_page c off x.0 page x.1) x.2 in
      let kept = so l.0 k.0 k.1 spelled.0.version_high in
      let was : length x.0 ≡ length (links_bytes l.0) = ap (λ (y : List ℕ). length y) spelled.1 in
      let item : IsItem (links_bytes k.0) = record { some = omega (arith, length-links_bytes k.0); bytes = links_all k.0 kept.1 } in
      subst IsPage k.2 (page_set c off x.0 (links_bytes k.0) page x.1
      (was ∙ length-links_bytes l.0 ∙ ap (λ n. 4 + 6 * n) (sym kept.0) ∙ sym (length-links_bytes k.0)) item)

meta_keeps : (change : Meta → Option Meta) → ((m k : Meta) → change m ≡ Some k → m.level ≤ 255 → k.level ≤ 255) → Keeps (on_meta (meta_changed change))
unfolding Keeps
meta_keeps change so c d page is =
    let on = if_is (is_meta_page c.kind) (meta_changed change c) d is in
    let m = then_is (λ m. option_map (λ changed. with_item c 1 (meta_bytes changed)) (change m)) (meta_at c) d on.1 in
    let k = map_is (λ changed. with_item c 1 (meta_bytes changed)) (change m.0) d m.2 in
    let x = then_is (λ x. in_whole (meta x)) (item_at c.items 1) m.0 m.1 in
    let spelled = whole_spelled meta_field x.0 m.0 (of_page c 1 x.0 page x.1) x.2 in
    let was : length x.0 ≡ length (meta_bytes m.0) = ap (λ (y : List ℕ). length y) spelled.1 in
    let item : IsItem (meta_bytes k.0) = record {
      some = omega (arith, meta_long k.0);
      bytes = meta_all k.0 (so m.0 k.0 k.1 (omega (arith, spelled.0.level.1)));
    } in
    subst IsPage k.2 (page_set c 1 x.0 (meta_bytes k.0) page x.1 (was ∙ meta_long m.0 ∙ sym (meta_long k.0)) item)

-- ---- of a new tuple

put_over_keeps : (o : Option (List ℕ)) (off : ℕ) (go : Bool) (x : List ℕ) (c d : Content) → IsPage c → IsItem x → item_at c.items off ≡ o
    → put_over o off go x c ≡ Some d → IsPage d
put_over_keeps None off go x c d page item there is = page_more c d x page item (if_is (off == length c.items + 1) (added x c) d is).1
put_over_keeps (Some old) off go x c d page item there is =
    let w = when_is (go && eqb (length old) (length x)) (with_item c off x) d is in
    let long = eqb-true (length old) (length x) (and_parts go (eqb (length old) (length x)) w.0).1 in
    subst IsPage w.1 (page_set c off old x page there long item)

module _ (p : Params) (n : NewNode) (version : n.version ≤ 255) (level : n.level ≤ 255) where
  element_keeps : Keeps (put_element p n)
  unfolding Keeps
  element_keeps c d page is =
      let x = element_bytes (new_element n) in
      let go = is_old_element n.version (element_at p c n.at.off) in
      let on = if_is (is_graph p.kind && is_graph_page c.kind) (if_so (is_node p n) (put n.at.off go x c)) d is in
      let node = if_is (is_node p n) (put n.at.off go x c) d on.1 in
      put_over_keeps (item_at c.items n.at.off) n.at.off go x c d page
      (record { some = omega (arith, element_long (new_element n)); bytes = element_all (new_element n) level version }) refl node.1

  list_keeps : Keeps (put_links p n)
  unfolding Keeps
  list_keeps c d page is =
      let x = links_bytes (new_links n) in
      let go = are_old_links n.version (links_at p c n.list_at.off) in
      let on = if_is (is_graph p.kind && is_graph_page c.kind) (if_so (is_node p n) (put n.list_at.off go x c)) d is in
      let node = if_is (is_node p n) (put n.list_at.off go x c) d on.1 in
      put_over_keeps (item_at c.items n.list_at.off) n.list_at.off go x c d page
      (record { some = omega (arith, length-links_bytes (new_links n)); bytes = links_all (new_links n) version }) refl node.1

-- ---- events

next_high : (wrap v : ℕ) → v ≤ 255 → next_version wrap v ≤ 255
next_high wrap v high = by_tests (v == wrap) (v == 255) refl refl
  where
    by_tests : (a b : Bool) → (v == wrap) ≡ a → (v == 255) ≡ b → next_version wrap v ≤ 255
    by_tests true b is also = rw is (omega arith)
    by_tests false true is also = rw (is, also) (omega arith)
    by_tests false false is also = rw (is, also) (let apart : v ≡ 255 → ⊥ = λ e. let t = eq-eqb v 255 e in absurd cc in omega (arith, high, apart))

-- the version and the level of a Put, and the level of an Entry, have one byte each; the event is of a graph
abbrev pub AreSmall : Event → Type 0
AreSmall (Put at list_at version level id bits lists) = (version ≤ 255) × (level ≤ 255)
AreSmall (Entry to level) = level ≤ 255
AreSmall (IvfAdd to id bits) = ⊥
AreSmall (IvfGrow list last new id bits) = ⊥
AreSmall (IvfDrop of gone) = ⊥
AreSmall (IvfHint list aim) = ⊥
AreSmall _ = ⊤

module _ (p : Params) (range : IsInRange p) (wrap block : ℕ) where
  joined_so : (version : ℕ) (id : HeapId) (h k : ElementHead) → joined version id h ≡ Some k → h.version ≤ 255 → (k.level ≡ h.level) × (k.version ≤ 255)
  joined_so version id h k is high =
      let w = when_is _ _ k is in
      (ap (λ (k : ElementHead). k.level) (sym w.1), subst (λ (k : ElementHead). k.version ≤ 255) w.1 (omega (arith, high)))

  dropped_so : (version gone : ℕ) (h k : ElementHead) → dropped version gone h ≡ Some k → h.version ≤ 255 → (k.level ≡ h.level) × (k.version ≤ 255)
  dropped_so version gone h k is high =
      let w = when_is _ _ k is in
      (ap (λ (k : ElementHead). k.level) (sym w.1), subst (λ (k : ElementHead). k.version ≤ 255) w.1 (omega (arith, high)))

  marked_so : (version : ℕ) (h k : ElementHead) → marked wrap version h ≡ Some k → h.version ≤ 255 → (k.level ≡ h.level) × (k.version ≤ 255)
  marked_so version h k is high =
      let w = when_is _ _ k is in
      (ap (λ (k : ElementHead). k.level) (sym w.1), subst (λ (k : ElementHead). k.version ≤ 255) w.1 (next_high wrap h.version high))

  linked_so : (version slot : ℕ) (to : Tid) (l k : Links) → linked version slot to l ≡ Some k → l.version ≤ 255
      → (length k.tids ≡ length l.tids) × (k.version ≤ 255)
  linked_so version slot to l k is high =
      let w = when_is _ _ k is in
      (ap (λ (k : Links). length k.tids) (sym w.1) ∙ length-set l.tids slot (Some to), subst (λ (k : Links). k.version ≤ 255) w.1 (omega (arith, high)))

  relisted_so : (version : ℕ) (tids : List (Option Tid)) (l k : Links) → relisted version tids l ≡ Some k → l.version ≤ 255
      → (length k.tids ≡ length l.tids) × (k.version ≤ 255)
  relisted_so version tids l k is high =
      let w = when_is (is_current l.deleted l.version version && length tids == length l.tids) _ k is in
      let many = eqb-true (length tids) (length l.tids) (and_parts (is_current l.deleted l.version version) (length tids == length l.tids) w.0).1 in
      (ap (λ (k : Links). length k.tids) (sym w.1) ∙ many, subst (λ (k : Links). k.version ≤ 255) w.1 (omega (arith, high)))

  emptied_so : (version : ℕ) (l k : Links) → emptied wrap version l ≡ Some k → l.version ≤ 255 → (length k.tids ≡ length l.tids) × (k.version ≤ 255)
  emptied_so version l k is high =
      let w = when_is _ _ k is in
      (ap (λ (k : Links). length k.tids) (sym w.1) ∙ length-replicate (length l.tids) None, subst (λ (k : Links). k.version ≤ 255) w.1 (next_high wrap l.version high))

  entered_so : (to : Option Tid) (level : ℕ) → level ≤ 255 → (m k : Meta) → entered to level m ≡ Some k → m.level ≤ 255 → k.level ≤ 255
  entered_so to level low m k is high = let w = when_is _ _ k is in subst (λ (k : Meta). k.level ≤ 255) w.1 low

  hinted_so : (hint : ℕ) (m k : Meta) → hinted hint m ≡ Some k → m.level ≤ 255 → k.level ≤ 255
  hinted_so hint m k is high = let w = when_is _ _ k is in subst (λ (k : Meta). k.level ≤ 255) w.1 high

  event_keeps : (event : Event) → AreSmall event → Keeps (changed event p wrap block)
  event_keeps (Put at list_at version level id bits lists) small =
      let n = new_node at list_at version level id bits lists in
      two_keeps at.block list_at.block block (put_element p n) (put_links p n) (element_keeps p n small.0 small.1) (list_keeps p n small.0 small.1)
  event_keeps (Join at version id) small =
      one_keeps at.block block (on_graph p (head_changed (joined version id) p at.off))
      (graph_keeps p (head_changed (joined version id) p at.off) (head_keeps p range (joined version id) at.off (joined_so version id)))
  event_keeps (Link at list_at version slot to) small =
      one_keeps list_at.block block (on_graph p (links_changed (linked version slot to) p list_at.off))
      (graph_keeps p (links_changed (linked version slot to) p list_at.off) (links_keep p range (linked version slot to) list_at.off (linked_so version slot to)))
  event_keeps (Relist at list_at version lists) small =
      one_keeps list_at.block block (on_graph p (links_changed (relisted version lists) p list_at.off))
      (graph_keeps p (links_changed (relisted version lists) p list_at.off) (links_keep p range (relisted version lists) list_at.off (relisted_so version lists)))
  event_keeps (Drop at version gone) small =
      one_keeps at.block block (on_graph p (head_changed (dropped version gone) p at.off))
      (graph_keeps p (head_changed (dropped version gone) p at.off) (head_keeps p range (dropped version gone) at.off (dropped_so version gone)))
  event_keeps (Mark at list_at version) small =
      two_keeps at.block list_at.block block (on_graph p (head_changed (marked wrap version) p at.off)) (on_graph p (links_changed (emptied wrap version) p list_at.off))
      (graph_keeps p (head_changed (marked wrap version) p at.off) (head_keeps p range (marked wrap version) at.off (marked_so version)))
      (graph_keeps p (links_changed (emptied wrap version) p list_at.off) (links_keep p range (emptied wrap version) list_at.off (emptied_so version)))
  event_keeps (Entry to level) small = one_keeps 0 block (on_meta (meta_changed (entered to level))) (meta_keeps (entered to level) (entered_so to level small))
  event_keeps (Hint hint) small = one_keeps 0 block (on_meta (meta_changed (hinted hint))) (meta_keeps (hinted hint) (hinted_so hint))
  event_keeps (IvfAdd to id bits) small = absurd small
  event_keeps (IvfGrow list last new id bits) small = absurd small
  event_keeps (IvfDrop of gone) small = absurd small
  event_keeps (IvfHint list aim) small = absurd small
  event_keeps (Gate gate hold) small = nothing_keeps
  event_keeps (Ungate gate) small = nothing_keeps
  event_keeps (Phase stage) small = nothing_keeps
  event_keeps VacuumEnd small = nothing_keeps
  event_keeps (Cancel stage) small = nothing_keeps
  event_keeps (Settled upto) small = nothing_keeps
  event_keeps (DiskFaulted count) small = nothing_keeps

  pub keeps_page : (event : Event) → AreSmall event → (c d : Content) → IsPage c → changed event p wrap block c ≡ Some d → IsPage d
  unfolding Keeps
  keeps_page event small c d page is = event_keeps event small c d page is
