-- Redo of an event that changes the rows of an element.
use Rattle.std.proofs.Common.{◌≡◌, ℕ, zero, suc, ◌≤◌, ◌^◌, ◌/◌, ◌%◌, ◌&&◌, ◌==◌, Bool, true, false, List, [], ◌∷◌, ◌++◌, length, Option, Some, refl, sym, ap, ap₂, subst, ◌∙◌, arith}
use Rattle.std.specs.Prelude.{slice_get, slice_set, nat_lt, All, if◌then◌else◌}
use Rattle.std.specs.Option.{option_map}
use Rattle.std.proofs.lemmas.Bool.{and_parts, eqb-true, ltb-true}
use Rattle.std.proofs.lemmas.List.{length-append}
use Rattle.list_values.specs.Masks.{kept}
use Rattle.vec_names.specs.declared.tid.Tid.{Tid}
use Rattle.vec_names.specs.declared.heap_id.HeapId.{HeapId}
use Rattle.vec_names.specs.declared.params.Params.{Params}
use Rattle.vec_names.specs.Params.{IsInRange}
use Rattle.page_bytes.specs.Content.{Content, IsPage, item_at}
use Rattle.vec_tuples.specs.declared.element.Element.{Element}
use Rattle.vec_tuples.specs.declared.element.ElementHead.{ElementHead}
use Rattle.vec_tuples.specs.declared.links.Links.{Links}
use Rattle.vec_tuples.specs.Spelling.{element_bytes, element_with, head_with, head_of_element, beside, IsHead, IsElement, IsEmptyIf}
use Rattle.vec_tuples.specs.Reading.{element, links}
use Rattle.vec_tuples.proofs.ElementLaws.{element_field}
use Rattle.vec_graph.specs.declared.node.Node.{Node}
use Rattle.vec_graph.specs.declared.graph.Graph.{Graph}
use Rattle.vec_graph.specs.Effect.{changed}
use Rattle.page_redo.specs.PageTuples.{in_whole, with_item, with_head, head_changed, element_at, is_graph, is_graph_page}
use Rattle.page_redo.specs.PageChanges.{PageChange, on_graph, is_current, joined, dropped}
use Rattle.page_redo.specs.Redo.{at_one, numbered}
use Rattle.graph_pages.specs.Standing.{node_with as made_of, Stands}
use Rattle.page_redo.proofs.Given.{then_is, map_is, if_is, when_is, item_bytes}
use Rattle.page_redo.proofs.ItemLaws.{whole_spelled, whole_read}
use Rattle.page_redo.proofs.Pairs.{no_list}
use Rattle.graph_pages.proofs.PageSets.{changed_at}
use Rattle.graph_pages.proofs.OneItem.{not_root}
use Rattle.graph_pages.proofs.StandingLaws.{root_is, root_fits}
use Rattle.graph_pages.proofs.ElementEffect.{AreElements, element_effect}

-- the head is one whose rows are changed, of an element that is not deleted
pub record AreRowsChanged (to : List HeapId → List HeapId) (h k : ElementHead) : Type 0 where
  pub made : k ≡ head_with h.level h.deleted h.version (to h.ids.items) h.list_at
  pub few : length (to h.ids.items) ≤ 10
  pub not_deleted : h.deleted ≡ false

none_needed : (deleted : Bool) (ids : List HeapId) → deleted ≡ false → IsEmptyIf deleted ids
none_needed false ids is = tt
none_needed true ids is = absurd cc

head_fits : (to : List HeapId → List HeapId) (h k : ElementHead) → IsHead h → AreRowsChanged to h k → IsHead k
head_fits to h k fits rows = subst IsHead (sym rows.made) (record {
  level = fits.level;
  version_low = fits.version_low;
  version_high = fits.version_high;
  few = rows.few;
  none_left = none_needed h.deleted (to h.ids.items) rows.not_deleted;
})

-- the value stays
same_value : (to : List HeapId → List HeapId) (e : Element) (k : ElementHead) → AreRowsChanged to (head_of_element e) k
    → beside k.deleted e.bits ≡ e.bits
same_value to e k rows = ap (λ (k : ElementHead). beside k.deleted e.bits) rows.made ∙ ap (λ d. beside d e.bits) rows.not_deleted

element_fits : (p : Params) (to : List HeapId → List HeapId) (e : Element) (k : ElementHead) → IsElement p e
    → AreRowsChanged to (head_of_element e) k → IsElement p (with_head k e)
element_fits p to e k fits rows =
    let b : beside k.deleted e.bits ≡ e.bits = same_value to e k rows in
    let not_deleted : k.deleted ≡ false = ap (λ (k : ElementHead). k.deleted) rows.made ∙ rows.not_deleted in
    record {
      head = head_fits to (head_of_element e) k fits.head rows;
      long = ap (λ (b : List Bool). length b) b ∙ fits.long;
      cleared = sym (ap (λ d. beside d (beside k.deleted e.bits)) not_deleted);
    }

node_is : (to : List HeapId → List HeapId) (e : Element) (k : ElementHead) → AreRowsChanged to (head_of_element e) k
    → (l : Links) → (λ (n : Node). record n { ids = to n.ids }) (made_of e l) ≡ made_of (with_head k e) l
node_is to e k rows l =
    ap (λ b. made_of (element_with (head_with e.level e.deleted e.version (to e.ids.items) e.list_at) b) l) (sym (same_value to e k rows))
    ∙ ap (λ (h : ElementHead). made_of (element_with h (beside k.deleted e.bits)) l) (sym rows.made)

-- ---- redo

-- an event that touches one block fits only that block's page
pub one_place : (pages : List Content) (h : Graph) (a number block : ℕ) (role : PageChange) (page after : Content)
    → slice_get pages block ≡ Some page → option_map (numbered number) (at_one a role block page) ≡ Some after
    → ((d : Content) → slice_get pages a ≡ Some page → role page ≡ Some d → Stands (slice_set pages a (numbered number d)) h) → Stands (slice_set pages block after) h
one_place pages h a number block role page after there is effect =
    let d = map_is (numbered number) (at_one a role block page) after is in
    let t = if_is (a == block) (role page) d.0 d.1 in
    let same : a ≡ block = eqb-true a block t.0 in
    subst (λ (z : List Content). Stands z h) (ap₂ (λ b c. slice_set pages b c) same d.2) (effect d.0 (ap (slice_get pages) same ∙ there) t.1)

pub low_from : (block : ℕ) → (block ≡ 0 → ⊥) → 1 ≤ block
low_from zero apart = absurd (apart refl)
low_from (suc block) apart = omega arith

pub params_in_range : (pages : List Content) (g : Graph) (s : Stands pages g) → All IsPage pages → IsInRange s.meta.params
params_in_range pages g s all = (root_fits pages s.meta all (root_is pages s.meta s.read)).params

module _ (pages : List Content) (g : Graph) (place : Tid) (number : ℕ) (all : All IsPage pages) (s : Stands pages g) where
  abbrev p : Params
  p = s.meta.params

  rows_effect : (change : ElementHead → Option ElementHead) (to : List HeapId → List HeapId)
      → ((h k : ElementHead) → IsHead h → change h ≡ Some k → AreRowsChanged to h k)
      → (c d : Content) → slice_get pages place.block ≡ Some c → on_graph p (head_changed change p place.off) c ≡ Some d
      → Stands (slice_set pages place.block (numbered number d)) (changed g place (λ n. record n { ids = to n.ids }))
  rows_effect change to rows c d there is =
      let range = params_in_range pages g s all in
      let on = if_is (is_graph p.kind && is_graph_page c.kind) (head_changed change p place.off c) d is in
      let kind = (and_parts (is_graph p.kind) (is_graph_page c.kind) on.0).1 in
      let a = then_is (λ e. option_map (λ h. with_item c place.off (element_bytes (with_head h e))) (change (head_of_element e))) (element_at p c place.off) d on.1 in
      let e = a.0 in
      let b = map_is (λ h. with_item c place.off (element_bytes (with_head h e))) (change (head_of_element e)) d a.2 in
      let k = b.0 in
      let i = then_is (λ x. in_whole (element p x)) (item_at c.items place.off) e a.1 in
      let old = i.0 in
      let spelled = whole_spelled (element_field p range) old e (item_bytes pages place.block place.off c old all there i.1) i.2 in
      let changes = rows (head_of_element e) k spelled.0.head b.1 in
      let f = with_head k e in
      let new = element_bytes f in
      let apart : place.block ≡ 0 → ⊥ = not_root pages g place.block c s there kind in
      let are : AreElements p old new e f = record {
        was = i.2;
        now = whole_read (element_field p range) new f (element_fits p to e k spelled.0 changes) refl;
        no_list = ap (λ x. in_whole (links p x)) spelled.1 ∙ no_list p e;
        no_list_now = no_list p f;
        level = ap (λ (k : ElementHead). k.level) changes.made;
        version = ap (λ (k : ElementHead). k.version) changes.made;
        deleted = ap (λ (k : ElementHead). k.deleted) changes.made;
        list_at = ap (λ (k : ElementHead). k.list_at) changes.made;
      } in
      subst (λ (z : Content). Stands (slice_set pages place.block (numbered number z)) (changed g place (λ n. record n { ids = to n.ids }))) b.2
      (element_effect pages (slice_set pages place.block (numbered number (with_item c place.off new))) g place old new e f s (changed_at pages place c number old new there i.1)
      apart (low_from place.block apart) are (λ n. record n { ids = to n.ids }) (node_is to e k changes))

-- ---- the rows

pub is_new : (deleted : Bool) (found version : ℕ) → is_current deleted found version ≡ true → deleted ≡ false
is_new false found version is = refl
is_new true found version is = absurd cc

pub rows_joined : (version : ℕ) (id : HeapId) (h k : ElementHead) → IsHead h → joined version id h ≡ Some k
    → AreRowsChanged (λ ids. ids ++ id ∷ []) h k
rows_joined version id h k fits is =
    let w = when_is (is_current h.deleted h.version version && nat_lt (length h.ids.items) 10) (head_with h.level h.deleted h.version (h.ids.items ++ id ∷ []) h.list_at) k is in
    let t = and_parts (is_current h.deleted h.version version) (nat_lt (length h.ids.items) 10) w.0 in
    record { made = sym w.1; few = omega (arith, length-append h.ids.items (id ∷ []), ltb-true (length h.ids.items) 10 t.1); not_deleted = is_new h.deleted h.version version t.0 }

kept_few : (mask : ℕ) (ids : List HeapId) → length (kept mask ids) ≤ length ids
kept_few mask [] = omega arith
kept_few mask (id ∷ ids) = by_bit (mask % 2 == 1) (kept_few (mask / 2) ids)
  where
    by_bit : (b : Bool) → length (kept (mask / 2) ids) ≤ length ids
        → length (if b then kept (mask / 2) ids else id ∷ kept (mask / 2) ids) ≤ length (id ∷ ids)
    by_bit true rest = omega (arith, rest)
    by_bit false rest = omega (arith, rest)

pub rows_dropped : (version gone : ℕ) (h k : ElementHead) → IsHead h → dropped version gone h ≡ Some k
    → AreRowsChanged (kept gone) h k
rows_dropped version gone h k fits is =
    let w = when_is (is_current h.deleted h.version version && nat_lt gone (2 ^ length h.ids.items)) (head_with h.level h.deleted h.version (kept gone h.ids.items) h.list_at) k is in
    let t = and_parts (is_current h.deleted h.version version) (nat_lt gone (2 ^ length h.ids.items)) w.0 in
    record { made = sym w.1; few = omega (arith, kept_few gone h.ids.items, fits.few); not_deleted = is_new h.deleted h.version version t.0 }

module _ (pages : List Content) (g : Graph) (place : Tid) (number block : ℕ) (page after : Content) (all : All IsPage pages) (s : Stands pages g) (there : slice_get pages block ≡ Some page) where
  head_effect : (change : ElementHead → Option ElementHead) (to : List HeapId → List HeapId)
      → ((h k : ElementHead) → IsHead h → change h ≡ Some k → AreRowsChanged to h k)
      → option_map (numbered number) (at_one place.block (on_graph g.params (head_changed change g.params place.off)) block page) ≡ Some after
      → Stands (slice_set pages block after) (changed g place (λ n. record n { ids = to n.ids }))
  head_effect change to rows is =
      one_place pages (changed g place (λ n. record n { ids = to n.ids })) place.block number block (on_graph s.meta.params (head_changed change s.meta.params place.off)) page after there
      (subst (λ (p : Params). option_map (numbered number) (at_one place.block (on_graph p (head_changed change p place.off)) block page) ≡ Some after) s.params is)
      (λ d here made. rows_effect pages g place number all s change to rows page d here made)

  pub join_effect : (version : ℕ) (id : HeapId)
      → option_map (numbered number) (at_one place.block (on_graph g.params (head_changed (joined version id) g.params place.off)) block page) ≡ Some after
      → Stands (slice_set pages block after) (changed g place (λ n. record n { ids = n.ids ++ id ∷ [] }))
  join_effect version id = head_effect (joined version id) (λ ids. ids ++ id ∷ []) (rows_joined version id)

  pub drop_effect : (version gone : ℕ)
      → option_map (numbered number) (at_one place.block (on_graph g.params (head_changed (dropped version gone) g.params place.off)) block page) ≡ Some after
      → Stands (slice_set pages block after) (changed g place (λ n. record n { ids = kept gone n.ids }))
  drop_effect version gone = head_effect (dropped version gone) (kept gone) (rows_dropped version gone)
