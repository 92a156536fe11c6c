-- Redo of an event that changes the slots of a neighbour tuple.
use Rattle.std.proofs.Common.{◌≡◌, ℕ, zero, suc, ◌<◌, ◌&&◌, ◌==◌, Bool, true, false, List, [], ◌∷◌, length, Option, Some, None, refl, sym, ap, subst, ◌∙◌, arith}
use Rattle.std.specs.Prelude.{slice_get, slice_set, nat_lt, All}
use Rattle.std.specs.List.{list_all, AllByRecursion}
use Rattle.std.specs.Option.{option_map}
use Rattle.std.proofs.lemmas.Bool.{and_parts, and_from, eqb-true, lt-ltb}
use Rattle.std.proofs.lemmas.List.{length-set}
use Rattle.vec_names.specs.declared.tid.Tid.{Tid}
use Rattle.vec_names.specs.declared.params.Params.{Params}
use Rattle.page_bytes.specs.Content.{Content, IsPage, item_at}
use Rattle.vec_tuples.specs.declared.links.Links.{Links}
use Rattle.vec_tuples.specs.Spelling.{links_bytes, links_with, IsLinks, IsSlotCount, IsSlotOf}
use Rattle.vec_tuples.specs.Reading.{element, links}
use Rattle.vec_tuples.proofs.LinksLaws.{links_field}
use Rattle.vec_graph.specs.declared.node.Node.{Node}
use Rattle.vec_graph.specs.declared.graph.Graph.{Graph}
use Rattle.vec_graph.specs.Graph.{node_at}
use Rattle.vec_graph.specs.Effect.{changed}
use Rattle.page_redo.specs.PageTuples.{in_whole, with_item, links_changed, links_at, is_graph, is_graph_page}
use Rattle.page_redo.specs.PageChanges.{on_graph, is_current, linked, relisted}
use Rattle.page_redo.specs.Redo.{at_one, numbered}
use Rattle.graph_pages.specs.Standing.{is_slot_below, node_with as made_of, Stands}
use Rattle.page_redo.proofs.Given.{then_is, map_is, if_is, when_is, item_bytes}
use Rattle.page_redo.proofs.ItemLaws.{whole_spelled, whole_read}
use Rattle.graph_pages.proofs.KindsApart.{list_is_no_element}
use Rattle.graph_pages.proofs.PageSets.{changed_at}
use Rattle.graph_pages.proofs.OneItem.{not_root}
use Rattle.graph_pages.proofs.HeadEffect.{one_place, low_from, params_in_range, is_new}
use Rattle.graph_pages.proofs.ListEffect.{AreLists, list_effect}

-- the tuple is one whose slots are changed, of an element that is not deleted
pub record AreSlotsChanged (to : List (Option Tid) → List (Option Tid)) (l k : Links) : Type 0 where
  pub made : k ≡ links_with l.deleted l.version (to l.tids)
  pub as_many : length (to l.tids) ≡ length l.tids
  pub not_deleted : l.deleted ≡ false

any_slots : (tids : List (Option Tid)) → AllByRecursion (IsSlotOf false) tids
any_slots [] = tt
any_slots (t ∷ tids) = (tt, any_slots tids)

list_fits : (p : Params) (to : List (Option Tid) → List (Option Tid)) (l k : Links) → IsLinks p l → AreSlotsChanged to l k
    → IsLinks p k
list_fits p to l k fits slots = subst (IsLinks p) (sym slots.made) (record {
  version_low = fits.version_low;
  version_high = fits.version_high;
  count = subst (IsSlotCount p.m) (sym slots.as_many) fits.count;
  slots = subst (λ d. AllByRecursion (IsSlotOf d) (to l.tids)) (sym slots.not_deleted) (any_slots (to l.tids));
})

-- ---- redo

module _ (pages : List Content) (g : Graph) (place at : Tid) (n : Node) (number : ℕ) (all : All IsPage pages) (s : Stands pages g) (stands : node_at g at ≡ Some n) (listed : n.list_at ≡ place) where
  abbrev p : Params
  p = s.meta.params

  slots_effect : (change : Links → Option Links) (to : List (Option Tid) → List (Option Tid))
      → ((l k : Links) → change l ≡ Some k → AreSlotsChanged to l k)
      → ((tids : List (Option Tid)) → list_all (is_slot_below (length pages)) tids ≡ true → list_all (is_slot_below (length pages)) (to tids) ≡ true)
      → (c d : Content) → slice_get pages place.block ≡ Some c → on_graph p (links_changed change p place.off) c ≡ Some d
      → Stands (slice_set pages place.block (numbered number d)) (changed g at (λ n. record n { slots = to n.slots }))
  slots_effect change to slots below c d there is =
      let range = params_in_range pages g s all in
      let on = if_is (is_graph p.kind && is_graph_page c.kind) (links_changed change p place.off c) d is in
      let kind = (and_parts (is_graph p.kind) (is_graph_page c.kind) on.0).1 in
      let a = then_is (λ l. option_map (λ changed. with_item c place.off (links_bytes changed)) (change l)) (links_at p c place.off) d on.1 in
      let l = a.0 in
      let b = map_is (λ changed. with_item c place.off (links_bytes changed)) (change l) d a.2 in
      let k = b.0 in
      let i = then_is (λ x. in_whole (links p x)) (item_at c.items place.off) l a.1 in
      let old = i.0 in
      let spelled = whole_spelled (links_field p range) old l (item_bytes pages place.block place.off c old all there i.1) i.2 in
      let changes = slots l k b.1 in
      let new = links_bytes k in
      let apart : place.block ≡ 0 → ⊥ = not_root pages g place.block c s there kind in
      let are : AreLists p old new l k = record {
        was = i.2;
        now = whole_read (links_field p range) new k (list_fits p to l k spelled.0 changes) refl;
        no_element = ap (λ x. in_whole (element p x)) spelled.1 ∙ list_is_no_element p l;
        no_element_now = list_is_no_element p k;
        version = ap (λ (k : Links). k.version) changes.made;
        deleted = ap (λ (k : Links). k.deleted) changes.made;
        count = ap (λ (k : Links). length k.tids) changes.made ∙ changes.as_many;
      } in
      subst (λ (z : Content). Stands (slice_set pages place.block (numbered number z)) (changed g at (λ n. record n { slots = to n.slots }))) b.2
      (list_effect pages (slice_set pages place.block (numbered number (with_item c place.off new))) g place old new l k s (changed_at pages place c number old new there i.1)
      apart (low_from place.block apart) are
      (λ good. ap (λ (k : Links). list_all (is_slot_below (length pages)) k.tids) changes.made ∙ below l.tids good)
      at n stands listed (λ n. record n { slots = to n.slots }) (λ e. ap (λ (k : Links). made_of e k) (sym changes.made)))

-- ---- the slots

pub slots_linked : (version slot : ℕ) (to : Tid) (l k : Links) → linked version slot to l ≡ Some k
    → AreSlotsChanged (λ tids. slice_set tids slot (Some to)) l k
slots_linked version slot to l k is =
    let w = when_is (is_current l.deleted l.version version && nat_lt slot (length l.tids)) (links_with l.deleted l.version (slice_set l.tids slot (Some to))) k is in
    let t = and_parts (is_current l.deleted l.version version) (nat_lt slot (length l.tids)) w.0 in
    record { made = sym w.1; as_many = length-set l.tids slot (Some to); not_deleted = is_new l.deleted l.version version t.0 }

pub slots_relisted : (version : ℕ) (lists : List (Option Tid)) (l k : Links) → relisted version lists l ≡ Some k
    → AreSlotsChanged (λ tids. lists) l k
slots_relisted version lists l k is =
    let w = when_is (is_current l.deleted l.version version && length lists == length l.tids) (links_with l.deleted l.version lists) k is in
    let t = and_parts (is_current l.deleted l.version version) (length lists == length l.tids) w.0 in
    record { made = sym w.1; as_many = eqb-true (length lists) (length l.tids) t.1; not_deleted = is_new l.deleted l.version version t.0 }

all_set : {X : Type 0} (f : X → Bool) (xs : List X) (i : ℕ) (x : X) → f x ≡ true → list_all f xs ≡ true
    → list_all f (slice_set xs i x) ≡ true
all_set f [] i x good all = refl
all_set f (y ∷ ys) zero x good all = and_from (f x) (list_all f ys) good (and_parts (f y) (list_all f ys) all).1
all_set f (y ∷ ys) (suc i) x good all =
    let parts = and_parts (f y) (list_all f ys) all in
    and_from (f y) (list_all f (slice_set ys i x)) parts.0 (all_set f ys i x good parts.1)

-- slots that name places on the blocks that there are
pub below_all : (blocks : ℕ) (tids : List (Option Tid))
    → ((slot : ℕ) (to : Tid) → slice_get tids slot ≡ Some (Some to) → to.block < blocks)
    → list_all (is_slot_below blocks) tids ≡ true
below_all blocks [] below = refl
below_all blocks (None ∷ tids) below = below_all blocks tids (λ slot to is. below (suc slot) to is)
below_all blocks (Some to ∷ tids) below =
    and_from (nat_lt to.block blocks) (list_all (is_slot_below blocks) tids) (lt-ltb to.block blocks (below 0 to refl)) (below_all blocks tids (λ slot to is. below (suc slot) to is))

module _ (pages : List Content) (g : Graph) (place at : Tid) (n : Node) (number block : ℕ) (page after : Content) (all : All IsPage pages) (s : Stands pages g) (there : slice_get pages block ≡ Some page)
    (stands : node_at g at ≡ Some n) (listed : n.list_at ≡ place) where
  links_effect : (change : Links → Option Links) (to : List (Option Tid) → List (Option Tid))
      → ((l k : Links) → change l ≡ Some k → AreSlotsChanged to l k)
      → ((tids : List (Option Tid)) → list_all (is_slot_below (length pages)) tids ≡ true → list_all (is_slot_below (length pages)) (to tids) ≡ true)
      → option_map (numbered number) (at_one place.block (on_graph g.params (links_changed change g.params place.off)) block page) ≡ Some after
      → Stands (slice_set pages block after) (changed g at (λ n. record n { slots = to n.slots }))
  links_effect change to slots below is =
      one_place pages (changed g at (λ n. record n { slots = to n.slots })) place.block number block (on_graph s.meta.params (links_changed change s.meta.params place.off)) page after there
      (subst (λ (p : Params). option_map (numbered number) (at_one place.block (on_graph p (links_changed change p place.off)) block page) ≡ Some after) s.params is)
      (λ d here made. slots_effect pages g place at n number all s stands listed change to slots below page d here made)

  pub link_effect : (version slot : ℕ) (to : Tid) → to.block < g.blocks
      → option_map (numbered number) (at_one place.block (on_graph g.params (links_changed (linked version slot to) g.params place.off)) block page) ≡ Some after
      → Stands (slice_set pages block after) (changed g at (λ n. record n { slots = slice_set n.slots slot (Some to) }))
  link_effect version slot to below =
      links_effect (linked version slot to) (λ tids. slice_set tids slot (Some to)) (slots_linked version slot to)
      (λ tids good. all_set (is_slot_below (length pages)) tids slot (Some to) (lt-ltb to.block (length pages) (omega (arith, below, s.blocks))) good)

  pub relist_effect : (version : ℕ) (lists : List (Option Tid))
      → ((slot : ℕ) (to : Tid) → slice_get lists slot ≡ Some (Some to) → to.block < g.blocks)
      → option_map (numbered number) (at_one place.block (on_graph g.params (links_changed (relisted version lists) g.params place.off)) block page) ≡ Some after
      → Stands (slice_set pages block after) (changed g at (λ n. record n { slots = lists }))
  relist_effect version lists below is = links_effect (relisted version lists) (λ tids. lists) (slots_relisted version lists) (λ tids good. below_all (length pages) lists (λ slot to is. omega (arith, below slot to is, s.blocks))) is
