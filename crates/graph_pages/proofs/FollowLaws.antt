-- What the tests of whether an event follows tell of pages that stand for a graph.
use Rattle.std.proofs.Common.{◌≡◌, ◌↔◌, inl, inr, ◌⊎◌, ℕ, ◌+◌, ◌<◌, ◌≤◌, ◌==◌, ◌&&◌, ◌||◌, max, Bool, true, false, List, length, get_or, Option, Some, None, refl, sym, ap, subst, ◌∙◌, arith, IsTrue}
use Rattle.std.specs.Prelude.{nat_le, nat_lt}
use Rattle.std.specs.List.{All}
use Rattle.std.specs.Option.{option_map, option_and_then}
use Rattle.std.proofs.lemmas.Bool.{and_parts, and_from, eqb-true, eq-eqb, leb-true, le-leb, ltb-true, lt-ltb, cases_lt}
use Rattle.std.proofs.lemmas.Option.{slice_get_within, slice_get-get_or, get_or_from_slice_get}
use Rattle.byte_fields.proofs.EachField.{some_is}
use Rattle.vec_names.specs.declared.tid.Tid.{Tid}
use Rattle.vec_names.specs.declared.heap_id.HeapId.{HeapId}
use Rattle.vec_names.specs.declared.params.Params.{Params}
use Rattle.vec_history.specs.declared.event.Event.{Event}
use Rattle.vec_history.specs.declared.event.Event.TheVariants.{Put, Link, Relist, Mark, Entry}
use Rattle.page_bytes.specs.Content.{Content, IsPage}
use Rattle.vec_tuples.specs.declared.element.ElementHead.{ElementHead}
use Rattle.vec_tuples.specs.Spelling.{head_of_element}
use Rattle.vec_tuples.specs.Reading.{element}
use Rattle.vec_graph.specs.declared.node.Node.{Node}
use Rattle.vec_graph.specs.declared.graph.Graph.{Graph}
use Rattle.vec_graph.specs.Graph.{node_at, HasLevel}
use Rattle.page_redo.specs.PageTuples.{in_whole}
use Rattle.graph_pages.specs.Standing.{item_in, element_in, links_in, head_in, is_of_level, is_entry, is_slot_below, is_place, node_with as made_of, Stands}
use Rattle.graph_pages.specs.Following.{AreBelow, HasList, AreNextBlocks, AreNewPlaces, Follows}
use Rattle.graph_pages.specs.FollowTests.{names_list, is_nothing, are_next, are_new, may_put}
use Rattle.page_redo.proofs.Given.{then_is, map_is}
use Rattle.graph_pages.proofs.KindsApart.{meta_is_no_element, element_is_no_list}
use Rattle.graph_pages.proofs.PlaceTests.{same_if_place, place_itself}
use Rattle.graph_pages.proofs.StandingLaws.{node_pages}
use Rattle.graph_pages.proofs.HeadEffect.{low_from}
use Rattle.graph_pages.proofs.ElementEffect.{element_good}
use Rattle.graph_pages.proofs.OneItem.{not_root}
use Rattle.graph_pages.proofs.RoleFits.{node_there, tuple_there}
use Rattle.graph_pages.proofs.PageShape.{list_is, of_level}

-- ---- slots and blocks

slot_low : (blocks : ℕ) (slot : Option Tid) (to : Tid) → slot ≡ Some to → is_slot_below blocks slot ≡ true → to.block < blocks
slot_low blocks None to is good = absurd cc
slot_low blocks (Some t) to is good =
    let same : t.block ≡ to.block = ap (λ (t : Tid). t.block) (some_is t to is) in
    omega (arith, same, ltb-true t.block blocks good)

slot_good : (blocks : ℕ) (slot : Option Tid) → ((to : Tid) → slot ≡ Some to → to.block < blocks) → is_slot_below blocks slot ≡ true
slot_good blocks None low = refl
slot_good blocks (Some t) low = lt-ltb t.block blocks (low t refl)

pub below_iff : (blocks : ℕ) (slots : List (Option Tid)) → All (λ slot. IsTrue (is_slot_below blocks slot)) slots ↔ AreBelow blocks slots
below_iff blocks slots = (
  λ each slot to is.
      slot_low blocks (get_or slots slot None) to (get_or_from_slice_get slots slot (Some to) None is) (each slot None (slice_get_within slots slot (Some to) is)),
  λ low k d h. slot_good blocks (get_or slots k d) (λ to is. low k to (slice_get-get_or slots k d h ∙ ap (λ (o : Option Tid). Some o) is)),
)

either : (a b : Bool) → (a || b) ≡ true → (a ≡ true) ⊎ (b ≡ true)
either true b is = inl refl
either false b is = inr is

left_so : (a b : Bool) → a ≡ true → (a || b) ≡ true
left_so true b is = refl
left_so false b is = absurd cc

right_so : (a b : Bool) → b ≡ true → (a || b) ≡ true
right_so true b is = refl
right_so false b is = is

next_blocks : (count a b : ℕ) → are_next count a b ≡ true → AreNextBlocks count a b
next_blocks count a b is = elim (either (nat_le a count && nat_le b count) ((a == count && b == a + 1) || (b == count && a == b + 1)) is) as (λ _. AreNextBlocks count a b) [
  | inl low ↦
      let t = and_parts (nat_le a count) (nat_le b count) low in
      inl (omega (arith, leb-true a count t.0, leb-true b count t.1))
  | inr next ↦ elim (either (a == count && b == a + 1) (b == count && a == b + 1) next) as (λ _. AreNextBlocks count a b) [
    | inl first ↦
        let t = and_parts (a == count) (b == a + 1) first in
        let e = eqb-true a count t.0 in
        let f = eqb-true b (a + 1) t.1 in
        inr (omega (arith, e, f), omega (arith, e, f))
    | inr second ↦
        let t = and_parts (b == count) (a == b + 1) second in
        let e = eqb-true b count t.0 in
        let f = eqb-true a (b + 1) t.1 in
        inr (omega (arith, e, f), omega (arith, e, f))
  ]
]

are_next_from : (count a b : ℕ) → AreNextBlocks count a b → are_next count a b ≡ true
are_next_from count a b (inl low) =
    left_so (nat_le a count && nat_le b count) ((a == count && b == a + 1) || (b == count && a == b + 1))
    (and_from (nat_le a count) (nat_le b count) (le-leb a count (omega (arith, low))) (le-leb b count (omega (arith, low))))
are_next_from count a b (inr (least, most)) =
    right_so (nat_le a count && nat_le b count) ((a == count && b == a + 1) || (b == count && a == b + 1))
    (elim (cases_lt a b) as (λ _. ((a == count && b == a + 1) || (b == count && a == b + 1)) ≡ true) [
      | inl h ↦
          left_so (a == count && b == a + 1) (b == count && a == b + 1)
          (and_from (a == count) (b == a + 1) (eq-eqb a count (omega (arith, h, least, most))) (eq-eqb b (a + 1) (omega (arith, h, least, most))))
      | inr h ↦
          right_so (a == count && b == a + 1) (b == count && a == b + 1)
          (and_from (b == count) (a == b + 1) (eq-eqb b count (omega (arith, h, least, most))) (eq-eqb a (b + 1) (omega (arith, h, least, most))))
    ])

nothing_is : (o : Option (List ℕ)) → is_nothing o ≡ true → o ≡ None
nothing_is None is = refl
nothing_is (Some x) is = absurd cc

is_nothing_from : (o : Option (List ℕ)) → o ≡ None → is_nothing o ≡ true
is_nothing_from None is = refl
is_nothing_from (Some x) is = absurd cc

names_is : (list_at : Tid) (o : Option ElementHead) → names_list list_at o ≡ true → (h : ElementHead) × (o ≡ Some h) × (h.list_at ≡ list_at)
names_is list_at None is = absurd cc
names_is list_at (Some h) is = (h, refl, same_if_place list_at h.list_at is)

-- ---- pages that stand for a graph

module _ (pages : List Content) (g : Graph) (p : Params) (all : All IsPage pages) (s : Stands pages g) (same : g.params ≡ p) where
  abbrev its : Params
  its = s.meta.params

  its_are : its ≡ p
  its_are = sym s.params ∙ same

  -- an element that stands there is a node's
  pub node_of : (at : Tid) (h : ElementHead) → head_in p pages at ≡ Some h
      → (n : Node) × (node_at g at ≡ Some n) × (n.list_at ≡ h.list_at) × (n.level ≡ h.level) × ((n.deleted ≡ h.deleted) × (n.version ≡ h.version))
  node_of at h is =
      let e = map_is head_of_element (element_in its pages at) h (ap (λ (q : Params). head_in q pages at) its_are ∙ is) in
      let x = then_is (λ x. in_whole (element its x)) (item_in pages at) e.0 e.1 in
      let there = tuple_there pages g all s (element its) at e.0 (meta_is_no_element its s.meta) e.1 in
      let low = low_from at.block (not_root pages g at.block there.0 s there.1 there.2) in
      let good = element_good its pages at x.0 e.0 (node_pages pages g s at.block low) x.1 x.2 (element_is_no_list its x.0 e.0 x.2) in
      let l = list_is its (head_of_element e.0) (links_in its pages e.0.list_at) good in
      let stands : node_at g at ≡ Some (made_of e.0 l.0) =
      s.nodes at ∙ ap (λ o. option_and_then (λ e. option_map (made_of e) (links_in its pages e.list_at)) o) e.1 ∙ ap (option_map (made_of e.0)) l.1 in (
        made_of e.0 l.0,
        stands,
        ap (λ (h : ElementHead). h.list_at) e.2,
        ap (λ (h : ElementHead). h.level) e.2,
        (ap (λ (h : ElementHead). h.deleted) e.2, ap (λ (h : ElementHead). h.version) e.2),
      )

  -- and a node has one
  pub head_of : (at : Tid) (n : Node) → node_at g at ≡ Some n
      → (h : ElementHead) × (head_in p pages at ≡ Some h) × (h.list_at ≡ n.list_at) × (h.level ≡ n.level) × ((h.deleted ≡ n.deleted) × (h.version ≡ n.version))
  head_of at n stands =
      let node = node_there pages g all s at n stands in (
        head_of_element node.0,
        ap (λ (q : Params). head_in q pages at) (sym its_are) ∙ ap (option_map head_of_element) node.1,
        ap (λ (m : Node). m.list_at) node.4,
        ap (λ (m : Node). m.level) node.4,
        (ap (λ (m : Node). m.deleted) node.4, ap (λ (m : Node). m.version) node.4),
      )

  pub has_list_iff : (at list_at : Tid) → IsTrue (names_list list_at (head_in p pages at)) ↔ HasList g at list_at
  has_list_iff at list_at = (
    λ good. let h = names_is list_at (head_in p pages at) good in
        let n = node_of at h.0 h.1 in
        record { node = n.0; stands = n.1; listed = n.2 ∙ h.2 },
    λ has. let h = head_of at has.node has.stands in
        ap (names_list list_at) h.1 ∙ ap (is_place list_at) (h.2 ∙ has.listed) ∙ place_itself list_at,
  )

  pub entry_iff : (to : Option Tid) (level : ℕ) → IsTrue (is_entry p pages to level) ↔ Follows pages g (Entry to level)
  entry_iff None level = (λ good at is. absurd cc, λ has. refl)
  entry_iff (Some to) level = (
    λ good at is.
        let h = of_level level (head_in p pages to) good in
        let n = node_of to h.0 h.1 in
        subst (λ (t : Tid). HasLevel g t level) (some_is to at is) (record { node = n.0; stands = n.1; of_level = n.3 ∙ h.2 }),
    λ has. let is = has to refl in
        let h = head_of to is.node is.stands in
        ap (is_of_level level) h.1 ∙ eq-eqb h.0.level level (h.3 ∙ is.of_level),
  )

  new_is : (at list_at : Tid) (version level : ℕ) → version ≤ 255 → level ≤ 255 → are_new pages at list_at ≡ true → AreNewPlaces pages at list_at version level
  new_is at list_at version level a b is =
      let t = and_parts (is_nothing (item_in pages at)) (is_nothing (item_in pages list_at) && are_next (length pages) at.block list_at.block) is in
      let u = and_parts (is_nothing (item_in pages list_at)) (are_next (length pages) at.block list_at.block) t.1 in
      record {
        none = nothing_is (item_in pages at) t.0;
        no_list = nothing_is (item_in pages list_at) u.0;
        next = next_blocks (length pages) at.block list_at.block u.1;
        version_high = a;
        level_high = b;
      }

  are_new_from : (at list_at : Tid) (version level : ℕ) → AreNewPlaces pages at list_at version level → are_new pages at list_at ≡ true
  are_new_from at list_at version level is =
      and_from (is_nothing (item_in pages at)) (is_nothing (item_in pages list_at) && are_next (length pages) at.block list_at.block)
      (is_nothing_from (item_in pages at) is.none)
      (and_from (is_nothing (item_in pages list_at)) (are_next (length pages) at.block list_at.block) (is_nothing_from (item_in pages list_at) is.no_list)
      (are_next_from (length pages) at.block list_at.block is.next))

  pub put_iff : (at list_at : Tid) (version level : ℕ) → version ≤ 255 → level ≤ 255
      → IsTrue (may_put p pages at list_at) ↔ (HasList g at list_at ⊎ AreNewPlaces pages at list_at version level)
  put_iff at list_at version level a b = (
    λ good. elim (either (names_list list_at (head_in p pages at)) (are_new pages at list_at) good) as (λ _. HasList g at list_at ⊎ AreNewPlaces pages at list_at version level) [
      | inl old ↦ inl ((has_list_iff at list_at).0 old)
      | inr new ↦ inr (new_is at list_at version level a b new)
    ],
    λ may. elim may as (λ _. may_put p pages at list_at ≡ true) [
      | inl has ↦ left_so (names_list list_at (head_in p pages at)) (are_new pages at list_at) ((has_list_iff at list_at).1 has)
      | inr places ↦ right_so (names_list list_at (head_in p pages at)) (are_new pages at list_at) (are_new_from at list_at version level places)
    ],
  )

  -- ---- each kind

  abbrev Tells : Bool → Event → Type 0
  Tells r e = IsTrue r ↔ Follows pages g e

  pub mark_told : (e : Event) (at list_at : Tid) (version : ℕ) (r : Bool) → e ≡ Mark at list_at version
      → r ≡ names_list list_at (head_in p pages at) → Tells r e
  mark_told e at list_at version r is told =
      let list = has_list_iff at list_at in
      subst (Tells r) (sym is) (λ good. list.0 (sym told ∙ good), λ has. told ∙ list.1 has)

  pub entry_told : (e : Event) (to : Option Tid) (level : ℕ) (r : Bool) → e ≡ Entry to level → r ≡ is_entry p pages to level → Tells r e
  entry_told e to level r is told =
      let entry = entry_iff to level in
      subst (Tells r) (sym is) (λ good. entry.0 (sym told ∙ good), λ has. told ∙ entry.1 has)

  pub link_told : (e : Event) (at list_at to : Tid) (version slot : ℕ) (first : Bool) → e ≡ Link at list_at version slot to
      → first ≡ names_list list_at (head_in p pages at) → first ≡ true → Tells (nat_lt to.block (length pages)) e
  link_told e at list_at to version slot first is told good =
      subst (Tells (nat_lt to.block (length pages))) (sym is) (
        λ low. ((has_list_iff at list_at).0 (sym told ∙ good), omega (arith, ltb-true to.block (length pages) low, s.blocks)),
        λ follows. lt-ltb to.block (length pages) (omega (arith, follows.1, s.blocks)),
      )

  pub relist_told : (e : Event) (at list_at : Tid) (version : ℕ) (lists : List (Option Tid)) (first second : Bool) → e ≡ Relist at list_at version lists
      → first ≡ names_list list_at (head_in p pages at) → first ≡ true
      → IsTrue second ↔ All (λ slot. IsTrue (is_slot_below (length pages) slot)) lists → Tells second e
  relist_told e at list_at version lists first second is told good below =
      let slots = below_iff (length pages) lists in
      subst (Tells second) (sym is) (
        λ low. ((has_list_iff at list_at).0 (sym told ∙ good), λ slot to there. omega (arith, slots.0 (below.0 low) slot to there, s.blocks)),
        λ follows. below.1 (slots.1 (λ slot to there. omega (arith, follows.1 slot to there, s.blocks))),
      )

  module _ (e : Event) (at list_at : Tid) (version level : ℕ) (id : HeapId) (bits : List Bool) (lists : List (Option Tid)) (first : Bool)
      (is : e ≡ Put at list_at version level id bits lists) (told : first ≡ may_put p pages at list_at) (a : version ≤ 255) (b : level ≤ 255) where
    pub put_told : (second : Bool) (blocks : ℕ) → first ≡ true → blocks ≡ max (length pages) (max (at.block + 1) (list_at.block + 1))
        → IsTrue second ↔ All (λ slot. IsTrue (is_slot_below blocks slot)) lists → Tells second e
    put_told second blocks good count below =
        let slots = below_iff blocks lists in
        subst (Tells second) (sym is) (
          λ low. ((put_iff at list_at version level a b).0 (sym told ∙ good), λ slot to there. omega (arith, slots.0 (below.0 low) slot to there, count)),
          λ follows. below.1 (slots.1 (λ slot to there. omega (arith, follows.1 slot to there, count))),
        )

    pub put_refused : first ≡ false → Tells first e
    put_refused bad =
        subst (Tells first) (sym is) (
          λ good. absurd cc,
          λ follows. told ∙ (put_iff at list_at version level a b).1 follows.0,
        )
