-- Allowed acts keep a graph shaped.
use Rattle.std.proofs.Common.{◌≡◌, ◌≢◌, inl, inr, ℕ, zero, suc, ◌+◌, ◌%◌, ◌/◌, ◌<◌, ◌≤◌, ◌==◌, ◌||◌, ◌&&◌, cond, max, Bool, true, false, List, [], ◌∷◌, ◌++◌, find, length, slice_set, Option, Some, None, refl, sym, ap, subst, ◌∙◌, arith, true≢false, nat_le, nat_lt}
use Rattle.std.specs.Option.{option_or}
use Rattle.std.specs.FinMap as fin
use Rattle.std.proofs.lemmas.Option.{same_Some, none-some}
use Rattle.std.proofs.lemmas.List.{length-replicate, length-append}
use Rattle.std.proofs.lemmas.Bool.{eq-eqb}
use Rattle.index_sizes.specs.declared.limits.TheConstants.{MOST_BLOCKS, MOST_IDS}
use Rattle.index_sizes.specs.Sizes.{next_version}
use Rattle.list_values.specs.Masks.{kept}
use Rattle.vec_names.specs.declared.tid.Tid.{Tid}
use Rattle.vec_names.specs.declared.heap_id.HeapId.{HeapId}
use Rattle.vec_names.specs.Order.{tid_cmp, tid_cmp_total}
use Rattle.vec_names.specs.Places.{tid_of}
use Rattle.vec_names.proofs.PlaceLaws.{tid_of-numbers}
use Rattle.vec_history.specs.declared.event.Event.{Event}
use Rattle.vec_history.specs.declared.event.Event.TheVariants.{Put, Join, Link, Relist, Drop, Mark, Entry, Hint, IvfAdd, IvfGrow, IvfDrop, IvfHint, Gate, Ungate, Phase, VacuumEnd, Cancel, Settled, DiskFaulted}
use Rattle.vec_history.specs.declared.event.Act.{Act}
use Rattle.vec_graph.specs.declared.node.Node.{Node}
use Rattle.vec_graph.specs.declared.graph.Graph.{Graph}
use Rattle.vec_graph.specs.Graph.{node_at}
use Rattle.vec_graph.specs.declared.place.Place.{Place}
use Rattle.vec_graph.specs.Places.{fresh_place, fresh_at, is_reusable, reused, together_on, apart_on, fresh_on, fits_one_page, next_off, room, element_need, list_need, IsOnBlocks}
use Rattle.vec_graph.specs.Effect.{NewNode, node_of, effect, after, with_node, with_new, changed, changed_from, joined, linked, relisted, dropped, marked}
use Rattle.vec_graph.specs.Rules.{IsPlaced, IsEventAllowed, IsPutAllowed, IsEntryAllowed}
use Rattle.vec_graph.specs.Legal.{IsAllowed, IsLegal}
use Rattle.vec_graph.proofs.Placing.{after_insert, stands_there, free_place}
use Rattle.vec_graph.proofs.Remaining.{has_inserted}
use Rattle.vec_graph.proofs.Levels.{after_append}
use Rattle.vec_graph.specs.Shaped.{IsShapedNode, IsShaped}
use Rattle.vec_history.proofs.ByActs.{by_acts}

-- ---- lengths

length_set : {X : Type 0} (xs : List X) (i : ℕ) (v : X) → length (slice_set xs i v) ≡ length xs
length_set [] i v = refl
length_set (x ∷ xs) zero v = refl
length_set (x ∷ xs) (suc i) v = ap (λ (n : ℕ). suc n) (length_set xs i v)

kept_fewer : (mask : ℕ) (ids : List HeapId) → length (kept mask ids) ≤ length ids
kept_fewer mask [] = omega arith
kept_fewer mask (id ∷ ids) =
    let rest = kept_fewer (mask / 2) ids in
    elim (mask % 2 == 1) as (λ (b : Bool). length (cond b (kept (mask / 2) ids) (id ∷ kept (mask / 2) ids)) ≤ suc (length ids)) [
      | true ↦ omega arith
      | false ↦ omega arith
    ]

version_on : (v : ℕ) → 1 ≤ v → v ≤ 255 → (1 ≤ next_version 255 v) × (next_version 255 v ≤ 255)
version_on v low high =
    elim (v == 255) as (λ (b : Bool). (v == 255) ≡ b → (1 ≤ cond (b || b) 1 (v + 1)) × (cond (b || b) 1 (v + 1) ≤ 255)) [
      | true ↦ λ _. (omega arith, omega arith)
      | false ↦ λ e.
          let other : v ≢ 255 = (λ same. true≢false (sym (eq-eqb v 255 same) ∙ e)) in
          (omega arith, omega arith)
    ] refl

-- ---- another node at a place

module _ (g : Graph) (shaped : IsShaped g) (at : Tid) (n0 n1 : Node) (there : node_at g at ≡ Some n0) (level : n1.level ≡ n0.level)
    (one : IsShapedNode g.params.m g.params.bits g.blocks at n0 → IsShapedNode g.params.m g.params.bits g.blocks at n1) where
  shaped_with : IsShaped (with_node g at n1)
  shaped_with = record {
    nodes = λ q n stands.
        elim (after_insert g at n1 q n stands) as (λ _. IsShapedNode g.params.m g.params.bits g.blocks q n) [
          | inl same ↦
              subst (λ (k : Node). IsShapedNode g.params.m g.params.bits g.blocks q k) (sym same.1)
              (subst (λ (t : Tid). IsShapedNode g.params.m g.params.bits g.blocks t n1) (sym same.0) (one (shaped.nodes at n0 there)))
          | inr stood ↦ shaped.nodes q n stood
        ];
    entry = λ q is.
        let was = shaped.entry q is in
        let now = has_inserted (λ n. n.level ≡ g.level) g.nodes at n1
        (λ m stands of_level. level ∙ ap (λ (k : Node). k.level) (same_Some _ _ (sym there ∙ stands)) ∙ of_level) q
        (record { node = was.node; stands = was.stands; is = was.of_level }) in
        record { node = now.node; stands = now.stands; of_level = now.is };
    no_entry = shaped.no_entry;
    hint_from_1 = shaped.hint_from_1;
    hint_within = shaped.hint_within;
    blocks_from_1 = shaped.blocks_from_1;
    blocks_within = shaped.blocks_within;
  }

-- ---- where a new node stands

-- the numbers of a spot: its blocks and its version
pub record IsPlaceWithin (blocks : ℕ) (s : Place) : Type 0 where
  pub from_1 : 1 ≤ s.at.block
  pub within : s.at.block < blocks
  pub list_from_1 : 1 ≤ s.list_at.block
  pub list_within : s.list_at.block < blocks
  pub version_from_1 : 1 ≤ s.version
  pub version_to_255 : s.version ≤ 255

both_of : (o p : Option Tid) (s : Place) → fresh_place o p ≡ Some s → (o ≡ Some s.at) × (p ≡ Some s.list_at) × (s.version ≡ 1)
both_of (Some at) (Some list_at) s e =
    let same = same_Some _ s e in
    (ap (λ (t : Place). Some t.at) same, ap (λ (t : Place). Some t.list_at) same, sym (ap (λ (t : Place). t.version) same))
both_of (Some at) None s e = absurd (none-some s e)
both_of None p s e = absurd (none-some s e)

fresh_shaped : (blocks block off list_block list_off : ℕ) (s : Place) → 1 ≤ block → block < blocks → 1 ≤ list_block → list_block < blocks
    → fresh_at block off list_block list_off ≡ Some s → IsPlaceWithin blocks s
fresh_shaped blocks block off list_block list_off s a b c d e =
    let both = both_of (tid_of block off) (tid_of list_block list_off) s e in
    let one = (tid_of-numbers block off s.at both.0).0 in
    let two = (tid_of-numbers list_block list_off s.list_at both.1).0 in
    let version = both.2 in
    record {
      from_1 = omega arith;
      within = omega arith;
      list_from_1 = omega arith;
      list_within = omega arith;
      version_from_1 = omega arith;
      version_to_255 = omega arith;
    }

then_some : {X : Type 0} (b : Bool) (o : Option X) (x : X) → cond b o None ≡ Some x → (b ≡ true) × (o ≡ Some x)
then_some true o x e = (refl, e)
then_some false o x e = absurd (none-some x e)

module _ (g : Graph) (shaped : IsShaped g) (level : ℕ) (s : Place) where
  on_block : (b : ℕ) (o : Option (Tid × Node)) → 1 ≤ b → b < g.blocks → find (is_reusable b level) (fin.entries g.nodes) ≡ o
      → option_or (reused o) (fresh_on g b level) ≡ Some s → IsPlaceWithin g.blocks s
  on_block b None low high found is =
      elim (fits_one_page g level) as (λ t. cond t (together_on g b level) (apart_on g b level) ≡ Some s → IsPlaceWithin g.blocks s) [
        | true ↦ λ e. fresh_shaped g.blocks b (next_off g b) b (next_off g b + 1) s low high low high (then_some _ _ s e).1
        | false ↦ λ e.
            let both = then_some (nat_lt (b + 1) g.blocks && (nat_le (element_need g) (room g b) && nat_le (list_need g level) (room g (b + 1)))) _ s e in
            let next : b + 1 < g.blocks = grind (arith, both.0) in
            fresh_shaped g.blocks b (next_off g b) (b + 1) (next_off g (b + 1)) s low high (omega arith) next both.1
      ] is
  on_block b (Some e) low high found is =
      let stands = fin.get-entries g.nodes e.0 ∙ stands_there tid_cmp tid_cmp_total (fin.entries g.nodes) (is_reusable b level) e (fin.entries_sorted g.nodes) found in
      let n = shaped.nodes e.0 e.1 stands in
      subst (λ (t : Place). IsPlaceWithin g.blocks t) (same_Some _ s is)
      (record {
        from_1 = n.from_1;
        within = n.within;
        list_from_1 = n.list_from_1;
        list_within = n.list_within;
        version_from_1 = n.version_from_1;
        version_to_255 = n.version_to_255;
      })

  -- the blocks with the spot are enough, and not too many
  within_blocks : (at : Tid) → IsPlaced g at level s → (blocks : ℕ) × IsPlaceWithin blocks s × (g.blocks ≤ blocks) × (blocks ≤ MOST_BLOCKS)
  within_blocks at (inl is) =
      let both = then_some (nat_le 1 at.block && nat_lt at.block g.blocks) _ s is in
      let low : 1 ≤ at.block = grind (arith, both.0) in
      let high : at.block < g.blocks = grind (arith, both.0) in
      (g.blocks, on_block at.block _ low high refl both.1, omega arith, shaped.blocks_within)
  within_blocks at (inr is) =
      let low : 1 ≤ g.blocks = shaped.blocks_from_1 in
      elim (fits_one_page g level) as (λ t. cond t (fresh_at g.blocks 1 g.blocks 2) (fresh_at g.blocks 1 (g.blocks + 1) 1) ≡ Some s → g.blocks + cond t 1 2 ≤ MOST_BLOCKS
      → (blocks : ℕ) × IsPlaceWithin blocks s × (g.blocks ≤ blocks) × (blocks ≤ MOST_BLOCKS)) [
        | true ↦ λ e fits. (g.blocks + 1, fresh_shaped (g.blocks + 1) g.blocks 1 g.blocks 2 s low (omega arith) low (omega arith) e, omega arith, fits)
        | false ↦ λ e fits. (g.blocks + 2, fresh_shaped (g.blocks + 2) g.blocks 1 (g.blocks + 1) 1 s low (omega arith) (omega arith) (omega arith) e, omega arith, fits)
      ] is.0 is.1

-- ---- each event

wider : (m bits blocks more : ℕ) (at : Tid) (n : Node) → blocks ≤ more → IsShapedNode m bits blocks at n → IsShapedNode m bits more at n
wider m bits blocks more at n h s = record {
  from_1 = s.from_1;
  within = omega (arith, s.within, h);
  list_from_1 = s.list_from_1;
  list_within = omega (arith, s.list_within, h);
  as_many = s.as_many;
  not_high = s.not_high;
  version_from_1 = s.version_from_1;
  version_to_255 = s.version_to_255;
  as_long = s.as_long;
  few = s.few;
  none_if_deleted = s.none_if_deleted;
}

pub on_blocks_of : (g : Graph) → IsShaped g → IsOnBlocks g
on_blocks_of g shaped at n stands = let s = shaped.nodes at n stands in (s.within, s.list_within)

module _ (base : Graph) (acts : List Act) (shaped : IsShaped (after base acts)) (desk : ℕ) where
  by_node : (at : Tid) (change : Node → Node) (n : Node) → node_at (after base acts) at ≡ Some n → (change n).level ≡ n.level
      → (IsShapedNode (after base acts).params.m (after base acts).params.bits (after base acts).blocks at n
      → IsShapedNode (after base acts).params.m (after base acts).params.bits (after base acts).blocks at (change n))
      → IsShaped (changed (after base acts) at change)
  by_node at change n there level one =
      subst IsShaped (sym (ap (changed_from (after base acts) at change) there)) (shaped_with (after base acts) shaped at n (change n) there level one)

  with_slots : (at : Tid) (n : Node) (slots : List (Option Tid)) → length slots ≡ length n.slots
      → IsShapedNode (after base acts).params.m (after base acts).params.bits (after base acts).blocks at n
      → IsShapedNode (after base acts).params.m (after base acts).params.bits (after base acts).blocks at (record n { slots = slots })
  with_slots at n slots same s = record {
    from_1 = s.from_1;
    within = s.within;
    list_from_1 = s.list_from_1;
    list_within = s.list_within;
    as_many = same ∙ s.as_many;
    not_high = s.not_high;
    version_from_1 = s.version_from_1;
    version_to_255 = s.version_to_255;
    as_long = s.as_long;
    few = s.few;
    none_if_deleted = s.none_if_deleted;
  }

  with_ids : (at : Tid) (n : Node) (ids : List HeapId) → length ids ≤ MOST_IDS → (n.deleted ≡ true → ids ≡ [])
      → IsShapedNode (after base acts).params.m (after base acts).params.bits (after base acts).blocks at n
      → IsShapedNode (after base acts).params.m (after base acts).params.bits (after base acts).blocks at (record n { ids = ids })
  with_ids at n ids few none s = record {
    from_1 = s.from_1;
    within = s.within;
    list_from_1 = s.list_from_1;
    list_within = s.list_within;
    as_many = s.as_many;
    not_high = s.not_high;
    version_from_1 = s.version_from_1;
    version_to_255 = s.version_to_255;
    as_long = s.as_long;
    few = few;
    none_if_deleted = none;
  }

  mark_shaped : (at : Tid) (n : Node) → IsShapedNode (after base acts).params.m (after base acts).params.bits (after base acts).blocks at n
      → IsShapedNode (after base acts).params.m (after base acts).params.bits (after base acts).blocks at (marked 255 n)
  mark_shaped at n s =
      let version = version_on n.version s.version_from_1 s.version_to_255 in
      record {
        from_1 = s.from_1;
        within = s.within;
        list_from_1 = s.list_from_1;
        list_within = s.list_within;
        as_many = length-replicate (length n.slots) None ∙ s.as_many;
        not_high = s.not_high;
        version_from_1 = version.0;
        version_to_255 = version.1;
        as_long = length-replicate (length n.bits) false ∙ s.as_long;
        few = omega arith;
        none_if_deleted = λ _. refl;
      }

  module _ (brought : NewNode) (may : IsPutAllowed base acts desk brought) where
    put_shaped : IsShaped (with_new (after base acts) brought)
    put_shaped =
        let spot : Place = record { at = brought.at; list_at = brought.list_at; version = brought.version } in
        let enough = within_blocks (after base acts) shaped brought.level spot brought.at may.placed in
        let s = enough.1 in
        let more = enough.2 in
        let most = enough.3 in
        let first = s.within in
        let second = s.list_within in
        let new : Node = node_of brought in
        let few : max (after base acts).blocks (max (brought.at.block + 1) (brought.list_at.block + 1)) ≤ MOST_BLOCKS = omega (arith, first, second, more, most) in
        let free = free_place (after base acts) brought.at brought.level spot (on_blocks_of (after base acts) shaped) may.placed in
        record {
          nodes = λ q n stands.
              elim (after_insert (after base acts) brought.at new q n stands) as (λ _. IsShapedNode (after base acts).params.m (after base acts).params.bits (max (after base acts).blocks (max (brought.at.block + 1) (brought.list_at.block + 1))) q n) [
                | inl same ↦
                    subst (λ (k : Node). IsShapedNode (after base acts).params.m (after base acts).params.bits (max (after base acts).blocks (max (brought.at.block + 1) (brought.list_at.block + 1))) q k) (sym same.1)
                    (subst (λ (t : Tid). IsShapedNode (after base acts).params.m (after base acts).params.bits (max (after base acts).blocks (max (brought.at.block + 1) (brought.list_at.block + 1))) t new) (sym same.0)
                    (record {
                      from_1 = s.from_1;
                      within = omega arith;
                      list_from_1 = s.list_from_1;
                      list_within = omega arith;
                      as_many = may.as_many;
                      not_high = may.not_high;
                      version_from_1 = s.version_from_1;
                      version_to_255 = s.version_to_255;
                      as_long = may.as_long;
                      few = omega arith;
                      none_if_deleted = λ deleted. absurd (true≢false (sym deleted));
                    }))
                | inr stood ↦ wider _ _ (after base acts).blocks _ q n (omega arith) (shaped.nodes q n stood)
              ];
          entry = λ q is.
              let was = shaped.entry q is in
              let now = has_inserted (λ n. n.level ≡ (after base acts).level) (after base acts).nodes brought.at new (λ m stands of_level. sym (free m stands).1 ∙ of_level) q
              (record { node = was.node; stands = was.stands; is = was.of_level }) in
              record { node = now.node; stands = now.stands; of_level = now.is };
          no_entry = shaped.no_entry;
          hint_from_1 = shaped.hint_from_1;
          hint_within = let h = shaped.hint_within in omega arith;
          blocks_from_1 = let b = shaped.blocks_from_1 in omega arith;
          blocks_within = few;
        }

  entry_shaped : (to : Option Tid) (level : ℕ) → IsEntryAllowed base acts desk to level → IsShaped (record (after base acts) { entry = to; level = level })
  entry_shaped None level may = record {
    nodes = shaped.nodes;
    entry = λ q is. absurd (none-some q is);
    no_entry = λ _. may.level_0;
    hint_from_1 = shaped.hint_from_1;
    hint_within = shaped.hint_within;
    blocks_from_1 = shaped.blocks_from_1;
    blocks_within = shaped.blocks_within;
  }
  entry_shaped (Some to) level may = record {
    nodes = shaped.nodes;
    entry = λ q is. record { node = may.node; stands = subst (λ (t : Tid). node_at (after base acts) t ≡ Some may.node) (same_Some _ _ is) may.stands; of_level = may.of_level };
    no_entry = λ is. absurd (none-some to (sym is));
    hint_from_1 = shaped.hint_from_1;
    hint_within = shaped.hint_within;
    blocks_from_1 = shaped.blocks_from_1;
    blocks_within = shaped.blocks_within;
  }

  shaped_step : (e : Event) → IsEventAllowed base acts desk e → IsShaped (effect 255 e (after base acts))
  shaped_step (Put at list_at version level id bits lists) may = put_shaped _ may
  shaped_step (Join at version id) may =
      by_node at (joined id) may.node may.there.stands refl
      (λ s. with_ids at may.node (may.node.ids ++ id ∷ []) (omega (arith, may.room, length-append may.node.ids (id ∷ []))) (λ deleted. absurd (true≢false (sym deleted ∙ may.there.not_deleted))) s)
  shaped_step (Link at list_at version slot to) may =
      by_node at (linked slot to) may.owner may.there.stands refl (λ s. with_slots at may.owner (slice_set may.owner.slots slot (Some to)) (length_set may.owner.slots slot (Some to)) s)
  shaped_step (Relist at list_at version lists) may = by_node at (relisted lists) may.owner may.there.stands refl (λ s. with_slots at may.owner lists may.as_many s)
  shaped_step (Drop at version gone) may =
      by_node at (dropped gone) may.node may.there.stands refl
      (λ s. with_ids at may.node (kept gone may.node.ids) (omega (arith, kept_fewer gone may.node.ids, s.few)) (λ deleted. absurd (true≢false (sym deleted ∙ may.there.not_deleted))) s)
  shaped_step (Mark at list_at version) may = by_node at (marked 255) may.node may.there.stands refl (λ s. mark_shaped at may.node s)
  shaped_step (Entry to level) may = entry_shaped to level may
  shaped_step (Hint block) may = record {
    nodes = shaped.nodes;
    entry = λ q is. let was = shaped.entry q is in record { node = was.node; stands = was.stands; of_level = was.of_level };
    no_entry = shaped.no_entry;
    hint_from_1 = may.counted_from_1;
    hint_within = may.within;
    blocks_from_1 = shaped.blocks_from_1;
    blocks_within = shaped.blocks_within;
  }
  shaped_step (IvfAdd block id bits) may = absurd may
  shaped_step (IvfGrow list last block id bits) may = absurd may
  shaped_step (IvfDrop block gone) may = absurd may
  shaped_step (IvfHint list block) may = absurd may
  shaped_step (Gate gate hold) may = shaped
  shaped_step (Ungate gate) may = shaped
  shaped_step (Phase stage) may = shaped
  shaped_step VacuumEnd may = shaped
  shaped_step (Cancel stage) may = shaped
  shaped_step (Settled upto) may = shaped
  shaped_step (DiskFaulted count) may = shaped

pub shaped_after : (base : Graph) → IsShaped base → (acts : List Act) → IsLegal base acts → IsShaped (after base acts)
shaped_after base start = by_acts (IsAllowed base) (λ acts. IsShaped (after base acts))
    (λ acts legal a may shaped. subst IsShaped (sym (after_append base acts (a ∷ []))) (shaped_step base acts shaped a.desk a.event may)) start
