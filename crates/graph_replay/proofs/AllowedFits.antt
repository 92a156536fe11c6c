-- An event that the rules allow after a legal history follows on pages that stand for the graph there, and fits them.
use Rattle.std.proofs.Common.{◌≡◌, ℕ, ◌^◌, ◌<◌, ◌≤◌, Bool, true, List, length, take, Option, Some, None, refl, subst, arith}
use Rattle.std.proofs.Math.Nat.{pow-le-pow_right}
use Rattle.std.proofs.lemmas.Bool.{eq-eqb}
use Rattle.std.specs.List.{All}
use Rattle.index_sizes.specs.declared.limits.TheConstants.{MOST_BLOCKS, MOST_SLOTS}
use Rattle.byte_fields.specs.Levels.{is_level}
use Rattle.byte_fields.proofs.EachField.{some_is}
use Rattle.vec_names.specs.declared.tid.Tid.{Tid}
use Rattle.vec_names.specs.declared.heap_id.HeapId.{HeapId}
use Rattle.vec_history.specs.declared.event.Event.{Event}
use Rattle.vec_history.specs.declared.event.Event.TheVariants.{Put, Join, Link, Relist, Drop, Mark, Entry, Hint, IvfAdd, IvfGrow, IvfDrop, IvfHint, Gate, Ungate, Phase, VacuumEnd, Cancel, Settled, DiskFaulted}
use Rattle.vec_history.specs.declared.event.Act.{Act}
use Rattle.vec_history.specs.Settling.{is_lasting}
use Rattle.page_bytes.specs.Content.{Content, IsPage}
use Rattle.vec_event.specs.Spelling.{IsWritable}
use Rattle.vec_graph.specs.declared.node.Node.{Node}
use Rattle.vec_graph.specs.declared.graph.Graph.{Graph}
use Rattle.vec_graph.specs.Graph.{node_at, slot_layer, HasLevel}
use Rattle.vec_graph.specs.Places.{IsOnBlocks}
use Rattle.vec_graph.specs.Effect.{after, state_after}
use Rattle.vec_graph.specs.Knowing.{Knows}
use Rattle.vec_graph.specs.Shaped.{IsShapedNode}
use Rattle.vec_graph.specs.Rules.{KnowsMembers, IsThere, IsPutAllowed, IsJoinAllowed, IsLinkAllowed, IsRelistAllowed, IsDropAllowed, IsMarkAllowed, IsEntryAllowed, IsHintAllowed, IsEventAllowed}
use Rattle.vec_graph.specs.Legal.{IsLegal}
use Rattle.vec_graph.proofs.Placing.{on_blocks_after}
use Rattle.vec_graph.proofs.Levels.{level_stays}
use Rattle.graph_pages.specs.Standing.{Stands}
use Rattle.page_redo.specs.Fitting.{FitsEach}
use Rattle.graph_pages.specs.Following.{AreBelow, HasList, Follows}
use Rattle.graph_pages.proofs.StandingShape.{in_range, of_kind}
use Rattle.graph_pages.proofs.EventFits.{hint_fits, entry_fits, join_fits, drop_fits, link_fits, relist_fits}
use Rattle.graph_pages.proofs.MarkFits.{mark_fits}
use Rattle.graph_pages.proofs.PageShape.{shaped}
use Rattle.graph_replay.proofs.Placed.{slots_fit, m_low, placed, few_slots}

power_low : (n : ℕ) → n ≤ 10 → 2 ^ n ≤ 1024
power_low n low = pow-le-pow_right {n = 2} (let some : 0 < 2 = omega arith in some) low

is_level_of : (to : Option Tid) (level : ℕ) → (to ≡ None → level ≡ 0) → is_level to level ≡ true
is_level_of None level zero_is = eq-eqb level 0 (zero_is refl)
is_level_of (Some at) level zero_is = refl

-- ---- each kind

module _ (pages : List Content) (base : Graph) (acts : List Act) (desk : ℕ) (few : length pages ≤ MOST_BLOCKS) (all : All IsPage pages)
    (on : IsOnBlocks base) (legal : IsLegal base acts) (s : Stands pages (after base acts)) where
  abbrev g : Graph
  g = after base acts

  abbrev Fit : Event → Type 0
  Fit e = Follows pages g e × FitsEach pages g.params e × IsWritable e

  on_now : IsOnBlocks g
  on_now = on_blocks_after base acts on

  node_is : (at : Tid) (n : Node) → node_at g at ≡ Some n → IsShapedNode g.params.m g.params.bits g.blocks at n
  node_is at n stands = (shaped pages g few all s).nodes at n stands

  -- what a desk knows stands on a block
  known_below : (to : Tid) (layer : ℕ) → Knows base acts desk to layer → to.block < g.blocks
  known_below to layer knows =
      let live = knows.was_live in
      let has : HasLevel (state_after base acts knows.position) to live.node.level = record { node = live.node; stands = live.stands; of_level = refl } in
      let now = level_stays base acts knows.position to live.node.level legal (on_blocks_after base (take knows.position acts) on) has in
      (on_now to now.node now.stands).0

  members_below : (m level : ℕ) (lists : List (Option Tid)) → KnowsMembers base acts desk m level lists → AreBelow g.blocks lists
  members_below m level lists known slot to is =
      known_below to (slot_layer m level slot) (known (slot_layer m level slot) to (record { slot = slot; names = is; within = refl }))

  slots_few : (at : Tid) (n : Node) → node_at g at ≡ Some n → length n.slots ≤ MOST_SLOTS
  slots_few at n stands =
      let is = node_is at n stands in
      let m = m_low g.params.kind g.params (of_kind pages g all s) (in_range pages g all s).of_kind in
      omega (arith, is.as_many, slots_fit g.params.m n.level m.0 m.1 is.not_high)

  version_some : (at : Tid) (version : ℕ) (n : Node) → IsThere g at version n → 1 ≤ version
  version_some at version n there = omega (arith, (node_is at n there.stands).version_from_1, there.of_version)

  has_list : (at list_at : Tid) (version : ℕ) (n : Node) → IsThere g at version n → n.list_at ≡ list_at → HasList g at list_at
  has_list at list_at version n there listed = record { node = n; stands = there.stands; listed = listed }

  put_fit : (at list_at : Tid) (version level : ℕ) (id : HeapId) (bits : List Bool) (lists : List (Option Tid))
      → IsPutAllowed base acts desk
      (record { at = at; list_at = list_at; version = version; level = level; id = id; bits = bits; lists = lists })
      → Fit (Put at list_at version level id bits lists)
  unfolding IsWritable
  put_fit at list_at version level id bits lists may =
      let below = members_below g.params.m level lists may.known in
      let is = placed pages g few all s at list_at version level id bits lists may.as_long may.not_high may.as_many below may.placed in
      (is.0, is.1, (is.2, few_slots pages g few all s at list_at version level id bits lists may.as_long may.not_high may.as_many below))

  join_fit : (at : Tid) (version : ℕ) (id : HeapId) → IsJoinAllowed base acts desk at version → Fit (Join at version id)
  unfolding IsWritable
  join_fit at version id may =
      (tt, join_fits pages g all s at version id may.node may.there (omega (arith, may.room)), version_some at version may.node may.there)

  link_fit : (at list_at : Tid) (version slot : ℕ) (to : Tid) → IsLinkAllowed base acts desk at list_at version slot to
      → Fit (Link at list_at version slot to)
  unfolding IsWritable
  link_fit at list_at version slot to may = (
    (has_list at list_at version may.owner may.there may.listed, known_below to (slot_layer g.params.m may.owner.level slot) may.known),
    link_fits pages g all s at list_at to version slot may.owner may.there may.listed may.slot_is,
    version_some at version may.owner may.there,
  )

  relist_fit : (at list_at : Tid) (version : ℕ) (lists : List (Option Tid)) → IsRelistAllowed base acts desk at list_at version lists
      → Fit (Relist at list_at version lists)
  unfolding IsWritable
  relist_fit at list_at version lists may = (
    (has_list at list_at version may.owner may.there may.listed, members_below g.params.m may.owner.level lists may.known),
    relist_fits pages g all s at list_at version lists may.owner may.there may.listed may.as_many,
    (version_some at version may.owner may.there, omega (arith, may.as_many, slots_few at may.owner may.there.stands)),
  )

  drop_fit : (at : Tid) (version gone : ℕ) → IsDropAllowed base acts desk at version gone → Fit (Drop at version gone)
  unfolding IsWritable
  drop_fit at version gone may =
      let few_ids = (node_is at may.node may.there.stands).few in
      let low : 1 ≤ gone = omega (arith, may.names_some) in (
        tt,
        drop_fits pages g all s at version gone may.node may.there may.names_no_others,
        (version_some at version may.node may.there, low, omega (arith, may.names_no_others, power_low (length may.node.ids) few_ids)),
      )

  mark_fit : (at list_at : Tid) (version : ℕ) → IsMarkAllowed base acts desk at list_at version → Fit (Mark at list_at version)
  unfolding IsWritable
  mark_fit at list_at version may = (
    has_list at list_at version may.node may.there may.listed,
    mark_fits pages g all s at list_at version may.node may.there may.listed,
    version_some at version may.node may.there,
  )

  entry_fit : (to : Option Tid) (level : ℕ) → IsEntryAllowed base acts desk to level → Fit (Entry to level)
  unfolding IsWritable
  entry_fit None level may =
      (λ at is. absurd cc, entry_fits pages g all s None level (λ none. may.level_0), is_level_of None level (λ none. may.level_0))
  entry_fit (Some to) level may =
      let has : HasLevel g to level = record { node = may.node; stands = may.stands; of_level = may.of_level } in
      (λ at is. subst (λ (t : Tid). HasLevel g t level) (some_is to at is) has, entry_fits pages g all s (Some to) level (λ none. absurd cc), refl)

  hint_fit : (block : ℕ) → IsHintAllowed base acts desk block → Fit (Hint block)
  unfolding IsWritable
  hint_fit block may =
      let high : block ≤ MOST_BLOCKS = omega (arith, may.within, few, s.blocks) in
      ((may.counted_from_1, may.within), hint_fits pages g all s block may.counted_from_1 high, high)

  pub allowed_fits : (e : Event) → is_lasting e ≡ true → IsEventAllowed base acts desk e → Fit e
  allowed_fits (Put at list_at version level id bits lists) lasting may = put_fit at list_at version level id bits lists may
  allowed_fits (Join at version id) lasting may = join_fit at version id may
  allowed_fits (Link at list_at version slot to) lasting may = link_fit at list_at version slot to may
  allowed_fits (Relist at list_at version lists) lasting may = relist_fit at list_at version lists may
  allowed_fits (Drop at version gone) lasting may = drop_fit at version gone may
  allowed_fits (Mark at list_at version) lasting may = mark_fit at list_at version may
  allowed_fits (Entry to level) lasting may = entry_fit to level may
  allowed_fits (Hint block) lasting may = hint_fit block may
  allowed_fits (IvfAdd to id bits) lasting may = absurd may
  allowed_fits (IvfGrow list last new id bits) lasting may = absurd may
  allowed_fits (IvfDrop of gone) lasting may = absurd may
  allowed_fits (IvfHint list aim) lasting may = absurd may
  allowed_fits (Gate gate hold) lasting may = absurd cc
  allowed_fits (Ungate gate) lasting may = absurd cc
  allowed_fits (Phase stage) lasting may = absurd cc
  allowed_fits VacuumEnd lasting may = absurd cc
  allowed_fits (Cancel stage) lasting may = absurd cc
  allowed_fits (Settled upto) lasting may = absurd cc
  allowed_fits (DiskFaulted count) lasting may = absurd cc
