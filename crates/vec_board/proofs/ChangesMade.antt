-- The event that comes of a change, as an act that may be made.
use Rattle.std.proofs.Common.{◌≡◌, ◌≤◌, ◌<◌, ◌+◌, ◌==◌, ℕ, Bool, true, false, cond, List, [], ◌∷◌, length, max, Option, Some, None, refl, sym, ap, subst, ◌∙◌, arith, ◌⊎◌, inl, inr}
use Rattle.std.specs.Prelude.{nat_le, nat_lt}
use Rattle.std.proofs.lemmas.Bool.{eqb-true, eq-eqb}
use Rattle.std.proofs.lemmas.Option.{same_Some}
use Rattle.index_sizes.specs.declared.limits.TheConstants.{MOST_BLOCKS}
use Rattle.list_values.specs.Masks.{kept}
use Rattle.vec_names.specs.declared.tid.Tid.{Tid}
use Rattle.vec_names.specs.declared.heap_id.HeapId.{HeapId}
use Rattle.vec_names.specs.declared.params.Params.{Params}
use Rattle.vec_names.specs.Places.{tid_of}
use Rattle.vec_names.proofs.PlaceLaws.{tid_of-numbers}
use Rattle.vec_history.specs.declared.event.Event.{Event}
use Rattle.vec_history.specs.declared.event.Event.TheVariants as event
use Rattle.vec_graph.specs.declared.place.Place.{Place}
use Rattle.vec_graph.specs.declared.node.Node.{Node}
use Rattle.vec_graph.specs.declared.graph.Graph.{Graph}
use Rattle.vec_graph.specs.Graph.{node_at}
use Rattle.vec_graph.specs.Places.{IsOnBlocks, place_on, new_place, new_blocks}
use Rattle.graph_search.specs.Deeds.{Reply, is_stale, place_reply, put_event, asked, PutsOn, PutsNew}
use Rattle.graph_search.specs.Deeds as deed
use Rattle.page_redo.specs.Growing.{blocks_after}
use Rattle.ivf_graph.specs.declared.graph.IvfGraph.{IvfGraph}
use Rattle.ivf_graph.specs.Looks.{next_on}
use Rattle.vec_steps.specs.declared.ask.NewNode.{NewNode}
use Rattle.vec_steps.specs.declared.ask.Ask.{Ask}
use Rattle.vec_steps.specs.declared.ask.Ask.TheVariants as ask
use Rattle.vec_steps.specs.declared.told.Told.{Told}
use Rattle.vec_steps.specs.declared.told.Word.{Word}
use Rattle.vec_steps.specs.declared.told.Word.TheVariants as word
use Rattle.vec_steps.specs.Index.{Index, OfNodes, OfLists}
use Rattle.vec_steps.specs.Doing.{Ended, Outdated, Left, Drops, Placed, Extends, CameAt, NoBlockLeft, Says, step_events, cleaned_events, placed_events, drop_reply, came_at, extend_reply}
use Rattle.vec_steps.specs.Telling.{step_of, node_of, put_told, put_new_told, place_told, drop_told, extend_told}
use Rattle.vec_steps.specs.Calls.{made_by}
use Rattle.page_words.specs.declared.making.Making.{Making}
use Rattle.page_words.specs.declared.making.Making.TheVariants as making
use Rattle.page_words.specs.Deciding.{IsOfNodes, IsOfLists, SaysNow, events_of}
use Rattle.vec_board.specs.Summaries.{IsLeft}
use Rattle.vec_board.specs.Changes.{grown_of}
use Rattle.vec_board.proofs.PlacesThere.{within_on, placed_new}

-- what an act is asked of its event beside the rules: so many rows are left by it, and so many blocks come at most
pub record IsCovered (index : Index) (e : Event) (left blocks grown : ℕ) : Type 0 where
  pub left_is : IsLeft index e left
  pub grows : blocks_after e blocks ≤ blocks + grown

covered_as : (index : Index) (x e : Event) (left blocks grown : ℕ) → x ∷ [] ≡ e ∷ [] → IsCovered index x left blocks grown → IsCovered index e left blocks grown
covered_as index x e left blocks grown is covered =
    let same : x ≡ e = cc in subst (λ (y : Event). IsCovered index y left blocks grown) same covered

-- ---- new nodes

placed_at : (o : Option Place) (p : Place) → deed.Placed p ≡ place_reply o → o ≡ Some p
placed_at None p e = absurd cc
placed_at (Some q) p e = let same : q ≡ p = cc in ap Some same

placed_if : (b : Bool) (o : Option Place) (p : Place) → deed.Placed p ≡ cond b (place_reply o) deed.Full → o ≡ Some p
placed_if true o p e = placed_at o p e
placed_if false o p e = absurd cc

-- on blocks that are there none comes
no_block : (a b n : ℕ) → a < n → b < n → max n (max (a + 1) (b + 1)) ≤ n + 0
no_block a b n one two = omega (arith, one, two)

-- and on new ones one or two
one_or_two : (a b n : ℕ) → a ≡ n → (b ≡ n) ⊎ (b ≡ n + 1) → max n (max (a + 1) (b + 1)) ≤ n + cond (a == b) 1 2
one_or_two a b n at (inl list) =
    let same : (a == b) ≡ true = eq-eqb a b (at ∙ sym list) in
    subst (λ t. max n (max (a + 1) (b + 1)) ≤ n + cond t 1 2) (sym same) (omega (arith, at, list))
one_or_two a b n at (inr list) = by (a == b) refl where
  by : (t : Bool) → (a == b) ≡ t → max n (max (a + 1) (b + 1)) ≤ n + cond t 1 2
  by true is = let same : a ≡ b = eqb-true a b is in absurd (omega (arith, same, at, list))
  by false is = omega (arith, at, list)

-- ---- rows that are left

drop_left : (w : Word) (at : Tid) (version gone left : ℕ) (o : Option Node) (e : Event) → cleaned_events (Drops at version gone) (drop_told w left) ≡ e ∷ []
    → drop_told w left ≡ drop_reply o version gone → (n : Node) → o ≡ Some n → left ≡ length (kept gone n.ids)
drop_left word.Done at version gone left None e made says n is = absurd cc
drop_left word.Done at version gone left (Some m) e made says n is = by (is_stale m version) says where
  by : (b : Bool) → Left left ≡ cond b Outdated (Left (length (kept gone m.ids))) → left ≡ length (kept gone n.ids)
  by true s = absurd cc
  by false s = let so : left ≡ length (kept gone m.ids) = cc in so ∙ ap (λ (x : Node). length (kept gone x.ids)) (same_Some m n is)
drop_left _ at version gone left o e made says n is = absurd cc

-- ---- a graph of nodes

module _ (p : Params) (g : Graph) (on_blocks : IsOnBlocks g) (blocks : ℕ) (count : g.blocks ≡ blocks) (t : Told) (e : Event) where
  put_on : (block : ℕ) (node : NewNode) (o : Option Place) → step_events p (put_told (node_of node) block o) ≡ e ∷ []
      → Says p (OfNodes g) [] 0 (put_told (node_of node) block o) → IsCovered (OfNodes g) e t.left blocks 0
  put_on block node None made says = absurd cc
  put_on block node (Some s) made says =
      let within = within_on g on_blocks node.level s block (placed_at (place_on g block node.level) s says) in
      covered_as (OfNodes g) (put_event (node_of node) s) e t.left blocks 0 made (record {
        left_is = tt;
        grows = no_block s.at.block s.list_at.block blocks (subst (λ n. s.at.block < n) count within.0)
            (subst (λ n. s.list_at.block < n) count within.1);
      })

  put_new : (node : NewNode) (q : Place) (o : Option Place) → put_event (node_of node) q ∷ [] ≡ e ∷ []
      → step_events p (put_new_told (node_of node) t o) ≡ e ∷ [] → Says p (OfNodes g) [] 0 (put_new_told (node_of node) t o)
      → IsCovered (OfNodes g) e t.left blocks (cond (q.at.block == q.list_at.block) 1 2)
  put_new node q None of made says = absurd cc
  put_new node q (Some s) of made says =
      let on = placed_new g on_blocks node.level s (placed_if (nat_le (g.blocks + new_blocks g node.level) MOST_BLOCKS) (new_place g node.level) s says) in
      let one : q.at ≡ s.at = cc in
      let two : q.list_at ≡ s.list_at = cc in
      let at : q.at.block ≡ blocks = ap (λ (x : Tid). x.block) one ∙ on.0 ∙ count in
      let list : (q.list_at.block ≡ blocks) ⊎ (q.list_at.block ≡ blocks + 1) =
      subst (λ (x : Tid). (x.block ≡ blocks) ⊎ (x.block ≡ blocks + 1)) (sym two)
      (subst (λ n. (s.list_at.block ≡ n) ⊎ (s.list_at.block ≡ n + 1)) count on.1) in
      covered_as (OfNodes g) (put_event (node_of node) q) e t.left blocks (cond (q.at.block == q.list_at.block) 1 2) of (record {
        left_is = tt;
        grows = one_or_two q.at.block q.list_at.block blocks at list;
      })

  -- an event that makes no block, and leaves no rows to be told
  plain : (x : Event) → IsLeft (OfNodes g) x t.left → blocks_after x blocks ≡ blocks → x ∷ [] ≡ e ∷ [] → IsCovered (OfNodes g) e t.left blocks 0
  plain x left none of = covered_as (OfNodes g) x e t.left blocks 0 of (record { left_is = left; grows = omega (arith, none) })

  pub nodes_covered : (asked : Ask) (m : Making) → IsOfNodes asked → events_of asked m ≡ e ∷ [] → made_by p (step_of asked t Ended) ≡ e ∷ []
      → SaysNow p (OfNodes g) (step_of asked t Ended) → IsCovered (OfNodes g) e t.left blocks (grown_of asked m)
  nodes_covered (ask.Put block node) m is of made says = put_on block node (place_told t.word t.tid t.list_at t.version) made says
  nodes_covered (ask.PutNew node) (making.At q) is of made says = put_new node q (place_told t.word t.tid t.list_at t.version) of made says
  nodes_covered (ask.Join at version id) making.Asked is of made says = plain (event.Join at version id) tt refl of
  nodes_covered (ask.Link at list_at level version layer slot held to) (making.Slot number) is of made says =
      plain (event.Link at list_at version number to) tt refl of
  nodes_covered (ask.Relist at list_at version lists) making.Asked is of made says = plain (event.Relist at list_at version lists) tt refl of
  nodes_covered (ask.Drop at version gone) making.Asked is of made says =
      plain (event.Drop at version gone) (drop_left t.word at version gone t.left (node_at g at) e made says) refl of
  nodes_covered (ask.Mark at list_at version) making.Asked is of made says = plain (event.Mark at list_at version) tt refl of
  nodes_covered (ask.Entry to level) making.Asked is of made says = plain (event.Entry to level) tt refl of
  nodes_covered (ask.Hint block) making.Asked is of made says = plain (event.Hint block) tt refl of
  nodes_covered (ask.Add block id bits) m is of made says = absurd is
  nodes_covered (ask.Extend list last id bits) m is of made says = absurd is
  nodes_covered (ask.Cut block gone) m is of made says = absurd is
  nodes_covered (ask.Aim list block) m is of made says = absurd is
  nodes_covered _ _ is of made says = absurd cc

-- ---- lists

behind : (next : Option ℕ) (blocks : ℕ) (at : Tid) → CameAt at ≡ extend_reply next blocks → at.block ≡ blocks
behind (Some next) blocks at e = absurd cc
behind None blocks at e = by (nat_lt blocks MOST_BLOCKS) e where
  of : (o : Option Tid) → o ≡ tid_of blocks 1 → CameAt at ≡ came_at o → at.block ≡ blocks
  of None is w = absurd cc
  of (Some x) is w =
      let same : at ≡ x = cc in
      ap (λ (y : Tid). y.block) same ∙ (tid_of-numbers blocks 1 x (sym is)).0

  by : (b : Bool) → CameAt at ≡ cond b (came_at (tid_of blocks 1)) NoBlockLeft → at.block ≡ blocks
  by true w = of (tid_of blocks 1) refl w
  by false w = absurd cc

module _ (p : Params) (g : IvfGraph) (blocks : ℕ) (count : g.blocks ≡ blocks) (t : Told) (e : Event) where
  extend : (list last : ℕ) (id : HeapId) (bits : List Bool) (r : Placed) → placed_events (Extends list last id bits) r ≡ e ∷ []
      → r ≡ extend_reply (next_on g last) g.blocks → IsCovered (OfLists g) e t.left blocks 1
  extend list last id bits (CameAt at) made says =
      let is : at.block ≡ blocks = behind (next_on g last) g.blocks at says ∙ count in
      covered_as (OfLists g) (event.IvfGrow list last at.block id bits) e t.left blocks 1 made (record { left_is = tt; grows = omega (arith, is) })
  extend list last id bits _ made says = absurd cc

  plain_row : (x : Event) → blocks_after x blocks ≡ blocks → x ∷ [] ≡ e ∷ [] → IsCovered (OfLists g) e t.left blocks 0
  plain_row x none of = covered_as (OfLists g) x e t.left blocks 0 of (record { left_is = tt; grows = omega (arith, none) })

  pub lists_covered : (asked : Ask) (m : Making) → IsOfLists asked → events_of asked m ≡ e ∷ [] → made_by p (step_of asked t Ended) ≡ e ∷ []
      → SaysNow p (OfLists g) (step_of asked t Ended) → IsCovered (OfLists g) e t.left blocks (grown_of asked m)
  lists_covered (ask.Add block id bits) making.Asked is of made says = plain_row (event.IvfAdd block id bits) refl of
  lists_covered (ask.Extend list last id bits) m is of made says =
      extend list last id bits (extend_told t.word t.tid t.next) made says
  lists_covered (ask.Cut block gone) making.Asked is of made says = plain_row (event.IvfDrop block gone) refl of
  lists_covered (ask.Aim list block) making.Asked is of made says = plain_row (event.IvfHint list block) refl of
  lists_covered (ask.Put block node) m is of made says = absurd is
  lists_covered (ask.PutNew node) m is of made says = absurd is
  lists_covered (ask.Join at version id) m is of made says = absurd is
  lists_covered (ask.Link at list_at level version layer slot held to) m is of made says = absurd is
  lists_covered (ask.Relist at list_at version lists) m is of made says = absurd is
  lists_covered (ask.Drop at version gone) m is of made says = absurd is
  lists_covered (ask.Mark at list_at version) m is of made says = absurd is
  lists_covered (ask.Entry to level) m is of made says = absurd is
  lists_covered (ask.Hint block) m is of made says = absurd is
  lists_covered _ _ is of made says = absurd cc
