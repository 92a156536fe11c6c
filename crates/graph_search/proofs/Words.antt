-- What the words to a change say of the graph.
use Rattle.std.proofs.Common.{◌≡◌, ℕ, ◌+◌, ◌==◌, ◌||◌, ◌&&◌, not, Bool, true, false, cond, nat_le, nat_lt, length, slice_get, Option, Some, None, refl, sym, ap, subst, ◌∙◌, inl, inr}
use Rattle.std.proofs.lemmas.Bool.{eq-eqb, eqb-true, leb-true, ltb-true}
use Rattle.index_sizes.specs.declared.limits.TheConstants.{MOST_BLOCKS, MOST_IDS}
use Rattle.vec_names.specs.declared.tid.Tid.{Tid}
use Rattle.vec_names.specs.declared.heap_id.HeapId.{HeapId}
use Rattle.std.specs.Ordering.{is_eq}
use Rattle.std.specs.declared.cmp.Ordering.{Ordering}
use Rattle.std.specs.declared.cmp.Ordering.TheVariants.{Less, Equal, Greater}
use Rattle.vec_names.specs.Order.{tid_cmp, tid_cmp_exact}
use Rattle.vec_graph.specs.declared.place.Place.{Place}
use Rattle.vec_graph.specs.declared.node.Node.{Node}
use Rattle.vec_graph.specs.declared.graph.Graph.{Graph}
use Rattle.vec_graph.specs.Graph.{node_at, layer_slots}
use Rattle.vec_graph.specs.Places.{place_on, new_place, new_blocks}
use Rattle.vec_graph.specs.Rules.{IsThere, IsPlaced}
use Rattle.vec_graph.specs.Asking.{IsFresh, TakesAnId}
use Rattle.vec_graph.proofs.Placing.{placed_block}
use Rattle.graph_search.specs.Deeds.{NewNode, Joins, PutsOn, PutsNew, Links, Reply, Done, Placed, NoRoom, Full, NotJoined, Stale, Changed, is_stale, is_same_slot, is_still, HoldsInSlot, join_reply, link_reply, place_reply, reply_of}

-- ---- tests

pub both_false : (a b : Bool) → (a || b) ≡ false → (a ≡ false) × (b ≡ false)
both_false true b e = absurd cc
both_false false b e = (refl, e)

both_true : (a b : Bool) → (a && b) ≡ true → (a ≡ true) × (b ≡ true)
both_true true b e = (refl, e)
both_true false b e = absurd cc

not_false : (a : Bool) → not a ≡ false → a ≡ true
not_false true e = refl
not_false false e = absurd cc

both_done : (stale room : Bool) (other : Reply) → (other ≡ Done → ⊥) → cond stale Stale (cond room Done other) ≡ Done → (stale ≡ false) × (room ≡ true)
both_done true room other differs e = absurd cc
both_done false true other differs e = (refl, refl)
both_done false false other differs e = absurd (differs e)

never_stale : (stale room : Bool) (other : Reply) → (other ≡ Stale → ⊥) → stale ≡ false → cond stale Stale (cond room Done other) ≡ Stale → ⊥
never_stale true room other differs fresh e = absurd cc
never_stale false true other differs fresh e = absurd cc
never_stale false false other differs fresh e = differs e

is_equal : (o : Ordering) → is_eq o ≡ true → o ≡ Equal
is_equal Less e = absurd cc
is_equal Equal e = refl
is_equal Greater e = absurd cc

same_is : (a b : Option Tid) → is_same_slot a b ≡ true → a ≡ b
same_is None None e = refl
same_is None (Some b) e = absurd cc
same_is (Some a) None e = absurd cc
same_is (Some a) (Some b) e = ap Some (tid_cmp_exact a b (is_equal (tid_cmp a b) e))

still_is : (o : Option (Option Tid)) (held : Option Tid) → is_still o held ≡ true → o ≡ Some held
still_is None held e = absurd cc
still_is (Some now) held e = ap Some (same_is now held e)

-- ---- a node that is as it was read

as_read : (n : Node) (version : ℕ) → is_stale n version ≡ false → (n.version ≡ version) × (n.deleted ≡ false)
as_read n version fresh =
    let parts = both_false n.deleted (not (n.version == version)) fresh in
    (eqb-true _ _ (not_false (n.version == version) parts.1), parts.0)

not_stale : (n : Node) (version : ℕ) → n.version ≡ version → n.deleted ≡ false → is_stale n version ≡ false
not_stale n version same there = ap (λ (b : Bool). b || not (n.version == version)) there ∙ ap not (eq-eqb _ _ same)

module _ (g : Graph) (at : Tid) (version : ℕ) where
  there_of : (n : Node) → node_at g at ≡ Some n → is_stale n version ≡ false → IsThere g at version n
  there_of n stands fresh = let read = as_read n version fresh in record { stands = stands; of_version = read.0; not_deleted = read.1 }

  -- ---- joins

  joined_from : (o : Option Node) → node_at g at ≡ o → join_reply o version ≡ Done → TakesAnId g at version
  joined_from None stands e = absurd cc
  joined_from (Some n) stands e =
      let parts = both_done (is_stale n version) (nat_le 1 (length n.ids) && nat_lt (length n.ids) MOST_IDS) NotJoined (λ is. absurd cc) e in
      let ids = both_true (nat_le 1 (length n.ids)) (nat_lt (length n.ids) MOST_IDS) parts.1 in
      record {
        node = n;
        there = there_of n stands parts.0;
        some = leb-true _ _ ids.0;
        room = ltb-true _ _ ids.1;
      }

  pub joins_where : (id : HeapId) → reply_of g (Joins at version id) ≡ Done → TakesAnId g at version
  joins_where id e = joined_from (node_at g at) refl e

  pub stale_join : (id : HeapId) → reply_of g (Joins at version id) ≡ Stale → IsFresh g at version → ⊥
  stale_join id e f =
      let n = f.node in
      never_stale (is_stale n version) (nat_le 1 (length n.ids) && nat_lt (length n.ids) MOST_IDS) NotJoined (λ is. absurd cc)
      (not_stale n version f.there.of_version f.there.not_deleted)
      (ap (λ (o : Option Node). join_reply o version) (sym f.there.stands) ∙ e)

  -- ---- links

  linked_from : (layer slot : ℕ) (held : Option Tid) (o : Option Node) → node_at g at ≡ o → link_reply g.params.m o version layer slot held ≡ Done
      → IsFresh g at version
  linked_from layer slot held None stands e = absurd cc
  linked_from layer slot held (Some n) stands e =
      let parts = both_done (is_stale n version) (is_still (slice_get (layer_slots g.params.m n.level layer n.slots) slot) held) Changed (λ is. absurd cc) e in
      record { node = n; there = there_of n stands parts.0 }

  held_from : (list_at : Tid) (layer slot : ℕ) (held : Option Tid) (o : Option Node) → node_at g at ≡ o
      → link_reply g.params.m o version layer slot held ≡ Done → HoldsInSlot g at layer slot held
  held_from list_at layer slot held None stands e = absurd cc
  held_from list_at layer slot held (Some n) stands e =
      let parts = both_done (is_stale n version) (is_still (slice_get (layer_slots g.params.m n.level layer n.slots) slot) held) Changed (λ is. absurd cc) e in
      record { node = n; stands = stands; holds = still_is (slice_get (layer_slots g.params.m n.level layer n.slots) slot) held parts.1 }

  pub held_where : (list_at : Tid) (level layer slot : ℕ) (held : Option Tid) (to : Tid)
      → reply_of g (Links at list_at level version layer slot held to) ≡ Done → HoldsInSlot g at layer slot held
  held_where list_at level layer slot held to e = held_from list_at layer slot held (node_at g at) refl e

  pub links_where : (list_at : Tid) (level layer slot : ℕ) (held : Option Tid) (to : Tid)
      → reply_of g (Links at list_at level version layer slot held to) ≡ Done → IsFresh g at version
  links_where list_at level layer slot held to e = linked_from layer slot held (node_at g at) refl e

  pub stale_link : (list_at : Tid) (level layer slot : ℕ) (held : Option Tid) (to : Tid)
      → reply_of g (Links at list_at level version layer slot held to) ≡ Stale → IsFresh g at version → ⊥
  stale_link list_at level layer slot held to e f =
      let n = f.node in
      never_stale (is_stale n version) (is_still (slice_get (layer_slots g.params.m n.level layer n.slots) slot) held) Changed (λ is. absurd cc)
      (not_stale n version f.there.of_version f.there.not_deleted)
      (ap (λ (o : Option Node). link_reply g.params.m o version layer slot held) (sym f.there.stands) ∙ e)

-- ---- places

placed_some : (o : Option Place) (p : Place) → place_reply o ≡ Placed p → o ≡ Some p
placed_some None p e = absurd cc
placed_some (Some q) p e = let same : q ≡ p = cc in ap Some same

placed_none : (o : Option Place) → place_reply o ≡ NoRoom → o ≡ None
placed_none None e = refl
placed_none (Some q) e = absurd cc

new_from : (fits : Bool) (o : Option Place) (p : Place) → cond fits (place_reply o) Full ≡ Placed p → (fits ≡ true) × (o ≡ Some p)
new_from true o p e = (refl, placed_some o p e)
new_from false o p e = absurd cc

module _ (g : Graph) (node : NewNode) (p : Place) where
  pub put_where : (block : ℕ) → reply_of g (PutsOn block node) ≡ Placed p → IsPlaced g p.at node.level p
  put_where block e =
      let on = placed_some (place_on g block node.level) p e in
      inl (subst (λ (b : ℕ). place_on g b node.level ≡ Some p) (sym (placed_block g block node.level p on)) on)

  pub put_new_where : reply_of g (PutsNew node) ≡ Placed p → IsPlaced g p.at node.level p
  put_new_where e =
      let parts = new_from (nat_le (g.blocks + new_blocks g node.level) MOST_BLOCKS) (new_place g node.level) p e in
      inr (parts.1, leb-true _ _ parts.0)

pub no_room : (g : Graph) (node : NewNode) (block : ℕ) → reply_of g (PutsOn block node) ≡ NoRoom → place_on g block node.level ≡ None
no_room g node block e = placed_none (place_on g block node.level) e
