-- Redo of an event that follows is its effect, whatever its kind.
use Rattle.std.proofs.Common.{◌≡◌, inl, inr, ℕ, ◌+◌, ◌-◌, ◌<◌, ◌≤◌, max, List, [], ◌∷◌, ◌++◌, length, replicate, Option, Some, None, refl, sym, ap, subst, ◌∙◌, arith}
use Rattle.std.specs.Prelude.{slice_get, All, Contains}
use Rattle.std.proofs.lemmas.Bool.{cases_lt, cases_eq}
use Rattle.std.proofs.lemmas.Option.{slice_get_within, slice_get_past}
use Rattle.index_sizes.specs.declared.limits.TheConstants.{MOST_BLOCKS}
use Rattle.vec_names.specs.declared.tid.Tid.{Tid}
use Rattle.vec_names.specs.declared.heap_id.HeapId.{HeapId}
use Rattle.vec_history.specs.declared.event.Event.{Event}
use Rattle.vec_history.specs.declared.event.Event.TheVariants.{Put, Join, Link, Relist, Drop, Mark, Entry, Hint, IvfAdd, IvfGrow, IvfDrop, IvfHint, Gate, Ungate, Phase, VacuumEnd, Cancel, Settled, DiskFaulted}
use Rattle.page_bytes.specs.declared.kind.PageKind.TheVariants.{Hnsw}
use Rattle.page_bytes.specs.Content.{Content, IsPage}
use Rattle.vec_graph.specs.declared.node.Node.{Node}
use Rattle.vec_graph.specs.declared.graph.Graph.{Graph}
use Rattle.vec_graph.specs.Graph.{node_at}
use Rattle.vec_graph.specs.Effect.{effect, joined, dropped, changed_from, changed}
use Rattle.page_redo.specs.PageChanges.{NewNode, new_node}
use Rattle.page_redo.specs.Redo.{touched}
use Rattle.graph_pages.specs.Standing.{Stands}
use Rattle.graph_pages.specs.Effects.{RedoIsEffect}
use Rattle.page_redo.specs.Growing.{AreRedone}
use Rattle.page_redo.specs.Growing.{fresh_page, extended, AreAllRedone}
use Rattle.graph_pages.specs.Following.{AreBelow, HasList, AreNewPlaces, Follows}
use Rattle.graph_pages.proofs.StandingLaws.{root_is, node_below}
use Rattle.graph_pages.proofs.StandingShape.{list_below}
use Rattle.page_redo.proofs.OneFits.{no_more, only}
use Rattle.page_redo.proofs.RedoneOnce.{same_all}
use Rattle.graph_pages.proofs.OneBlock.{one_block}
use Rattle.graph_pages.proofs.HeadEffect.{join_effect, drop_effect}
use Rattle.graph_pages.proofs.SlotEffect.{link_effect, relist_effect}
use Rattle.graph_pages.proofs.MetaEffect.{hint_effect, entry_effect}
use Rattle.graph_pages.proofs.MarkEffect.{mark_effect}
use Rattle.graph_pages.proofs.PutOldEffect.{put_old_effect}
use Rattle.graph_pages.proofs.PutNewEffect.{put_new_effect}

module _ (pages after : List Content) (g : Graph) (wrap number : ℕ) (few : length pages ≤ MOST_BLOCKS) (all : All IsPage pages) (s : Stands pages g) where
  -- an event that makes no block, and touches one that there is
  one_kind : (event : Event) (block : ℕ) → extended event pages ≡ pages → touched event g.params ≡ block ∷ [] → block < length pages
      → RedoIsEffect pages g event → AreAllRedone g.params wrap number event pages after → Stands after (effect wrap event g)
  one_kind event block same touches within is are =
      one_block pages after g event wrap number block touches within
      (subst (λ (z : List Content). AreRedone g.params wrap number event z after) same are) all s is

  root_within : 0 < length pages
  root_within = let r = root_is pages s.meta s.read in slice_get_within pages 0 r.page r.there

  -- one that touches a block which there is not leaves all pages
  all_stay : (event : Event) (block : ℕ) → extended event pages ≡ pages → touched event g.params ≡ block ∷ [] → length pages ≤ block
      → AreAllRedone g.params wrap number event pages after → after ≡ pages
  all_stay event block same touches past are =
      let f = subst (λ (z : List Content). AreRedone g.params wrap number event z after) same are in
      same_all after pages (λ i. elim (cases_eq block i) as (λ _. slice_get after i ≡ slice_get pages i) [
        | inl e ↦ slice_get_past after i (omega (arith, f.count, past, e)) ∙ sym (slice_get_past pages i (omega (arith, past, e)))
        | inr apart ↦ f.elsewhere i (λ h. apart (only block i (subst (λ (blocks : List ℕ). Contains blocks i) touches h)))
      ])

  no_node : (at : Tid) (o : Option Node) → length pages ≤ at.block → node_at g at ≡ o → o ≡ None
  no_node at None past is = refl
  no_node at (Some n) past is = absurd (omega (arith, past, node_below pages g at n s is, s.blocks))

  stays : (at : Tid) (to : Node → Node) → length pages ≤ at.block → changed g at to ≡ g
  stays at to past = ap (changed_from g at to) (no_node at (node_at g at) past refl)

  -- ---- each kind

  join_redone : (at : Tid) (version : ℕ) (id : HeapId) → AreAllRedone g.params wrap number (Join at version id) pages after
      → Stands after (effect wrap (Join at version id) g)
  join_redone at version id are = elim (cases_lt at.block (length pages)) as (λ _. Stands after (effect wrap (Join at version id) g)) [
    | inl within ↦ one_kind (Join at version id) at.block (no_more pages (fresh_page Hnsw)) refl within
        (λ wrap number block page now all stands there is. join_effect pages g at number block page now all stands there version id is) are
    | inr past ↦
        subst (λ (h : Graph). Stands after h) (sym (stays at (joined id) past))
        (subst (λ (z : List Content). Stands z g) (sym (all_stay (Join at version id) at.block (no_more pages (fresh_page Hnsw)) refl past are)) s)
  ]

  drop_redone : (at : Tid) (version gone : ℕ) → AreAllRedone g.params wrap number (Drop at version gone) pages after
      → Stands after (effect wrap (Drop at version gone) g)
  drop_redone at version gone are = elim (cases_lt at.block (length pages)) as (λ _. Stands after (effect wrap (Drop at version gone) g)) [
    | inl within ↦ one_kind (Drop at version gone) at.block (no_more pages (fresh_page Hnsw)) refl within
        (λ wrap number block page now all stands there is. drop_effect pages g at number block page now all stands there version gone is) are
    | inr past ↦
        subst (λ (h : Graph). Stands after h) (sym (stays at (dropped gone) past))
        (subst (λ (z : List Content). Stands z g) (sym (all_stay (Drop at version gone) at.block (no_more pages (fresh_page Hnsw)) refl past are)) s)
  ]

  list_within : (at list_at : Tid) → HasList g at list_at → list_at.block < length pages
  list_within at list_at has =
      let same : has.node.list_at.block ≡ list_at.block = ap (λ (t : Tid). t.block) has.listed in
      omega (arith, list_below pages g at has.node s has.stands, s.blocks, same)

  link_redone : (at list_at to : Tid) (version slot : ℕ) → HasList g at list_at → to.block < g.blocks
      → AreAllRedone g.params wrap number (Link at list_at version slot to) pages after → Stands after (effect wrap (Link at list_at version slot to) g)
  link_redone at list_at to version slot has below are =
      one_kind (Link at list_at version slot to) list_at.block (no_more pages (fresh_page Hnsw)) refl (list_within at list_at has)
      (λ wrap number block page now all stands there is.
      link_effect pages g list_at at has.node number block page now all stands there has.stands has.listed version slot to below is) are

  relist_redone : (at list_at : Tid) (version : ℕ) (lists : List (Option Tid)) → HasList g at list_at → AreBelow g.blocks lists
      → AreAllRedone g.params wrap number (Relist at list_at version lists) pages after → Stands after (effect wrap (Relist at list_at version lists) g)
  relist_redone at list_at version lists has below are =
      one_kind (Relist at list_at version lists) list_at.block (no_more pages (fresh_page Hnsw)) refl (list_within at list_at has)
      (λ wrap number block page now all stands there is.
      relist_effect pages g list_at at has.node number block page now all stands there has.stands has.listed version lists below is) are

  mark_redone : (at list_at : Tid) (version : ℕ) → HasList g at list_at → AreAllRedone g.params wrap number (Mark at list_at version) pages after
      → Stands after (effect wrap (Mark at list_at version) g)
  mark_redone at list_at version has are =
      mark_effect pages g at list_at version wrap number has.node all s has.stands has.listed after
      (subst (λ (z : List Content). AreRedone g.params wrap number (Mark at list_at version) z after) (no_more pages (fresh_page Hnsw)) are)

  -- a node's places are on blocks that there are
  no_fresh : (at list_at : Tid) → HasList g at list_at → max (length pages) (max (at.block + 1) (list_at.block + 1)) ≡ length pages
  no_fresh at list_at has = omega (arith, list_within at list_at has, node_below pages g at has.node s has.stands, s.blocks)

  put_old_redone : (n : NewNode) → HasList g n.at n.list_at
      → AreBelow (max (length pages) (max (n.at.block + 1) (n.list_at.block + 1))) n.slots
      → AreAllRedone g.params wrap number (Put n.at n.list_at n.version n.level n.id n.bits n.slots) pages after
      → Stands after (effect wrap (Put n.at n.list_at n.version n.level n.id n.bits n.slots) g)
  put_old_redone n has below are =
      let none = no_fresh n.at n.list_at has in
      let same = ap (λ (blocks : ℕ). pages ++ replicate (blocks - length pages) (fresh_page Hnsw)) none ∙ no_more pages (fresh_page Hnsw) in
      put_old_effect pages g n wrap number has.node all s has.stands has.listed (λ slot to is. omega (arith, below slot to is, none, s.blocks)) after
      (subst (λ (z : List Content). AreRedone g.params wrap number (Put n.at n.list_at n.version n.level n.id n.bits n.slots) z after) same are)

  put_new_redone : (n : NewNode) → AreNewPlaces pages n.at n.list_at n.version n.level
      → AreBelow (max (length pages) (max (n.at.block + 1) (n.list_at.block + 1))) n.slots
      → AreAllRedone g.params wrap number (Put n.at n.list_at n.version n.level n.id n.bits n.slots) pages after
      → Stands after (effect wrap (Put n.at n.list_at n.version n.level n.id n.bits n.slots) g)
  put_new_redone n places below are =
      put_new_effect pages g n wrap number few all s places.version_high places.level_high places.none places.no_list after below are

  entry_redone : (to : Option Tid) (level : ℕ) → Follows pages g (Entry to level) → AreAllRedone g.params wrap number (Entry to level) pages after
      → Stands after (effect wrap (Entry to level) g)
  entry_redone to level has are =
      one_kind (Entry to level) 0 (no_more pages (fresh_page Hnsw)) refl root_within
      (λ wrap number block page now all stands there is. entry_effect pages g all stands number block page now there to level has is) are

  hint_redone : (hint : ℕ) → hint ≤ g.blocks → AreAllRedone g.params wrap number (Hint hint) pages after → Stands after (effect wrap (Hint hint) g)
  hint_redone hint low are =
      one_kind (Hint hint) 0 (no_more pages (fresh_page Hnsw)) refl root_within
      (λ wrap number block page now all stands there is. hint_effect pages g all stands number block page now there hint low is) are

  pub redo_effect : (event : Event) → Follows pages g event → AreAllRedone g.params wrap number event pages after → Stands after (effect wrap event g)
  redo_effect (Put at list_at version level id bits lists) (inl has, below) are =
      put_old_redone (new_node at list_at version level id bits lists) has below are
  redo_effect (Put at list_at version level id bits lists) (inr places, below) are =
      put_new_redone (new_node at list_at version level id bits lists) places below are
  redo_effect (Join at version id) follows are = join_redone at version id are
  redo_effect (Link at list_at version slot to) (has, below) are = link_redone at list_at to version slot has below are
  redo_effect (Relist at list_at version lists) (has, below) are = relist_redone at list_at version lists has below are
  redo_effect (Drop at version gone) follows are = drop_redone at version gone are
  redo_effect (Mark at list_at version) has are = mark_redone at list_at version has are
  redo_effect (Entry to level) has are = entry_redone to level has are
  redo_effect (Hint hint) (low, high) are = hint_redone hint high are
  redo_effect (IvfAdd to id bits) follows are = absurd follows
  redo_effect (IvfGrow list last new id bits) follows are = absurd follows
  redo_effect (IvfDrop of gone) follows are = absurd follows
  redo_effect (IvfHint list aim) follows are = absurd follows
  redo_effect (Gate gate hold) follows are = absurd follows
  redo_effect (Ungate gate) follows are = absurd follows
  redo_effect (Phase stage) follows are = absurd follows
  redo_effect VacuumEnd follows are = absurd follows
  redo_effect (Cancel stage) follows are = absurd follows
  redo_effect (Settled upto) follows are = absurd follows
  redo_effect (DiskFaulted count) follows are = absurd follows
