-- What a desk may ask and an index grants, the rules allow.
use Rattle.std.proofs.Common.{◌≡◌, ℕ, zero, suc, ◌+◌, ◌-◌, ◌*◌, ◌/◌, ◌<◌, ◌≤◌, ◌==◌, ◌||◌, not, Bool, true, false, cond, nat_le, nat_lt, List, [], ◌∷◌, ◌++◌, length, slice_get, Option, Some, None, refl, sym, ap, subst, ◌∙◌, inl, inr, arith, le-div_iff_mul-le, div-lt_iff_lt-mul, add-mul, one-mul}
use Rattle.std.proofs.lemmas.Bool.{leb-true, ltb-true, eqb-true}
use Rattle.std.proofs.lemmas.Option.{same_Some}
use Rattle.index_sizes.specs.declared.limits.TheConstants.{MOST_BLOCKS, PAGE_ROOM}
use Rattle.index_sizes.specs.Sizes.{slots_of_level}
use Rattle.list_values.specs.Masks.{kept}
use Rattle.vec_names.specs.declared.tid.Tid.{Tid}
use Rattle.vec_names.specs.declared.heap_id.HeapId.{HeapId}
use Rattle.vec_names.specs.declared.params.Params.{Params}
use Rattle.vec_names.specs.Places.{tid_of}
use Rattle.vec_names.proofs.PlaceLaws.{tid_of-numbers}
use Rattle.vec_history.specs.declared.event.Event.{Event}
use Rattle.vec_history.specs.declared.event.Event.TheVariants as event
use Rattle.vec_history.specs.declared.event.Act.{Act}
use Rattle.vec_history.specs.declared.gate.Gate.{Gate}
use Rattle.vec_history.specs.declared.gate.Hold.{Hold}
use Rattle.vec_history.specs.declared.stage.Stage.{Stage}
use Rattle.vec_history.specs.Acts.{act_of}
use Rattle.vec_history.specs.Legal.{IsLegalBy}
use Rattle.vec_history.proofs.ByActs.{more}
use Rattle.vec_graph.specs.declared.place.Place.{Place}
use Rattle.vec_graph.specs.declared.node.Node.{Node}
use Rattle.vec_graph.specs.declared.graph.Graph.{Graph}
use Rattle.vec_graph.specs.Graph.{node_at, slot_layer, HasAllSlots}
use Rattle.vec_graph.specs.Effect as nodes
use Rattle.vec_graph.specs.Asking as nodes_asking
use Rattle.vec_graph.specs.Asking.{IsFresh}
use Rattle.vec_graph.specs.Legal as nodes_history
use Rattle.vec_graph.specs.Shaped as nodes_shape
use Rattle.vec_graph.specs.Knowing.{Knows}
use Rattle.vec_graph.proofs.Asked as nodes_rules
use Rattle.vec_graph.proofs.Shaping.{shaped_after}
use Rattle.ivf_graph.specs.declared.graph.IvfGraph.{IvfGraph}
use Rattle.ivf_graph.specs.Graph.{Row, rows_on, row_need, taken, AreBlocksOwn, AreBlocksApart}
use Rattle.ivf_graph.specs.Looks.{next_on}
use Rattle.ivf_graph.specs.Effect as lists
use Rattle.ivf_graph.specs.Asking as lists_asking
use Rattle.ivf_graph.specs.Legal as lists_history
use Rattle.ivf_graph.proofs.Asked as lists_rules
use Rattle.ivf_graph.proofs.OwnBlocks.{own_after}
use Rattle.graph_search.specs.Insert.{most_in}
use Rattle.graph_search.specs.Deeds.{looked, asked, Joins, PutsOn, PutsNew, Links, Enters, Hints, Takes, Releases, Reply, is_stale, slot_in, reply_of, reply_events, put_event}
use Rattle.graph_search.specs.Deeds as deed
use Rattle.graph_search.proofs.Words.{joins_where, links_where, put_where, put_new_where}
use Rattle.vec_steps.specs.declared.ask.NewNode.{NewNode}
use Rattle.vec_steps.specs.declared.ask.Ask.{Ask}
use Rattle.vec_steps.specs.declared.ask.Ask.TheVariants as ask
use Rattle.vec_steps.specs.declared.told.Told.{Told}
use Rattle.vec_steps.specs.declared.told.Word.{Word}
use Rattle.vec_steps.specs.Index.{Index, OfNodes, OfLists, IsShaped, IsLegal, HasParams}
use Rattle.vec_steps.specs.Doing.{Step, did, overfull, cleaned, placed, Cleaning, Cleaned, Relists, Drops, Marks, Empties, Begins, Ends, Cleared, Left, Outdated, Ended, Cancelled, Placed, Adds, Extends, Cuts, Aims, Came, CameAt, HasNoRoom, GoesOn, NoBlockLeft}
use Rattle.vec_steps.specs.Doing.{clear_reply, drop_reply, add_reply, came_at, extend_reply, placing_reply, step_events, cleaned_events, placed_events, Says, SaysCleaned}
use Rattle.vec_steps.specs.Telling.{step_of, node_of, put_told, put_new_told, place_told, join_told, link_told, clear_told, drop_told, entry_told, add_told, extend_told}
use Rattle.vec_steps.specs.Desks.{Desk, MayAsk, MayAskNodes, MayAskLists, MayLink, MayPut}
use Rattle.vec_steps.specs.Granting.{AgreesAtTake}

-- ---- a slot of a layer among all slots

upper : (layer slot m : ℕ) → slot < most_in m (suc layer) → slot < m
upper layer slot m below = by (suc layer == 0) refl below where
  by : (b : Bool) → (suc layer == 0) ≡ b → slot < cond b (2 * m) m → slot < m
  by true e short = let never : suc layer ≡ 0 = eqb-true _ _ e in absurd (omega (arith, never))
  by false e short = short

slot_below : (level layer slot m : ℕ) → layer ≤ level → slot < most_in m layer → slot_in m level layer slot < slots_of_level m level
slot_below level zero slot m reaches below =
    let short : slot < 2 * m = below in
    let all : (level + 2) * m ≡ level * m + 2 * m = add-mul level 2 m in
    let same : (level - 0) * m ≡ level * m = ap (λ k. k * m) (omega arith) in
    omega (arith, all, same, short)
slot_below level (suc layer) slot m reaches below =
    let short : slot < m = upper layer slot m below in
    let d = level - suc layer in
    let parts : (d + (layer + 3)) * m ≡ d * m + (layer + 3) * m = add-mul d (layer + 3) m in
    let more : ((layer + 2) + 1) * m ≡ (layer + 2) * m + 1 * m = add-mul (layer + 2) 1 m in
    let one : 1 * m ≡ m = one-mul m in
    let level_is : d + (layer + 3) ≡ level + 2 = omega (arith, reaches) in
    let all : (d + (layer + 3)) * m ≡ (level + 2) * m = ap (λ k. k * m) level_is in
    let same : (layer + 3) * m ≡ ((layer + 2) + 1) * m = ap (λ k. k * m) (omega arith) in
    omega (arith, parts, more, one, all, same, short)

in_layer : (level layer slot m : ℕ) → layer ≤ level → slot < most_in m layer → slot_layer m level (slot_in m level layer slot) ≡ layer
in_layer level zero slot m reaches below =
    let short : slot < 2 * m = below in
    let positive : 1 ≤ m = omega (arith, short) in
    let low : (level - 0) * m ≤ slot_in m level zero slot = omega arith in
    let q : level - 0 ≤ slot_in m level zero slot / m = (le-div_iff_mul-le positive).1 low in
    omega (arith, q)
in_layer level (suc layer) slot m reaches below =
    let short : slot < m = upper layer slot m below in
    let positive : 1 ≤ m = omega (arith, short) in
    let d = level - suc layer in
    let low : d * m ≤ d * m + slot = omega arith in
    let not_less : d ≤ (d * m + slot) / m = (le-div_iff_mul-le positive).1 low in
    let more : (d + 1) * m ≡ d * m + 1 * m = add-mul d 1 m in
    let one : 1 * m ≡ m = one-mul m in
    let high : d * m + slot < (d + 1) * m = omega (arith, more, one, short) in
    let not_more : (d * m + slot) / m < d + 1 = (div-lt_iff_lt-mul positive).1 high in
    omega (arith, reaches, not_less, not_more)

-- ---- words of a vacuum

as_read : (n : Node) (version : ℕ) → is_stale n version ≡ false → (n.version ≡ version) × (n.deleted ≡ false)
as_read n version fresh = by n.deleted (n.version == version) refl refl fresh where
  by : (a b : Bool) → n.deleted ≡ a → (n.version == version) ≡ b → (a || not b) ≡ false → (n.version ≡ version) × (n.deleted ≡ false)
  by true b ea eb e = absurd cc
  by false true ea eb e = (eqb-true _ _ eb, ea)
  by false false ea eb e = absurd cc

clear_done : (o : Option Node) (version : ℕ) → Cleared ≡ clear_reply o version → (n : Node) × (o ≡ Some n) × (is_stale n version ≡ false)
clear_done None version e = absurd cc
clear_done (Some n) version e = (n, refl, fresh (is_stale n version) e) where
  fresh : (b : Bool) → Cleared ≡ cond b Outdated Cleared → b ≡ false
  fresh true w = absurd cc
  fresh false w = refl

never_by : (b : Bool) (end : Cleaned) → (end ≡ Outdated → ⊥) → (end ≡ Cleared → ⊥) → end ≡ cond b Outdated Cleared → ⊥
never_by true end not_out not_clear e = not_out e
never_by false end not_out not_clear e = not_clear e

never_clears : (o : Option Node) (version : ℕ) (end : Cleaned) → (end ≡ Outdated → ⊥) → (end ≡ Cleared → ⊥) → end ≡ clear_reply o version → ⊥
never_clears None version end not_out other e = not_out e
never_clears (Some n) version end not_out other e = never_by (is_stale n version) end not_out other e

ended_no_drop : (o : Option Node) (version gone : ℕ) (end : Cleaned) → (end ≡ Outdated → ⊥) → ((ids : ℕ) → end ≡ Left ids → ⊥) → end ≡ drop_reply o version gone → ⊥
ended_no_drop None version gone end not_out other e = not_out e
ended_no_drop (Some n) version gone end not_out other e = by (is_stale n version) e where
  by : (b : Bool) → end ≡ cond b Outdated (Left (length (kept gone n.ids))) → ⊥
  by true w = not_out w
  by false w = other (length (kept gone n.ids)) w

-- ---- a graph of nodes

module _ (base : Graph) (acts : List Act) (d : Desk) (same : d.params ≡ base.params) where
  abbrev g : Graph
  g = nodes.after base acts

  abbrev Granted : Event → Type 0
  Granted e = nodes_asking.IsAsked base acts d.number e × nodes_asking.IsGranted base acts d.number e

  put_granted : (block : ℕ) (node : NewNode) (o : Option Place) (e : Event) → MayPut base acts d.number block node
      → Says d.params (OfNodes base) acts d.number (put_told (node_of node) block o) → step_events d.params (put_told (node_of node) block o) ≡ e ∷ [] → Granted e
  put_granted block node None e may says made = absurd cc
  put_granted block node (Some p) e may says made =
      let is : put_event (node_of node) p ≡ e = cc in
      subst Granted is (may.asked, put_where g (node_of node) p block (sym says))

  put_new_granted : (node : NewNode) (t : Told) (o : Option Place) (e : Event)
      → nodes_asking.IsPutAsked base acts d.number node.level node.bits node.lists
      → Says d.params (OfNodes base) acts d.number (put_new_told (node_of node) t o) → step_events d.params (put_new_told (node_of node) t o) ≡ e ∷ [] → Granted e
  put_new_granted node t None e may says made = absurd cc
  put_new_granted node t (Some p) e may says made =
      let is : put_event (node_of node) p ≡ e = cc in
      subst Granted is (may, put_new_where g (node_of node) p (sym says))

  join_granted : (at : Tid) (version : ℕ) (id : HeapId) (r : Reply) (e : Event) → nodes_asking.IsAsked base acts d.number (event.Join at version id)
      → r ≡ reply_of g (Joins at version id) → reply_events d.params.m (Joins at version id) r ≡ e ∷ [] → Granted e
  join_granted at version id deed.Done e may says made =
      let is : event.Join at version id ≡ e = cc in
      subst Granted is (may, joins_where g at version id (sym says))
  join_granted at version id (deed.Placed p) e may says made = absurd cc
  join_granted at version id deed.NoRoom e may says made = absurd cc
  join_granted at version id deed.Full e may says made = absurd cc
  join_granted at version id deed.NotJoined e may says made = absurd cc
  join_granted at version id deed.Stale e may says made = absurd cc
  join_granted at version id deed.Changed e may says made = absurd cc

  link_asked : (at list_at : Tid) (level version layer slot m : ℕ) (to : Tid) → m ≡ base.params.m → MayLink base acts d.number at list_at level layer slot to
      → nodes_asking.IsAsked base acts d.number (event.Link at list_at version (slot_in m level layer slot) to)
  link_asked at list_at level version layer slot m to m_is may =
      subst (λ (k : ℕ). nodes_asking.IsAsked base acts d.number (event.Link at list_at version (slot_in k level layer slot) to)) (sym m_is) (record {
        update = may.update;
        level = level;
        owner = may.owner;
        slot_is = slot_below level layer slot base.params.m may.reaches may.slot_is;
        known = subst (Knows base acts d.number to) (sym (in_layer level layer slot base.params.m may.reaches may.slot_is)) may.known;
      })

  link_granted : (at list_at : Tid) (level version layer slot : ℕ) (held : Option Tid) (to : Tid) (r : Reply) (e : Event)
      → MayLink base acts d.number at list_at level layer slot to
      → r ≡ reply_of g (Links at list_at level version layer slot held to)
      → reply_events d.params.m (Links at list_at level version layer slot held to) r ≡ e ∷ [] → Granted e
  link_granted at list_at level version layer slot held to deed.Done e may says made =
      let is : event.Link at list_at version (slot_in d.params.m level layer slot) to ≡ e = cc in
      subst Granted is (
        link_asked at list_at level version layer slot d.params.m to (ap (λ (p : Params). p.m) same) may,
        links_where g at version list_at level layer slot held to (sym says),
      )
  link_granted at list_at level version layer slot held to (deed.Placed p) e may says made = absurd cc
  link_granted at list_at level version layer slot held to deed.NoRoom e may says made = absurd cc
  link_granted at list_at level version layer slot held to deed.Full e may says made = absurd cc
  link_granted at list_at level version layer slot held to deed.NotJoined e may says made = absurd cc
  link_granted at list_at level version layer slot held to deed.Stale e may says made = absurd cc
  link_granted at list_at level version layer slot held to deed.Changed e may says made = absurd cc

  relist_granted : (at list_at : Tid) (version : ℕ) (slots : List (Option Tid)) (r : Cleaned) (e : Event)
      → nodes_asking.IsAsked base acts d.number (event.Relist at list_at version slots)
      → r ≡ clear_reply (node_at g at) version → cleaned_events (Relists at list_at version slots) r ≡ e ∷ [] → Granted e
  relist_granted at list_at version slots Cleared e may says made =
      let is : event.Relist at list_at version slots ≡ e = cc in
      let read = clear_done (node_at g at) version says in
      let now = as_read read.0 version read.2 in
      subst Granted is (may, record { node = read.0; there = record { stands = read.1; of_version = now.0; not_deleted = now.1 } })
  relist_granted at list_at version slots (Left ids) e may says made = absurd cc
  relist_granted at list_at version slots Outdated e may says made = absurd cc
  relist_granted at list_at version slots Ended e may says made =
      absurd (never_clears (node_at g at) version Ended (λ w. absurd cc) (λ w. absurd cc) says)
  relist_granted at list_at version slots (Cancelled stage) e may says made =
      absurd (never_clears (node_at g at) version (Cancelled stage) (λ w. absurd cc) (λ w. absurd cc) says)

  mark_granted : (at list_at : Tid) (version : ℕ) (r : Cleaned) (e : Event) → nodes_asking.IsAsked base acts d.number (event.Mark at list_at version)
      → r ≡ clear_reply (node_at g at) version → cleaned_events (Marks at list_at version) r ≡ e ∷ [] → Granted e
  mark_granted at list_at version Cleared e may says made =
      let is : event.Mark at list_at version ≡ e = cc in
      subst Granted is (may, tt)
  mark_granted at list_at version (Left ids) e may says made = absurd cc
  mark_granted at list_at version Outdated e may says made = absurd cc
  mark_granted at list_at version Ended e may says made =
      absurd (never_clears (node_at g at) version Ended (λ w. absurd cc) (λ w. absurd cc) says)
  mark_granted at list_at version (Cancelled stage) e may says made =
      absurd (never_clears (node_at g at) version (Cancelled stage) (λ w. absurd cc) (λ w. absurd cc) says)

  drop_granted : (at : Tid) (version gone : ℕ) (r : Cleaned) (e : Event) → nodes_asking.IsAsked base acts d.number (event.Drop at version gone)
      → r ≡ drop_reply (node_at g at) version gone → cleaned_events (Drops at version gone) r ≡ e ∷ [] → Granted e
  drop_granted at version gone Cleared e may says made = absurd cc
  drop_granted at version gone (Left ids) e may says made =
      let is : event.Drop at version gone ≡ e = cc in
      subst Granted is (may, tt)
  drop_granted at version gone Outdated e may says made = absurd cc
  drop_granted at version gone Ended e may says made =
      absurd (ended_no_drop (node_at g at) version gone Ended (λ w. absurd cc) (λ ids w. absurd cc) says)
  drop_granted at version gone (Cancelled stage) e may says made =
      absurd (ended_no_drop (node_at g at) version gone (Cancelled stage) (λ w. absurd cc) (λ ids w. absurd cc) says)

  entry_granted : (to : Option Tid) (level : ℕ) (e : Event) → nodes_asking.IsAsked base acts d.number (event.Entry to level)
      → step_events d.params (entry_told to level) ≡ e ∷ [] → Granted e
  entry_granted None level e may made = let is : event.Entry None level ≡ e = cc in subst Granted is (may, tt)
  entry_granted (Some to) level e may made = let is : event.Entry (Some to) level ≡ e = cc in subst Granted is (may, tt)

  end_granted : (r : Cleaned) (e : Event) → SaysCleaned base acts d.number Ends r → cleaned_events Ends r ≡ e ∷ [] → Granted e
  end_granted Cleared e says made = absurd says
  end_granted (Left ids) e says made = absurd says
  end_granted Outdated e says made = absurd says
  end_granted Ended e says made = let is : event.VacuumEnd ≡ e = cc in subst Granted is (says, tt)
  end_granted (Cancelled stage) e says made = let is : event.Cancel stage ≡ e = cc in subst Granted is (says, tt)

  -- the step of an ask is the one that is spoken of
  says_as : {b : Step} {s : Step} → Some b ≡ Some s → Says d.params (OfNodes base) acts d.number s → Says d.params (OfNodes base) acts d.number b
  says_as {b} {s} is says = subst (Says d.params (OfNodes base) acts d.number) (sym (same_Some b s is)) says

  made_as : {b s : Step} {e : Event} → Some b ≡ Some s → step_events d.params s ≡ e ∷ [] → step_events d.params b ≡ e ∷ []
  made_as {b} {s} {e} is made = ap (step_events d.params) (same_Some b s is) ∙ made

  one_event : {b s : Step} {e x : Event} → Some b ≡ Some s → step_events d.params b ≡ x ∷ [] → step_events d.params s ≡ e ∷ [] → x ≡ e
  one_event {b} {s} {e} {x} is of made =
      let both : x ∷ [] ≡ e ∷ [] = sym of ∙ made_as is made in
      cc

  no_event : {b s : Step} {e : Event} → Some b ≡ Some s → step_events d.params b ≡ [] → step_events d.params s ≡ e ∷ [] → ⊥
  no_event {b} {s} {e} is of made = let both : [] ≡ e ∷ [] = sym of ∙ made_as is made in absurd cc

  -- an ask of each kind
  node_granted : (a : Ask) (t : Told) (ending : Cleaned) (s : Step) (e : Event) → MayAskNodes base acts d.number a → AgreesAtTake acts d.number a
      → step_of a t ending ≡ Some s → Says d.params (OfNodes base) acts d.number s → step_events d.params s ≡ e ∷ [] → Granted e
  node_granted ask.Spent t ending s e may agrees is says made = absurd cc
  node_granted (ask.Reserve events) t ending s e may agrees is says made = absurd cc
  node_granted ask.Meta t ending s e may agrees is says made = absurd (no_event is refl made)
  node_granted (ask.Node at layer version) t ending s e may agrees is says made = absurd (no_event is refl made)
  node_granted (ask.List at list_at level version layer) t ending s e may agrees is says made = absurd (no_event is refl made)
  node_granted (ask.Page block) t ending s e may agrees is says made = absurd (no_event is refl made)
  node_granted (ask.Put block node) t ending s e may agrees is says made =
      put_granted block node (place_told t.word t.tid t.list_at t.version) e may (says_as is says) (made_as is made)
  node_granted (ask.PutNew node) t ending s e may agrees is says made =
      put_new_granted node t (place_told t.word t.tid t.list_at t.version) e may (says_as is says) (made_as is made)
  node_granted (ask.Join at version id) t ending s e may agrees is says made =
      join_granted at version id (join_told t.word) e may (says_as is says) (made_as is made)
  node_granted (ask.Link at list_at level version layer slot held to) t ending s e may agrees is says made =
      link_granted at list_at level version layer slot held to (link_told t.word) e may (says_as is says) (made_as is made)
  node_granted (ask.Relist at list_at version slots) t ending s e may agrees is says made =
      relist_granted at list_at version slots (clear_told t.word) e may (says_as is says) (made_as is made)
  node_granted (ask.Drop at version gone) t ending s e may agrees is says made =
      drop_granted at version gone (drop_told t.word t.left) e may (says_as is says) (made_as is made)
  node_granted (ask.Mark at list_at version) t ending s e may agrees is says made =
      mark_granted at list_at version (clear_told t.word) e may (says_as is says) (made_as is made)
  node_granted (ask.Entry to level) t ending s e may agrees is says made = entry_granted to level e may (made_as is made)
  node_granted (ask.Hint block) t ending s e may agrees is says made = subst Granted (one_event is refl made) (may, tt)
  node_granted (ask.Take gate hold) t ending s e may agrees is says made = subst Granted (one_event is refl made) (may, agrees)
  node_granted (ask.Release gate) t ending s e may agrees is says made = subst Granted (one_event is refl made) (may, tt)
  node_granted (ask.Phase stage) t ending s e may agrees is says made = subst Granted (one_event is refl made) (may, tt)
  node_granted ask.EndVacuum t ending s e may agrees is says made = end_granted ending e (says_as is says) (made_as is made)
  node_granted (ask.Centres block) t ending s e may agrees is says made = absurd may
  node_granted (ask.Rows block) t ending s e may agrees is says made = absurd may
  node_granted (ask.Add block id bits) t ending s e may agrees is says made = absurd may
  node_granted (ask.Extend list last id bits) t ending s e may agrees is says made = absurd may
  node_granted (ask.Cut block gone) t ending s e may agrees is says made = absurd may
  node_granted (ask.Aim list block) t ending s e may agrees is says made = absurd may

  pub node_allowed : HasAllSlots (nodes.after base acts) → (a : Ask) (t : Told) (ending : Cleaned) (s : Step) (e : Event)
      → MayAskNodes base acts d.number a → AgreesAtTake acts d.number a → step_of a t ending ≡ Some s
      → Says d.params (OfNodes base) acts d.number s → step_events d.params s ≡ e ∷ []
      → nodes_history.IsAllowed base acts (act_of d.number e)
  node_allowed full a t ending s e may agrees is says made =
      let k = node_granted a t ending s e may agrees is says made in
      nodes_rules.allowed_by base acts d.number full e k.0 k.1

-- ---- an index of lists

extend_done : (next : Option ℕ) (blocks : ℕ) (at : Tid) → CameAt at ≡ extend_reply next blocks → (next ≡ None) × (at.block ≡ blocks) × (blocks < MOST_BLOCKS)
extend_done (Some next) blocks at e = absurd cc
extend_done None blocks at e = let k = by (nat_lt blocks MOST_BLOCKS) refl e in (refl, k.0, k.1) where
  new_at : (o : Option Tid) → CameAt at ≡ came_at o → o ≡ Some at
  new_at None w = absurd cc
  new_at (Some x) w = let is : x ≡ at = cc in ap Some is

  by : (b : Bool) → nat_lt blocks MOST_BLOCKS ≡ b → CameAt at ≡ cond b (came_at (tid_of blocks 1)) NoBlockLeft
      → (at.block ≡ blocks) × (blocks < MOST_BLOCKS)
  by true below w = ((tid_of-numbers blocks 1 at (new_at (tid_of blocks 1) w)).0, ltb-true _ _ below)
  by false below w = absurd cc

module _ (base : IvfGraph) (acts : List Act) (d : Desk) where
  abbrev ix : IvfGraph
  ix = lists.after base acts

  abbrev Admitted : Event → Type 0
  Admitted e = lists_asking.IsAsked base acts d.number e × lists_asking.IsGranted base acts d.number e

  has_room : (block places : ℕ) (o : Option (List Row)) (next : Option ℕ) → rows_on ix block ≡ o → Came ≡ add_reply o next places
      → lists_asking.IsRoomOn ix block places
  has_room block places None next stands e = absurd cc
  has_room block places (Some rows) next stands e = record { rows = rows; stands = stands; room = leb-true _ _ (fits (nat_le (taken rows + row_need places) PAGE_ROOM) e) } where
    fits : (b : Bool) → Came ≡ cond b Came (HasNoRoom next) → b ≡ true
    fits true w = refl
    fits false w = absurd cc

  add_granted : (block : ℕ) (id : HeapId) (bits : List Bool) (r : Placed) (e : Event) → lists_asking.IsAsked base acts d.number (event.IvfAdd block id bits)
      → r ≡ placing_reply ix (Adds block id bits) → placed_events (Adds block id bits) r ≡ e ∷ [] → Admitted e
  add_granted block id bits Came e may says made =
      let is : event.IvfAdd block id bits ≡ e = cc in
      subst Admitted is (may, has_room block (length bits) (rows_on ix block) (next_on ix block) refl says)
  add_granted block id bits (CameAt at) e may says made = absurd cc
  add_granted block id bits (HasNoRoom next) e may says made = absurd cc
  add_granted block id bits (GoesOn next) e may says made = absurd cc
  add_granted block id bits NoBlockLeft e may says made = absurd cc

  extend_granted : (list last : ℕ) (id : HeapId) (bits : List Bool) (r : Placed) (e : Event) → lists_asking.IsGrowAsked ix list last bits
      → r ≡ placing_reply ix (Extends list last id bits) → placed_events (Extends list last id bits) r ≡ e ∷ [] → Admitted e
  extend_granted list last id bits Came e may says made = absurd cc
  extend_granted list last id bits (CameAt at) e may says made =
      let is : event.IvfGrow list last at.block id bits ≡ e = cc in
      let k = extend_done (next_on ix last) ix.blocks at says in
      subst Admitted is (may, record { no_next = k.0; is_next = k.1; not_high = subst (λ n. n < MOST_BLOCKS) (sym k.1) k.2 })
  extend_granted list last id bits (HasNoRoom next) e may says made = absurd cc
  extend_granted list last id bits (GoesOn next) e may says made = absurd cc
  extend_granted list last id bits NoBlockLeft e may says made = absurd cc

  -- the step of an ask is the one that is spoken of
  list_says : {b : Step} {s : Step} → Some b ≡ Some s → Says d.params (OfLists base) acts d.number s → Says d.params (OfLists base) acts d.number b
  list_says {b} {s} is says = subst (Says d.params (OfLists base) acts d.number) (sym (same_Some b s is)) says

  list_made : {b s : Step} {e : Event} → Some b ≡ Some s → step_events d.params s ≡ e ∷ [] → step_events d.params b ≡ e ∷ []
  list_made {b} {s} {e} is made = ap (step_events d.params) (same_Some b s is) ∙ made

  list_event : {b s : Step} {e x : Event} → Some b ≡ Some s → step_events d.params b ≡ x ∷ [] → step_events d.params s ≡ e ∷ [] → x ≡ e
  list_event {b} {s} {e} {x} is of made =
      let both : x ∷ [] ≡ e ∷ [] = sym of ∙ list_made is made in
      cc

  no_list_event : {b s : Step} {e : Event} → Some b ≡ Some s → step_events d.params b ≡ [] → step_events d.params s ≡ e ∷ [] → ⊥
  no_list_event {b} {s} {e} is of made = let both : [] ≡ e ∷ [] = sym of ∙ list_made is made in absurd cc

  list_granted : (a : Ask) (t : Told) (ending : Cleaned) (s : Step) (e : Event) → MayAskLists d.params.bits base acts d.number a → AgreesAtTake acts d.number a
      → step_of a t ending ≡ Some s → Says d.params (OfLists base) acts d.number s → step_events d.params s ≡ e ∷ [] → Admitted e
  list_granted ask.Spent t ending s e may agrees is says made = absurd cc
  list_granted (ask.Reserve events) t ending s e may agrees is says made = absurd cc
  list_granted ask.Meta t ending s e may agrees is says made = absurd may
  list_granted (ask.Node at layer version) t ending s e may agrees is says made = absurd may
  list_granted (ask.List at list_at level version layer) t ending s e may agrees is says made = absurd may
  list_granted (ask.Page block) t ending s e may agrees is says made = absurd may
  list_granted (ask.Put block node) t ending s e may agrees is says made = absurd may
  list_granted (ask.PutNew node) t ending s e may agrees is says made = absurd may
  list_granted (ask.Join at version id) t ending s e may agrees is says made = absurd may
  list_granted (ask.Link at list_at level version layer slot held to) t ending s e may agrees is says made = absurd may
  list_granted (ask.Relist at list_at version slots) t ending s e may agrees is says made = absurd may
  list_granted (ask.Drop at version gone) t ending s e may agrees is says made = absurd may
  list_granted (ask.Mark at list_at version) t ending s e may agrees is says made = absurd may
  list_granted (ask.Entry to level) t ending s e may agrees is says made = absurd may
  list_granted (ask.Hint block) t ending s e may agrees is says made = absurd may
  list_granted (ask.Take gate hold) t ending s e may agrees is says made = subst Admitted (list_event is refl made) (may, agrees)
  list_granted (ask.Release gate) t ending s e may agrees is says made = subst Admitted (list_event is refl made) (may, tt)
  list_granted (ask.Phase stage) t ending s e may agrees is says made = absurd may
  list_granted ask.EndVacuum t ending s e may agrees is says made = absurd may
  list_granted (ask.Centres block) t ending s e may agrees is says made = absurd (no_list_event is refl made)
  list_granted (ask.Rows block) t ending s e may agrees is says made = absurd (no_list_event is refl made)
  list_granted (ask.Add block id bits) t ending s e may agrees is says made =
      add_granted block id bits (add_told t.word t.next) e may (list_says is says) (list_made is made)
  list_granted (ask.Extend list last id bits) t ending s e may agrees is says made =
      extend_granted list last id bits (extend_told t.word t.tid t.next) e may (list_says is says) (list_made is made)
  list_granted (ask.Cut block gone) t ending s e may agrees is says made = subst Admitted (list_event is refl made) (may, tt)
  list_granted (ask.Aim list block) t ending s e may agrees is says made = subst Admitted (list_event is refl made) (may, tt)

  pub list_allowed : AreBlocksApart (lists.after base acts) → (a : Ask) (t : Told) (ending : Cleaned) (s : Step) (e : Event)
      → MayAskLists d.params.bits base acts d.number a → AgreesAtTake acts d.number a → step_of a t ending ≡ Some s
      → Says d.params (OfLists base) acts d.number s → step_events d.params s ≡ e ∷ []
      → lists_history.IsAllowed base acts (act_of d.number e)
  list_allowed apart a t ending s e may agrees is says made =
      let k = list_granted a t ending s e may agrees is says made in
      lists_rules.allowed_by base acts d.number apart e k.0 k.1

-- ---- either

pub goes_on : (base : Index) (acts : List Act) (d : Desk) → HasParams base d.params → IsShaped base → IsLegal base acts
    → (a : Ask) (t : Told) (ending : Cleaned) (s : Step) (e : Event) → MayAsk d base acts a → AgreesAtTake acts d.number a
    → step_of a t ending ≡ Some s → Says d.params base acts d.number s → step_events d.params s ≡ e ∷ []
    → IsLegal base (acts ++ act_of d.number e ∷ [])
goes_on (OfNodes g) acts d of shaped legal a t ending s e may agrees is says made =
    let full : HasAllSlots (nodes.after g acts) = λ at n stands. ((shaped_after g shaped acts legal).nodes at n stands).as_many in
    more (nodes_history.IsAllowed g) acts (act_of d.number e) legal (node_allowed g acts d (sym of.1) full a t ending s e may agrees is says made)
goes_on (OfLists g) acts d of shaped legal a t ending s e may agrees is says made =
    more (lists_history.IsAllowed g) acts (act_of d.number e) legal
    (list_allowed g acts d (own_after g [] acts legal shaped).apart a t ending s e may agrees is says made)
