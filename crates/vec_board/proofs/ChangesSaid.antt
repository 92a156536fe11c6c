-- What is asked of pages for a change, and what they say to it, is what is asked and said of the index after a history.
use Rattle.std.proofs.Common.{◌≡◌, ℕ, ◌<◌, zero, suc, List, [], ◌∷◌, slice_get, Option, Some, None, sym, subst, ◌⊎◌, inl, inr}
use Rattle.std.proofs.lemmas.Option.{same_Some, none-some}
use Rattle.vec_names.specs.declared.tid.Tid.{Tid}
use Rattle.vec_names.specs.declared.params.Params.{Params}
use Rattle.vec_history.specs.declared.event.Act.{Act}
use Rattle.vec_graph.specs.declared.place.Place.{Place}
use Rattle.vec_graph.specs.declared.graph.Graph.{Graph}
use Rattle.vec_graph.specs.Effect as nodes
use Rattle.vec_graph.proofs.Asked.{same_params}
use Rattle.graph_search.specs.Insert.{most_in}
use Rattle.ivf_graph.specs.declared.list.IvfList.{IvfList}
use Rattle.ivf_graph.specs.declared.graph.IvfGraph.{IvfGraph}
use Rattle.ivf_graph.specs.Graph.{Row, Part, rows_on, IsOfChain, AreBlocksApart}
use Rattle.ivf_graph.specs.Effect as lists
use Rattle.ivf_graph.proofs.ChainsRead.{Told as ToldRows, AreTold, all_told}
use Rattle.ivf_graph.proofs.Staying.{any_of, not_any}
use Rattle.vec_steps.specs.declared.ask.Ask.{Ask}
use Rattle.vec_steps.specs.declared.ask.Ask.TheVariants as ask
use Rattle.vec_steps.specs.declared.told.Told.{Told}
use Rattle.vec_steps.specs.Index.{OfNodes, OfLists}
use Rattle.vec_steps.specs.Doing.{Ended, Says}
use Rattle.vec_steps.specs.Telling.{step_of, node_of, put_told, put_new_told, place_told, entry_told}
use Rattle.vec_steps.specs.Desks.{Desk, MayAsk}
use Rattle.vec_steps.specs.Granting.{AgreesAtTake}
use Rattle.vec_steps.specs.Calls.{SaysOf}
use Rattle.page_words.specs.Deciding.{MayChange, MayChangeLists, IsOfNodes, IsOfLists, SaysNow}
use Rattle.vec_board.specs.Changes.{IsChange}

pub neither : ⊥ ⊎ ⊥ → ⊥
neither (inl never) = never
neither (inr never) = never

-- no gate is taken
pub agrees : (acts : List Act) (desk : ℕ) (asked : Ask) → IsChange asked → AgreesAtTake acts desk asked
agrees acts desk (ask.Take gate hold) is = absurd (neither is)
agrees acts desk _ is = tt

-- ---- a graph of nodes

pub nodes_may : (d : Desk) (g : Graph) (acts : List Act) (asked : Ask) → IsChange asked → MayAsk d (OfNodes g) acts asked
    → IsOfNodes asked × MayChange (nodes.after g acts) asked
nodes_may d g acts (ask.Put block node) is may = (tt, (may.from_1, may.there))
nodes_may d g acts (ask.PutNew node) is may = (tt, tt)
nodes_may d g acts (ask.Join at version id) is may = (tt, tt)
nodes_may d g acts (ask.Link at list_at level version layer slot held to) is may =
    (tt, (may.owner, may.reaches, subst (λ (p : Params). slot < most_in p.m layer) (sym (same_params g acts)) may.slot_is))
nodes_may d g acts (ask.Relist at list_at version lists) is may = (tt, (may.level, may.owner))
nodes_may d g acts (ask.Drop at version gone) is may = (tt, tt)
nodes_may d g acts (ask.Mark at list_at version) is may = (tt, tt)
nodes_may d g acts (ask.Entry to level) is may = (tt, tt)
nodes_may d g acts (ask.Hint block) is may = (tt, tt)
nodes_may d g acts (ask.Add block id bits) is may = absurd may
nodes_may d g acts (ask.Extend list last id bits) is may = absurd may
nodes_may d g acts (ask.Cut block gone) is may = absurd may
nodes_may d g acts (ask.Aim list block) is may = absurd may
nodes_may d g acts _ is may = absurd (neither is)

module _ (d : Desk) (g : Graph) (acts : List Act) (t : Told) where
  pub nodes_said : (asked : Ask) → IsOfNodes asked → SaysNow d.params (OfNodes (nodes.after g acts)) (step_of asked t Ended)
      → SaysOf d (OfNodes g) acts (step_of asked t Ended)
  nodes_said (ask.Put block node) is says = by (place_told t.word t.tid t.list_at t.version) says where
    by : (o : Option Place) → Says d.params (OfNodes (nodes.after g acts)) [] 0 (put_told (node_of node) block o)
        → Says d.params (OfNodes g) acts d.number (put_told (node_of node) block o)
    by None s = s
    by (Some place) s = s
  nodes_said (ask.PutNew node) is says = by (place_told t.word t.tid t.list_at t.version) says where
    by : (o : Option Place) → Says d.params (OfNodes (nodes.after g acts)) [] 0 (put_new_told (node_of node) t o)
        → Says d.params (OfNodes g) acts d.number (put_new_told (node_of node) t o)
    by None s = s
    by (Some place) s = s
  nodes_said (ask.Join at version id) is says = says
  nodes_said (ask.Link at list_at level version layer slot held to) is says = says
  nodes_said (ask.Relist at list_at version lists) is says = says
  nodes_said (ask.Drop at version gone) is says = says
  nodes_said (ask.Mark at list_at version) is says = says
  nodes_said (ask.Entry to level) is says = by to says where
    by : (o : Option Tid) → Says d.params (OfNodes (nodes.after g acts)) [] 0 (entry_told o level)
        → Says d.params (OfNodes g) acts d.number (entry_told o level)
    by None s = s
    by (Some to) s = s
  nodes_said (ask.Hint block) is says = says
  nodes_said _ is says = absurd is

-- ---- lists

rows_of : (g : IvfGraph) (chain : List Part) (block : ℕ) → ToldRows g chain → IsOfChain chain block → (rows : List Row) × (rows_on g block ≡ Some rows)
rows_of g [] block told of = absurd (not_any (λ (q : Part). q.0 ≡ block) of)
rows_of g (p ∷ chain) block told of =
    by (any_of (λ (q : Part). q.0 ≡ block) p chain of) (rows_of g chain block told.2) where
      by : (p.0 ≡ block) ⊎ IsOfChain chain block → (IsOfChain chain block → (rows : List Row) × (rows_on g block ≡ Some rows))
          → (rows : List Row) × (rows_on g block ≡ Some rows)
      by (inl here) behind = (p.1, subst (λ n. rows_on g n ≡ Some p.1) here told.0)
      by (inr on) behind = behind on

told_at : (g : IvfGraph) (lists : List IvfList) (n : ℕ) (l : IvfList) → AreTold g lists → slice_get lists n ≡ Some l → ToldRows g l.chain
told_at g [] n l told is = absurd (none-some l is)
told_at g (m ∷ lists) zero l told is = subst (λ (x : IvfList). ToldRows g x.chain) (same_Some m l is) told.0
told_at g (m ∷ lists) (suc n) l told is = told_at g lists n l told.1 is

pub lists_may : (d : Desk) (g : IvfGraph) (acts : List Act) (asked : Ask) → AreBlocksApart (lists.after g acts) → IsChange asked
    → MayAsk d (OfLists g) acts asked → IsOfLists asked × MayChangeLists (lists.after g acts) asked
lists_may d g acts (ask.Put block node) apart is may = absurd may
lists_may d g acts (ask.PutNew node) apart is may = absurd may
lists_may d g acts (ask.Join at version id) apart is may = absurd may
lists_may d g acts (ask.Link at list_at level version layer slot held to) apart is may = absurd may
lists_may d g acts (ask.Relist at list_at version lists) apart is may = absurd may
lists_may d g acts (ask.Drop at version gone) apart is may = absurd may
lists_may d g acts (ask.Mark at list_at version) apart is may = absurd may
lists_may d g acts (ask.Entry to level) apart is may = absurd may
lists_may d g acts (ask.Hint block) apart is may = absurd may
lists_may d g acts (ask.Add block id bits) apart is may = (tt, (may.rows, may.stands))
lists_may d g acts (ask.Extend list last id bits) apart is may =
    let now = lists.after g acts in
    let of = may.of_list in
    (tt, rows_of now of.aims.chain last (told_at now now.lists list of.aims (all_told now apart) of.is_there) of.of_chain)
lists_may d g acts (ask.Cut block gone) apart is may = (tt, tt)
lists_may d g acts (ask.Aim list block) apart is may = (tt, tt)
lists_may d g acts _ apart is may = absurd (neither is)

pub lists_said : (d : Desk) (g : IvfGraph) (acts : List Act) (t : Told) (asked : Ask) → IsOfLists asked
    → SaysNow d.params (OfLists (lists.after g acts)) (step_of asked t Ended) → SaysOf d (OfLists g) acts (step_of asked t Ended)
lists_said d g acts t (ask.Add block id bits) is says = says
lists_said d g acts t (ask.Extend list last id bits) is says = says
lists_said d g acts t (ask.Cut block gone) is says = says
lists_said d g acts t (ask.Aim list block) is says = says
lists_said d g acts t _ is says = absurd is
