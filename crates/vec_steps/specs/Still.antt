-- A desk for tests over a graph that nobody changes: what it stands on, and what it answers.
use Rattle.std.specs.Prelude.{◌≡◌, ℕ, ◌<◌, ◌≤◌, ⊤, [], length, Option, Some}
use Rattle.std.proofs.Common.{refl, sym, ap, subst, ◌∙◌}
use Rattle.index_sizes.specs.declared.limits.TheConstants.{MOST_IDS, MOST_SLOTS}
use Rattle.vec_names.specs.declared.params.Kind.TheVariants.{Hnsw}
use Rattle.vec_names.specs.Params.{IsInRange}
use Rattle.vec_graph.specs.declared.node.Node.{Node}
use Rattle.vec_graph.specs.declared.graph.Graph.{Graph}
use Rattle.vec_graph.specs.Graph.{node_at, layer_slots}
use Rattle.vec_graph.specs.Shaped as nodes
use Rattle.graph_search.specs.Reads.{AtMeta, OfMeta, answer_of, node_answer, list_answer}
use Rattle.vec_steps.specs.declared.ask.Ask.{Ask}
use Rattle.vec_steps.specs.declared.ask.Ask.TheVariants as ask
use Rattle.vec_steps.specs.declared.told.Told.{Told}
use Rattle.vec_steps.specs.declared.fault.StepFault.{StepFault}
use Rattle.vec_steps.specs.declared.fault.StepFault.TheVariants as fault
use Rattle.vec_steps.specs.declared.still_desk.StillDesk.{StillDesk}
use Rattle.vec_steps.specs.Index.{Index, OfNodes, OfLists, IsShaped, IsLegal, IsOfParams}
use Rattle.vec_steps.specs.Telling.{node_told, list_told}
use Rattle.vec_steps.specs.Desks.{Desk, IsCountedIn}

-- ---- the desk

abbrev pub still_desk : StillDesk → Desk
still_desk d = record { number = d.number; depth = 0; params = d.graph.params; room = record { used = 0; since = 0 } }

-- it has seen no act, so it stands on its graph alone, where that is one of an index
pub record StandsStill (graph base : Graph) : Type 0 where
  pub same : base ≡ graph
  pub shaped : nodes.IsShaped graph
  pub in_range : IsInRange graph.params
  pub of_nodes : graph.params.kind ≡ Hnsw

abbrev pub still_stands : StillDesk → Index → Type 0
still_stands d (OfNodes base) = StandsStill d.graph base
still_stands d (OfLists base) = ⊥

-- it stays one desk of one graph
abbrev pub still_comes : StillDesk → StillDesk → Type 0
still_comes new old = still_desk new ≡ still_desk old × (new.graph ≡ old.graph)

pub still_shaped : (d : StillDesk) (base : Index) → still_stands d base → IsShaped base
still_shaped d (OfNodes base) s = subst nodes.IsShaped (sym s.same) s.shaped
still_shaped d (OfLists base) s = absurd s

pub still_index : (d : StillDesk) (base : Index) → still_stands d base → IsOfParams d.graph.params base
still_index d (OfNodes base) s = record { in_range = s.in_range; has = (s.of_nodes, ap (λ (g : Graph). g.params) s.same) }
still_index d (OfLists base) s = absurd s

pub still_legal : (d : StillDesk) (base : Index) → still_stands d base → IsLegal base []
still_legal d (OfNodes base) s = tt
still_legal d (OfLists base) s = absurd s

pub still_counted : (d : StillDesk) (base : Index) → still_stands d base → IsCountedIn (still_desk d).room []
still_counted d base s = (0, refl)

pub still_itself : (d : StillDesk) → still_comes d d
still_itself d = (refl, refl)

pub still_on : (a b c : StillDesk) → still_comes c b → still_comes b a → still_comes c a
still_on a b c g h = (g.0 ∙ h.0, g.1 ∙ h.1)

-- ---- what it answers

-- the looks that it answers, each as the graph does
abbrev pub AnswersLook : Graph → Ask → Told → Type 0
AnswersLook g ask.Spent t = ⊤
AnswersLook g ask.Meta t = OfMeta t.tid t.level t.hint t.blocks ≡ answer_of g AtMeta
AnswersLook g (ask.Node at layer version) t = node_told t.word t.list_at t ≡ node_answer (node_at g at) layer version
AnswersLook g (ask.List at list_at level version layer) t = list_told t.word t ≡ list_answer g.params.m (node_at g at) version layer
AnswersLook g _ t = ⊥

-- no index has the node: its value has not so many places, or it has more rows than there may be
pub record IsOdd (o : Option Node) (long : ℕ) : Type 0 where
  pub node : Node
  pub stands : o ≡ Some node
  pub odd : length node.bits ≡ long → length node.ids ≤ MOST_IDS → ⊥

-- no index has the node: it has more slots in the layer than there may be
pub record IsWide (m : ℕ) (o : Option Node) (layer : ℕ) : Type 0 where
  pub node : Node
  pub stands : o ≡ Some node
  pub wide : MOST_SLOTS < length (layer_slots m node.level layer node.slots)

-- never over a base on which it stands, or for want of memory
abbrev pub IsRefused : Graph → ℕ → Ask → StepFault → Type 0
IsRefused g long ask.Spent f = ⊥
IsRefused g long ask.Meta f = ⊥
IsRefused g long (ask.Node at layer version) f = (f ≡ fault.LogFull 0 0) × IsOdd (node_at g at) long
IsRefused g long (ask.List at list_at level version layer) f = (f ≡ fault.LogFull 0 0) × IsWide g.params.m (node_at g at) layer
IsRefused g long (ask.Release gate) f = f ≡ fault.LogFull 0 0
IsRefused g long ask.EndVacuum f = f ≡ fault.LogFull 0 0
IsRefused g long _ f = f ≡ fault.Memory
