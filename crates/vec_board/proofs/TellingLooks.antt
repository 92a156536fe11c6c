-- A look, as a step of a desk.
use Rattle.std.proofs.Common.{◌≡◌, ℕ, List, [], ◌∷◌, ◌++◌, length, take, map, All, refl, sym, ap, subst, ◌∙◌, arith}
use Rattle.vec_names.specs.declared.params.Params.{Params}
use Rattle.vec_history.specs.declared.event.Event.{Event}
use Rattle.vec_history.specs.declared.event.Act.{Act}
use Rattle.vec_history.specs.Acts.{act_of}
use Rattle.page_bytes.specs.Content.{Content, IsPage}
use Rattle.vec_graph.specs.declared.graph.Graph.{Graph}
use Rattle.vec_graph.specs.Effect as nodes
use Rattle.vec_graph.proofs.Asked.{same_params}
use Rattle.graph_search.specs.Reads.{OfPage}
use Rattle.ivf_graph.specs.declared.graph.IvfGraph.{IvfGraph}
use Rattle.ivf_graph.specs.Effect as lists
use Rattle.graph_pages.specs.Standing.{Stands}
use Rattle.ivf_pages.specs.Standing.{Stands as StandsForLists}
use Rattle.page_sets.specs.Sets.{PageMap, HasPages}
use Rattle.page_sets.specs.Telling.{looked_at, MayLook, MayLookLists, TellsNodes, TellsLists}
use Rattle.vec_steps.specs.declared.ask.Ask.{Ask}
use Rattle.vec_steps.specs.declared.ask.Ask.TheVariants as ask
use Rattle.vec_steps.specs.declared.told.Told.{Told}
use Rattle.vec_steps.specs.Index.{Index, OfNodes, OfLists}
use Rattle.vec_steps.specs.Doing.{Cleaned, Ended}
use Rattle.vec_steps.specs.Telling.{step_of, left_of}
use Rattle.vec_steps.specs.Desks.{Desk, MayAsk, Asks}
use Rattle.vec_steps.specs.Calls.{Stepped, SaysOf, made_by}
use Rattle.vec_board.specs.declared.board_core.Core.{Core}
use Rattle.vec_board.specs.Standing.{acts_of}
use Rattle.vec_board.specs.Looking.{IsLook, StandsBeside, desk_of}

end_none : {A : Type 0} (xs : List A) → xs ++ [] ≡ xs
end_none [] = refl
end_none (x ∷ xs) = ap (λ l. x ∷ l) (end_none xs)

take_whole : {A : Type 0} (xs : List A) → take (length xs) xs ≡ xs
take_whole [] = refl
take_whole (x ∷ xs) = ap (λ l. x ∷ l) (take_whole xs)

-- a step that makes no event
pub still_step : (over : Index → Type 0) (d : Desk) (acts : List Act) (asked : Ask) (told : Told) (ending : Cleaned)
    → made_by d.params (step_of asked told ending) ≡ [] → told.at ≡ length acts
    → ((base : Index) → over base → SaysOf d base acts (step_of asked told ending)) → Stepped over d acts acts asked asked told
still_step over d acts asked told ending none at says = record {
  ending = ending;
  came = record {
    others = [];
    foreign = refl;
    all = sym (ap (λ (es : List Event). (acts ++ []) ++ map (act_of d.number) es) none ∙ end_none (acts ++ []) ∙ end_none acts);
    here = omega (arith, at);
  };
  says = λ base over_it. subst (λ (l : List Act). SaysOf d base l (step_of asked told ending))
      (sym (ap (λ n. take n acts) at ∙ take_whole acts)) (says base over_it);
  left_is = sym (ap (left_of asked) none);
  fits = λ e is. let both : [] ≡ e ∷ [] = sym none ∙ is in absurd cc;
}

pub look_makes : (p : Params) (asked : Ask) (t : Told) → IsLook asked → made_by p (step_of asked t Ended) ≡ []
look_makes p ask.Meta t is = refl
look_makes p (ask.Node at layer version) t is = refl
look_makes p (ask.List at list_at level version layer) t is = refl
look_makes p (ask.Page block) t is = refl
look_makes p (ask.Centres block) t is = refl
look_makes p (ask.Rows block) t is = refl
look_makes p _ t is = absurd is

-- ---- what is said, by pages

nodes_may : (d : Desk) (g : Graph) (acts : List Act) (asked : Ask) → IsLook asked → MayAsk d (OfNodes g) acts asked → MayLook (nodes.after g acts) asked
nodes_may d g acts ask.Meta is may = tt
nodes_may d g acts (ask.Node at layer version) is may = tt
nodes_may d g acts (ask.List at list_at level version layer) is may = may
nodes_may d g acts (ask.Page block) is may = may
nodes_may d g acts (ask.Centres block) is may = absurd may
nodes_may d g acts (ask.Rows block) is may = absurd may
nodes_may d g acts _ is may = absurd is

nodes_say : (d : Desk) (g : Graph) (acts : List Act) (asked : Ask) (t : Told) → IsLook asked → (asked ≡ ask.Meta → ⊥) → MayAsk d (OfNodes g) acts asked
    → TellsNodes (nodes.after g acts) asked t → SaysOf d (OfNodes g) acts (step_of asked t Ended)
nodes_say d g acts ask.Meta t is other may told = absurd (other refl)
nodes_say d g acts (ask.Node at layer version) t is other may told = told
nodes_say d g acts (ask.List at list_at level version layer) t is other may told = told
nodes_say d g acts (ask.Page block) t is other may told = ap OfPage told.1
nodes_say d g acts (ask.Centres block) t is other may told = absurd may
nodes_say d g acts (ask.Rows block) t is other may told = absurd may
nodes_say d g acts _ t is other may told = absurd is

lists_may : (d : Desk) (g : IvfGraph) (acts : List Act) (asked : Ask) → IsLook asked → MayAsk d (OfLists g) acts asked
    → MayLookLists d.params.bits (lists.after g acts) asked
lists_may d g acts (ask.Centres block) is may = may
lists_may d g acts (ask.Rows block) is may = may
lists_may d g acts ask.Meta is may = absurd may
lists_may d g acts (ask.Node at layer version) is may = absurd may
lists_may d g acts (ask.List at list_at level version layer) is may = absurd may
lists_may d g acts (ask.Page block) is may = absurd may
lists_may d g acts _ is may = absurd is

lists_say : (d : Desk) (g : IvfGraph) (acts : List Act) (asked : Ask) (t : Told) → IsLook asked → MayAsk d (OfLists g) acts asked
    → TellsLists d.params.bits (lists.after g acts) asked t → SaysOf d (OfLists g) acts (step_of asked t Ended)
lists_say d g acts (ask.Centres block) t is may told = told.1
lists_say d g acts (ask.Rows block) t is may told = told.1
lists_say d g acts ask.Meta t is may told = absurd may
lists_say d g acts (ask.Node at layer version) t is may told = absurd may
lists_say d g acts (ask.List at list_at level version layer) t is may told = absurd may
lists_say d g acts (ask.Page block) t is may told = absurd may
lists_say d g acts _ t is may told = absurd is

module _ (core : Core) (set : PageMap) (desk : ℕ) (asked : Ask) (t : Told) (is : IsLook asked) (other : asked ≡ ask.Meta → ⊥)
    (by_nodes : (all : List Content) (g : Graph) → All IsPage all → Stands all g → g.params ≡ core.params → HasPages set all (looked_at asked)
    → MayLook g asked → TellsNodes g asked t)
    (by_lists : (all : List Content) (g : IvfGraph) → All IsPage all → StandsForLists core.params all g → HasPages set all (looked_at asked)
    → MayLookLists core.params.bits g asked → TellsLists core.params.bits g asked t) where
  pub pages_say : (base : Index) → Asks (StandsBeside core set asked) (desk_of core desk) (acts_of core) asked base
      → SaysOf (desk_of core desk) base (acts_of core) (step_of asked t Ended)
  pages_say (OfNodes g) a =
      let s = a.stood.stands in
      nodes_say (desk_of core desk) g (acts_of core) asked t is other a.may
      (by_nodes a.stood.all (nodes.after g (acts_of core)) s.pages.bytes s.pages.stand (same_params g (acts_of core) ∙ s.of_params.has.1) a.stood.has
      (nodes_may (desk_of core desk) g (acts_of core) asked is a.may))
  pages_say (OfLists g) a =
      let s = a.stood.stands in
      lists_say (desk_of core desk) g (acts_of core) asked t is a.may
      (by_lists a.stood.all (lists.after g (acts_of core)) s.pages.bytes s.pages.stand a.stood.has
      (lists_may (desk_of core desk) g (acts_of core) asked is a.may))
