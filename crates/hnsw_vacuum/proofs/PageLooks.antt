-- Looks at pages, in any phase.
use Rattle.std.proofs.Common.{◌≡◌, ℕ, List, [], ◌∷◌, ◌++◌, map, take, length, sym, ap, ◌∙◌, append-nil}
use Rattle.std.proofs.Math.Seq.{take-length}
use Rattle.std.proofs.lemmas.List.{length-append}
use Rattle.vec_history.specs.declared.event.Act.{Act}
use Rattle.vec_graph.specs.Effect.{after}
use Rattle.graph_search.specs.Reads.{Answer, Seen, AtPage, OfPage, nodes_on}
use Rattle.graph_search.specs.Deeds.{looked}
use Rattle.vec_steps.specs.declared.ask.Ask.TheVariants as ask
use Rattle.vec_steps.specs.declared.told.Told.{Told}
use Rattle.vec_steps.specs.declared.fault.OpFault.{OpFault}
use Rattle.vec_steps.specs.Index.{Index, OfNodes, OfLists}
use Rattle.vec_steps.specs.Doing.{did}
use Rattle.vec_steps.specs.Telling.{seen_told}
use Rattle.vec_steps.specs.Desks.{Asks, Desk}
use Rattle.vec_steps.proofs.Following.{one_step}
use Rattle.hnsw_vacuum.specs.Courses.{IsGraphSo, IsNotStepped, IsStepped, Making, OverGraphs, StopsBy}
use Rattle.hnsw_vacuum.specs.Removing.{IsOfLooks, SaysNoMore}
use Rattle.hnsw_vacuum.specs.Seeking.{HasBlock}
use Rattle.hnsw_vacuum.proofs.Stopped.{step_fails}
use Rattle.hnsw_vacuum.proofs.Pages.{looking}

abbrev page_of : Answer → List Seen
page_of (OfPage seen) = seen
page_of _ = []

-- ---- a page

module _ {stands : Index → Type 0} {d : Desk} {old : List Act} (block : ℕ) where
  pub nodes_ask : (base : Index) → OverGraphs stands (HasBlock old block) base → Asks stands d old (ask.Page block) base
  nodes_ask (OfNodes g) o = record { stood = o.stood; may = o.so }
  nodes_ask (OfLists g) o = absurd o.so

  pub nodes_fail : {new : List Act} (end : OpFault) → IsNotStepped (Asks stands d old (ask.Page block)) d old new (ask.Page block) end
      → StopsBy IsOfLooks SaysNoMore (OverGraphs stands (HasBlock old block)) d old new end
  nodes_fail end s = step_fails (λ count. tt) (λ base acts count. tt) nodes_ask end s

  module _ {new : List Act} {told : Told} (is : IsStepped (Asks stands d old (ask.Page block)) d old new (ask.Page block) told) where
    pub nodes_made : Making IsOfLooks SaysNoMore (OverGraphs stands (HasBlock old block)) d old new
        ((told.at, did (looked (AtPage block) (OfPage (map seen_told told.nodes)))) ∷ [])
    nodes_made = looking told.at (AtPage block) (OfPage (map seen_told told.nodes)) (one_step nodes_ask is.made)

    at_end : take told.at new ≡ new
    at_end =
        let all : new ≡ old ++ is.made.came.others = is.made.came.all ∙ append-nil (old ++ is.made.came.others) in
        let here : told.at ≡ length new = is.made.came.here ∙ sym (length-append old is.made.came.others) ∙ ap (λ (l : List Act). length l) (sym all) in
        ap (λ n. take n new) here ∙ take-length new

    pub nodes_are : (base : Index) → OverGraphs stands (HasBlock old block) base → IsGraphSo (λ g. map seen_told told.nodes ≡ nodes_on (after g new) block) base
    nodes_are (OfNodes g) o =
        let says : OfPage (map seen_told told.nodes) ≡ OfPage (nodes_on (after g (take told.at new)) block) = is.made.says (OfNodes g) (nodes_ask (OfNodes g) o) in
        ap page_of says ∙ ap (λ (l : List Act). nodes_on (after g l) block) at_end
    nodes_are (OfLists g) o = absurd o.so
