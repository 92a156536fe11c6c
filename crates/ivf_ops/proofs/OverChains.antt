-- Looks along chains, over an index of lists: they are a walk in the states that they saw.
use Rattle.std.proofs.Common.{◌≡◌, ℕ, Bool, List, [], ◌∷◌, ◌++◌, map, length, Option, Some, None, refl, sym, ap, subst, ◌∙◌, append-nil}
use Rattle.std.specs.Option.{option_map}
use Rattle.std.proofs.lemmas.Option.{same_Some, none-some}
use Rattle.vec_history.specs.declared.event.Act.{Act}
use Rattle.vec_history.specs.Acts.{IsRising}
use Rattle.ivf_graph.specs.declared.graph.IvfGraph.{IvfGraph}
use Rattle.ivf_graph.specs.Graph.{Row, rows_on}
use Rattle.ivf_graph.specs.Effect.{state_after}
use Rattle.ivf_graph.specs.Answer.{Found, found_by}
use Rattle.ivf_graph.specs.Looks.{next_on, seen_from, RowSeen}
use Rattle.ivf_graph.specs.Looks.Answer.{OfRows}
use Rattle.ivf_graph.specs.Reads.{Walks}
use Rattle.ivf_graph.specs.Reads.Walks.{done as met_none, begins as met_begins, reads as met_reads}
use Rattle.ivf_graph.proofs.LooksFind.{found_as_seen}
use Rattle.vec_steps.specs.Index.{Index, OfLists}
use Rattle.vec_steps.specs.Doing.{Step}
use Rattle.vec_steps.specs.Desks.{Desk}
use Rattle.vec_steps.specs.Calls.{Happened, HappenedAt}
use Rattle.ivf_ops.specs.declared.met.Met.{Met}
use Rattle.ivf_ops.specs.Nearness.{found_of}
use Rattle.ivf_ops.specs.Walking.{WalksOn, WalksViews}
use Rattle.ivf_ops.specs.Walking.WalksViews.{done, begins, reads}
use Rattle.ivf_ops.specs.Viewing.{AreViews, View}

read_by : (query : List Bool) (g : IvfGraph) (block : ℕ) (rows : List RowSeen) (next : Option ℕ) (states : List IvfGraph) (others : List ℕ) (fs : List Found)
    → (o : Option (List Row)) → rows_on g block ≡ o
    → Some (OfRows rows next) ≡ option_map (λ rs. OfRows (seen_from 1 rs) (next_on g block)) o → Walks query states next others fs
    → Walks query (g ∷ states) (Some block) others (map (found_by query block) rows ++ fs)
read_by query g block rows next states others fs None is told w = absurd (none-some (OfRows rows next) (sym told))
read_by query g block rows next states others fs (Some rs) is told w =
    let same = same_Some (OfRows rows next) (OfRows (seen_from 1 rs) (next_on g block)) told in
    let rows_are : seen_from 1 rs ≡ rows = cc in
    let next_is : next ≡ next_on g block = cc in
    subst (λ (l : List Found). Walks query (g ∷ states) (Some block) others (l ++ fs))
    (found_as_seen query block 1 rs ∙ ap (map (found_by query block)) rows_are)
    (met_reads g states block rs others fs is (subst (λ (n : Option ℕ). Walks query states n others fs) next_is w))

module _ (g : IvfGraph) (d : Desk) (acts : List Act) (query : List Bool) where
  pub walked_over : {views : List View} {at : Option ℕ} {firsts : List ℕ} {fs : List Found} → WalksViews query views at firsts fs
      → (course : List (ℕ × Step)) → AreViews course views → Happened (OfLists g) acts d course
      → Walks query (map (state_after g acts) (map (λ s. s.0) course)) at firsts fs
  walked_over done [] are h = met_none
  walked_over done (s ∷ course) are h = absurd are
  walked_over (begins views first others fs w) course are h =
      met_begins (map (state_after g acts) (map (λ s. s.0) course)) first others fs (walked_over w course are h)
  walked_over (reads block rows next views others fs w) [] are h = absurd are
  walked_over (reads block rows next views others fs w) (s ∷ course) are h =
      let at = subst (HappenedAt (OfLists g) acts d s.0) are.0 h.0 in
      read_by query (state_after g acts s.0) block rows next (map (state_after g acts) (map (λ t. t.0) course)) others fs
      (rows_on (state_after g acts s.0) block) refl at.says (walked_over w course are.1 h.1)

-- a walk along one chain, from its first block to its end
pub chain_over : {over : Index → Type 0} {d : Desk} {old new : List Act} {positions : List ℕ} (query : List Bool) (first : ℕ) (have : List Met) (g : IvfGraph)
    → over (OfLists g) → WalksOn over d old new [] positions query (Some first) [] None [] have
    → Walks query (map (state_after g new) positions) (Some first) [] (map found_of have)
chain_over {d = d} {old} {new} {positions} query first have g o a =
    let whole = a.walks [] [] [] done in
    let views_are : a.views ++ [] ≡ a.views = append-nil a.views in
    let found_are : map found_of a.got ++ [] ≡ map found_of have = append-nil (map found_of a.got) ∙ ap (map found_of) (sym a.have_is) in
    let plain : WalksViews query a.views (Some first) [] (map found_of have) =
    subst (λ (l : List View). WalksViews query l (Some first) [] (map found_of have)) views_are
    (subst (λ (l : List Found). WalksViews query (a.views ++ []) (Some first) [] l) found_are whole) in
    subst (λ (l : List ℕ). Walks query (map (state_after g new) l) (Some first) [] (map found_of have)) (sym a.made.is.traced)
    (walked_over g d new query plain a.made.course a.made.is.are (a.made.does.happened (OfLists g) o))

pub chain_rises : {over : Index → Type 0} {d : Desk} {old new : List Act} {positions : List ℕ} {query : List Bool} {first : ℕ} {have : List Met}
    → WalksOn over d old new [] positions query (Some first) [] None [] have → IsRising (length old) positions (length new)
chain_rises {old = old} {new} a = subst (λ (l : List ℕ). IsRising (length old) l (length new)) (sym a.made.is.traced) a.made.does.rises
