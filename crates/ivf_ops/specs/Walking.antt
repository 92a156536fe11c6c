-- Walks along chains: each look tells the block that comes next.
use Rattle.std.specs.Prelude.{◌≡◌, ℕ, Bool, List, [], ◌∷◌, ◌++◌, map, Option, Some, None}
use Rattle.vec_history.specs.declared.event.Act.{Act}
use Rattle.ivf_graph.specs.Answer.{Found, found_by}
use Rattle.ivf_graph.specs.Looks.{RowSeen}
use Rattle.ivf_graph.specs.Looks.Look.{AtRows}
use Rattle.ivf_graph.specs.Looks.Answer.{OfRows}
use Rattle.vec_steps.specs.Index.{Index}
use Rattle.vec_steps.specs.Desks.{Desk}
use Rattle.ivf_ops.specs.declared.met.Met.{Met}
use Rattle.ivf_ops.specs.Nearness.{found_of}
use Rattle.ivf_ops.specs.Viewing.{View, MadeViews}

-- The looks along chains and the rows found, where a chain goes on at a block or has ended, and then the chains of these first blocks
-- come: each look tells the block that comes next.
pub data WalksViews (query : List Bool) : List View → Option ℕ → List ℕ → List Found → Type 0 where
  done : WalksViews query [] None [] []
  begins : (views : List View) (first : ℕ) (others : List ℕ) (fs : List Found)
      → WalksViews query views (Some first) others fs → WalksViews query views None (first ∷ others) fs
  reads : (block : ℕ) (rows : List RowSeen) (next : Option ℕ) (views : List View) (others : List ℕ) (fs : List Found)
      → WalksViews query views next others fs
      → WalksViews query ((AtRows block, OfRows rows next) ∷ views) (Some block) others (map (found_by query block) rows ++ fs)

-- A call walked from here along a chain, and then along others, to the end, and the rows found come after those that there were: each
-- walk along what is left is one from here on.
pub record WalksOn (over : Index → Type 0) (d : Desk) (old new : List Act) (before now : List ℕ) (query : List Bool) (at : Option ℕ)
    (firsts : List ℕ) (left : Option ℕ) (had have : List Met) : Type 0 where
  pub views : List View
  pub got : List Met
  pub made : MadeViews over d old new before now views
  pub have_is : have ≡ had ++ got
  pub walks : (more : List View) (others : List ℕ) (fs : List Found) → WalksViews query more left others fs
      → WalksViews query (views ++ more) at (firsts ++ others) (map found_of got ++ fs)
