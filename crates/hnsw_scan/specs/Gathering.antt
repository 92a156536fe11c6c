-- What the parts of a batch do.
use Rattle.std.specs.Prelude.{◌≡◌, ℕ, Bool, List, ◌++◌, flat_map, Option}
use Rattle.vec_names.specs.declared.params.Ops.{Ops}
use Rattle.vec_history.specs.declared.event.Act.{Act}
use Rattle.neighbour_pick.specs.declared.found.Found.{Found}
use Rattle.graph_search.specs.Reads.{Look, Answer}
use Rattle.graph_search.specs.Descent.{start_at}
use Rattle.graph_search.specs.Scan.{FirstBatch, Given, Held, Mode, NextBatch, Standing, is_nothing, rows_of}
use Rattle.graph_search.specs.ByHolding.{StandsHolding, TakesOf}
use Rattle.search_sets.specs.Standing.{known_earlier}
use Rattle.bit_dist.specs.declared.dist.Dist.{Dist}
use Rattle.vec_steps.specs.Index.{Index}
use Rattle.vec_steps.specs.Desks.{Desk}
use Rattle.layer_search.specs.Looking.{MadeLooks}

-- A call took the rows of these elements, which an earlier batch knew where they are marked: these were looked at again, and nothing else
-- was done. The rows come after those that there were.
pub record TakesRows (over : Index → Type 0) (d : Desk) (old new : List Act) (before now : List ℕ) (ops : Ops) (query : List Bool)
    (batch : List (Found × Bool)) (had have : List Given) : Type 0 where
  pub again : List (Look × Answer)
  pub rows : List Given
  pub takes : TakesOf ops query batch again rows
  pub have_is : have ≡ had ++ rows
  pub made : MadeLooks over d old new before now again

-- and then the rows of these elements
abbrev pub rows_told : List Given → List Found → List Given
rows_told had es = had ++ flat_map rows_of es

-- ---- batches

-- A scan stands so between two batches, where this is held and the last row answered had this distance: it searches the lowest layer.
pub record ScanStands (ops : Ops) (query : List Bool) (h : Held) (last : Option Dist) (standing : Standing) : Type 0 where
  pub start_is : standing.start ≡ start_at ops query standing.start.from 0
  pub last_is : standing.last ≡ last
  pub holds : StandsHolding standing (known_earlier h)

-- A call made the looks of a first batch, as this word says: it gives these rows, and the scan stands so after it.
pub record GivesFirst (Made : List (Look × Answer) → Type 0) (ops : Ops) (query : List Bool) (ef : ℕ) (given : List Given) (h : Held)
    (last : Option Dist) : Type 0 where
  pub reads : List (Look × Answer)
  pub standing : Standing
  pub batch : FirstBatch ops query ef reads given (is_nothing given) standing
  pub made : Made reads
  pub stands : ScanStands ops query h last standing

-- A call made the looks of a next batch of a scan that stood so, as this word says.
pub record GivesNext (Made : List (Look × Answer) → Type 0) (ops : Ops) (query : List Bool) (ef max : ℕ) (mode : Mode) (stood : Standing)
    (given : List Given) (end : Bool) (h : Held) (last : Option Dist) : Type 0 where
  pub reads : List (Look × Answer)
  pub standing : Standing
  pub batch : NextBatch ef max mode stood reads given end standing
  pub made : Made reads
  pub stands : ScanStands ops query h last standing
