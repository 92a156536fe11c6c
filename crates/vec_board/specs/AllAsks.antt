-- All asks of a desk at the core of a board and at a set of pages.
use Rattle.std.specs.Prelude.{◌≡◌, ℕ, ⊤, List}
use Rattle.page_bytes.specs.Content.{Content}
use Rattle.page_sets.specs.Sets.{PageMap, HasPages}
use Rattle.page_sets.specs.Telling.{looked_at}
use Rattle.vec_steps.specs.declared.ask.Ask.{Ask}
use Rattle.vec_steps.specs.Index.{Index}
use Rattle.index_pages.specs.Standing.{index_after}
use Rattle.vec_board.specs.declared.board_core.Core.{Core}
use Rattle.vec_board.specs.declared.serve.Part.{Part}
use Rattle.vec_board.specs.declared.serve.Part.TheVariants as part
use Rattle.vec_board.specs.Standing.{StandsOn, acts_of}
use Rattle.vec_board.specs.Looking.{IsLook}
use Rattle.vec_board.specs.Changes.{IsChange, HoldsFor}
use Rattle.vec_board.specs.Serving.{IsTurn, IsOfRoom}

-- Of all pages the set has those that the ask looks at, or that its change needs.
pub record HoldsPages (core : Core) (set : PageMap) (all : List Content) (base : Index) (asked : Ask) : Type 0 where
  pub looked : HasPages set all (looked_at asked)
  pub changed : IsChange asked → HoldsFor core.params set all (index_after base (acts_of core)) asked

-- The core stands on this base with some list of all pages, and the set has those that the ask needs.
pub record ServesBeside (core : Core) (set : PageMap) (asked : Ask) (base : Index) : Type 0 where
  pub all : List Content
  pub stands : StandsOn core all base
  pub holds : HoldsPages core set all base asked

-- ---- helper words of the functions

abbrev pub IsOfPart : Part → Ask → Type 0
IsOfPart part.Look asked = IsLook asked
IsOfPart part.Room asked = IsOfRoom asked
IsOfPart part.Turn asked = IsTurn asked
IsOfPart part.Change asked = IsChange asked
