-- What the core of a board stands on.
use Rattle.std.specs.Prelude.{◌≡◌, List, length}
use Rattle.vec_history.specs.declared.event.Act.{Act}
use Rattle.history_tables.specs.Telling.{Tells}
use Rattle.page_bytes.specs.Content.{Content}
use Rattle.vec_steps.specs.Index.{Index, IsShaped, IsLegal, IsOfParams}
use Rattle.index_pages.specs.Standing.{AreOf, index_after}
use Rattle.vec_board.specs.declared.board_core.Core.{Core}
use Rattle.vec_board.specs.Summaries.{Summarizes}

-- the acts of a core, the first one first
abbrev pub acts_of : Core → List Act
acts_of core = core.history.acts.items

-- The acts of the core are legal over this base, and lead to the index that these pages hold; and what the core knows of it is so.
pub record StandsOn (core : Core) (all : List Content) (base : Index) : Type 0 where
  pub shaped : IsShaped base
  pub of_params : IsOfParams core.params base
  pub legal : IsLegal base (acts_of core)
  pub told : Tells core.history.tables (acts_of core)
  pub pages : AreOf core.params all (index_after base (acts_of core))
  pub blocks : core.summary.blocks ≡ length all
  pub summary : Summarizes core.summary (index_after base (acts_of core))
