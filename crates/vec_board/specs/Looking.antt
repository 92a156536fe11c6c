-- Looks of a desk at the core of a board and at pages.
use Rattle.std.specs.Prelude.{◌≡◌, ℕ, ⊤, List}
use Rattle.page_bytes.specs.Content.{Content}
use Rattle.page_sets.specs.Sets.{PageMap, HasPages}
use Rattle.page_sets.specs.Telling.{looked_at}
use Rattle.vec_steps.specs.declared.ask.Ask.{Ask}
use Rattle.vec_steps.specs.declared.ask.Ask.TheVariants as ask
use Rattle.vec_steps.specs.Index.{Index}
use Rattle.vec_steps.specs.Desks.{Desk}
use Rattle.vec_board.specs.declared.board_core.Core.{Core}
use Rattle.vec_board.specs.declared.summary.Summary.{Summary}
use Rattle.vec_steps.specs.declared.told.Told.{Told}
use Rattle.vec_board.specs.Standing.{StandsOn}
use Rattle.vec_board.specs.Acting.{room_of}

abbrev pub IsLook : Ask → Type 0
IsLook ask.Meta = ⊤
IsLook (ask.Node at layer version) = ⊤
IsLook (ask.List at list_at level version layer) = ⊤
IsLook (ask.Page block) = ⊤
IsLook (ask.Centres block) = ⊤
IsLook (ask.Rows block) = ⊤
IsLook _ = ⊥

-- a desk of this number at the board, which was not split
abbrev pub desk_of : Core → ℕ → Desk
desk_of core number = record { number = number; depth = 0; params = core.params; room = room_of core }

-- The core stands on this base with some list of all pages, and the set has the pages that are looked at as they stand there.
pub record StandsBeside (core : Core) (set : PageMap) (look : Ask) (base : Index) : Type 0 where
  pub all : List Content
  pub stands : StandsOn core all base
  pub has : HasPages set all (looked_at look)

-- ---- helper words of the functions

-- the entry point, its level, the hint and the number of blocks were told
pub record TellsMeta (s : Summary) (old new : Told) : Type 0 where
  pub tid : new.tid ≡ s.entry
  pub level : new.level ≡ s.level
  pub hint : new.hint ≡ s.hint
  pub blocks : new.blocks ≡ s.blocks
  pub at : new.at ≡ old.at
  pub bits : new.bits ≡ old.bits
