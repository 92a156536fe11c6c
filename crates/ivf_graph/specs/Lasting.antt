-- What lasts of a list, and of a row, between two positions of a history.
use Rattle.std.specs.Prelude.{◌≡◌, ℕ, zero, suc, ◌+◌, ◌==◌, if◌then◌else◌, List, [], ◌∷◌, ◌++◌, map, slice_get, Option, Some, None}
use Rattle.std.specs.List.{list_any}
use Rattle.std.specs.Option.{option_and_then, option_map}
use Rattle.vec_history.specs.declared.event.Event.{Event}
use Rattle.vec_history.specs.declared.event.Event.TheVariants.{IvfDrop}
use Rattle.vec_history.specs.declared.event.Act.{Act}
use Rattle.ivf_graph.specs.declared.list.IvfList.{IvfList}
use Rattle.ivf_graph.specs.declared.graph.IvfGraph.{IvfGraph}
use Rattle.ivf_graph.specs.Graph.{Row, rows_on}

-- ---- lists

-- the numbers of the blocks of a list, in their order
abbrev pub numbers : IvfList → List ℕ
numbers l = map (λ p. p.0) l.chain

-- the list of this number has the centre of that one, and its blocks and perhaps more behind them
pub record HasGrown (was : IvfList) (g : IvfGraph) (list : ℕ) : Type 0 where
  pub now : IvfList
  pub is_there : slice_get g.lists list ≡ Some now
  pub same_centre : now.centre ≡ was.centre
  pub more : List ℕ
  pub front : numbers now ≡ numbers was ++ more

-- ---- rows

-- the place of the row behind the first n, of which the first has this offset, where some go: as many as are left before it
abbrev pub place_among : List ℕ → ℕ → ℕ → Option ℕ
place_among gone offset zero = if list_any (λ g. g == offset) gone then None else Some 0
place_among gone offset (suc n) =
    let rest = place_among gone (offset + 1) n in if list_any (λ g. g == offset) gone then rest else option_map (λ k. k + 1) rest

-- The place, from 0, of a row of a block after the event; none where it goes. A row moves up where rows before it go.
abbrev pub place_after : Event → ℕ → ℕ → Option ℕ
place_after (IvfDrop on gone) block place = if on == block then place_among gone 1 place else Some place
place_after _ block place = Some place

-- and after these acts
abbrev pub place_later : List Act → ℕ → ℕ → Option ℕ
place_later [] block place = Some place
place_later (a ∷ acts) block place = option_and_then (λ p. place_later acts block p) (place_after a.event block place)

-- the row stands at this place of the block
pub record StandsAt (g : IvfGraph) (block place : ℕ) (row : Row) : Type 0 where
  pub rows : List Row
  pub stands : rows_on g block ≡ Some rows
  pub here : slice_get rows place ≡ Some row
