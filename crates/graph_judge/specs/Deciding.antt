-- Words of parts of the functions that decide the rules.
use Rattle.std.specs.Prelude.{◌≡◌, ℕ, ◌≤◌, Bool, List, length, Option}
use Rattle.index_sizes.specs.Sizes.{slots_of_level}
use Rattle.vec_names.specs.declared.tid.Tid.{Tid}
use Rattle.vec_graph.specs.declared.place.Place.{Place}
use Rattle.vec_names.specs.Levels.{most_level}
use Rattle.vec_graph.specs.declared.graph.Graph.{Graph}
use Rattle.vec_graph.specs.Rules.{IsPlaced}

-- A new node of this level fits the graph at this place, by its value's length and by the number of its slots.
pub record IsFitting (g : Graph) (spot : Place) (level : ℕ) (bits : List Bool) (lists : List (Option Tid)) : Type 0 where
  pub placed : IsPlaced g spot.at level spot
  pub as_long : length bits ≡ g.params.bits
  pub not_high : level ≤ most_level g.params.m
  pub as_many : length lists ≡ slots_of_level g.params.m level
