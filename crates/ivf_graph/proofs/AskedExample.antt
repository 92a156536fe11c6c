-- A list that another desk has grown.
use Rattle.std.proofs.Common.{◌≡◌, true, false, [], ◌∷◌, length, refl, lit<, sym}
use Rattle.std.proofs.lemmas.Option.{none-some}
use Rattle.std.proofs.lemmas.List.Elements.{All-from_recursion}
use Rattle.vec_history.specs.declared.event.Event.TheVariants.{IvfGrow}
use Rattle.ivf_graph.specs.declared.list.IvfList.{IvfList}
use Rattle.ivf_graph.specs.Graph.{Part}
use Rattle.ivf_graph.specs.Asking.{IsAsked, IsGranted}
use Rattle.ivf_graph.specs.Examples.{four, row_3, row_4, row_5, worked_index, growing_acts, grown_index}

part_3 : Part
part_3 = (3, (row_3, four true true true true) ∷ (row_4, four true true true false) ∷ [])

grown_list : IvfList
grown_list = record { centre = four true true true false; aim = 5; chain = part_3 ∷ (5, (row_5, four false true true false) ∷ []) ∷ [] }

IsOfFour : IvfList → Type 0
IsOfFour l = length l.centre ≡ 4

pub still_asked : IsAsked worked_index growing_acts 2 (IvfGrow 1 3 6 row_4 (four true true true false))
unfolding part_3 grown_list IsOfFour
still_asked = record {
  of_list = record { aims = grown_list; is_there = refl; of_chain = (0, part_3, (lit< tt), refl, refl) };
  as_long = All-from_recursion IsOfFour grown_index.lists (refl, (refl, (refl, tt)));
}

pub not_granted : IsGranted worked_index growing_acts 2 (IvfGrow 1 3 6 row_4 (four true true true false)) → ⊥
not_granted k = absurd (none-some 5 (sym k.no_next))
