-- The courses of an insert and of a vacuum of the worked index.
use Rattle.std.proofs.Common.{◌≢◌, ℕ, true, false, List, [], ◌∷◌, Some, None, refl, lit≤}
use Rattle.bit_code.specs.Places.{tally}
use Rattle.vec_history.specs.declared.event.Event.TheVariants as event
use Rattle.ivf_graph.specs.declared.graph.IvfGraph.{IvfGraph}
use Rattle.ivf_graph.specs.Graph.{Row}
use Rattle.ivf_graph.specs.Effect.{state_after}
use Rattle.ivf_graph.specs.Looks.{Centre}
use Rattle.ivf_graph.specs.Courses.{Turn, IsInsertedAt, IsVacuumedAt}
use Rattle.ivf_graph.specs.Courses.Places.{adds}
use Rattle.ivf_graph.specs.Courses.Clears.{ends, aims, keeps, cuts}
use Rattle.ivf_graph.specs.Courses.ClearsAll.{none_left, clears}
use Rattle.ivf_graph.specs.Examples.{four, row_1, row_2, row_3, row_4, row_5, worked_acts, worked_index, is_row_3, vacuum_acts}

in_list_1 : List Row
in_list_1 = (row_3, four true true true true) ∷ (row_4, four true true true false) ∷ []

pub inserted : IsInsertedAt worked_index worked_acts 1 (0 ∷ []) (0 ∷ []) row_5 (four false true true false) 1 3
unfolding tally in_list_1
inserted =
    let turn : Turn = (worked_index, Some (event.IvfAdd 3 row_5 (four false true true false))) in
    let nearest : Centre = record { list = 1; bits = four true true true false; aim = 3; first = Some 3 } in
    record {
      rising = (lit≤ tt, (lit≤ tt, lit≤ tt));
      turns = turn ∷ [];
      made = (refl, refl, tt);
      course = record {
        enough = refl;
        nearest = nearest;
        is_nearest = refl;
        of_list = refl;
        tries = turn ∷ [];
        places = adds worked_index 3 (record { rows = in_list_1; stands = refl; room = lit≤ tt });
        last = [];
        aims = refl;
        whole = refl;
      };
    }

at : ℕ → IvfGraph
at n = state_after worked_index vacuum_acts n

some_dead : (n : ℕ) (ns : List ℕ) → n ∷ ns ≢ []
some_dead n ns is = absurd (cc)

pub vacuumed : IsVacuumedAt worked_index vacuum_acts 1 4 is_row_3 0 3 (1 ∷ []) (1 ∷ 1 ∷ 1 ∷ 2 ∷ 3 ∷ [])
unfolding at in_list_1
vacuumed =
    let none_1 : Turn = (at 1, None) in
    let cut : Turn = (at 1, Some (event.IvfDrop 3 (1 ∷ []))) in
    let aim : Turn = (at 2, Some (event.IvfHint 1 3)) in
    let none_3 : Turn = (at 3, None) in
    let c0 : Centre = record { list = 0; bits = four false false false false; aim = 2; first = Some 2 } in
    let c1 : Centre = record { list = 1; bits = four true true true false; aim = 3; first = Some 3 } in
    let c2 : Centre = record { list = 2; bits = four false false false true; aim = 4; first = Some 4 } in
    let in_0 : List Row = (row_1, four false false false false) ∷ [] in
    let in_2 : List Row = (row_2, four false false false true) ∷ [] in
    record {
      taken = refl;
      rising = (lit≤ tt, (lit≤ tt, (lit≤ tt, (lit≤ tt, (lit≤ tt, (lit≤ tt, lit≤ tt))))));
      enough = refl;
      turns = none_1 ∷ none_1 ∷ cut ∷ aim ∷ none_3 ∷ [];
      made = (refl, tt, (refl, tt, (refl, refl, (refl, refl, (refl, tt, tt)))));
      course =
          clears c0 (c1 ∷ c2 ∷ []) (none_1 ∷ []) (none_1 ∷ cut ∷ aim ∷ none_3 ∷ []) (keeps (at 1) 2 in_0 None [] refl refl ends)
          (clears c1 (c2 ∷ []) (none_1 ∷ cut ∷ aim ∷ []) (none_3 ∷ []) (cuts (at 1) (at 1) 3 in_list_1 None (aim ∷ []) refl (some_dead 1 []) (aims (at 2) 3))
          (clears c2 [] (none_3 ∷ []) [] (keeps (at 3) 4 in_2 None [] refl refl ends) none_left));
      given = refl;
    }
