use Rattle.std.proofs.Common.{refl, true, false, List, [], ◌∷◌, arith, lit≤}
use Rattle.bit_code.specs.Places.{tally}
use Rattle.ivf_graph.specs.Graph.{Row}
use Rattle.ivf_graph.specs.Effect.{state_after}
use Rattle.ivf_graph.specs.Answer.{found_on}
use Rattle.ivf_graph.specs.Reads.Walks.{done, begins, reads}
use Rattle.ivf_graph.specs.Examples.{four, row_3, row_4, row_5, worked_acts, worked_index}
use Rattle.ivf_graph.proofs.AskedExample.{still_asked, not_granted}
use Rattle.ivf_graph.proofs.CourseExamples.{inserted, vacuumed}
use Rattle.ivf_graph.proofs.law.law_examples.Goals as goal

pub returns-clause-one_probe : goal.returns-clause-one_probe
unfolding tally
returns-clause-one_probe c = refl

pub returns-clause-three_probes : goal.returns-clause-three_probes
unfolding tally
returns-clause-three_probes c = refl

rows_before : List Row
rows_before = (row_3, four true true true true) ∷ (row_4, four true true true false) ∷ []

rows_behind : List Row
rows_behind = (row_3, four true true true true) ∷ (row_4, four true true true false) ∷ (row_5, four false true true false) ∷ []

pub returns-clause-before_it : goal.returns-clause-before_it
unfolding tally rows_before
returns-clause-before_it c = record {
  rising = (lit≤ tt, (lit≤ tt, lit≤ tt));
  answers = record {
    enough = lit≤ tt;
    found = found_on (four false true true true) (3, rows_before);
    walked = begins (state_after worked_index worked_acts 0 ∷ []) 3 [] (found_on (four false true true true) (3, rows_before))
        (reads (state_after worked_index worked_acts 0) [] 3 rows_before [] [] refl done);
    in_order = refl;
  };
}

pub returns-clause-behind_it : goal.returns-clause-behind_it
unfolding tally rows_behind
returns-clause-behind_it c = record {
  rising = (lit≤ tt, (lit≤ tt, lit≤ tt));
  answers = record {
    enough = lit≤ tt;
    found = found_on (four false true true true) (3, rows_behind);
    walked = begins (state_after worked_index worked_acts 1 ∷ []) 3 [] (found_on (four false true true true) (3, rows_behind))
        (reads (state_after worked_index worked_acts 1) [] 3 rows_behind [] [] refl done);
    in_order = refl;
  };
}

pub returns-clause-falling : goal.returns-clause-falling
returns-clause-falling c = λ query probes answer a. absurd (omega (arith, a.rising.1.0))

pub returns-clause-to_come : goal.returns-clause-to_come
returns-clause-to_come c = λ query probes answer a. absurd (omega (arith, a.rising.1.1))

pub returns-clause-grown_by_another : goal.returns-clause-grown_by_another
returns-clause-grown_by_another c = (still_asked, not_granted)

pub returns-clause-insert : goal.returns-clause-insert
returns-clause-insert c = inserted

pub returns-clause-vacuum : goal.returns-clause-vacuum
returns-clause-vacuum c = vacuumed
