use Rattle.std.proofs.lemmas.List.Elements.{recursion_from_All}
use Rattle.vec_event.specs.Spelling.{IsTyped, IsWritable}
use Rattle.vec_event.proofs.Readings.{one_event, one_list}
use Rattle.vec_event.proofs.law.law_one_reading.Goals as goal

pub returns-clause-event : goal.returns-clause-event
returns-clause-event c = one_event

pub returns-clause-events : goal.returns-clause-events
returns-clause-events c = λ these others fit other_fit same.
    one_list these others (recursion_from_All (λ e. IsTyped e × IsWritable e) these fit) (recursion_from_All (λ e. IsTyped e × IsWritable e) others other_fit) same
