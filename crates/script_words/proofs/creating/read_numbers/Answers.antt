use Rattle.std.specs.Prelude.{codes}
use Rattle.script_words.proofs.Optional.{one_named, round_next}
use Rattle.script_words.proofs.creating.read_numbers.Goals as goal

pub returns-in-None-named_number-2 : goal.returns-in-None-named_number-2
returns-in-None-named_number-2 c m ef round are =
    c.in-None-named_number-2.ensures round _ (round_next _ m ef round are _ _ _ _ c.in-Some.ensures c.in-Some-named_number.ensures)

pub returns : goal.returns
returns c m ef round are =
    let last = round_next _ m ef round are _ _ _ _ c.in-Some.ensures c.in-Some-named_number.ensures in
    let none = (one_named (codes "round") _ _ _ _ round c.in-Some-named_number-2.ensures last).1 in
    let yes = c.is_over.ensures.1 none in
    absurd (cc (yes, c.if-is_over.false))
