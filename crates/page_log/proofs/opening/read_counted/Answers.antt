use Rattle.std.proofs.Common.{◌∙◌, Some, Ok, ap, inl, inr}
use Rattle.page_log.proofs.opening.read_counted.Goals as goal

pub returns-in-Some-clause-read : goal.returns-in-Some-clause-read
returns-in-Some-clause-read g c told =
    inr (inl (c.args.front.head, c.requires.chosen told ∙ ap (λ bad. Ok (Some (c.args.area, record { head = c.args.front.head; bad = bad }))) c.in-Some.is))
