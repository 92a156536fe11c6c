use Rattle.std.proofs.Common.{Some, List, ℕ, sym, ap, ◌∙◌}
use Rattle.std.specs.Option.{option_map, option_and_then}
use Rattle.vec_tuples.specs.Spelling.{head_of_element}
use Rattle.vec_tuples.specs.Reading.{element}
use Rattle.page_redo.specs.PageTuples.{in_whole}
use Rattle.page_redo.proofs.items.head_at.Goals as goal

pub returns-in-Some-clause-told : goal.returns-in-Some-clause-told
returns-in-Some-clause-told c =
    c.head_of.ensures.told ∙ ap (λ o. option_map head_of_element (option_and_then (λ x. in_whole (element c.args.params.now x)) o)) c.in-Some.ensures

pub returns-in-Some-clause-spelled : goal.returns-in-Some-clause-spelled
returns-in-Some-clause-spelled c = λ e is.
    let s = c.head_of.ensures.spelled e (ap (λ o. option_and_then (λ x. in_whole (element c.args.params.now x)) o) c.in-Some.ensures ∙ is) in
    (s.0, sym c.in-Some.ensures ∙ ap (λ (y : List ℕ). Some y) s.1)
