use Rattle.std.proofs.Common.{Some, List, ℕ, sym, ap, ◌∙◌}
use Rattle.std.specs.Option.{option_map, option_and_then}
use Rattle.page_redo.specs.PageTuples.{links_head}
use Rattle.vec_tuples.specs.Reading.{links}
use Rattle.page_redo.specs.PageTuples.{in_whole}
use Rattle.page_redo.proofs.items.links_head_at.Goals as goal

pub returns-in-Some-clause-told : goal.returns-in-Some-clause-told
returns-in-Some-clause-told c =
    c.links_head_of.ensures.told ∙ ap (λ o. option_map links_head (option_and_then (λ x. in_whole (links c.args.params.now x)) o)) c.in-Some.ensures

pub returns-in-Some-clause-spelled : goal.returns-in-Some-clause-spelled
returns-in-Some-clause-spelled c = λ l is.
    let s = c.links_head_of.ensures.spelled l (ap (λ o. option_and_then (λ x. in_whole (links c.args.params.now x)) o) c.in-Some.ensures ∙ is) in
    (s.0, sym c.in-Some.ensures ∙ ap (λ (y : List ℕ). Some y) s.1)
