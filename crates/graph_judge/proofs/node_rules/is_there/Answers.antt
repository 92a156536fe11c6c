use Rattle.std.proofs.Common.{Some, sym, ap, ◌∙◌}
use Rattle.std.proofs.lemmas.Option.{same_Some}
use Rattle.graph_judge.proofs.SamePlaces.{same_place}
use Rattle.graph_judge.proofs.node_rules.is_there.Goals as goal

pub returns-in-Some : goal.returns-in-Some
returns-in-Some c =
    let same = same_place c.in-Some.other c.args.place c.eq.result c.eq.ensures in
    (λ t. c.in-Some.is ∙ ap Some (same.0 t), λ e. same.1 (same_Some _ _ (sym c.in-Some.is ∙ e)))
