use Rattle.std.proofs.Common.{◌∙◌, List, length, subst, sym, ap, arith}
use Rattle.std.specs.List.Sorted.{IsSortedBy}
use Rattle.neighbour_pick.specs.declared.found.Found.{Found}
use Rattle.neighbour_pick.specs.Order.{HaveOneLength}
use Rattle.graph_search.specs.Search.{is_before}
use Rattle.layer_search.proofs.Chosen.{without_alike, without_few, without_sorted}
use Rattle.layer_search.proofs.choosing.add_lowest.Goals as goal

pub choose-requires-clause-rising : goal.choose-requires-clause-rising
choose-requires-clause-rising c =
    subst (IsSortedBy is_before) (sym (c.as_slice.ensures ∙ c.in_ok-near.ensures)) (without_sorted c.args.plan.except c.args.found c.requires.rising)

pub choose-requires-clause-few : goal.choose-requires-clause-few
choose-requires-clause-few c =
    omega (arith, ap (λ (l : List Found). length l) (c.as_slice.ensures ∙ c.in_ok-near.ensures), without_few c.args.plan.except c.args.found, c.requires.few)

pub choose-requires-clause-one_length : goal.choose-requires-clause-one_length
choose-requires-clause-one_length c =
    subst HaveOneLength (sym (c.as_slice.ensures ∙ c.in_ok-near.ensures)) (without_alike c.args.plan.except c.args.found c.requires.one_length)
