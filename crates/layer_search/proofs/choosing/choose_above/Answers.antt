use Rattle.std.proofs.Common.{◌≡◌, ◌∙◌, ◌++◌, ◌-◌, List, Option, Some, None, length, map, subst, sym, ap, arith}
use Rattle.std.specs.Prelude.{OnOk, replicate}
use Rattle.std.specs.List.Sorted.{IsSortedBy}
use Rattle.vec_names.specs.declared.tid.Tid.{Tid}
use Rattle.neighbour_pick.specs.declared.found.Found.{Found}
use Rattle.neighbour_pick.specs.Order.{HaveOneLength}
use Rattle.graph_search.specs.Search.{is_before}
use Rattle.graph_search.specs.Insert.{most_in, without}
use Rattle.layer_search.specs.Listing.{picked_from}
use Rattle.layer_search.proofs.Chosen.{without_alike, without_few, without_none, without_sorted}
use Rattle.layer_search.proofs.choosing.choose_above.Goals as goal

pub choose-requires-in-Some-clause-rising : goal.choose-requires-in-Some-clause-rising
choose-requires-in-Some-clause-rising c =
    subst (IsSortedBy is_before) (sym (c.as_slice.ensures ∙ c.in_ok-others-in-Some.ensures))
    (without_sorted (Some c.in-Some.except) c.args.found.now c.requires.rising)

pub choose-requires-in-Some-clause-few : goal.choose-requires-in-Some-clause-few
choose-requires-in-Some-clause-few c =
    omega (
      arith,
      ap (λ (l : List Found). length l) (c.as_slice.ensures ∙ c.in_ok-others-in-Some.ensures),
      without_few (Some c.in-Some.except) c.args.found.now,
      c.requires.few,
    )

pub choose-requires-in-Some-clause-one_length : goal.choose-requires-in-Some-clause-one_length
choose-requires-in-Some-clause-one_length c =
    subst HaveOneLength (sym (c.as_slice.ensures ∙ c.in_ok-others-in-Some.ensures))
    (without_alike (Some c.in-Some.except) c.args.found.now c.requires.one_length)

-- where nobody is left out, what was found is what is chosen from
same_found : (except : Option Tid) (found : List Found) → except ≡ None → found ≡ without except found
same_found except found is = without_none found ∙ ap (λ (o : Option Tid). without o found) (sym is)

pub returns-in-None-clause-slots : goal.returns-in-None-clause-slots
returns-in-None-clause-slots c =
    let plan = c.args.plan in
    subst (λ (l : List Found). OnOk c.choose.result (c.choose.new.lists.lists ≡ c.args.lists.now.lists
    ++ (map (λ e. Some e.at) (picked_from plan l) ++ replicate (most_in plan.m plan.layer - length (picked_from plan l)) None)))
    (same_found plan.except c.args.found.now c.in-None.is) c.choose.ensures.slots

pub returns-in-None-clause-picks : goal.returns-in-None-clause-picks
returns-in-None-clause-picks c =
    let plan = c.args.plan in
    subst (λ (l : List Found). OnOk c.choose.result (c.choose.new.lists.picks ≡ c.args.lists.now.picks ++ map (λ e. (plan.layer, e)) (picked_from plan l)))
    (same_found plan.except c.args.found.now c.in-None.is) c.choose.ensures.picks
