use Rattle.std.proofs.Common.{◌≡◌, subst, sym, map, length, arith}
use Rattle.std.proofs.lemmas.List.{length-map}
use Rattle.bit_code.specs.Places.{unequal}
use Rattle.ivf_means.specs.Working.{IsLeastAt}
use Rattle.ivf_means.proofs.FirstPlaces.{least_first, least_step, least_is, mapped_at}
use Rattle.ivf_means.proofs.choosing.nearest_of.Goals as goal

pub returns : goal.returns
returns c =
    let gaps = map (λ k. unequal k c.args.value.now) c.args.centres.now in
    let all : c.loop-list.list ≡ length gaps = omega (arith, length-map c.args.centres.now (λ k. unequal k c.args.value.now)) in
    sym (least_is gaps c.loop-list.best.0 c.loop-list.best.1 (subst (λ n. IsLeastAt gaps n c.loop-list.best.0 c.loop-list.best.1) all c.loop-list.invariant))

pub loop-list-init : goal.loop-list-init
loop-list-init c =
    least_first _ c.count_unequal.result
    (mapped_at (λ k. unequal k c.args.value.now) c.args.centres.now 0 c.index-centres-0.result c.count_unequal.result (omega arith) c.index-centres-0.is c.count_unequal.ensures)

pub loop-list-preserved : goal.loop-list-preserved
loop-list-preserved c =
    least_step _ c.loop-list.list c.count_unequal-in-loop-list.result c.loop-list.best c.nearer-best.result c.loop-list.invariant
    (mapped_at (λ k. unequal k c.args.value.now) c.args.centres.now c.loop-list.list c.index-centres-list.result c.count_unequal-in-loop-list.result (omega arith)
    c.index-centres-list.is c.count_unequal-in-loop-list.ensures)
    c.nearer-best.ensures.kept c.nearer-best.ensures.taken
