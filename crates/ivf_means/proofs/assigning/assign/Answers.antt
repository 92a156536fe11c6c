use Rattle.std.proofs.Common.{List, map, ap, ◌∙◌}
use Rattle.std.specs.Prelude.{Bool}
use Rattle.std.specs.Borrow.{Bor}
use Rattle.rayon.proofs.ToStd.{slice-map}
use Rattle.ivf_means.specs.Centres.{values_of, nearest}
use Rattle.ivf_means.proofs.RoundsSoFar.{by_values}
use Rattle.ivf_means.proofs.assigning.assign.Goals as goal

-- each row's answer, whichever worker gave it
pub returns-clause-value : goal.returns-clause-value
returns-clause-value g c =
    let slice = ap (λ it. it.slice.now) c.map.ensures.base ∙ c.par_iter.ensures in
    let told = c.in_ok-assigned.ensures in
    let chain = told.1 in
    told.2 ∙ slice-map chain.0 c.args.rows.now (chain.1 ∙ slice) (λ r. nearest c.map.result.f.0.now r.bits) told.0 chain.2
    ∙ by_values c.map.result.f.0.now c.args.rows.now ∙ ap (λ (b : Bor (List (List Bool))). map (nearest b.now) (values_of c.args.rows.now)) (ap (λ f. f.0) c.map.ensures.f)
