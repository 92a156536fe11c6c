use Rattle.std.proofs.Common.{◌≡◌, ◌*◌, get_or, subst, arith, ◌∙◌, sym}
use Rattle.std.specs.Prelude.{false, nat_lt}
use Rattle.ivf_means.specs.Centres.{values_of}
use Rattle.ivf_means.specs.Working.{assigned_to}
use Rattle.ivf_means.proofs.Tallies.{majority_is}
use Rattle.ivf_means.proofs.recentring.recentre_one.Goals as goal

pub returns-then-size-gt0-clause-centre : goal.returns-then-size-gt0-clause-centre
returns-then-size-gt0-clause-centre c =
    let all = assigned_to c.args.list c.args.assigned.now (values_of c.args.rows.now) in
    majority_is all c.tally-size.new.ones c.args.centre.now c.set_majority.new.centre (omega arith)
    (c.requires.long ∙ sym c.tally-size.ensures.room) c.tally-size.ensures.ones c.set_majority.ensures.long
    (λ place h. subst (λ n. get_or c.set_majority.new.centre place false ≡ nat_lt n (2 * get_or c.tally-size.new.ones place 0)) c.tally-size.ensures.size
    (c.set_majority.ensures.each place h))
