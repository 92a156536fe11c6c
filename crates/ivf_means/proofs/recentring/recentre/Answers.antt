use Rattle.std.proofs.Common.{◌<◌, ◌≤◌, ap, sym, ◌∙◌, ℕ, List, length, arith}
use Rattle.std.specs.Prelude.{Bool}
use Rattle.std.proofs.lemmas.List.{length-set}
use Rattle.ivf_means.specs.Centres.{values_of, recentred, recentred_from}
use Rattle.ivf_means.specs.Working.{assigned_to}
use Rattle.ivf_means.proofs.Moving.{kept_at, rest_left, recentre_step, round_is, ended}
use Rattle.ivf_means.proofs.recentring.recentre.Goals as goal

pub recentre_one-requires-clause-long : goal.recentre_one-requires-clause-long
recentre_one-requires-clause-long c =
    let d : List Bool = c.index-centres-list.result in
    let within : c.loop-list.list < length c.args.centres.now = omega arith in
    ap length (kept_at c.loop-list.centres c.args.centres.now c.loop-list.list d c.loop-list.invariant.left) ∙ c.requires.long c.loop-list.list d within
    ∙ sym c.loop-list.invariant.room

pub loop-list-preserved : goal.loop-list-preserved
loop-list-preserved c =
    let members_of : ℕ → List (List Bool) = λ list. assigned_to list c.args.assigned.now (values_of c.args.rows.now) in
    let within : c.loop-list.list < length c.loop-list.centres = omega arith in
    record {
      room = omega arith;
      long = length-set c.loop-list.centres c.loop-list.list c.recentre_one.new.centre ∙ c.loop-list.invariant.long;
      left = rest_left c.loop-list.centres c.args.centres.now c.loop-list.list c.recentre_one.new.centre c.loop-list.invariant.left;
      done = recentre_step members_of c.loop-list.list c.loop-list.centres c.args.centres.now (recentred_from 0 members_of c.args.centres.now) c.index-centres-list.result
          c.recentre_one.new.centre within c.loop-list.invariant.long c.loop-list.invariant.left c.index-centres-list.is (c.recentre_one.ensures.centre ∙ ap (λ (b : List Bool). recentred b (members_of c.loop-list.list)) (sym c.index-centres-list.is)) c.loop-list.invariant.done;
    }

pub returns-clause-round : goal.returns-clause-round
returns-clause-round c = λ assigned.
    let members_of : ℕ → List (List Bool) = λ list. assigned_to list c.args.assigned.now (values_of c.args.rows.now) in
    let all : List (List Bool) = recentred_from 0 members_of c.args.centres.now in
    let now : length c.loop-list.centres ≤ c.loop-list.list = omega arith in
    let was : length c.args.centres.now ≤ c.loop-list.list = omega arith in
    round_is c.args.assigned.now (values_of c.args.rows.now) c.args.centres.now c.loop-list.centres
    (ended members_of c.loop-list.list c.loop-list.centres c.args.centres.now all now was c.loop-list.invariant.done) assigned
