use Rattle.search_sets.specs.Standing.{held, wanted}
use Rattle.layer_search.proofs.Exactness.{batch_exact, left_exact}
use Rattle.layer_search.proofs.Marks.{after_taken}
use Rattle.layer_search.proofs.Taking.{batch_so, left_so, left_steady, left_there}
use Rattle.layer_search.proofs.resuming.Search.take.Goals as goal

pub returns-clause-after : goal.returns-clause-after
returns-clause-after c =
    let t = c.take_batch.new.self in
    let f = c.want.new.self in
    let h = held c.args.self.now.frontier in
    after_taken c.args.ef (held t) h c.requires.ready.apart
    (left_so (wanted f) c.args.ef (held t) (held f) h c.in_ok-batch.ensures.left c.in_ok-want.ensures.wanted c.in_ok-want.ensures.same)

pub returns-clause-ready : goal.returns-clause-ready
returns-clause-ready c =
    let t = c.take_batch.new.self in
    let f = c.want.new.self in
    let h = held c.args.self.now.frontier in
    λ bits ready. record {
      whole = c.in_ok-batch.ensures.whole;
      steady = left_steady bits c.args.ef (held t) h
          (left_so (wanted f) c.args.ef (held t) (held f) h c.in_ok-batch.ensures.left c.in_ok-want.ensures.wanted c.in_ok-want.ensures.same) ready.steady;
    }

pub returns-clause-told : goal.returns-clause-told
returns-clause-told c =
    let t = c.take_batch.new.self in
    let f = c.want.new.self in
    let h = held c.args.self.now.frontier in
    λ acts base there. left_there acts c.args.self.now.layer c.args.ef (held t) h base
    (left_so (wanted f) c.args.ef (held t) (held f) h c.in_ok-batch.ensures.left c.in_ok-want.ensures.wanted c.in_ok-want.ensures.same) there

pub returns-clause-exact : goal.returns-clause-exact
returns-clause-exact c =
    let f = c.want.new.self in
    let h = held c.args.self.now.frontier in
    λ ops query exact. batch_exact ops query c.args.ef h c.in_ok-batch.batch
    (batch_so (wanted f) c.args.ef (held f) h c.in_ok-batch.batch c.in_ok-batch.ensures.batch c.in_ok-want.ensures.wanted c.in_ok-want.ensures.same) exact

pub returns-clause-still_exact : goal.returns-clause-still_exact
returns-clause-still_exact c =
    let t = c.take_batch.new.self in
    let f = c.want.new.self in
    let h = held c.args.self.now.frontier in
    λ ops query exact. left_exact ops query c.args.ef (held t) h
    (left_so (wanted f) c.args.ef (held t) (held f) h c.in_ok-batch.ensures.left c.in_ok-want.ensures.wanted c.in_ok-want.ensures.same) exact
