use Rattle.search_sets.specs.Standing.{begun_from, held}
use Rattle.layer_search.proofs.Exactness.{begins_exact}
use Rattle.layer_search.proofs.Results.{begun_there}
use Rattle.layer_search.proofs.Steadiness.{steady_begun, steady_same}
use Rattle.layer_search.proofs.resuming.Search.make.Goals as goal

pub returns-clause-ready : goal.returns-clause-ready
returns-clause-ready c =
    λ bits long. record {
      whole = c.in_ok-begin.ensures.whole;
      steady = steady_same bits (held c.begin.new.self) (begun_from c.args.from.now) c.in_ok-begin.ensures.begun
          (steady_begun bits c.args.from.now c.requires.apart long);
    }

pub returns-clause-told : goal.returns-clause-told
returns-clause-told c =
    λ acts base there. begun_there acts c.args.layer c.args.from.now (held c.begin.new.self) base c.in_ok-begin.ensures.begun there

pub returns-clause-exact : goal.returns-clause-exact
returns-clause-exact c =
    λ ops query exact. begins_exact ops query c.args.from.now (held c.begin.new.self) c.in_ok-begin.ensures.begun exact
