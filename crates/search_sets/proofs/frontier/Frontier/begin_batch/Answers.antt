use Rattle.std.proofs.Common.{refl}
use Rattle.search_sets.specs.declared.frontier.Frontier.{Frontier}
use Rattle.search_sets.proofs.HeldSo.{begun_held}
use Rattle.search_sets.proofs.frontier.Frontier.begin_batch.Goals as goal

pub returns-clause-earlier : goal.returns-clause-earlier
returns-clause-earlier c =
    let f : Frontier = c.args.self.now in
    begun_held f (record f { earlier = c.len-self.result }) c.requires refl refl refl refl c.len-self.ensures
