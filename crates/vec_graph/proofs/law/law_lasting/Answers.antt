use Rattle.vec_graph.proofs.Lasting.{stays_placed, stays_same, stays_with_ids, stays_doomed, stays_live}
use Rattle.vec_graph.proofs.law.law_lasting.Goals as goal

pub returns-clause-placed : goal.returns-clause-placed
returns-clause-placed c = λ p level at list_at met on s. stays_placed c.args.base.now c.args.acts.now c.requires p met on at list_at level s

pub returns-clause-same : goal.returns-clause-same
returns-clause-same c = λ p at was met on none stands alive. stays_same c.args.base.now c.args.acts.now c.requires p met on at was none stands alive

pub returns-clause-ids : goal.returns-clause-ids
returns-clause-ids c = λ p at ids met on none h. stays_with_ids c.args.base.now c.args.acts.now c.requires p met on at ids none h

pub returns-clause-doomed : goal.returns-clause-doomed
returns-clause-doomed c = λ p at met on none d. stays_doomed c.args.base.now c.args.acts.now c.requires p met on at none d

pub returns-clause-live : goal.returns-clause-live
returns-clause-live c = λ p layer at met on none l. stays_live c.args.base.now c.args.acts.now c.requires p met on at layer none l
