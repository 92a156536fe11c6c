use Rattle.std.proofs.Common.{refl}
use Rattle.search_sets.specs.declared.frontier.Frontier.{Frontier}
use Rattle.search_sets.proofs.HeldSo.{left_held, left_whole}
use Rattle.search_sets.proofs.frontier.Frontier.take_batch.Goals as goal

pub returns-clause-whole : goal.returns-clause-whole
returns-clause-whole c =
    let f : Frontier = c.args.self.now in
    left_whole f (record f { found = c.drop_wanted.new.self }) c.requires refl refl refl c.in_ok-drop_wanted.ensures refl

pub returns-clause-left : goal.returns-clause-left
returns-clause-left c =
    let f : Frontier = c.args.self.now in
    left_held f (record f { found = c.drop_wanted.new.self }) c.requires refl refl refl c.in_ok-drop_wanted.ensures refl
