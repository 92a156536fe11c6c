use Rattle.std.proofs.Common.{rules}
use Rattle.std.proofs.lemmas.Fn.{filter_same}
use Rattle.history_tables.proofs.holders.Holders.give.Goals as goal

pub returns-clause-holds : goal.returns-clause-holds
returns-clause-holds c = filter_same _ _ _ (λ x b f' k. search rules) _ _ c.retain.ensures.filtered
