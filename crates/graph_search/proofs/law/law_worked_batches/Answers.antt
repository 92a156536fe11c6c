use Rattle.graph_search.proofs.WorkedBatches.{first_batch, second_relaxed, second_strict, third_batch, end_batch}
use Rattle.graph_search.proofs.law.law_worked_batches.Goals as goal

pub returns-clause-first : goal.returns-clause-first
returns-clause-first c = first_batch

pub returns-clause-second_relaxed : goal.returns-clause-second_relaxed
returns-clause-second_relaxed c = second_relaxed

pub returns-clause-second_strict : goal.returns-clause-second_strict
returns-clause-second_strict c = second_strict

pub returns-clause-third : goal.returns-clause-third
returns-clause-third c = third_batch

pub returns-clause-end : goal.returns-clause-end
returns-clause-end c = end_batch
