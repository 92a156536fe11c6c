use Rattle.graph_search.proofs.Doing.{looks_are_reads, one_after_other, worded}
use Rattle.graph_search.proofs.law.law_deeds.Goals as goal

pub returns-clause-looks : goal.returns-clause-looks
returns-clause-looks c = looks_are_reads

pub returns-clause-together : goal.returns-clause-together
returns-clause-together c = one_after_other

pub returns-clause-words : goal.returns-clause-words
returns-clause-words c = λ base acts desk ps ds i change reply done is. worded base acts desk ps ds i change reply done is
