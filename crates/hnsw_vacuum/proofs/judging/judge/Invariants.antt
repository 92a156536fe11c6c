use Rattle.std.proofs.Common.{drop}
use Rattle.hnsw_vacuum.specs.Masks.{IsMaskOf}
use Rattle.hnsw_vacuum.proofs.judging.judge.Given as goal

-- the rows behind this one were judged
abbrev pub invariant-asking : goal.invariant-asking
invariant-asking g l = IsMaskOf (λ id b. g.F.Fn.post l.dead (id, tt) b) (drop l.k l.ids) l.mask
