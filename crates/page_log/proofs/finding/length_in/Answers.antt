use Rattle.std.proofs.Common.{◌∙◌, sym, subst, arith}
use Rattle.page_log.specs.Steps.{IsFront}
use Rattle.page_log.proofs.EventRuns.{empty}
use Rattle.page_log.proofs.Fronts.{front_is}
use Rattle.page_log.proofs.finding.length_in.Goals as goal

pub returns : goal.returns
returns c =
    let a = c.in_ok-seal.ensures.cases in
    let b = c.in_ok-four.ensures.cases in
    subst (λ len. IsFront c.args.front.now len) (sym c.from.ensures)
    (front_is c.args.front.now c.in_ok-seal.rest.now c.in_ok-four.four.now c.in_ok-four.none.now c.in_ok-seal.seal.now c.from_le_bytes-len.result
    a.0 c.if-seal.false b.0 b.1 b.2 (empty c.in_ok-four.none.now (sym c.if-not-is_empty.false ∙ c.is_empty.ensures)) c.from_le_bytes-len.ensures c.from_le_bytes-len.type_inv (λ i. omega (arith, c.type_inv.front i)) c.if-len-eq0.false)
