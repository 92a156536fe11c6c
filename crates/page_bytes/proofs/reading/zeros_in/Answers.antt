use Rattle.std.proofs.Common.{arith}
use Rattle.page_bytes.proofs.Readers.{zeros_to, zeros_upto}
use Rattle.page_bytes.proofs.reading.zeros_in.Goals as goal

pub returns-then-at-to : goal.returns-then-at-to
returns-then-at-to c =
    let z = c.past_zeros-at.ensures.zeros in
    λ next. zeros_to c.args.bytes.now c.args.from c.args.to next c.requires.order (omega arith) (λ k l h. z k (omega (arith, c.from.ensures)) (omega (arith, c.if-at-to.true)))

pub returns-else-at-to : goal.returns-else-at-to
returns-else-at-to c =
    let z = c.past_zeros-at.ensures.zeros in
    let apart = c.if-at-to.false in
    let most = c.past_zeros-at.ensures.most in
    let least = c.past_zeros-at.ensures.least in
    λ next. zeros_upto c.args.bytes.now c.args.from c.args.to c.past_zeros-at.result next (omega (arith, least, c.from.ensures)) (omega (arith, most, apart, c.from-2.ensures)) (omega arith) (λ k l h. z k (omega (arith, c.from.ensures)) h) (c.past_zeros-at.ensures.stop (omega (arith, most, apart, c.from-2.ensures)))
