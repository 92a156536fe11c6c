use Rattle.std.proofs.Common.{ℕ, get_or, sym, ap, ◌∙◌, arith}
use Rattle.page_bytes.proofs.Readers.{fixed_step, fixed_wrong, fixed_end}
use Rattle.page_bytes.proofs.reading.fixed_in.Goals as goal

pub returns-then-bytes-from : goal.returns-then-bytes-from
returns-then-bytes-from c =
    let bytes = c.args.bytes.now in
    let want = c.args.want.now in
    λ next. c.loop-i.invariant next ∙ fixed_wrong want bytes c.args.at c.loop-i.i next c.loop-i-test.true (omega (arith, c.requires.long)) (λ same. c.if-bytes-from.true (ap (λ (k : ℕ). get_or bytes k 0) c.from.ensures ∙ same))

pub loop-i-preserved : goal.loop-i-preserved
loop-i-preserved c =
    let bytes = c.args.bytes.now in
    let want = c.args.want.now in
    λ next. c.loop-i.invariant next ∙ fixed_step want bytes c.args.at c.loop-i.i next c.loop-i-test.true (omega (arith, c.requires.long)) (ap (λ (k : ℕ). get_or bytes k 0) (sym c.from.ensures) ∙ c.if-bytes-from.false)

pub returns : goal.returns
returns c =
    λ next. c.loop-i.invariant next ∙ fixed_end c.args.want.now c.args.bytes.now c.args.at c.loop-i.i next (omega (arith, c.loop-i.auto.i-end))
