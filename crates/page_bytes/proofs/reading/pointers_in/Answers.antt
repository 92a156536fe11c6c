use Rattle.std.proofs.Common.{◌≡◌, ℕ, ◌+◌, ◌-◌, ◌*◌, Ok, Err, ◌∙◌, subst, arith}
use Rattle.std.proofs.lemmas.Result.{err_from_is_err_and}
use Rattle.page_bytes.specs.Format.{FindsPlace}
use Rattle.page_bytes.proofs.Readers.{read_none, read_more, read_all, pointers_begin, pointers_on, pointers_off, pointers_end}
use Rattle.page_bytes.proofs.reading.pointers_in.Goals as goal

pub loop-i-init : goal.loop-i-init
loop-i-init c = (read_none c.args.bytes.now c.args.count c.args.upper c.requires.room, λ gap. pointers_begin c.args.count gap c.args.upper c.args.bytes.now)

pub returns-in_err-top : goal.returns-in_err-top
returns-in_err-top c =
    let p = err_from_is_err_and c.from_residual.result c.from_residual.ensures.1 in
    let found = subst (λ (m : ℕ). FindsPlace (c.args.upper + 8 * (c.args.count - c.loop-i.i - 1)) m c.loop-i.top c.args.bytes.now (24 + 4 * c.loop-i.i) (Err c.in_err-top.field-0.0)) c.most_place-most.ensures c.in_err-top.ensures in
    rw (p.1, p.2) (λ gap. c.loop-i.invariant.1 gap ∙ pointers_off c.args.count c.loop-i.i gap c.args.upper c.loop-i.top c.in_err-top.field-0.0 c.args.bytes.now c.loop-i-test.true found)

pub loop-i-preserved : goal.loop-i-preserved
loop-i-preserved c =
    let found = subst (λ (m : ℕ). FindsPlace (c.args.upper + 8 * (c.args.count - c.loop-i.i - 1)) m c.loop-i.top c.args.bytes.now (24 + 4 * c.loop-i.i) (Ok c.in_ok-top.top)) c.most_place-most.ensures c.in_ok-top.ensures in (
      read_more c.args.bytes.now c.args.count c.args.upper c.loop-i.i c.loop-i.top c.in_ok-top.top c.loop-i-test.true c.loop-i.invariant.0 found.0,
      λ gap. c.loop-i.invariant.1 gap ∙ pointers_on c.args.count c.loop-i.i gap c.args.upper c.loop-i.top c.in_ok-top.top c.args.bytes.now c.loop-i-test.true found,
    )

pub returns : goal.returns
returns c =
    let last : c.args.count ≡ c.loop-i.i = omega (arith, c.loop-i.auto.i-end) in
    let all = read_all c.args.bytes.now c.args.count c.args.upper c.loop-i.i c.loop-i.top last c.loop-i.invariant.0 in
    (all.1, λ gap. c.loop-i.invariant.1 gap ∙ pointers_end c.args.count c.loop-i.i gap c.args.upper c.loop-i.top c.args.bytes.now last)
