use Rattle.std.proofs.Common.{◌≡◌, ◌++◌, ◌∙◌, [], length, sym, ap, arith}
use Rattle.std.proofs.lemmas.List.{take_rest}
use Rattle.page_log.proofs.EventRuns.{reads_one, ends, shorter, begin_none, begins_nothing, is_bad, empty}
use Rattle.vec_event.specs.Spelling.{spelling}
use Rattle.page_log.proofs.events.read_events.Goals as goal

pub loop-left-smaller : goal.loop-left-smaller
loop-left-smaller c =
    let spelled = c.in-Ok.ensures.spelled in
    shorter c.loop-left.left.now c.in-Ok.size c.in-Ok.event spelled.0 spelled.1 spelled.2 spelled.3

pub loop-left-preserved : goal.loop-left-preserved
loop-left-preserved c =
    let left = c.loop-left.left.now in
    let spelled = c.in-Ok.ensures.spelled in
    reads_one c.args.at c.args.bytes.now left _ _ _ _ c.in-Ok.event c.loop-left.invariant
    (record { typed = spelled.1; writable = spelled.0; same = spelled.2 ∙ ap (λ rest. spelling c.in-Ok.event ++ rest) (sym (take_rest left c.in-Ok.size)) })
    c.in_ok-push-in-Ok.ensures.items

pub returns-in-Short : goal.returns-in-Short
returns-in-Short c =
    let left = c.loop-left.left.now in
    let short = c.in-Short.is in
    ends c.args.at c.args.bytes.now left _ _ _ c.loop-left.invariant (omega (arith, c.loop-left.invariant.within)) (begin_none left c.in-Err.fault (λ memory. cc) c.in-Err.ensures.read) (λ bad. cc)

pub returns-in-Bad : goal.returns-in-Bad
returns-in-Bad c =
    let left = c.loop-left.left.now in
    let is = c.in-Bad.is in
    ends c.args.at c.args.bytes.now left _ _ _ c.loop-left.invariant (omega (arith, c.loop-left.invariant.within)) (begin_none left c.in-Err.fault (λ memory. cc) c.in-Err.ensures.read)
    (λ bad. is_bad left (λ event rest typed writable same. let memory = c.in-Err.ensures.read event rest typed writable same in cc)
    (λ event more typed writable same some. let short = c.in-Err.ensures.cut event more typed writable same some (λ memory. cc) in cc))

pub returns : goal.returns
returns c =
    let left = c.loop-left.left.now in
    let none : left ≡ [] = empty left (sym c.loop-left-test.false ∙ c.is_empty.ensures) in
    ends c.args.at c.args.bytes.now left _ _ _ c.loop-left.invariant (omega (arith, ap length none)) (begins_nothing left none) (λ bad. cc)
