use Rattle.std.proofs.Common.{◌≡◌, ◌≤◌, ◌<◌, ◌^◌, ℕ, length, sym, ap, subst, ◌∙◌, arith}
use Rattle.page_redo.specs.Growing.{blocks_after}
use Rattle.page_sets.proofs.Extended.{none_new}
use Rattle.page_sets.proofs.Whole.{as_extended, upward, never_fits, mid_part, mid_has, fits_these, whole_ok}
use Rattle.page_sets.proofs.doing.commit.Goals as goal

pub returns-in_default-clause-fits : goal.returns-in_default-clause-fits
returns-in_default-clause-fits g c = λ all long has fit.
    let high = c.in_default.ensures.none c.requires.lasting in
    let up = c.blocks_after-upto.ensures in
    let low = upward c.args.event.now all c.args.blocks c.blocks_after-upto.result long up.told up.upward in
    let few = subst (λ (n : ℕ). blocks_after c.args.event.now n < 2 ^ 32) (sym long) c.requires.few in
    absurd (never_fits c.args.params.now c.args.event.now all high.0 low few high.1 high.2 fit)

pub returns-in_err-extend-clause-fits : goal.returns-in_err-extend-clause-fits
returns-in_err-extend-clause-fits g c = λ all long has fit.
    let made = c.in_err-extend.ensures.new (λ block from. none_new _ all block has.part (omega (arith, long, from))) in
    absurd cc

pub returns-clause-done : goal.returns-clause-done
returns-clause-done g c = λ all long has.
    let up = c.blocks_after-upto.ensures in
    let low = upward c.args.event.now all c.args.blocks c.blocks_after-upto.result long up.told up.upward in
    let e = as_extended c.args.event.now _ _ all c.args.blocks c.blocks_after-upto.result c.new_kind.result long up.told c.new_kind.ensures c.in_ok-extend.ensures.done in
    let are = c.in-Some.ensures.some in
    let event = c.args.event.now in
    let p = c.args.params.now in
    whole_ok p c.args.number event c.in-Some.touched are _ _ all low has e _ c.redo_these.result
    (c.redo_these.ensures.redone _ (mid_part p c.args.number event c.in-Some.touched are _ _ all low has e)
    (mid_has p c.args.number event c.in-Some.touched are _ _ all low has e) are.apart)

pub returns-clause-fits : goal.returns-clause-fits
returns-clause-fits g c = λ all long has fit.
    let up = c.blocks_after-upto.ensures in
    let low = upward c.args.event.now all c.args.blocks c.blocks_after-upto.result long up.told up.upward in
    let e = as_extended c.args.event.now _ _ all c.args.blocks c.blocks_after-upto.result c.new_kind.result long up.told c.new_kind.ensures c.in_ok-extend.ensures.done in
    let are = c.in-Some.ensures.some in
    let event = c.args.event.now in
    let p = c.args.params.now in
    c.redo_these.ensures.fits _ (mid_has p c.args.number event c.in-Some.touched are _ _ all low has e) are.apart
    (fits_these p c.args.number event c.in-Some.touched are _ _ all low has e fit)
