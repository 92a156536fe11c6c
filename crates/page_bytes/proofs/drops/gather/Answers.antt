use Rattle.std.proofs.Common.{ℕ, ◌+◌, ◌*◌, ◌<◌, length, sym, ap, ◌∙◌, arith}
use Rattle.page_bytes.specs.Decoding.{content, word_at}
use Rattle.page_bytes.proofs.Whole.{length_is}
use Rattle.page_bytes.proofs.Dropped.{next_word, gathers_none, step_gone, step_kept, meets_none, meets_more, meets_on}
use Rattle.page_bytes.proofs.drops.gather.Goals as goal
use Rattle.page_bytes.proofs.drops.gather.Goals.{then-meets, else-meets}

pub loop-i-init : goal.loop-i-init
loop-i-init c =
    let bytes = c.args.bytes.now in
    (gathers_none (content bytes) c.args.gone.now bytes c.requires.page, meets_none c.args.gone.now c.requires.offsets)

pub overflow_add-next : goal.overflow_add-next
overflow_add-next c = omega (arith, c.loop-i.invariant.1.few)

pub u32_at-pointer-requires : goal.u32_at-pointer-requires
u32_at-pointer-requires c =
    omega (arith, length_is c.args.bytes.now c.requires.page, c.requires.page.page.room, c.requires.all)

pub keep-top-requires-clause-pointer_fits : goal.keep-top-requires-clause-pointer_fits
keep-top-requires-clause-pointer_fits c =
    let bytes = c.args.bytes.now in
    let p = content bytes in
    let h : c.loop-i.i < length p.items = omega (arith, c.requires.all) in
    let n = next_word p c.args.gone.now c.loop-i.bytes c.loop-i.i c.loop-i.at c.loop-i.top c.u32_at-pointer.result c.loop-i.invariant.0 c.requires.page.page h (c.u32_at-pointer.ensures ∙ ap (λ (i : ℕ). word_at c.loop-i.bytes (24 + 4 * i)) c.from.ensures) in
    omega (arith, n.free, length_is bytes c.requires.page)

pub keep-top-requires-clause-item_fits : goal.keep-top-requires-clause-item_fits
keep-top-requires-clause-item_fits c =
    let bytes = c.args.bytes.now in
    let p = content bytes in
    let h : c.loop-i.i < length p.items = omega (arith, c.requires.all) in
    let n = next_word p c.args.gone.now c.loop-i.bytes c.loop-i.i c.loop-i.at c.loop-i.top c.u32_at-pointer.result c.loop-i.invariant.0 c.requires.page.page h (c.u32_at-pointer.ensures ∙ ap (λ (i : ℕ). word_at c.loop-i.bytes (24 + 4 * i)) c.from.ensures) in
    n.fits

pub keep-top-requires-clause-page : goal.keep-top-requires-clause-page
keep-top-requires-clause-page c = omega (arith, length_is c.args.bytes.now c.requires.page)

pub loop-i-preserved : goal.loop-i-preserved
loop-i-preserved c =
    let bytes = c.args.bytes.now in
    let p = content bytes in
    let h : c.loop-i.i < length p.items = omega (arith, c.requires.all) in
    elim c.if-meets.branch [
      | then-meets w ↦
          let g = step_gone p c.args.gone.now c.loop-i.bytes c.loop-i.i c.loop-i.at c.loop-i.top c.loop-i.invariant.0 h (sym c.meets.ensures ∙ w.if-meets.true) in
          let m = meets_more c.args.gone.now c.loop-i.next (c.loop-i.i + 1) c.requires.rising c.loop-i.invariant.1 (sym c.meets.ensures ∙ w.if-meets.true) in
          (rw (w.bytes-is, w.at-is, w.top-is) g, rw w.next-is m)
      | else-meets w ↦
          let k = step_kept p c.args.gone.now c.loop-i.bytes c.loop-i.i c.loop-i.at c.loop-i.top w.u32_at-pointer.result c.loop-i.invariant.0 c.requires.page.page h (w.u32_at-pointer.ensures ∙ ap (λ (i : ℕ). word_at c.loop-i.bytes (24 + 4 * i)) w.from.ensures) (sym c.meets.ensures ∙ w.if-meets.false) in
          let m = meets_on c.args.gone.now c.loop-i.next (c.loop-i.i + 1) c.loop-i.invariant.1 (sym c.meets.ensures ∙ w.if-meets.false) in
          (rw (w.bytes-is, w.at-is, w.top-is, w.keep-top.ensures.after, w.keep-top.ensures.place) k, rw w.next-is m)
    ]
