use Rattle.std.proofs.Common.{◌≡◌, ℕ, ◌+◌, ◌-◌, ◌/◌, List, refl, sym, ◌∙◌, subst, arith}
use Rattle.std.specs.Int.{w16, to_le_bytes}
use Rattle.page_bytes.specs.Content.{others}
use Rattle.page_bytes.specs.Spelling.{zeros}
use Rattle.page_bytes.specs.Splice.{spliced}
use Rattle.page_bytes.specs.Decoding.{content, Spells}
use Rattle.page_bytes.proofs.Whole.{ends}
use Rattle.page_bytes.proofs.Dropped.{in_order, gathers_all}
use Rattle.page_bytes.proofs.drops.drop_from.Goals as goal

pub overflow_sub-lower : goal.overflow_sub-lower
overflow_sub-lower c =
    let e = ends c.args.bytes.now (content c.args.bytes.now) c.requires.page refl in
    omega (arith, e.lower)

pub gather-at-requires-clause-all : goal.gather-at-requires-clause-all
gather-at-requires-clause-all c =
    let e = ends c.args.bytes.now (content c.args.bytes.now) c.requires.page refl in
    omega (arith, e.lower)

pub clear-requires-clause-order : goal.clear-requires-clause-order
clear-requires-clause-order c =
    let bytes = c.args.bytes.now in
    let p = content bytes in
    let e = ends bytes p c.requires.page refl in
    let o = in_order p c.args.gone.now c.gather-at.new.bytes ((c.u16_at-lower.result - 24) / 4 + 1) c.gather-at.result.0 c.gather-at.result.1 c.u16_at-lower.result c.u16_at-upper.result c.gather-at.ensures e.room (c.u16_at-lower.ensures ∙ e.lower) (omega (arith, e.upper)) in
    omega (arith, o.front)

pub clear-requires-2-clause-order : goal.clear-requires-2-clause-order
clear-requires-2-clause-order c =
    let bytes = c.args.bytes.now in
    let p = content bytes in
    let e = ends bytes p c.requires.page refl in
    let o = in_order p c.args.gone.now c.gather-at.new.bytes ((c.u16_at-lower.result - 24) / 4 + 1) c.gather-at.result.0 c.gather-at.result.1 c.u16_at-lower.result c.u16_at-upper.result c.gather-at.ensures e.room (c.u16_at-lower.ensures ∙ e.lower) (omega (arith, e.upper)) in
    omega (arith, o.back)

pub returns : goal.returns
returns c =
    let bytes = c.args.bytes.now in
    let p = content bytes in
    let e = ends bytes p c.requires.page refl in
    let at = c.gather-at.result.0 in
    let top = c.gather-at.result.1 in
    let lower = c.u16_at-lower.result in
    let upper = c.u16_at-upper.result in
    let g = c.gather-at.new.bytes in
    let all = gathers_all p c.args.gone.now g ((lower - 24) / 4 + 1) at top lower upper c.gather-at.ensures c.requires.page.page (c.u16_at-lower.ensures ∙ e.lower) (omega (arith, e.upper)) in
    let same : c.put-2.new.bytes ≡ spliced (spliced (spliced (spliced g at (zeros (lower - at))) upper (zeros (top - upper))) 12 (to_le_bytes w16 at)) 14 (to_le_bytes w16 top) = rw (c.put-2.ensures, c.put.ensures, c.clear-2.ensures, c.clear.ensures, c.to_le_bytes-2.ensures, c.to_le_bytes.ensures, c.from.ensures, c.from-2.ensures, c.from-3.ensures, c.from-4.ensures) refl in
    subst (λ (b : List ℕ). Spells b (record p { items = others c.args.gone.now 1 p.items })) (sym same) all
