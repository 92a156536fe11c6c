use Rattle.std.proofs.Common.{◌≡◌, ◌≤◌, ◌∷◌, [], ◌++◌, ◌∙◌, ap, length, arith}
use Rattle.page_bytes.specs.Content.{Content}
use Rattle.page_redo.specs.Growing.{fresh_page, new_kind}
use Rattle.vec_recover.proofs.Extending.{extended_none, extended_more, extended_end, extended_long}
use Rattle.vec_recover.proofs.redoing.extend.Goals as goal

pub loop-init : goal.loop-init
loop-init c = extended_none c.args.pages.now.items (fresh_page (new_kind c.args.event.now)) c.len-from.result

pub loop-preserved : goal.loop-preserved
loop-preserved c =
    extended_more c.args.pages.now.items c.loop.pages.items c.push.new.self.items (fresh_page (new_kind c.args.event.now)) c.len-from.result c.loop.counter
    c.loop.auto.counter c.loop.invariant
    (c.in_ok-push.ensures.items ∙ ap (λ (x : Content). c.loop.pages.items ++ x ∷ []) (c.fresh.ensures ∙ ap fresh_page c.new_kind.ensures))

pub returns-clause-told : goal.returns-clause-told
returns-clause-told c =
    let from_is : c.len-from.result ≡ length c.args.pages.now.items = omega (arith, c.len-from.ensures, c.args.pages.now.ok.0) in
    let same : c.loop.counter ≡ c.blocks_after-upto.result =
    omega (arith, c.loop.auto.counter-end c.blocks_after-upto.ensures.upward, c.loop-test.false) in
    extended_end c.args.event.now c.args.pages.now.items c.loop.pages.items c.len-from.result c.blocks_after-upto.result c.loop.counter from_is
    c.blocks_after-upto.ensures.told same c.loop.invariant

pub returns-clause-few : goal.returns-clause-few
returns-clause-few c few =
    let from_is : c.len-from.result ≡ length c.args.pages.now.items = omega (arith, c.len-from.ensures, c.args.pages.now.ok.0) in
    let low : c.len-from.result ≤ 4294967296 = omega (arith, few, from_is) in
    let high : c.loop.counter ≤ c.blocks_after-upto.result = c.loop.auto.counter-end c.blocks_after-upto.ensures.upward in
    let long = extended_long c.args.pages.now.items c.loop.pages.items (fresh_page (new_kind c.args.event.now)) c.len-from.result c.loop.counter from_is c.loop.auto.counter c.loop.invariant in
    omega (arith, long, high, c.blocks_after-upto.ensures.few low)
