use Rattle.std.proofs.Common.{◌≡◌, ℕ, ◌+◌, ◌*◌, Some, length, refl, ap, ◌∙◌, arith}
use Rattle.page_bytes.specs.Content.{Content, item_at}
use Rattle.page_bytes.specs.Decoding.{content, word_at}
use Rattle.page_bytes.proofs.Whole.{item_within, item_shown}
use Rattle.page_bytes.proofs.page.Page.item.Goals as goal

pub item_named_by-requires : goal.item_named_by-requires
item_named_by-requires c =
    let bytes = c.self.inside.bytes in
    let seen : length (content bytes).items ≡ length c.args.self.now.items = ap (λ (p : Content). length p.items) c.self.view_is in
    let at = ap (λ (off : ℕ). word_at bytes (20 + 4 * off)) c.from.ensures in
    let within = item_within bytes c.args.off c.self.invariant (omega arith) (omega (arith, c.count.ensures)) in
    omega (arith, c.u32_at-pointer.ensures ∙ at, within, c.self.told)

pub returns : goal.returns
returns c =
    let bytes = c.self.inside.bytes in
    let seen : length (content bytes).items ≡ length c.args.self.now.items = ap (λ (p : Content). length p.items) c.self.view_is in
    let at = ap (λ (off : ℕ). word_at bytes (20 + 4 * off)) c.from.ensures in
    let shown = item_shown bytes c.args.off c.self.invariant (omega arith) (omega (arith, c.count.ensures)) in
    ap Some (rw (c.item_named_by.ensures, c.u32_at-pointer.ensures, at) refl) ∙ shown ∙ ap (λ (p : Content). item_at p.items c.args.off) c.self.view_is
