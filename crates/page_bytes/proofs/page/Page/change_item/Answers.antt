use Rattle.std.proofs.Common.{◌≡◌, ℕ, ◌+◌, ◌-◌, ◌*◌, ◌/◌, ◌%◌, ◌^◌, List, [], Some, slice_set, length, get_or, sym, ap, subst, ◌∙◌, arith}
use Rattle.page_bytes.specs.Content.{Content, item_at}
use Rattle.page_bytes.specs.Splice.{spliced}
use Rattle.page_bytes.specs.Decoding.{content, word_at}
use Rattle.page_bytes.proofs.Whole.{page_after, content_after, item_points, item_within}
use Rattle.page_bytes.proofs.Changes.{overwritten_at, Stands}
use Rattle.page_bytes.proofs.ItemChanges.{is_there, some_and, stands_there, part_shown}
use Rattle.page_bytes.proofs.page.Page.change_item.Goals as goal

pub change_part-requires-clause-within : goal.change_part-requires-clause-within
change_part-requires-clause-within g c =
    let bytes = c.self.inside.bytes in
    let f = is_there (item_at c.args.self.now.items c.args.off) _ c.requires in
    let t = stands_there bytes c.args.off f.0 (ap (λ (p : Content). item_at p.items c.args.off) c.self.view_is ∙ f.1) in
    let at = c.u32_at-pointer.ensures ∙ ap (λ (off : ℕ). word_at bytes (20 + 4 * off)) c.from.ensures in
    omega (arith, at, item_within bytes c.args.off c.self.invariant t.low t.high, c.self.told)

pub change_part-requires-clause-fits : goal.change_part-requires-clause-fits
change_part-requires-clause-fits g c =
    let bytes = c.self.inside.bytes in
    let f = is_there (item_at c.args.self.now.items c.args.off) _ c.requires in
    let at = c.u32_at-pointer.ensures ∙ ap (λ (off : ℕ). word_at bytes (20 + 4 * off)) c.from.ensures in
    let shown = part_shown bytes c.args.off f.0 c.u32_at-pointer.result c.self.invariant (ap (λ (p : Content). item_at p.items c.args.off) c.self.view_is ∙ f.1) at in
    subst (g.C.ItemChange.fits c.args.change.now) (sym shown) f.2

pub invariant_of-self : goal.invariant_of-self
invariant_of-self g c =
    let bytes = c.self.inside.bytes in
    let f = is_there (item_at c.args.self.now.items c.args.off) _ c.requires in
    let t = stands_there bytes c.args.off f.0 (ap (λ (p : Content). item_at p.items c.args.off) c.self.view_is ∙ f.1) in
    let at = c.u32_at-pointer.ensures ∙ ap (λ (off : ℕ). word_at bytes (20 + 4 * off)) c.from.ensures in
    let p = item_points bytes c.args.off c.self.invariant t.low t.high in
    let y = c.change_part.ensures.0 in
    let long : length (get_or (content bytes).items (c.args.off - 1) []) ≡ length y = omega (arith, p.len, at, c.change_part.ensures.2) in
    page_after _ _ _ (c.change_part.ensures.3 ∙ ap (λ (w : ℕ). spliced bytes (w % 2 ^ 15) y) at) (overwritten_at bytes c.args.off y c.self.invariant (record { low = t.low; high = t.high; same = long }) c.change_part.ensures.4)

pub returns : goal.returns
returns g c =
    let bytes = c.self.inside.bytes in
    let f = is_there (item_at c.args.self.now.items c.args.off) _ c.requires in
    let is = ap (λ (p : Content). item_at p.items c.args.off) c.self.view_is ∙ f.1 in
    let t = stands_there bytes c.args.off f.0 is in
    let at = c.u32_at-pointer.ensures ∙ ap (λ (off : ℕ). word_at bytes (20 + 4 * off)) c.from.ensures in
    let p = item_points bytes c.args.off c.self.invariant t.low t.high in
    let y = c.change_part.ensures.0 in
    let long : length (get_or (content bytes).items (c.args.off - 1) []) ≡ length y = omega (arith, p.len, at, c.change_part.ensures.2) in
    let shown = part_shown bytes c.args.off f.0 c.u32_at-pointer.result c.self.invariant is at in
    let made = subst (λ (x : List ℕ). g.C.ItemChange.makes c.args.change.now x y) shown c.change_part.ensures.1 in
    some_and (item_at c.args.self.now.items c.args.off) _ f.0 f.1 (
      y,
      made,
      content_after _ _ _ (c.change_part.ensures.3 ∙ ap (λ (w : ℕ). spliced bytes (w % 2 ^ 15) y) at) (overwritten_at bytes c.args.off y c.self.invariant (record { low = t.low; high = t.high; same = long }) c.change_part.ensures.4)
          ∙ ap (λ (p : Content). record p { items = slice_set p.items (c.args.off - 1) y }) c.self.view_is,
    )
