use Rattle.std.proofs.Common.{ap, ◌∙◌}
use Rattle.std.specs.Int.{w32, to_le_bytes}
use Rattle.page_bytes.specs.Content.{Content}
use Rattle.page_bytes.specs.Splice.{spliced}
use Rattle.page_bytes.specs.Decoding.{content}
use Rattle.page_bytes.proofs.Whole.{page_after, content_after}
use Rattle.page_bytes.proofs.Changes.{next_set, next_word-is, is_next}
use Rattle.page_bytes.proofs.page.Page.set_next.Goals as goal

pub invariant_of-self : goal.invariant_of-self
invariant_of-self c =
    let old = c.self.inside.bytes in
    let kind = ap (λ (p : Content). p.kind) c.self.view_is ∙ c.requires.kind in
    page_after _ _ _ (c.put.ensures ∙ ap (spliced old 8184) (c.to_le_bytes.ensures ∙ ap (to_le_bytes w32) (c.unwrap_or.ensures ∙ next_word-is c.args.next))) (next_set old (content old) c.args.next c.self.invariant (is_next _ c.args.next kind c.requires.block))

pub returns : goal.returns
returns c =
    let old = c.self.inside.bytes in
    let kind = ap (λ (p : Content). p.kind) c.self.view_is ∙ c.requires.kind in
    content_after _ _ _ (c.put.ensures ∙ ap (spliced old 8184) (c.to_le_bytes.ensures ∙ ap (to_le_bytes w32) (c.unwrap_or.ensures ∙ next_word-is c.args.next))) (next_set old (content old) c.args.next c.self.invariant (is_next _ c.args.next kind c.requires.block)) ∙ ap (λ (p : Content). record p { next = c.args.next }) c.self.view_is
