use Rattle.std.proofs.Common.{ap, ◌∙◌}
use Rattle.page_bytes.specs.Content.{Content}
use Rattle.page_bytes.specs.Splice.{spliced}
use Rattle.page_bytes.specs.Decoding.{content}
use Rattle.page_bytes.proofs.Whole.{page_after, content_after}
use Rattle.page_bytes.proofs.Changes.{number_set}
use Rattle.page_bytes.proofs.page.Page.set_number.Goals as goal

pub invariant_of-self : goal.invariant_of-self
invariant_of-self c =
    let old = c.self.inside.bytes in
    page_after _ _ _ (c.put.ensures ∙ ap (spliced old 0) c.to_le_bytes.ensures) (number_set old (content old) c.args.number c.self.invariant c.ranges.number.fits)

pub returns : goal.returns
returns c =
    let old = c.self.inside.bytes in
    content_after _ _ _ (c.put.ensures ∙ ap (spliced old 0) c.to_le_bytes.ensures) (number_set old (content old) c.args.number c.self.invariant c.ranges.number.fits) ∙ ap (λ (p : Content). record p { number = c.args.number }) c.self.view_is
