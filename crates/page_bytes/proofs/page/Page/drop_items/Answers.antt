use Rattle.std.proofs.Common.{refl, ap, ◌∙◌}
use Rattle.page_bytes.specs.Content.{Content, others}
use Rattle.page_bytes.proofs.Whole.{page_after, content_after}
use Rattle.page_bytes.proofs.page.Page.drop_items.Goals as goal

pub invariant_of-self : goal.invariant_of-self
invariant_of-self c = page_after _ _ _ refl c.drop_from.ensures

pub returns : goal.returns
returns c =
    content_after _ _ _ refl c.drop_from.ensures ∙ ap (λ (p : Content). record p { items = others c.args.gone.now 1 p.items }) c.self.view_is
