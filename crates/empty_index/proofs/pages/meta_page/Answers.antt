use Rattle.std.proofs.Common.{◌≡◌, ◌++◌, [], ◌∷◌, None, ap, ◌∙◌, rules}
use Rattle.page_bytes.specs.declared.kind.PageKind.TheVariants as pages
use Rattle.page_bytes.specs.Content.{Content}
use Rattle.empty_index.proofs.Standing.{one_item}
use Rattle.empty_index.proofs.pages.meta_page.Goals as goal

pub returns : goal.returns
returns c =
    one_item c.add_item.result c.fill_meta.new.into c.fresh-page.result c.fresh-page.ensures (search rules) c.add_item.ensures.refused c.add_item.ensures.added
    ∙ ap (λ (p : Content). record p { items = p.items ++ c.fill_meta.new.into ∷ [] }) c.fresh-page.ensures
    ∙ ap (λ x. record { kind = pages.Meta; next = None; number = 0; items = x ∷ [] }) c.fill_meta.ensures
