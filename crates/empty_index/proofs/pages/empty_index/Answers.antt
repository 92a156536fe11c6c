use Rattle.std.proofs.Common.{◌≡◌, ◌++◌, [], ◌∷◌, List, sym, ap, subst, ◌∙◌}
use Rattle.page_bytes.specs.Content.{Content}
use Rattle.graph_pages.specs.Standing.{Stands}
use Rattle.empty_index.specs.Empty.{empty_graph}
use Rattle.empty_index.proofs.Standing.{page_of, stand}
use Rattle.empty_index.proofs.pages.empty_index.Goals as goal

pub returns-clause-stand : goal.returns-clause-stand
returns-clause-stand c =
    let is : c.push.new.self.items ≡ page_of c.args.params ∷ [] =
    c.in_ok-push.ensures.items ∙ ap (λ (l : List Content). l ++ c.meta_page.result ∷ []) c.new-pages.ensures.items
    ∙ ap (λ (p : Content). p ∷ []) c.meta_page.ensures in
    subst (λ (l : List Content). Stands l (empty_graph c.args.params)) (sym is) (stand c.args.params c.requires.params c.requires.nodes)
