use Rattle.std.proofs.Common.{◌||◌, ℕ, Bool, Option, ap₂, ◌∙◌}
use Rattle.graph_search.specs.Search.{is_most}
use Rattle.search_sets.specs.declared.key.Key.{Key}
use Rattle.search_sets.specs.Naming.{is_past}
use Rattle.search_sets.proofs.HeldSo.{over_so}
use Rattle.search_sets.proofs.frontier.Frontier.is_over.Goals as goal

pub returns : goal.returns
returns c =
    let f = c.args.self.now in
    c.is_ended.ensures
    ∙ ap₂ (λ (a b : Option Key). is_past a b || is_most c.args.most c.len.result) c.first.ensures c.last.ensures
    ∙ ap₂ (λ (b : Bool) (n : ℕ). b || is_most c.args.most n) (over_so f c.requires) c.len.ensures
