use Rattle.std.proofs.Common.{sym, ◌∙◌}
use Rattle.page_bytes.proofs.Whole.{spelled}
use Rattle.page_bytes.proofs.page.Page.bytes.Goals as goal

pub returns-clause-only : goal.returns-clause-only
returns-clause-only c = λ p s. sym (spelled c.self.inside.bytes p s) ∙ c.self.view_is
