use Rattle.std.proofs.Common.{ap, sym, ◌∙◌}
use Rattle.std.specs.FinMap.{entries}
use Rattle.vec_names.proofs.Maps.{entries_made}
use Rattle.vec_names.proofs.mapped.Mapped.iter.Goals as goal

pub returns-clause-rest : goal.returns-clause-rest
returns-clause-rest g c = c.iter.ensures.rest ∙ sym (entries_made c.self.inside.at.entries c.iter.ensures.ordered) ∙ ap entries c.self.view_is
