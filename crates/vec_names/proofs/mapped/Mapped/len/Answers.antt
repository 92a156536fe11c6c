use Rattle.std.proofs.Common.{ap, sym, ◌∙◌}
use Rattle.std.specs.FinMap.{len}
use Rattle.vec_names.proofs.Maps.{len_made}
use Rattle.vec_names.proofs.mapped.Mapped.len.Goals as goal

pub returns : goal.returns
returns g c = c.len.ensures.len ∙ sym (len_made c.self.inside.at.entries c.len.ensures.ordered) ∙ ap len c.self.view_is
