use Rattle.std.proofs.Common.{ap, sym, ◌∙◌}
use Rattle.std.specs.FinMap.{get}
use Rattle.vec_names.proofs.Maps.{get_made}
use Rattle.vec_names.proofs.mapped.Mapped.get.Goals as goal

pub returns : goal.returns
returns g c = c.get.ensures.value ∙ sym (get_made c.self.inside.at.entries c.args.place) ∙ ap (λ m. get m c.args.place) c.self.view_is
