use Rattle.std.proofs.Common.{ap, sym, ◌∙◌}
use Rattle.std.specs.FinMap.{get, remove}
use Rattle.vec_names.proofs.Maps.{get_made, remove_made}
use Rattle.vec_names.proofs.mapped.Mapped.remove.Goals as goal

pub returns-clause-taken : goal.returns-clause-taken
returns-clause-taken g c = c.remove.ensures.value ∙ sym (get_made c.self.inside.at.entries c.args.place) ∙ ap (λ m. get m c.args.place) c.self.view_is

pub returns-clause-rest : goal.returns-clause-rest
returns-clause-rest g c = remove_made c.self.inside.at c.remove.new.self c.args.place c.remove.ensures.updates ∙ ap (λ m. remove m c.args.place) c.self.view_is
