use Rattle.std.proofs.Common.{ap, ◌∙◌}
use Rattle.std.specs.FinMap.{insert}
use Rattle.vec_names.proofs.Maps.{insert_made}
use Rattle.vec_names.proofs.mapped.Mapped.insert.Goals as goal

pub returns-clause-ok : goal.returns-clause-ok
returns-clause-ok g c =
    insert_made c.self.inside.at c.insert.new.self c.args.place c.args.value c.in_ok-insert.ensures.updates ∙ ap (λ m. insert m c.args.place c.args.value) c.self.view_is
