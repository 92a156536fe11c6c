use Rattle.std.proofs.Common.{ap, sym, refl, subst, ◌∙◌, ◌≡◌}
use Rattle.std.specs.FinMap.{get, insert}
use Rattle.std.specs.Prelude.{OnSome}
use Rattle.vec_names.proofs.Maps.{made, get_made, lent_made}
use Rattle.vec_names.proofs.mapped.Mapped.get_mut.Goals as goal

pub returns : goal.returns
returns g c = (
  (
    refl,
    (λ w. subst (λ m. OnSome c.get_mut.result (made (c.get_mut.follows.lender w).entries ≡ insert m c.args.place w)) c.self.view_is
        (lent_made c.self.inside.at (c.get_mut.follows.lender w) c.args.place w c.get_mut.result c.get_mut.ensures.value (c.get_mut.follows.holds w).3)),
    ap (λ t. made t.entries) c.get_mut.follows.holds-at-none ∙ c.self.view_is,
  ),
  record { writes_back = tt; value = c.get_mut.ensures.value ∙ sym (get_made c.self.inside.at.entries c.args.place) ∙ ap (λ m. get m c.args.place) c.self.view_is },
)
