use Rattle.vec_history.proofs.gates.may_take.Goals as goal

pub returns-in-None : goal.returns-in-None
returns-in-None c = (
  λ t. record { not_held = c.in-None.ensures.not_held; beside = c.agrees_with_others.ensures.0 t },
  λ allowed. c.agrees_with_others.ensures.1 allowed.beside,
)
