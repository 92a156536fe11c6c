use Rattle.std.proofs.Common.{◌≡◌, true, false}
use Rattle.history_tables.proofs.holders.Holders.is_held.Goals as goal

pub returns-in-None : goal.returns-in-None
returns-in-None c = (λ t. let both : false ≡ true = t in absurd cc, λ is. absurd (c.in-None.ensures is.0 is.1))
