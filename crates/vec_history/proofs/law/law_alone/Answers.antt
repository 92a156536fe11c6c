use Rattle.std.proofs.Common.{arith}
use Rattle.vec_history.proofs.Alone.{one_alone, not_before_alone}
use Rattle.vec_history.proofs.ByActs.{allowed_at}
use Rattle.vec_history.proofs.law.law_alone.Goals as goal

pub returns-clause-only : goal.returns-clause-only
returns-clause-only g c =
    one_alone c.args.acts.now (λ n desk gate hold is. g.R.Rules.allows_gates c.args.base.now _ desk gate hold (allowed_at _ c.args.acts.now n _ c.requires is))

pub returns-clause-not_before : goal.returns-clause-not_before
returns-clause-not_before g c = λ gate hold desk other j k taken holds less.
    let no_earlier = not_before_alone c.args.acts.now (λ n desk gate hold is. g.R.Rules.allows_gates c.args.base.now _ desk gate hold (allowed_at _ c.args.acts.now n _ c.requires is))
    gate hold desk other j k taken holds in
    absurd (omega arith)
