use Rattle.std.proofs.Common.{refl, arith}
use Rattle.page_log.proofs.Fronts.{open_of, none_past_end, batch_of}
use Rattle.page_log.proofs.finding.batch_at.Goals as goal

pub returns-then-len-size-clause-found : goal.returns-then-len-size-clause-found
returns-then-len-size-clause-found c area is front =
    (open_of _ 5 _ front, none_past_end area c.args.at c.args.len front (omega (arith, c.if-len-size.true, is)) (omega (arith, c.requires.within, is)))

pub returns-clause-found : goal.returns-clause-found
returns-clause-found c area is front =
    batch_of area c.args.at c.args.len _ front (omega (arith, c.if-len-size.false, c.requires.within, is)) refl
