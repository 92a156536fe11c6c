use Rattle.std.proofs.Common.{arith}
use Rattle.page_file.proofs.Blocks.{none_past_end, read_twice}
use Rattle.page_file.proofs.reading.read_one.Goals as goal

pub returns-then-len-at-clause-page : goal.returns-then-len-at-clause-page
returns-then-len-at-clause-page g c told = (omega (arith, c.from.ensures), λ page. none_past_end _ c.args.block page (omega (arith, c.if-len-at.true, c.in-Ok.ensures.len told, c.from.ensures)))

pub returns-in-Err-read_page-clause-moments : goal.returns-in-Err-read_page-clause-moments
returns-in-Err-read_page-clause-moments g c =
    read_twice _ _ _ (g.met.D.Disks.only_now c.args.disks.now) c.len.ensures.kept c.len.ensures.time c.read.ensures.kept c.read.ensures.time
