use Rattle.std.proofs.Common.{◌<◌, arith}
use Rattle.std.proofs.lemmas.List.Elements.{recursion_from_All}
use Rattle.page_log.proofs.BatchBytes.{rises_few}
use Rattle.page_log.proofs.bodies.count_offsets.Goals as goal

pub returns : goal.returns
returns c = omega (arith, rises_few 0 c.args.gone.now c.requires.rising (recursion_from_All (λ off. off < 65536) c.args.gone.now c.requires.typed) (omega arith))
