use Rattle.std.proofs.Common.{◌+◌, drop}
use Rattle.page_bytes.specs.Decoding.{content}
use Rattle.page_bytes.specs.Dropping.{Gathers, Meets}
use Rattle.page_bytes.proofs.drops.gather.Given as goal

abbrev pub invariant-loop-i : goal.invariant-loop-i
invariant-loop-i l =
    let items = (content l.fn.bytes).items in
    Gathers (content l.fn.bytes) l.gone l.bytes (l.i + 1) l.at l.top (drop l.i items) × Meets l.gone l.next (l.i + 1)
