use Rattle.page_bytes.proofs.Dropped.{copied_in_place}
use Rattle.page_bytes.proofs.drops.move_up.Goals as goal

pub returns-else-from-to : goal.returns-else-from-to
returns-else-from-to c =
    copied_in_place c.args.bytes.now c.args.from c.args.count c.args.to c.if-from-to.false
