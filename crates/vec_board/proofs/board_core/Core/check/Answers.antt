use Rattle.std.proofs.Common.{arith}
use Rattle.vec_board.proofs.Made.{few_blocks}
use Rattle.vec_board.proofs.board_core.Core.check.Goals as goal

pub returns-clause-taken : goal.returns-clause-taken
returns-clause-taken c = λ lasting.
    let written = c.is_writable.ensures.0 c.if-not-is_writable.false in
    let size = c.event_size-size.ensures in
    let used = c.used-used.ensures.used in
    let low = c.used-used.ensures.few in
    let more = c.saturating_add.ensures in
    let room = c.if-saturating_add-used.false in
    let after = c.blocks_after.ensures.told in
    let one = c.from.ensures in
    let two = c.from-2.ensures in
    let blocks = c.if-blocks_after-from.false in
    record {
      written = written;
      room = omega (arith, size, used, low, more, room);
      blocks = omega (arith, after, one, two, blocks);
      few = few_blocks c.args.event.now c.args.self.now.summary.blocks written c.blocks_after.ensures.few;
    }
