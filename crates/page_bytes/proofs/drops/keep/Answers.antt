use Rattle.std.proofs.Common.{◌/◌, ◌^◌, arith}
use Rattle.page_bytes.proofs.Placing.{rounds}
use Rattle.page_bytes.proofs.drops.keep.Goals as goal

pub round_up_8-room-requires : goal.round_up_8-room-requires
round_up_8-room-requires c = omega (arith, (rounds (c.args.pointer / 2 ^ 17)).above)

pub put_pointer-requires-clause-len : goal.put_pointer-requires-clause-len
put_pointer-requires-clause-len c = omega (arith, (rounds (c.args.pointer / 2 ^ 17)).above)
