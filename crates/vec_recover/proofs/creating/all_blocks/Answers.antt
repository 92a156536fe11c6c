use Rattle.std.proofs.Common.{◌≡◌, ℕ, sym, subst, arith}
use Rattle.vec_recover.specs.Creating.{AreAllBlocks}
use Rattle.vec_recover.proofs.Created.{blocks_more, blocks_none}
use Rattle.vec_recover.proofs.creating.all_blocks.Goals as goal

pub loop-block-init : goal.loop-block-init
loop-block-init c = subst (AreAllBlocks 0) (sym c.in_ok-list.ensures.items) blocks_none

pub loop-block-preserved : goal.loop-block-preserved
loop-block-preserved c = blocks_more c.loop-block.block c.loop-block.list.items c.push.new.self.items c.in_ok-push.ensures.items c.loop-block.invariant

pub returns : goal.returns
returns c =
    let same : c.loop-block.block ≡ c.args.blocks = omega (arith, c.loop-block.auto.block-end, c.loop-block-test.false) in
    subst (λ (n : ℕ). AreAllBlocks n c.loop-block.list.items) same c.loop-block.invariant
