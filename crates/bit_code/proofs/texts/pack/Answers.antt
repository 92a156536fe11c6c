use Rattle.std.proofs.Common.{arith, rules, ap, List, ℕ, length, ◌/◌, refl}
use Rattle.bit_code.proofs.PackedTexts.{pack_start, pack_step, pack_rest, pushed_long}
use Rattle.bit_code.proofs.texts.pack.Goals as goal

pub loop-i-init : goal.loop-i-init
loop-i-init c = record { packed = pack_start c.in_ok-bytes.bytes.items c.args.text.now c.in_ok-bytes.ensures.items; long = ap (λ (l : List ℕ). length l) c.in_ok-bytes.ensures.items }

pub loop-i-preserved : goal.loop-i-preserved
loop-i-preserved c = record {
  packed =
      pack_step c.loop-i.i (length c.args.text.now / 8) c.packed_byte.result c.loop-i.bytes.items c.push.new.self.items c.args.text.now _
      c.as_chunks.ensures.front (omega arith) c.in_ok-push.ensures.items c.loop-i.invariant.packed c.packed_byte.ensures;
  long = pushed_long c.loop-i.bytes.items c.push.new.self.items c.packed_byte.result c.loop-i.i c.in_ok-push.ensures.items c.loop-i.invariant.long;
}

pub returns : goal.returns
returns c =
    pack_rest c.loop-i.i (length c.args.text.now / 8) c.last_byte.result c.loop-i.bytes.items c.push-2.new.self.items c.args.text.now c.as_chunks.result.1.now
    (omega arith) refl c.as_chunks.ensures.back (search rules) c.as_chunks.ensures.back_len c.loop-i.invariant.long c.in_ok-push-2.ensures.items c.loop-i.invariant.packed c.last_byte.ensures
