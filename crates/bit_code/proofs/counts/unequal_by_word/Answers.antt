use Rattle.std.proofs.Common.{arith, sym, ap, ◌∙◌, ◌≡◌, ◌/◌, ◌*◌, length, ℕ, drop}
use Rattle.bit_code.specs.Places.{one_if_unequal}
use Rattle.bit_code.proofs.TalliedBytes.{tally_none, tally_chunk, tally_chunks, tally_bytes-le, unequal-most}
use Rattle.bit_code.proofs.counts.unequal_by_word.Goals as goal

pub loop-i-init : goal.loop-i-init
loop-i-init c = record { counted = sym (tally_none one_if_unequal); small = omega arith }

pub loop-i-preserved : goal.loop-i-preserved
loop-i-preserved c = record {
  counted =
      tally_chunk one_if_unequal 8 (length c.args.a.now / 8) (length c.args.b.now / 8) c.loop-i.i c.loop-i.total c.unequal_in_word-total.result c.args.a.now c.args.b.now _ _
      c.requires.same c.as_chunks.ensures.front c.as_chunks-2.ensures.front (omega arith) (omega arith) (omega arith) c.loop-i.invariant.counted c.unequal_in_word-total.ensures.count;
  small = omega arith;
}

pub overflow_add-result : goal.overflow_add-result
overflow_add-result c = omega (arith, tally_bytes-le one_if_unequal unequal-most c.as_chunks.result.1.now c.as_chunks-2.result.1.now)

pub returns : goal.returns
returns c =
    let same : length c.args.b.now / 8 * 8 ≡ length c.args.a.now / 8 * 8 = ap (λ (n : ℕ). n / 8 * 8) (sym c.requires.same) in
    tally_chunks one_if_unequal (length c.args.a.now / 8 * 8) (8 * c.loop-i.i) c.loop-i.total c.unequal_by_byte.result c.args.a.now c.args.b.now c.as_chunks.result.1.now c.as_chunks-2.result.1.now
    c.requires.same (omega arith) (omega arith) c.as_chunks.ensures.back (c.as_chunks-2.ensures.back ∙ ap (λ (n : ℕ). drop n c.args.b.now) same) c.loop-i.invariant.counted c.unequal_by_byte.ensures
