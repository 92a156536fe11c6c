use Rattle.std.proofs.Common.{◌≡◌, ◌≤◌, length, refl, sym, subst, arith}
use Rattle.bit_code.specs.Places.{Packed}
use Rattle.vec_steps.proofs.Filling.{packed_of}
use Rattle.vec_steps.proofs.still_desk.tell_found.Goals as goal

pub returns-then-count-clause-err : goal.returns-then-count-clause-err
returns-then-count-clause-err c = (
  refl,
  record {
    node = c.args.node.now;
    stands = refl;
    odd = λ long few. omega (arith, c.if-count.true, c.count.ensures.count, c.count-2.ensures.count, long);
  },
)

pub returns-then-len-gt-MOST_IDS-clause-err : goal.returns-then-len-gt-MOST_IDS-clause-err
returns-then-len-gt-MOST_IDS-clause-err c = (
  refl,
  record {
    node = c.args.node.now;
    stands = refl;
    odd = λ long few. omega (arith, c.if-len-gt-MOST_IDS.true, c.len.ensures, few);
  },
)

pub refill-requires : goal.refill-requires
refill-requires c =
    let same : length c.args.node.now.bits ≡ length c.args.told.now.bits =
    omega (arith, c.count.ensures.count, c.count-2.ensures.count, c.if-count.false) in
    let some : 1 ≤ length c.args.node.now.bits = omega (arith, c.count.ensures.count, c.count.ensures.some) in
    let few : length c.args.node.now.bits ≤ 64000 = omega (arith, c.count.ensures.count, c.count.ensures.few) in
    subst (Packed (length c.args.told.now.bits)) (sym c.bytes.ensures)
    (packed_of (length c.args.told.now.bits) c.args.node.now.bits same some few)
