use Rattle.std.proofs.Common.{rules, arith}
use Rattle.vec_names.specs.Pointer.{block_in, off_in}
use Rattle.vec_names.proofs.Pointers.{again_from}
use Rattle.vec_names.proofs.pointer.parts_of.Goals as goal

pub returns-clause-back : goal.returns-clause-back
unfolding block_in off_in
returns-clause-back c = again_from c.args.bytes.now _ _ c.requires (λ i. omega (arith, c.type_inv.bytes i)) (search rules) (search rules)
