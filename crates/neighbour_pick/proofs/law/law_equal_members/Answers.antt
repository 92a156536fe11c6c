use Rattle.std.proofs.Common.{◌≡◌, ℕ, refl, arith}
use Rattle.std.specs.declared.cmp.Ordering.TheVariants.{Equal}
use Rattle.std.specs.Ordering.{nat_cmp}
use Rattle.std.proofs.lemmas.Bool.Decides.{nat_tests}
use Rattle.bit_code.specs.Places.{tally}
use Rattle.neighbour_pick.proofs.law.law_equal_members.Goals as goal

self : (n : ℕ) → nat_cmp n n ≡ Equal
self n = grind (arith, nat_tests)

pub returns : goal.returns
unfolding tally
returns c = λ member entrant apart. rw (apart, self member.block, self member.off) refl
