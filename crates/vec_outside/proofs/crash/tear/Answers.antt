use Rattle.std.proofs.Common.{◌≤◌, List, ℕ, arith, sym, subst, length}
use Rattle.std.proofs.lemmas.Result.{on_ok_weaker}
use Rattle.vec_outside.specs.Disk.{IsTorn}
use Rattle.vec_outside.proofs.Crashes.{torn_within}
use Rattle.vec_outside.proofs.InMemory.{spliced_torn}
use Rattle.vec_outside.proofs.crash.tear.Goals as goal

pub returns-in_ok-torn-in_default : goal.returns-in_ok-torn-in_default
returns-in_ok-torn-in_default c =
    let at = c.args.at in
    let old = c.args.bytes.now.items in
    let torn = c.deref-in_default.result.now in
    let few : length torn ≤ length c.args.piece.now = omega (arith, c.in_ok-torn-in_default.ensures, c.deref-in_default.ensures.len) in
    let within : at ≤ length old = omega arith in
    on_ok_weaker c.overwrite-in_default.result
    (λ is. subst (λ (l : List ℕ). IsTorn at (length c.args.piece.now) old l) (sym is) (torn_within at (length torn) (length c.args.piece.now) old _ few (spliced_torn at old torn within)))
    c.overwrite-in_default.ensures.ok
